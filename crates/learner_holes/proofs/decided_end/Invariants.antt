-- `learner_holes::decided_end` meets its contract. The invariant: the end that the walk comes to from here is the end of all.
-- Assumes nothing.
use Prim.Native.Nat.{◌≤◌, ◌-◌}
use mathlib.Core.Path.{◌≡◌}
use Rattle.learner_tables.specs.Tables.{cell_at, cells}
use Rattle.learner_tables.specs.Lent.{tables_shared}
use Rattle.columns.proofs.Walks.{cells_left}
use Rattle.learner_holes.specs.Holes.{decided_end, decided_end_from}
use Rattle.learner_holes.proofs.decided_end.Given as goal

abbrev pub invariant-loop-number : goal.invariant-loop-number
invariant-loop-number l =
    let t = tables_shared l.tables in
    let s = l.settings in
    (l.number ≤ s.instances)
    × (decided_end s.acceptors (cells s t) ≡ decided_end_from s.acceptors l.number l.end (cells_left (cell_at t) l.number s.instances))

abbrev pub decreases-loop-number : goal.decreases-loop-number
decreases-loop-number l = l.settings.instances - l.number
