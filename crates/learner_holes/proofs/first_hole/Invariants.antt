-- `learner_holes::first_hole` meets its contract. The invariant: the first hole from here on is the first hole of all.
-- Assumes nothing.
use Prim.Native.Nat.{◌≤◌, ◌-◌}
use mathlib.Core.Path.{◌≡◌}
use Rattle.learner_tables.specs.Tables.{cell_at, cells}
use Rattle.learner_tables.specs.Lent.{tables_shared}
use Rattle.columns.proofs.Walks.{cells_left}
use Rattle.learner_holes.specs.Holes.{first_hole, first_hole_from}
use Rattle.learner_holes.proofs.first_hole.Given as goal

abbrev pub invariant-loop-number : goal.invariant-loop-number
invariant-loop-number l =
    let t = tables_shared l.tables in
    let s = l.settings in
    (l.number ≤ s.instances)
    × (first_hole s.acceptors (cells s t) ≡ first_hole_from s.acceptors l.end l.number (cells_left (cell_at t) l.number s.instances))

abbrev pub decreases-loop-number : goal.decreases-loop-number
decreases-loop-number l = l.settings.instances - l.number
