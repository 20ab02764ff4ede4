-- `SharedTables::all_possible` meets its contract. The invariant: the judgment of the cells that are left is that of all.
-- Assumes nothing.
use Prim.Native.Nat.{◌≤◌, ◌-◌}
use mathlib.Core.Path.{◌≡◌}
use Rattle.learner_tables.specs.Tables.{cell_at, first_cells, all_possible}
use Rattle.learner_tables.specs.Lent.{tables_shared}
use Rattle.columns.proofs.Walks.{cells_left}
use Rattle.learner_tables.proofs.SharedTables.all_possible.Given as goal

abbrev pub invariant-loop-index : goal.invariant-loop-index
invariant-loop-index l =
    let t = tables_shared l.self in
    (l.index ≤ l.count) × (all_possible l.acceptors (first_cells l.count t) ≡ all_possible l.acceptors (cells_left (cell_at t) l.index l.count))

abbrev pub decreases-loop-index : goal.decreases-loop-index
decreases-loop-index l = l.count - l.index
