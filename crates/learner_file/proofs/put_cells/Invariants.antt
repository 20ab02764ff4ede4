-- `learner_file::put_cells` meets its contract. The invariant: with the cells that are left, the buffer comes to what it comes to with all.
-- Assumes nothing.
use Prim.Native.Nat.{◌≤◌, ◌-◌}
use mathlib.Core.Path.{◌≡◌}
use lib.ListN.{length}
use Rattle.columns.proofs.Walks.{cells_left}
use Rattle.learner_tables.specs.Tables.{cell_at, first_cells}
use Rattle.learner_tables.specs.Lent.{tables_shared}
use Rattle.learner_file.specs.File.{with_cell_bytes, stored_from}
use Rattle.learner_file.proofs.put_cells.Given as goal

abbrev pub invariant-loop-index : goal.invariant-loop-index
invariant-loop-index l =
    let t = tables_shared l.tables in
    (l.index ≤ l.count) × ((length l.buffer ≡ length l.initial.buffer)
    × (stored_from with_cell_bytes l.initial.buffer 0 (first_cells l.count t) ≡ stored_from with_cell_bytes l.buffer l.index (cells_left (cell_at t) l.index l.count)))

abbrev pub decreases-loop-index : goal.decreases-loop-index
decreases-loop-index l = l.count - l.index
