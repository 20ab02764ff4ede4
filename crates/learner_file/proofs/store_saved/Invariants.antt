-- `learner_file::store_saved` meets its contract. The invariant: with the saved cells that are left, the tables come to what they come to with all.
-- Assumes nothing.
use Prim.Native.Nat.{◌≤◌, ◌-◌}
use mathlib.Core.Path.{◌≡◌}
use Rattle.columns.proofs.Walks.{cells_left}
use Rattle.learner_tables.specs.Tables.{with_cell}
use Rattle.learner_tables.specs.Lent.{tables_behind, SameReferences}
use Rattle.learner_file.specs.File.{saved_cell, saved_from, stored_from}
use Rattle.learner_file.proofs.store_saved.Given as goal

abbrev pub invariant-loop-index : goal.invariant-loop-index
invariant-loop-index l =
    let before = tables_behind l.initial.tables in
    let held = tables_behind l.tables in
    (l.index ≤ l.count) × (SameReferences l.initial.tables l.tables
    × (stored_from with_cell before 0 (saved_from l.saved 0 l.count) ≡ stored_from with_cell held l.index (cells_left (saved_cell l.saved) l.index l.count)))

abbrev pub decreases-loop-index : goal.decreases-loop-index
decreases-loop-index l = l.count - l.index
