-- `learner_file::saved_possible` meets its contract. The invariant: the judgment of the saved cells that are left is that of all.
-- Assumes nothing.
use Prim.Native.Nat.{◌≤◌, ◌-◌}
use mathlib.Core.Path.{◌≡◌}
use Rattle.columns.proofs.Walks.{cells_left}
use Rattle.learner_tables.specs.Tables.{all_possible}
use Rattle.learner_file.specs.File.{saved_cell, saved_from}
use Rattle.learner_file.proofs.saved_possible.Given as goal

abbrev pub invariant-loop-index : goal.invariant-loop-index
invariant-loop-index l =
    (l.index ≤ l.count) × (all_possible l.acceptors (saved_from l.saved 0 l.count) ≡ all_possible l.acceptors (cells_left (saved_cell l.saved) l.index l.count))

abbrev pub decreases-loop-index : goal.decreases-loop-index
decreases-loop-index l = l.count - l.index
