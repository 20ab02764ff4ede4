-- What is promised of a learner's tables, fresh, and of the call that sets them so.
-- Assumes nothing.
use Rattle.std.specs.Prelude.{ℕ, ◌<◌, ◌≡◌}
use Rattle.columns.specs.Fresh.{SetsFresh}
use Rattle.quorum.specs.declared.Settings.{Settings}
use Rattle.learner_cell.specs.Cell.{fresh_cell}
use Rattle.learner_tables.specs.Tables.{fresh_tables, cell_at, learner_allowed, learner_fresh}

-- Each of their N cells is the fresh one.
abbrev pub FreshCells : Type 0
FreshCells = (N index : ℕ) → index < N → cell_at (fresh_tables N) index ≡ fresh_cell

-- The call answers 7 or done alone: 7 keeps the tables, and done leaves fresh ones, with which a run begins.
abbrev pub FreshPromises : Settings → Type 0
FreshPromises s = SetsFresh (learner_fresh s) (learner_allowed s) (fresh_tables s.instances)
