-- What is promised of a backup's cell, fresh.
-- Assumes nothing.
use Rattle.std.specs.Prelude.{ℕ, ◌≡◌, true}
use Rattle.backup_cell.specs.Cell.{fresh_cell, possible}

-- The fresh one is possible.
abbrev pub FreshPossible : Type 0
FreshPossible = (M own : ℕ) → possible M own fresh_cell ≡ true
