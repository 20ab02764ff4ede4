-- What is promised of a learner's cell, fresh.
-- Assumes nothing.
use Rattle.std.specs.Prelude.{ℕ, ◌≡◌, true, false}
use Rattle.learner_cell.specs.Cell.{fresh_cell, is_decided, possible}

-- The fresh one is possible,
abbrev pub FreshPossible : Type 0
FreshPossible = (M : ℕ) → possible M fresh_cell ≡ true

-- and it is undecided.
abbrev pub FreshUndecided : Type 0
FreshUndecided = (M : ℕ) → is_decided M fresh_cell ≡ false
