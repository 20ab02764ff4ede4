-- What is promised of a primary's record, fresh.
-- Assumes nothing.
use Rattle.std.specs.Prelude.{ℕ, ◌≡◌, true}
use Rattle.primary_rule.specs.Rule.{fresh_cell, possible}

-- The fresh one is possible.
abbrev pub FreshPossible : Type 0
FreshPossible = (N : ℕ) → possible N fresh_cell ≡ true
