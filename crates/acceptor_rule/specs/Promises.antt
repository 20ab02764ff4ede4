-- What is promised of an acceptor's cell, fresh.
-- Assumes nothing.
use Rattle.std.specs.Prelude.{◌≡◌, true}
use Rattle.acceptor_rule.specs.Rule.{fresh_cell, possible}

-- The fresh one is possible.
abbrev pub FreshPossible : Type 0
FreshPossible = possible fresh_cell ≡ true
