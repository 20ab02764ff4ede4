-- Tables lent as slices of numbers: one number for each cell, and for a value two, its high half first.
-- Assumes nothing.
use Rattle.std.specs.Prelude.{ℕ, ◌+◌, ◌*◌, ◌<◌, List, get_or, set}
use Rattle.basics.specs.declared.Round.{Round}
use Rattle.basics.specs.declared.Value.{Value}
use Rattle.basics.specs.Rounds.{the_round}
use Rattle.basics.specs.Values.{the_value}

abbrev pub round_at : List ℕ → (index : ℕ) → Round
round_at rounds index = the_round (get_or rounds index 0)

abbrev pub with_round : List ℕ → (index : ℕ) → Round → List ℕ
with_round rounds index round = set rounds index round.0

-- A set of acceptors, or a phase.
abbrev pub byte_at : List ℕ → (index : ℕ) → ℕ
byte_at bytes index = get_or bytes index 0

abbrev pub with_byte : List ℕ → (index byte : ℕ) → List ℕ
with_byte bytes index byte = set bytes index byte

abbrev pub value_at : List ℕ → (index : ℕ) → Value
value_at values index = the_value (get_or values (2 * index) 0) (get_or values (2 * index + 1) 0)

abbrev pub with_value : List ℕ → (index : ℕ) → Value → List ℕ
with_value values index value = set (set values (2 * index) value.high) (2 * index + 1) value.low

-- Every number of a slice is below the bound that its width sets.
abbrev pub Below : (bound : ℕ) → List ℕ → Type 0
Below bound numbers = (index : ℕ) → get_or numbers index 0 < bound
