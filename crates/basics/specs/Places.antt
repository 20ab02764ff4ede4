-- Where a cell stands in tables of N cells. A cell is chosen by an instance alone.
-- Assumes nothing.
use Rattle.std.specs.Prelude.{ℕ, Result, Ok, Err, nat_lt}
use Rattle.basics.specs.declared.Instance.{Instance}
use Rattle.basics.specs.declared.Refusal.{Refusal}
use Rattle.basics.specs.Ladder.{need◌or◌then◌}
use Rattle.basics.specs.Refusal.{refusal_number}

-- A message's cell stands at an index, or the message is refused.
pub data Place : Type 0 where
  At : (index : ℕ) → Place
  Nowhere : (number : ℕ) → Place

-- Where an instance's cell stands in tables of N cells. Refused by 8 if the instance is not below N.
unfoldable pub placed : (N : ℕ) → Instance → Place
placed N instance = need nat_lt instance.0 N or Nowhere 8 then At instance.0

-- The refusal of a message that has no place; 0 where it has one.
abbrev pub nowhere_of : Place → ℕ
nowhere_of (At index) = 0
nowhere_of (Nowhere number) = number

-- What each answer of the code comes to.
abbrev pub place_of : Result ℕ Refusal → Place
place_of (Ok index) = At index
place_of (Err refusal) = Nowhere (refusal_number refusal)
