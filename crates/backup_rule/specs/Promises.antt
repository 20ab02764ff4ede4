-- What is promised of the round that a start takes.
-- Assumes nothing.
use Rattle.std.specs.Prelude.{ℕ, ◌+◌, ◌≤◌, ◌<◌, ◌^◌, max, ◌≡◌}
use Rattle.std.specs.Int.Bits.{bit_and}
use Rattle.basics.specs.declared.Round.{Round}
use Rattle.basics.specs.Rounds.{the_round, none, owner_of}
use Rattle.backup_rule.specs.Rule.{next_round}

-- "The smallest round that this backup owns above both the cell's round and the floor."
pub record SmallestOwned (own held floor : ℕ) (r : Round) : Type 0 where
  pub owned : owner_of r ≡ own
  pub above_held : held < r.0
  pub above_floor : floor < r.0
  pub least : (other : Round) → owner_of other ≡ own → held < other.0 → floor < other.0 → r.0 ≤ other.0

-- The next round, where it is a round, is that one.
abbrev pub NextSmallest : Type 0
NextSmallest = (own held floor : ℕ) → 1 ≤ own → own ≤ 3 → next_round own (max held floor) < none.0 → SmallestOwned own held floor (the_round (next_round own (max held floor)))

-- Where it is none, this backup owns no round above both: 16 is given only then.
abbrev pub NoneLeft : Type 0
NoneLeft = (own held floor : ℕ) → 1 ≤ own → own ≤ 3 → none.0 ≤ next_round own (max held floor) → (r : Round) → r.0 < 2 ^ 32 → owner_of r ≡ own
    → held < r.0 → floor < r.0 → ⊥

-- A number plus the one of 1 to 4 whose sum has the own low two bits.
pub record ByBits (own above next : ℕ) : Type 0 where
  pub step : ℕ
  pub from_1 : 1 ≤ step
  pub to_4 : step ≤ 4
  pub sum : next ≡ above + step
  pub own_bits : bit_and (above + step) 3 ≡ bit_and own 3
  pub no_other : (other : ℕ) → 1 ≤ other → other ≤ 4 → bit_and (above + other) 3 ≡ bit_and own 3 → other ≡ step

-- The next round above a number is that, for every own number and every number.
abbrev pub NextByBits : Type 0
NextByBits = (own above : ℕ) → ByBits own above (next_round own above)
