-- What is promised to whoever works out a round's owner from bits.
-- Assumes nothing.
use Rattle.std.specs.Prelude.{◌≡◌, ◌≢◌, bit_and, nat_eq}
use Rattle.basics.specs.declared.Round.{Round}
use Rattle.basics.specs.Ladder.{when◌then◌else◌}
use Rattle.basics.specs.Rounds.{none, nobody, owner_of}

-- The owner of a round that is neither 0 nor none is its low two bits, and nobody where they are 0.
abbrev pub OwnerByBits : Type 0
OwnerByBits = (r : Round) → (r.0 ≢ 0) → (r.0 ≢ none.0) → owner_of r ≡ (when nat_eq (bit_and r.0 3) 0 then nobody else bit_and r.0 3)
