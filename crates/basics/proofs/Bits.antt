-- The low two bits of a number are its remainder by 4, by the library's law on masks; so a round's owner can be read off them.
-- Assumes nothing.
use Rattle.std.proofs.Common.{◌≡◌, ℕ, ◌%◌, ◌∙◌, ne_eqb}
use lib.Bits.{bit_and, and_mask}
use Rattle.basics.specs.Rounds.{owner_of}
use Rattle.basics.specs.Promises.{OwnerByBits}
use Rattle.basics.proofs.Ladder.{if-false}

pub low_bits : (n : ℕ) → bit_and n 3 ≡ n % 4
low_bits n = and_mask n 2

pub owner-by-bits : OwnerByBits
unfolding owner_of
owner-by-bits r not-0 some = if-false _ _ (ne_eqb r.0 0 not-0) ∙ if-false _ _ (ne_eqb r.0 4294967295 some) ∙ rw (low_bits r.0)
