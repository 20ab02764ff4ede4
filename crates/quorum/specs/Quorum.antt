-- Majority, and sets of acceptors as numbers, bit i for acceptor i.
-- Assumes nothing.
use Rattle.std.specs.Prelude.{◌≡◌, Bool, true, ◌||◌, cond, ℕ, ◌+◌, ◌/◌, ◌%◌, ◌^◌, eqb, leb, ltb}
use Rattle.std.specs.Int.Count.{ones}

-- Majority: half of M rounded down, plus 1.
unfoldable pub majority : (acceptors : ℕ) → ℕ
majority acceptors = acceptors / 2 + 1

-- Bit i for acceptor i: 1 where it is in the set, else 0.
unfoldable pub bit : (member set : ℕ) → ℕ
bit member set = set / 2 ^ member % 2

-- The acceptor is in the set.
abbrev pub Member : (member set : ℕ) → Type 0
Member member set = bit member set ≡ 1

-- The same as a test.
unfoldable pub has_member : (set member : ℕ) → Bool
has_member set member = eqb (bit member set) 1

-- The set with that acceptor: one that has no bit in a u8, or that is in the set already, changes nothing.
unfoldable pub with_member : (set member : ℕ) → ℕ
with_member set member = cond (leb 8 member || has_member set member) set (set + 2 ^ member)

-- The acceptors are numbered 0 to M-1: no bit at or above M.
unfoldable pub within : (acceptors set : ℕ) → Bool
within acceptors set = ltb set (2 ^ acceptors)

-- How many acceptors are in the set: its count of ones.
abbrev pub size : (set : ℕ) → ℕ
size set = ones set

-- The set has at least so many bits set.
unfoldable pub reaches : (threshold set : ℕ) → Bool
reaches threshold set = leb threshold (size set)

-- The set has at least majority bits set.
abbrev pub reaches_majority : (acceptors set : ℕ) → Bool
reaches_majority acceptors set = reaches (majority acceptors) set

-- A set of acceptors below M with at least so many in it.
pub record AtLeast (threshold acceptors set : ℕ) : Type 0 where
  pub inside : within acceptors set ≡ true
  pub enough : reaches threshold set ≡ true

-- A set of acceptors below M with at least majority in it.
abbrev pub Quorum : (acceptors set : ℕ) → Type 0
Quorum acceptors set = AtLeast (majority acceptors) acceptors set

-- An acceptor that is in both sets.
pub record Shared (first second : ℕ) : Type 0 where
  pub member : ℕ
  pub in_first : Member member first
  pub in_second : Member member second
