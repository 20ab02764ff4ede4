-- What is promised of one's complement sums: they are plain sums but for multiples of 65,535, they are summed part by part, and one byte moves them by its own
-- change.
-- Assumes nothing.
use Rattle.std.specs.Prelude.{ℕ, zero, suc, ◌+◌, ◌*◌, ◌%◌, ◌<◌, ◌≡◌, List, [], ◌∷◌, ◌++◌, eqb, length, get_or, set}
use Rattle.numbers.specs.BigEndian.{Bytes}
use Rattle.basics.specs.Ladder.{when◌then◌else◌}
use Rattle.checksum.specs.Sum.{sum_onto}

-- The plain sum of the words of bytes.
unfoldable pub plain_sum : List ℕ → ℕ
plain_sum [] = 0
plain_sum (high ∷ []) = high * 256
plain_sum (high ∷ low ∷ rest) = high * 256 + low + plain_sum rest

-- A number's residue by 65,535, where 0 stands for 0 alone and 65,535 for every other multiple.
unfoldable pub residue : ℕ → ℕ
residue zero = 0
residue (suc n) = n % 65535 + 1

-- The one's complement sum is the plain sum's residue.
abbrev pub SumIsResidue : Type 0
SumIsResidue = (carried : ℕ) (bytes : List ℕ) → carried < 65536 → Bytes bytes → sum_onto carried bytes ≡ residue (carried + plain_sum bytes)

-- Sums of parts add, where the first has an even length.
abbrev pub PartsAdd : Type 0
PartsAdd = (carried : ℕ) (front back : List ℕ) → length front % 2 ≡ 0 → sum_onto carried (front ++ back) ≡ sum_onto (sum_onto carried front) back

-- What a byte weighs in the plain sum: the high byte of a word 256, the low byte 1.
unfoldable pub weight : (index : ℕ) → ℕ
weight index = when eqb (index % 2) 0 then 256 else 1

-- One byte changed moves the plain sum by its weight times the change.
abbrev pub ByteMoves : Type 0
ByteMoves = (bytes : List ℕ) (index new : ℕ) → index < length bytes
    → plain_sum (set bytes index new) + weight index * get_or bytes index 0 ≡ plain_sum bytes + weight index * new
