-- The one's complement sum of 16-bit words, and its complement, as RFC 1071 has them. Words are big-endian.
-- Assumes nothing.
use Rattle.std.specs.Prelude.{ℕ, ◌+◌, ◌-◌, ◌*◌, ◌/◌, ◌%◌, List, [], ◌∷◌}

-- What a sum carries out of its 16 bits is brought round: it is added to them.
abbrev pub carry_round : (sum : ℕ) → ℕ
carry_round sum = sum % 65536 + sum / 65536

-- The words of bytes, each summed onto what is carried in. An odd last byte is a word's high byte.
unfoldable pub sum_onto : (carried : ℕ) → List ℕ → ℕ
sum_onto carried [] = carried
sum_onto carried (high ∷ []) = carry_round (carried + high * 256)
sum_onto carried (high ∷ low ∷ rest) = sum_onto (carry_round (carried + (high * 256 + low))) rest

-- The one's complement sum of bytes.
abbrev pub ones_sum : List ℕ → ℕ
ones_sum bytes = sum_onto 0 bytes

-- Each of a word's 16 bits the other way.
abbrev pub complement : (word : ℕ) → ℕ
complement word = 65535 - word
