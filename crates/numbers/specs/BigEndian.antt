-- Numbers as bytes, most significant first. The width is a number of bytes, and every definition is over any width.
-- Assumes nothing.
use Rattle.std.specs.Prelude.{ℕ, zero, suc, ◌+◌, ◌*◌, ◌/◌, ◌%◌, ◌^◌, ◌<◌, cond, List, [], ◌∷◌, leb, length, get_or}
use Rattle.std.proofs.lemmas.List.Edits.{sets}

-- the number that bytes stand for
abbrev pub big_endian : List ℕ → ℕ
big_endian [] = 0
big_endian (b ∷ bs) = b * 256 ^ length bs + big_endian bs

-- the bytes that stand for a number
abbrev pub to_bytes : (width number : ℕ) → List ℕ
to_bytes zero n = []
to_bytes (suc w) n = n / 256 ^ w % 256 ∷ to_bytes w n

-- the bytes from a place on
abbrev pub bytes_at : List ℕ → (at width : ℕ) → List ℕ
bytes_at p at zero = []
bytes_at p at (suc w) = get_or p at 0 ∷ bytes_at p (at + 1) w

-- the number that stands at a place; 0 where it does not lie within the bytes
unfoldable pub number_at : List ℕ → (at width : ℕ) → ℕ
number_at p at w = cond (leb (at + w) (length p)) (big_endian (bytes_at p at w)) 0

-- the bytes with a number stored at a place; as they were where it does not lie within them
unfoldable pub with_number_at : List ℕ → (at width number : ℕ) → List ℕ
with_number_at p at w n = cond (leb (at + w) (length p)) (sets p at (to_bytes w n)) p

-- every element of a list is a byte
abbrev pub Bytes : List ℕ → Type 0
Bytes p = (i : ℕ) → get_or p i 0 < 256
