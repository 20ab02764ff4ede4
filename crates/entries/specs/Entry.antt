-- An entry of the ride ledger: "A value is: kind (1 sale, 2 boarding), rides, pass (4 bytes), day (2), scan (4), four zero bytes, big-endian."
-- Assumes nothing.
use Rattle.std.specs.Prelude.{ℕ, Option, Some, None, Bool, ◌&&◌, List, [], ◌∷◌, ◌++◌, eqb, leb, length, get_or}
use Rattle.numbers.specs.BigEndian.{number_at, to_bytes}
use Rattle.basics.specs.Ladder.{when◌then◌else◌, need◌or◌then◌}
use Rattle.entries.specs.declared.Fields.{Fields}
use Rattle.entries.specs.declared.Entry as code
use Rattle.entries.specs.declared.Entry.TheVariants as well_formed

-- What the bytes of a value say.
pub data Entry : Type 0 where
  Null : Entry
  Malformed : Entry
  Sale : (pass rides last_day : ℕ) → Entry
  Boarding : (pass day scan : ℕ) → Entry

-- 1 + 1 + 4 + 2 + 4 + 4
abbrev pub entry_length : ℕ
entry_length = 16

-- "1 to 40 rides"
abbrev pub most_rides : ℕ
most_rides = 40

abbrev pub fields : (kind rides pass day scan rest : ℕ) → Fields
fields kind rides pass day scan rest = record { kind = kind; rides = rides; pass = pass; day = day; scan = scan; rest = rest }

-- Kind in byte 0, rides in 1, pass in 2 to 5, day in 6 and 7, scan in 8 to 11, and the rest in 12 to 15.
unfoldable pub fields_in : (value : List ℕ) → Fields
fields_in value = fields (get_or value 0 0) (get_or value 1 0) (number_at value 2 4) (number_at value 6 2) (number_at value 8 4) (number_at value 12 4)

-- The null value: all its bytes are zero.
unfoldable pub is_null : Fields → Bool
is_null f = eqb f.kind 0 && eqb f.rides 0 && eqb f.pass 0 && eqb f.day 0 && eqb f.scan 0 && eqb f.rest 0

-- "A sale opens a pass with 1 to 40 rides and a last valid day; its scan is 0."
unfoldable pub is_sale : Fields → Bool
is_sale f = eqb f.kind 1 && leb 1 f.rides && leb f.rides most_rides && eqb f.scan 0 && eqb f.rest 0

-- "A boarding has rides 0".
unfoldable pub is_boarding : Fields → Bool
is_boarding f = eqb f.kind 2 && eqb f.rides 0 && eqb f.rest 0

-- The entry that fields are.
unfoldable pub entry_of : Fields → Entry
entry_of f =
    when is_null f then Null else
    when is_sale f then Sale f.pass f.rides f.day else
    when is_boarding f then Boarding f.pass f.day f.scan else
    Malformed

-- The entry that bytes are; malformed where they are not 16.
unfoldable pub entry_in : (value : List ℕ) → Entry
entry_in value = need eqb (length value) entry_length or Malformed then entry_of (fields_in value)

-- What each answer of the code comes to.
abbrev pub entry_read : Option code.Entry → Entry
entry_read (Some well_formed.Null) = Null
entry_read (Some (well_formed.Sale pass rides last_day)) = Sale pass rides last_day
entry_read (Some (well_formed.Boarding pass day scan)) = Boarding pass day scan
entry_read None = Malformed

-- ---- the bytes of an entry

unfoldable pub field_bytes : Fields → List ℕ
field_bytes f = (f.kind ∷ f.rides ∷ []) ++ to_bytes 4 f.pass ++ to_bytes 2 f.day ++ to_bytes 4 f.scan ++ to_bytes 4 f.rest

-- A malformed entry has none.
unfoldable pub entry_bytes : Entry → List ℕ
entry_bytes Null = field_bytes (fields 0 0 0 0 0 0)
entry_bytes (Sale pass rides last_day) = field_bytes (fields 1 rides pass last_day 0 0)
entry_bytes (Boarding pass day scan) = field_bytes (fields 2 0 pass day scan 0)
entry_bytes Malformed = []
