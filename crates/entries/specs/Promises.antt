-- What is promised of entries: well-formed ones and their bytes match one to one.
-- Assumes nothing.
use Rattle.std.specs.Prelude.{ℕ, ◌^◌, ◌≤◌, ◌<◌, ◌≡◌, List}
use Rattle.numbers.specs.BigEndian.{Bytes}
use Rattle.entries.specs.Entry.{Entry, Null, Malformed, Sale, Boarding, most_rides, entry_in, entry_bytes}

-- A sale whose numbers fit, with 1 to 40 rides; a boarding whose numbers fit; or null.
unfoldable pub WellFormed : Entry → Type 0
WellFormed Null = Unit {0}
WellFormed Malformed = ⊥
WellFormed (Sale pass rides last_day) = (pass < 2 ^ 32) × ((1 ≤ rides) × ((rides ≤ most_rides) × (last_day < 2 ^ 16)))
WellFormed (Boarding pass day scan) = (pass < 2 ^ 32) × ((day < 2 ^ 16) × (scan < 2 ^ 32))

-- A well-formed entry, written and read, is the entry.
abbrev pub WriteThenRead : Type 0
WriteThenRead = (e : Entry) → WellFormed e → entry_in (entry_bytes e) ≡ e

-- Bytes that are read as an entry which is not malformed are the entry's bytes, and the entry is well-formed.
abbrev pub ReadThenWrite : Type 0
ReadThenWrite = (value : List ℕ) → Bytes value → (entry_in value ≡ Malformed → ⊥) → (entry_bytes (entry_in value) ≡ value) × WellFormed (entry_in value)
