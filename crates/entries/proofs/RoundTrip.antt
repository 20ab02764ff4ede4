-- Well-formed entries and their bytes match one to one: fields and bytes do, and what an entry leaves out of its fields is what its kind fixes.
-- Assumes nothing.
use Prim.Native.Nat.{ℕ, ◌+◌, ◌≤◌, ◌<◌, ◌^◌}
use mathlib.Core.Path.{◌≡◌, refl, sym, ◌∙◌}
use mathlib.Core.Bool.{true, ◌&&◌}
use mathlib.Core.List.{List, [], ◌∷◌, ◌++◌}
use native.Mathlib.Omega.{arith}
use lib.Dec.{eqb, leb}
use lib.ListN.{length, get_or}
use borrow.Author.Tests.{eqb-true, leb-true, le-leb}
use Rattle.numbers.specs.BigEndian.{to_bytes, bytes_at, number_at, Bytes}
use Rattle.numbers.proofs.Bytes.{big_endian-to_bytes, to_bytes-number_at, number_at-lt, written_out}
use Rattle.basics.specs.Ladder.{when◌then◌else◌, need◌or◌then◌}
use Rattle.basics.proofs.Ladder.{if-elim, need-elim, both_true}
use Rattle.entries.specs.declared.Fields.{Fields}
use Rattle.entries.specs.Entry.{Entry, Null, Malformed, Sale, Boarding}
use Rattle.entries.specs.Entry.{entry_length, most_rides, fields, fields_in, is_null, is_sale, is_boarding, entry_of, entry_in, field_bytes, entry_bytes}
use Rattle.entries.specs.Promises.{WellFormed, WriteThenRead, ReadThenWrite}

-- ---- written and read

fields_back : (kind rides pass day scan : ℕ) → pass < 256 ^ 4 → day < 256 ^ 2 → scan < 256 ^ 4
    → entry_in (field_bytes (fields kind rides pass day scan 0)) ≡ entry_of (fields kind rides pass day scan 0)
unfolding entry_in fields_in field_bytes number_at need◌or◌then◌
fields_back kind rides pass day scan pass_fits day-fits scan-fits = λ i.
    entry_of (fields kind rides (big_endian-to_bytes 4 pass pass_fits i) (big_endian-to_bytes 2 day day-fits i) (big_endian-to_bytes 4 scan scan-fits i) 0)

pub write-then-read : WriteThenRead
unfolding entry_bytes entry_of is_null is_sale is_boarding when◌then◌else◌ WellFormed
write-then-read Null ok = fields_back 0 0 0 0 0 (omega arith) (omega arith) (omega arith)
write-then-read Malformed ok = elim ok [ ]
write-then-read (Sale pass rides last_day) ok =
    fields_back 1 rides pass last_day 0 ok.0 ok.1.1.1 (omega arith) ∙ rw (le-leb 1 rides ok.1.0, le-leb rides most_rides ok.1.1.0)
write-then-read (Boarding pass day scan) ok = fields_back 2 0 pass day scan ok.0 ok.1.0 ok.1.1

-- ---- read and written

-- what bytes that are read as this entry have to be
abbrev Back : List ℕ → Entry → Type 0
Back value e = (e ≡ Malformed → ⊥) → (entry_bytes e ≡ value) × WellFormed e

malformed-back : (value : List ℕ) → Back value Malformed
malformed-back value sound = absurd (sound refl)

module _ (value : List ℕ) (bytes : Bytes value) (long : length value ≡ entry_length) where
  abbrev read : Fields
  read = fields_in value

  bytes_back : field_bytes read ≡ value
  unfolding fields_in field_bytes
  bytes_back =
      let field : (at w : ℕ) → at + w ≤ 16 → to_bytes w (number_at value at w) ≡ bytes_at value at w =
      λ at w inside. to_bytes-number_at value bytes at w (omega (arith, long)) in
      (λ i. (get_or value 0 0 ∷ get_or value 1 0 ∷ [])
      ++ field 2 4 (omega arith) i ++ field 6 2 (omega arith) i ++ field 8 4 (omega arith) i ++ field 12 4 (omega arith) i)
      ∙ written_out entry_length value long

  null-back : is_null read ≡ true → Back value Null
  unfolding entry_bytes WellFormed is_null
  null-back so _ =
      let f = read in
      let a = both_true (eqb f.kind 0 && eqb f.rides 0 && eqb f.pass 0 && eqb f.day 0 && eqb f.scan 0) (eqb f.rest 0) so in
      let b = both_true (eqb f.kind 0 && eqb f.rides 0 && eqb f.pass 0 && eqb f.day 0) (eqb f.scan 0) a.0 in
      let c = both_true (eqb f.kind 0 && eqb f.rides 0 && eqb f.pass 0) (eqb f.day 0) b.0 in
      let d = both_true (eqb f.kind 0 && eqb f.rides 0) (eqb f.pass 0) c.0 in
      let e = both_true (eqb f.kind 0) (eqb f.rides 0) d.0 in
      let zero : (n : ℕ) → eqb n 0 ≡ true → 0 ≡ n = λ n is. sym (eqb-true n 0 is) in (
        (λ i. field_bytes (fields (zero f.kind e.0 i) (zero f.rides e.1 i) (zero f.pass d.1 i) (zero f.day c.1 i)
            (zero f.scan b.1 i) (zero f.rest a.1 i)))
            ∙ bytes_back,
        tt,
      )

  sale-back : is_sale read ≡ true → Back value (Sale read.pass read.rides read.day)
  unfolding entry_bytes WellFormed is_sale fields_in
  sale-back so _ =
      let f = read in
      let a = both_true (eqb f.kind 1 && leb 1 f.rides && leb f.rides most_rides && eqb f.scan 0) (eqb f.rest 0) so in
      let b = both_true (eqb f.kind 1 && leb 1 f.rides && leb f.rides most_rides) (eqb f.scan 0) a.0 in
      let c = both_true (eqb f.kind 1 && leb 1 f.rides) (leb f.rides most_rides) b.0 in
      let d = both_true (eqb f.kind 1) (leb 1 f.rides) c.0 in (
        (λ i. field_bytes (fields (sym (eqb-true f.kind 1 d.0) i) f.rides f.pass f.day (sym (eqb-true f.scan 0 b.1) i)
            (sym (eqb-true f.rest 0 a.1) i)))
            ∙ bytes_back,
        (number_at-lt value bytes 2 4, (leb-true 1 f.rides d.1, (leb-true f.rides most_rides c.1, number_at-lt value bytes 6 2))),
      )

  boarding-back : is_boarding read ≡ true → Back value (Boarding read.pass read.day read.scan)
  unfolding entry_bytes WellFormed is_boarding fields_in
  boarding-back so _ =
      let f = read in
      let a = both_true (eqb f.kind 2 && eqb f.rides 0) (eqb f.rest 0) so in
      let b = both_true (eqb f.kind 2) (eqb f.rides 0) a.0 in (
        (λ i. field_bytes (fields (sym (eqb-true f.kind 2 b.0) i) (sym (eqb-true f.rides 0 b.1) i) f.pass f.day f.scan
            (sym (eqb-true f.rest 0 a.1) i)))
            ∙ bytes_back,
        (number_at-lt value bytes 2 4, (number_at-lt value bytes 6 2, number_at-lt value bytes 8 4)),
      )

pub read-then-write : ReadThenWrite
unfolding entry_in entry_of
read-then-write value bytes =
    let f = fields_in value in
    let malformed = malformed-back value in
    need-elim (Back value) (eqb (length value) entry_length) _ _ malformed λ same.
    let long = eqb-true (length value) entry_length same in
    if-elim (Back value) (is_null f) _ _ (null-back value bytes long) λ _.
    if-elim (Back value) (is_sale f) _ _ (sale-back value bytes long) λ _.
    if-elim (Back value) (is_boarding f) _ _ (boarding-back value bytes long) λ _.
    malformed
