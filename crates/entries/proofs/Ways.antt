-- The ways out of reading an entry, by the tests that led there.
-- Assumes nothing.
use Prim.Native.Nat.{ℕ}
use mathlib.Core.Path.{◌≡◌, sym, ◌∙◌}
use mathlib.Core.Bool.{Bool, true, false, ◌&&◌}
use mathlib.Core.List.{List}
use lib.Dec.{eqb}
use lib.ListN.{length}
use borrow.Author.Tests.{ne_eqb, eq-eqb}
use Rattle.std.proofs.Math.Bool.{and_assoc}
use Rattle.basics.specs.Ladder.{when◌then◌else◌, need◌or◌then◌}
use Rattle.entries.specs.declared.Fields.{Fields}
use Rattle.entries.specs.Entry.{Entry, Null, Malformed, Sale, Boarding, entry_length, fields_in, is_null, is_sale, is_boarding, entry_of, entry_in}

-- six tests, grouped from the right as the code's equality has them, and from the left as the definition does
grouped : (a b c d e f : Bool) → a && (b && (c && (d && (e && f)))) ≡ a && b && c && d && e && f
grouped a b c d e f =
    sym (and_assoc (a && b && c && d) e f ∙ and_assoc (a && b && c) d (e && f) ∙ and_assoc (a && b) c (d && (e && f)) ∙ and_assoc a b (c && (d && (e && f))))

pub each-zero : (f : Fields) → eqb f.kind 0 && (eqb f.rides 0 && (eqb f.pass 0 && (eqb f.day 0 && (eqb f.scan 0 && eqb f.rest 0)))) ≡ is_null f
unfolding is_null
each-zero f = grouped (eqb f.kind 0) (eqb f.rides 0) (eqb f.pass 0) (eqb f.day 0) (eqb f.scan 0) (eqb f.rest 0)

module _ (f : Fields) (null : Bool) (null-so : null ≡ is_null f) where
  pub is-null : null ≡ true → Null ≡ entry_of f
  unfolding entry_of when◌then◌else◌
  is-null zeros = rw (← null-so, zeros)

  module _ (not_null : null ≡ false) (sale : Bool) (sale-so : sale ≡ is_sale f) where
    pub is-sale : sale ≡ true → Sale f.pass f.rides f.day ≡ entry_of f
    unfolding entry_of when◌then◌else◌
    is-sale so = rw (← null-so, not_null, ← sale-so, so)

    module _ (not-sale : sale ≡ false) (boarding : Bool) (boarding-so : boarding ≡ is_boarding f) where
      pub is-boarding : boarding ≡ true → Boarding f.pass f.day f.scan ≡ entry_of f
      unfolding entry_of when◌then◌else◌
      is-boarding so = rw (← null-so, not_null, ← sale-so, not-sale, ← boarding-so, so)

      pub is-malformed : boarding ≡ false → Malformed ≡ entry_of f
      unfolding entry_of when◌then◌else◌
      is-malformed so = rw (← null-so, not_null, ← sale-so, not-sale, ← boarding-so, so)

module _ (value : List ℕ) where
  pub wrong-length : (length value ≡ entry_length → ⊥) → Malformed ≡ entry_in value
  unfolding entry_in need◌or◌then◌
  wrong-length other = rw (ne_eqb (length value) entry_length other)

  pub right-length : length value ≡ entry_length → (f : Fields) → f ≡ fields_in value → (e : Entry) → e ≡ entry_of f → e ≡ entry_in value
  unfolding entry_in need◌or◌then◌
  right-length long f f-so e e-so = rw (eq-eqb (length value) entry_length long, ← f-so, e-so)
