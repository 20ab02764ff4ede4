-- Digits and what they stand for: texts are walked a digit, or two, at a time, and a byte that is no digit ends the walk.
-- Assumes nothing.
use Prim.Native.Nat.{ℕ, suc, ◌+◌, ◌-◌, ◌*◌, ◌^◌, ◌≤◌, ◌<◌}
use mathlib.Core.Path.{◌≡◌, sym, ap, ◌∙◌}
use mathlib.Core.Bool.{Bool, true, false, ◌&&◌}
use mathlib.Core.List.{List, ◌∷◌, ◌++◌, append_assoc, append-nil}
use native.Mathlib.Nat.{pow-suc, pow-le-pow_right}
use native.Mathlib.Numerals.{add-one}
use native.Mathlib.Omega.{arith}
use lib.Dec.{eqb, leb, lit<}
use lib.ListN.{length, get_or, take, drop, set, drop_of_length-le}
use lib.Seq.{drop-cons, take_all, take-suc-set}
use borrow.Author.Tests.{eqb-true, eq-eqb, ne_eqb, leb-true, le-ltb, lt-ltb}
use Rattle.std.proofs.lemmas.Bool.{le-leb, lt-leb}
use Rattle.std.specs.Prelude.{Option, Some, None, unwrap_or, Result, Ok, Err}
use Rattle.std.specs.Result.{OkIff, result_ok}
use Rattle.basics.specs.Ladder.{need◌or◌then◌}
use Rattle.basics.proofs.Ladder.{by-test, if-elim, if-true, if-false, need-passed, need-failed, both_true}
use Rattle.bench_lines.specs.Line.{digit_in, digit_of, are_digits, is_hex, bytes_of, hex_in, number_from, number_of, is_decimal, decimal_in}

-- ---- what an outcome that needs one test says of it

module _ {A : Type 0} (b : Bool) (x : A) where
  pub need-none : None ≡ (need b or None then Some x) → b ≡ false
  unfolding need◌or◌then◌
  need-none none = by-test b (λ e. absurd (let h = rw e at none in cc)) (λ e. e)

  pub need-some : (y : A) → Some y ≡ (need b or None then Some x) → (b ≡ true) × (y ≡ x)
  unfolding need◌or◌then◌
  need-some y some = by-test b (λ e. let h = rw e at some in (e, cc)) (λ e. absurd (let h = rw e at some in cc))

-- ---- a digit, by the range that it is in

within : (low byte high : ℕ) → low ≤ byte → byte ≤ high → leb low byte && leb byte high ≡ true
within low byte high least most = rw (le-leb low byte least, le-leb byte high most)

outside : (low byte high : ℕ) → (low ≤ byte → high < byte) → leb low byte && leb byte high ≡ false
outside low byte high out = by-test (leb low byte && leb byte high)
    (λ both.
    let parts = both_true (leb low byte) (leb byte high) both in
    let over = out (leb-true low byte parts.0) in
    let within = leb-true byte high parts.1 in absurd (omega arith))
    (λ e. e)

abbrev small : Option ℕ → Type 0
small o = (digit : ℕ) → Some digit ≡ o → digit < 16

digits-are-small : (byte : ℕ) → small (digit_in byte)
unfolding digit_in
digits-are-small byte =
    if-elim small _ _ _
    (λ in-0-9 digit e. let most = leb-true byte 57 (both_true (leb 48 byte) (leb byte 57) in-0-9).1 in let so : digit ≡ byte - 48 = cc in omega arith)
    (λ _. if-elim small _ _ _
    (λ in-A-F digit e. let most = leb-true byte 70 (both_true (leb 65 byte) (leb byte 70) in-A-F).1 in let so : digit ≡ byte - 65 + 10 = cc in omega arith)
    (λ _. if-elim small _ _ _
    (λ in-a-f digit e. let most = leb-true byte 102 (both_true (leb 97 byte) (leb byte 102) in-a-f).1 in let so : digit ≡ byte - 97 + 10 = cc in omega arith)
    (λ _ digit e. absurd cc)))

module _ (byte : ℕ) where
  pub decimal-digit : 48 ≤ byte → byte ≤ 57 → Some (byte - 48) ≡ digit_in byte
  unfolding digit_in
  decimal-digit least most = sym (if-true _ _ (within 48 byte 57 least most))

  pub upper-digit : 65 ≤ byte → byte ≤ 70 → Some (byte - 65 + 10) ≡ digit_in byte
  unfolding digit_in
  upper-digit least most = sym (if-false _ _ (outside 48 byte 57 (λ low. omega arith)) ∙ if-true _ _ (within 65 byte 70 least most))

  pub lower-digit : 97 ≤ byte → byte ≤ 102 → Some (byte - 97 + 10) ≡ digit_in byte
  unfolding digit_in
  lower-digit least most =
      sym (if-false _ _ (outside 48 byte 57 (λ low. omega arith)) ∙ if-false _ _ (outside 65 byte 70 (λ low. omega arith))
      ∙ if-true _ _ (within 97 byte 102 least most))

  pub no-digit : (48 ≤ byte → 57 < byte) → (65 ≤ byte → 70 < byte) → (97 ≤ byte → 102 < byte) → None ≡ digit_in byte
  unfolding digit_in
  no-digit not-decimal not-upper not-lower =
      sym (if-false _ _ (outside 48 byte 57 not-decimal) ∙ if-false _ _ (outside 65 byte 70 not-upper) ∙ if-false _ _ (outside 97 byte 102 not-lower))

  -- what a byte's digit says of its number
  pub digit-none : None ≡ digit_in byte → digit_of byte ≡ 16
  digit-none none = ap (λ o. unwrap_or o 16) (sym none)

  module _ (digit : ℕ) (found : Some digit ≡ digit_in byte) where
    pub digit-so : digit_of byte ≡ digit
    digit-so = ap (λ o. unwrap_or o 16) (sym found)

    pub digit-small : digit < 16
    digit-small = digits-are-small byte digit found

-- ---- whether all are digits

module _ (base : ℕ) (text : List ℕ) (index : ℕ) (inside : index < length text) where
  pub digits-go-on : digit_of (get_or text index 0) < base → are_digits base (drop index text) ≡ are_digits base (drop (index + 1) text)
  unfolding are_digits
  digits-go-on small = rw (add-one index, drop-cons text index 0 inside, lt-ltb (digit_of (get_or text index 0)) base small)

  pub digits-stop : base ≤ digit_of (get_or text index 0) → are_digits base (drop index text) ≡ false
  unfolding are_digits
  digits-stop large = rw (drop-cons text index 0 inside, le-ltb (digit_of (get_or text index 0)) base large)

pub digits-end : (base : ℕ) (text : List ℕ) (index : ℕ) → length text ≤ index → are_digits base (drop index text) ≡ true
unfolding are_digits
digits-end base text index over = rw (drop_of_length-le text over)

-- ---- the bytes of hex digits

module _ (text bytes : List ℕ) (index : ℕ) where
  -- what is written, and what the digits that are left stand for
  abbrev pub written_to : List ℕ
  written_to = take index bytes ++ bytes_of (drop (2 * index) text)

pub bytes-go-on : (text bytes : List ℕ) (index byte : ℕ) → index < length bytes → 2 * index + 1 < length text
    → byte ≡ digit_of (get_or text (2 * index) 0) * 16 + digit_of (get_or text (2 * index + 1) 0)
    → written_to text bytes index ≡ written_to text (set bytes index byte) (index + 1)
unfolding bytes_of
bytes-go-on text bytes index byte inside within byte-so =
    let next : 2 * (index + 1) ≡ suc (suc (2 * index)) = omega arith in
    let one : 2 * index + 1 ≡ suc (2 * index) = omega arith in
    let here : drop (2 * index) text ≡ get_or text (2 * index) 0 ∷ (get_or text (suc (2 * index)) 0 ∷ drop (suc (suc (2 * index))) text) =
    rw (drop-cons text (2 * index) 0 (omega arith), drop-cons text (suc (2 * index)) 0 (omega arith)) in
    rw (next, add-one index, take-suc-set bytes index byte inside, append_assoc, here, byte-so, one)

pub bytes-end : (text bytes : List ℕ) (index : ℕ) → length bytes ≤ index → length text ≤ 2 * index → written_to text bytes index ≡ bytes
unfolding bytes_of
bytes-end text bytes index written over = rw (drop_of_length-le text over, take_all index bytes written) (append-nil bytes)

module _ (count : ℕ) (text : List ℕ) where
  pub hex-so : length text ≡ 2 * count → are_digits 16 text ≡ true → (bytes : List ℕ) → bytes_of text ≡ bytes → Some bytes ≡ hex_in count text
  unfolding hex_in is_hex
  hex-so long digits bytes so = sym (need-passed _ _ (rw (eq-eqb (length text) (2 * count) long, digits)) ∙ ap Some so)

  pub hex-wrong-length : (length text ≡ 2 * count → ⊥) → None ≡ hex_in count text
  unfolding hex_in is_hex
  hex-wrong-length other = sym (need-failed _ _ (rw (ne_eqb (length text) (2 * count) other)))

  pub hex-no-digits : are_digits 16 text ≡ false → None ≡ hex_in count text
  unfolding hex_in is_hex
  hex-no-digits none = sym (need-failed _ _ (by-test (eqb (length text) (2 * count)) (λ e. rw (e, none)) (λ e. rw e)))

  pub hex-none : None ≡ hex_in count text → is_hex (2 * count) text ≡ false
  unfolding hex_in
  hex-none none = need-none _ _ none

  pub hex-some : (bytes : List ℕ) → Some bytes ≡ hex_in count text → (is_hex (2 * count) text ≡ true) × (bytes ≡ bytes_of text)
  unfolding hex_in
  hex-some bytes some = need-some _ _ bytes some

-- ---- the number of decimal digits

pub number-goes-on : (text : List ℕ) (number index : ℕ) → index < length text
    → number_from number (drop index text) ≡ number_from (number * 10 + digit_of (get_or text index 0)) (drop (index + 1) text)
unfolding number_from
number-goes-on text number index inside = rw (add-one index, drop-cons text index 0 inside)

pub number-ends : (text : List ℕ) (number index : ℕ) → length text ≤ index → number_from number (drop index text) ≡ number
unfolding number_from
number-ends text number index over = rw (drop_of_length-le text over)

-- so many digits make a number below that power of ten
pub power-goes-on : (number digit index : ℕ) → number < 10 ^ index → digit < 10 → number * 10 + digit < 10 ^ (index + 1)
power-goes-on number digit index below small = rw (add-one index, pow-suc 10 index) (omega arith)

pub power-fits : (index : ℕ) → index ≤ 10 → 10 ^ index ≤ 10 ^ 10
power-fits index few = pow-le-pow_right (lit< tt) few

module _ (text : List ℕ) where
  -- one to ten digits
  abbrev fits : Bool
  fits = leb 1 (length text) && leb (length text) 10

  pub decimal-wrong-length : (1 ≤ length text → 10 < length text) → None ≡ decimal_in text
  unfolding decimal_in is_decimal
  decimal-wrong-length out = sym (need-failed _ _ (rw (outside 1 (length text) 10 out)))

  pub decimal-no-digits : are_digits 10 text ≡ false → None ≡ decimal_in text
  unfolding decimal_in is_decimal
  decimal-no-digits none = sym (need-failed _ _ (by-test fits (λ e. rw (e, none)) (λ e. rw e)))

  module _ (least : 1 ≤ length text) (most : length text ≤ 10) (digits : are_digits 10 text ≡ true) where
    pub decimal-so : number_of text ≤ 4294967295 → Some (number_of text) ≡ decimal_in text
    unfolding decimal_in is_decimal
    decimal-so small = sym (need-passed _ _ (rw (within 1 (length text) 10 least most, digits) (le-leb (number_of text) 4294967295 small)))

    pub decimal-too-large : 4294967295 < number_of text → None ≡ decimal_in text
    unfolding decimal_in is_decimal
    decimal-too-large large = sym (need-failed _ _ (rw (within 1 (length text) 10 least most, digits) (lt-leb (number_of text) 4294967295 large)))

    pub decimal-is : (number : ℕ) → number_of text ≡ number → {E : Type 0} (r : Result ℕ E) → OkIff r (number < 4294967296) number
        → result_ok r ≡ decimal_in text
    decimal-is number so (Ok x) fits = ap Some (fits.1 ∙ sym so) ∙ decimal-so (omega (arith, fits.0))
    decimal-is number so (Err e) large = decimal-too-large (omega (arith, large))

  pub decimal-none : None ≡ decimal_in text → is_decimal text ≡ false
  unfolding decimal_in
  decimal-none none = need-none _ _ none

  pub decimal-some : (number : ℕ) → Some number ≡ decimal_in text → (is_decimal text ≡ true) × (number ≡ number_of text)
  unfolding decimal_in
  decimal-some number some = need-some _ _ number some

-- ---- what the tests bring

pub hex-brings : (count : ℕ) (text : List ℕ) → is_hex count text ≡ true → (length text ≡ count) × (are_digits 16 text ≡ true)
unfolding is_hex
hex-brings count text hex =
    let parts = both_true (eqb (length text) count) (are_digits 16 text) hex in (eqb-true (length text) count parts.0, parts.1)

pub decimal-brings : (text : List ℕ) → is_decimal text ≡ true → (length text ≤ 10) × (number_of text ≤ 4294967295)
unfolding is_decimal
decimal-brings text decimal =
    let parts = both_true (leb 1 (length text) && leb (length text) 10) (are_digits 10 text && leb (number_of text) 4294967295) decimal in (
      leb-true (length text) 10 (both_true (leb 1 (length text)) (leb (length text) 10) parts.0).1,
      leb-true (number_of text) 4294967295 (both_true (are_digits 10 text) (leb (number_of text) 4294967295) parts.1).1,
    )

pub decimal-digits : (text : List ℕ) → is_decimal text ≡ true → are_digits 10 text ≡ true
unfolding is_decimal
decimal-digits text decimal =
    let parts = both_true (leb 1 (length text) && leb (length text) 10) (are_digits 10 text && leb (number_of text) 4294967295) decimal in
    (both_true (are_digits 10 text) (leb (number_of text) 4294967295) parts.1).0
