-- The laws of numbers as bytes, each once over the width, by induction on it.
-- Assumes nothing.
use Prim.Native.Nat.{ℕ, zero, suc, ◌+◌, ◌*◌, ◌/◌, ◌%◌, ◌^◌, ◌≤◌, ◌<◌}
use mathlib.Core.Path.{◌≡◌, refl, sym, ap, ◌∙◌}
use mathlib.Core.Bool.{Bool, true, false, cond}
use mathlib.Core.List.{List, [], ◌∷◌, ◌++◌}
use native.Mathlib.Omega.{arith}
use native.Mathlib.Numerals.{add-one}
use native.Mathlib.Nat.{pow-succ', zero-add, add-zero, suc-add, mul_comm, mod-mod, mod-lt, mod-one, mod-eq_of_lt, one-le-pow, div-div-eq-div-mul}
use lib.Arith.{digits_div, digits_mod, digits_lt, mod-mul}
use lib.Dec.{leb}
use lib.Pow.{pow-add}
use lib.ListN.{length, get_or, set, length-append, take, drop}
use lib.Seq.{sets, length-sets, drop-cons, take_all}
use borrow.Author.Tests.{le-leb}
use Rattle.numbers.specs.BigEndian.{big_endian, to_bytes, bytes_at, number_at, with_number_at, Bytes}

pub pow_pos : (w : ℕ) → 0 < 256 ^ w
pow_pos w = one-le-pow w 256 (omega arith)

-- ---- within the bytes
pub number-within : (p : List ℕ) (at w : ℕ) → at + w ≤ length p → number_at p at w ≡ big_endian (bytes_at p at w)
unfolding number_at
number-within p at w h = rw (le-leb (at + w) (length p) h)

pub stored-within : (p : List ℕ) (at w n : ℕ) → at + w ≤ length p → with_number_at p at w n ≡ sets p at (to_bytes w n)
unfolding with_number_at
stored-within p at w n h = rw (le-leb (at + w) (length p) h)

pub length-with_number_at : (p : List ℕ) (at w n : ℕ) → length (with_number_at p at w n) ≡ length p
unfolding with_number_at
length-with_number_at p at w n = either_way (leb (at + w) (length p))
  where
    either_way : (b : Bool) → length (cond b (sets p at (to_bytes w n)) p) ≡ length p
    either_way true = length-sets p at (to_bytes w n)
    either_way false = refl

-- ---- reading
pub length-bytes_at : (p : List ℕ) (at w : ℕ) → length (bytes_at p at w) ≡ w
length-bytes_at p at zero = refl
length-bytes_at p at (suc w) = ap suc (length-bytes_at p (at + 1) w)

pub bytes_at-add : (p : List ℕ) (at v w : ℕ) → bytes_at p at (v + w) ≡ bytes_at p at v ++ bytes_at p (at + v) w
bytes_at-add p at zero w = rw (zero-add, add-zero)
bytes_at-add p at (suc v) w =
    rw suc-add
    (ap (λ (r : List ℕ). get_or p at 0 ∷ r)
    (bytes_at-add p (at + 1) v w ∙ ap (λ (k : ℕ). bytes_at p (at + 1) v ++ bytes_at p k w) (omega arith)))

big_endian-append : (xs ys : List ℕ) → big_endian (xs ++ ys) ≡ big_endian xs * 256 ^ length ys + big_endian ys
big_endian-append [] ys = omega arith
big_endian-append (x ∷ xs) ys = rw (big_endian-append xs ys, length-append xs ys, pow-add 256 (length xs) (length ys)) (omega arith)

-- a number of v + w bytes is the number in its first v and the number in its last w
pub number_at-add : (p : List ℕ) (at v w : ℕ) → at + (v + w) ≤ length p
    → number_at p at (v + w) ≡ number_at p at v * 256 ^ w + number_at p (at + v) w
number_at-add p at v w h =
    let first = number-within p at v (omega arith) in
    let last = number-within p (at + v) w (omega arith) in
    number-within p at (v + w) h ∙ ap big_endian (bytes_at-add p at v w) ∙ big_endian-append (bytes_at p at v) (bytes_at p (at + v) w)
    ∙ rw (length-bytes_at p (at + v) w, first, last)

-- ---- writing
pub length-to_bytes : (w n : ℕ) → length (to_bytes w n) ≡ w
length-to_bytes zero n = refl
length-to_bytes (suc w) n = ap suc (length-to_bytes w n)

pub sets-append : (l : List ℕ) (i : ℕ) (xs ys : List ℕ) → sets l i (xs ++ ys) ≡ sets (sets l i xs) (i + length xs) ys
sets-append l i [] ys = rw add-zero
sets-append l i (x ∷ xs) ys =
    sets-append (set l i x) (suc i) xs ys ∙ ap (λ (k : ℕ). sets (sets (set l i x) (suc i) xs) k ys) (omega arith)

to_bytes-add : (v w n : ℕ) → to_bytes (v + w) n ≡ to_bytes v (n / 256 ^ w) ++ to_bytes w n
to_bytes-add zero w n = rw zero-add
to_bytes-add (suc v) w n =
    rw (suc-add, to_bytes-add v w n, div-div-eq-div-mul n (256 ^ w) (256 ^ v), mul_comm (256 ^ w) (256 ^ v), pow-add 256 v w)

-- the last w + 1 bytes of a number: the first of them, and the others
last_digits : (w n : ℕ) → n % 256 ^ suc w ≡ (n / 256 ^ w % 256) * 256 ^ w + n % 256 ^ w
last_digits w n = rw (pow-succ' 256 w) (mod-mul n {m = 256} {c = 256 ^ w} (omega arith) (pow_pos w))

-- w bytes show a number up to 256 ^ w
to_bytes-mod : (w n : ℕ) → to_bytes w (n % 256 ^ w) ≡ to_bytes w n
to_bytes-mod zero n = refl
to_bytes-mod (suc w) n =
    rw (last_digits w n, digits_div (n / 256 ^ w % 256) (mod-lt n (pow_pos w)), mod-mod)
    (ap (λ (r : List ℕ). n / 256 ^ w % 256 ∷ r)
    (sym (to_bytes-mod w ((n / 256 ^ w % 256) * 256 ^ w + n % 256 ^ w))
    ∙ ap (to_bytes w) (digits_mod (n / 256 ^ w % 256) (mod-lt n (pow_pos w))) ∙ to_bytes-mod w n))

-- a number of v + w bytes is stored in two parts
pub with_number_at-add : (p : List ℕ) (at v w n : ℕ) → at + (v + w) ≤ length p
    → with_number_at p at (v + w) n ≡ with_number_at (with_number_at p at v (n / 256 ^ w)) (at + v) w (n % 256 ^ w)
with_number_at-add p at v w n h =
    let first = stored-within p at v (n / 256 ^ w) (omega arith) in
    let long = length-with_number_at p at v (n / 256 ^ w) in
    let last = stored-within (with_number_at p at v (n / 256 ^ w)) (at + v) w (n % 256 ^ w) (omega arith) in
    stored-within p at (v + w) n h
    ∙ rw (to_bytes-add v w n, sets-append p at (to_bytes v (n / 256 ^ w)) (to_bytes w n), length-to_bytes v (n / 256 ^ w), last, first, to_bytes-mod w n)

-- ---- there and back
pub big_endian-to_bytes : (w n : ℕ) → n < 256 ^ w → big_endian (to_bytes w n) ≡ n
big_endian-to_bytes w n h = mod-form w n ∙ mod-eq_of_lt h
  where
    mod-form : (w n : ℕ) → big_endian (to_bytes w n) ≡ n % 256 ^ w
    mod-form zero n = sym (mod-one n)
    mod-form (suc w) n = rw (mod-form w n, length-to_bytes w n) (sym (last_digits w n))

big_endian-lt : (p : List ℕ) → Bytes p → (at w : ℕ) → big_endian (bytes_at p at w) < 256 ^ w
big_endian-lt p h at zero = omega arith
big_endian-lt p h at (suc w) =
    rw (length-bytes_at p (at + 1) w, pow-succ' 256 w) (digits_lt (h at) (big_endian-lt p h (at + 1) w))

pub number_at-lt : (p : List ℕ) → Bytes p → (at w : ℕ) → number_at p at w < 256 ^ w
unfolding number_at
number_at-lt p h at w = either_way (leb (at + w) (length p))
  where
    either_way : (b : Bool) → cond b (big_endian (bytes_at p at w)) 0 < 256 ^ w
    either_way true = big_endian-lt p h at w
    either_way false = pow_pos w

to_bytes-big_endian : (p : List ℕ) → Bytes p → (at w : ℕ) → to_bytes w (big_endian (bytes_at p at w)) ≡ bytes_at p at w
to_bytes-big_endian p h at zero = refl
to_bytes-big_endian p h at (suc w) =
    let b = get_or p at 0 in
    let r = big_endian (bytes_at p (at + 1) w) in
    let small : r < 256 ^ w = big_endian-lt p h (at + 1) w in
    rw (length-bytes_at p (at + 1) w, digits_div b small, mod-eq_of_lt (h at))
    (ap (λ (l : List ℕ). b ∷ l)
    (sym (to_bytes-mod w (b * 256 ^ w + r)) ∙ ap (to_bytes w) (digits_mod b small) ∙ to_bytes-big_endian p h (at + 1) w))

pub to_bytes-number_at : (p : List ℕ) → Bytes p → (at w : ℕ) → at + w ≤ length p → to_bytes w (number_at p at w) ≡ bytes_at p at w
to_bytes-number_at p h at w inside = ap (to_bytes w) (number-within p at w inside) ∙ to_bytes-big_endian p h at w

-- a list of known length is the list of its elements, written out: stores at literal places, and reads there, then compute
pub bytes_at-part : (p : List ℕ) (at w : ℕ) → at + w ≤ length p → bytes_at p at w ≡ take w (drop at p)
bytes_at-part p at zero h = refl
bytes_at-part p at (suc w) h =
    let inside : at < length p = omega arith in
    let inside' : at + 1 + w ≤ length p = omega arith in
    rw (drop-cons p at 0 inside)
    (ap (λ (r : List ℕ). get_or p at 0 ∷ r) (bytes_at-part p (at + 1) w inside' ∙ ap (λ (k : ℕ). take w (drop k p)) (add-one at)))

pub written_out : (w : ℕ) (p : List ℕ) → length p ≡ w → bytes_at p 0 w ≡ p
written_out w p h = bytes_at-part p 0 w (omega arith) ∙ take_all w p (omega arith)

-- ---- lists of bytes
pub Bytes-append : (xs ys : List ℕ) → Bytes xs → Bytes ys → Bytes (xs ++ ys)
Bytes-append [] ys h k i = k i
Bytes-append (x ∷ xs) ys h k zero = h 0
Bytes-append (x ∷ xs) ys h k (suc i) = Bytes-append xs ys (λ j. h (suc j)) k i

pub Bytes-to_bytes : (w n : ℕ) → Bytes (to_bytes w n)
Bytes-to_bytes zero n i = omega arith
Bytes-to_bytes (suc w) n zero = omega arith
Bytes-to_bytes (suc w) n (suc i) = Bytes-to_bytes w n i

pub Bytes-bytes_at : (p : List ℕ) → Bytes p → (at w : ℕ) → Bytes (bytes_at p at w)
Bytes-bytes_at p h at zero i = omega arith
Bytes-bytes_at p h at (suc w) zero = h at
Bytes-bytes_at p h at (suc w) (suc i) = Bytes-bytes_at p h (at + 1) w i
