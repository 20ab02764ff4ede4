-- The mark as one number: a packet is marked exactly if the number in its first four bytes, without the last of them, is that of "RDE"; and this number and a
-- kind, stored there, are the mark and the kind. Bytes are digits, so a number is the one written out exactly if each byte is.
-- Assumes nothing.
use Prim.Native.Nat.{ℕ, ◌+◌, ◌*◌, ◌/◌, ◌%◌, ◌<◌}
use mathlib.Core.Path.{◌≡◌, refl, ◌∙◌}
use mathlib.Core.Bool.{Bool, true, false, ◌&&◌}
use mathlib.Core.List.{List, [], ◌∷◌}
use native.Mathlib.Omega.{arith}
use native.Mathlib.Nat.{div-one}
use lib.Dec.{eqb, lit<}
use lib.ListN.{length, get_or}
use lib.Seq.{sets}
use borrow.Author.Tests.{eqb-true, eqb-false, eq-eqb, ne_eqb}
use Rattle.numbers.specs.BigEndian.{Bytes, number_at, with_number_at}
use Rattle.numbers.proofs.Bytes.{number-within, stored-within}
use Rattle.wire.specs.Packet.{packet_length, marked}

-- numbers are equal exactly if their last bytes are, and what stands before them
digits-equal : (a b c d : ℕ) → b < 256 → d < 256 → eqb (a * 256 + b) (c * 256 + d) ≡ (eqb a c && eqb b d)
digits-equal a b c d small limit = by_first (eqb a c) refl
  where
    by_first : (t : Bool) → eqb a c ≡ t → eqb (a * 256 + b) (c * 256 + d) ≡ (t && eqb b d)
    by_first false h = ne_eqb (a * 256 + b) (c * 256 + d) (λ same. eqb-false a c h (omega arith))
    by_first true h = by_last (eqb b d) refl
      where
        by_last : (t : Bool) → eqb b d ≡ t → eqb (a * 256 + b) (c * 256 + d) ≡ t
        by_last true l = eq-eqb (a * 256 + b) (c * 256 + d) (omega (arith, eqb-true a c h, eqb-true b d l))
        by_last false l = ne_eqb (a * 256 + b) (c * 256 + d) (λ same. eqb-false b d l (omega (arith, eqb-true a c h)))

pub marked-number : (p : List ℕ) → Bytes p → length p ≡ packet_length → eqb (number_at p 0 4 / 256) 5391429 ≡ marked p
marked-number p bytes long =
    let x = get_or p 0 0 in
    let y = get_or p 1 0 in
    let z = get_or p 2 0 in
    let whole = number-within p 0 4 (omega arith) in
    let parts : number_at p 0 4 / 256 ≡ (x * 256 + y) * 256 + z = omega (arith, whole, bytes 3) in
    rw parts (digits-equal (x * 256 + y) z (82 * 256 + 68) 69 (bytes 2) (lit< tt) ∙ rw (digits-equal x y 82 68 (bytes 1) (lit< tt)))

pub mark-stored : (p : List ℕ) (kind : ℕ) → kind < 256 → length p ≡ packet_length
    → with_number_at p 0 4 (5391429 * 256 + kind) ≡ sets p 0 (82 ∷ 68 ∷ 69 ∷ kind ∷ [])
mark-stored p kind small long =
    let number = 5391429 * 256 + kind in
    let first : number / 16777216 % 256 ≡ 82 = omega arith in
    let second : number / 65536 % 256 ≡ 68 = omega arith in
    let third : number / 256 % 256 ≡ 69 = omega arith in
    let fourth : number % 256 ≡ kind = omega arith in
    stored-within p 0 4 number (omega arith) ∙ simp (first, second, third, fourth, div-one)
