-- What the test that a number lies within the bytes decides: what is read and what is written, inside the bytes and outside them. Each once over the width.
-- Assumes nothing.
use Prim.Native.Nat.{ℕ, ◌+◌, ◌-◌, ◌≤◌}
use mathlib.Core.Path.{◌≡◌, sym, ap, ◌∙◌}
use mathlib.Core.Bool.{Bool, true, false}
use mathlib.Core.List.{List, append_assoc}
use native.Mathlib.Omega.{arith}
use lib.Dec.{leb}
use lib.ListN.{length, take, drop}
use lib.Seq.{sets-eq, drop-drop}
use borrow.Author.Tests.{leb-true}
use borrow.Rule.Slice.PartMut.{put_mid}
use Rattle.numbers.specs.BigEndian.{big_endian, to_bytes, number_at, with_number_at}
use Rattle.numbers.proofs.Bytes.{number-within, stored-within, length-to_bytes, bytes_at-part}

module _ (p : List ℕ) (at w asked : ℕ) (wide : asked ≡ w) (test : Bool) (tested : test ≡ leb (at + asked) (length p)) where
  told : {answer : Bool} → test ≡ answer → leb (at + w) (length p) ≡ answer
  told so = ap (λ width. leb (at + width) (length p)) (sym wide) ∙ sym tested ∙ so

  inside : test ≡ true → at + w ≤ length p
  inside passed = leb-true (at + w) (length p) (told passed)

  -- the part of the bytes that the code takes is as long as the number is wide
  part_width : (taken : ℕ) → taken ≡ w → at + taken - at ≡ w
  part_width taken same = omega arith

  pub number_read : (number taken : ℕ) → taken ≡ w → number ≡ big_endian (take (at + taken - at) (drop at p)) → test ≡ true → number ≡ number_at p at w
  number_read number taken same number-so passed =
      let within = inside passed in
      number-so ∙ ap (λ count. big_endian (take count (drop at p))) (part_width taken same) ∙ ap big_endian (sym (bytes_at-part p at w within))
      ∙ sym (number-within p at w within)

  pub nothing_read : test ≡ false → 0 ≡ number_at p at w
  unfolding number_at
  nothing_read failed = rw (told failed)

  pub number_written : (n taken : ℕ) (bytes : List ℕ) → taken ≡ w → bytes ≡ to_bytes w n → test ≡ true → put_mid at (at + taken - at) p bytes ≡ with_number_at p at w n
  number_written n taken bytes same bytes-so passed =
      let within = inside passed in
      let long = length-to_bytes w n in
      rw (
        bytes-so,
        part_width taken same,
        drop-drop w at p,
        stored-within p at w n within,
        sets-eq (to_bytes w n) p at (omega (arith, long)),
        long,
      )
      (sym (append_assoc (take at p) (to_bytes w n) (drop (at + w) p)))

  pub nothing_written : (n : ℕ) → test ≡ false → p ≡ with_number_at p at w n
  unfolding with_number_at
  nothing_written n failed = rw (told failed)
