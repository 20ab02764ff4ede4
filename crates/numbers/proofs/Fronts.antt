-- A buffer is written from its front on: what is stored just behind the front becomes part of it. Once the front is as long as the buffer, it is the buffer.
-- Assumes nothing.
use Prim.Native.Nat.{ℕ, ◌+◌, ◌≤◌}
use mathlib.Core.Path.{◌≡◌, ap, ◌∙◌}
use mathlib.Core.List.{List, ◌++◌, append_assoc, append-nil}
use native.Mathlib.Omega.{arith}
use lib.ListN.{length, drop, length-append, length-drop, drop_of_length-le}
use lib.Seq.{sets, sets-eq, take-append_seam, drop-append-add, drop-drop}
use Rattle.numbers.specs.BigEndian.{to_bytes, with_number_at}
use Rattle.numbers.specs.Fronts.{with_front}
use Rattle.numbers.proofs.Bytes.{stored-within, length-to_bytes}

module _ (buffer front : List ℕ) where
  abbrev rest : List ℕ
  rest = drop (length front) buffer

  -- a front that fits keeps the buffer's length
  pub length_front : length front ≤ length buffer → length (with_front buffer front) ≡ length buffer
  length_front fits = omega (arith, length-append front rest, length-drop (length front) buffer)

  pub front-next : (bytes : List ℕ) → length front + length bytes ≤ length buffer → sets (with_front buffer front) (length front) bytes ≡ with_front buffer (front ++ bytes)
  front-next bytes fits =
      let long = length_front (omega arith) in
      sets-eq bytes (with_front buffer front) (length front) (omega (arith, long))
      ∙ rw (
        take-append_seam front rest,
        drop-append-add front rest (length bytes),
        drop-drop (length bytes) (length front) buffer,
        length-append front bytes,
        append_assoc front bytes (drop (length front + length bytes) buffer),
      )

  pub number-next : (at width number : ℕ) → at ≡ length front → length front + width ≤ length buffer
      → with_number_at (with_front buffer front) at width number ≡ with_front buffer (front ++ to_bytes width number)
  number-next at width number at-so fits =
      let long = length_front (omega arith) in
      let wide = length-to_bytes width number in
      ap (λ place. with_number_at (with_front buffer front) place width number) at-so
      ∙ stored-within (with_front buffer front) (length front) width number (omega (arith, long)) ∙ front-next (to_bytes width number) (omega (arith, wide))

  pub front-whole : length buffer ≡ length front → with_front buffer front ≡ front
  front-whole full = ap (λ left. front ++ left) (drop_of_length-le buffer {i = length front} (omega (arith, full))) ∙ append-nil front
