-- Headers are stored field after field: each store adds its bytes to those stored before it.
-- Assumes nothing.
use Prim.Native.Nat.{ℕ, ◌+◌, ◌≤◌}
use mathlib.Core.Path.{◌≡◌, refl, sym, ap, ◌∙◌}
use mathlib.Core.List.{List, ◌++◌}
use native.Mathlib.Omega.{arith}
use lib.ListN.{length, length-append}
use lib.Seq.{sets, length-sets}
use Rattle.numbers.specs.BigEndian.{to_bytes, number_at, with_number_at, Bytes}
use Rattle.numbers.proofs.Bytes.{stored-within, sets-append, to_bytes-number_at, written_out}
use Rattle.frames.specs.Frame.{frame_length, ether_type, total_length, udp_length}
use Rattle.frames.specs.Header.{ethernet_bytes, ipv4_bytes, udp_bytes}

field_next : (f left : List ℕ) (at : ℕ) (front : List ℕ) (place width number : ℕ) → left ≡ sets f at front → place ≡ at + length front → place + width ≤ length f
    → with_number_at left place width number ≡ sets f at (front ++ to_bytes width number)
field_next f left at front place width number left_so place-so inside =
    stored-within left place width number (omega (arith, ap length left_so, length-sets f at front))
    ∙ (λ i. sets (left_so i) (place-so i) (to_bytes width number)) ∙ sym (sets-append f at front (to_bytes width number))

pub address-stored : (f : List ℕ) (at : ℕ) (address : List ℕ) → at + 6 ≤ length f → length address ≡ 6 → Bytes address
    → with_number_at (with_number_at f at 4 (number_at address 0 4)) (at + 4) 2 (number_at address 4 2) ≡ sets f at address
address-stored f at address inside long bytes =
    field_next f _ at (to_bytes 4 (number_at address 0 4)) (at + 4) 2 (number_at address 4 2) (stored-within f at 4 (number_at address 0 4) (omega arith)) refl (omega arith)
    ∙ ap (sets f at)
    ((λ i. to_bytes-number_at address bytes 0 4 (omega arith) i ++ to_bytes-number_at address bytes 4 2 (omega arith) i) ∙ written_out 6 address long)

module _ (f : List ℕ) (long : length f ≡ frame_length) where
  pub ethernet-stored : (to from : List ℕ) → length to ≡ 6 → length from ≡ 6
      → with_number_at (sets (sets f 0 to) 6 from) 12 2 ether_type ≡ sets f 0 (ethernet_bytes to from)
  ethernet-stored to from to_long from_long =
      field_next f (sets (sets f 0 to) 6 from) 0 (to ++ from) 12 2 ether_type
      (ap (λ place. sets (sets f 0 to) place from) (omega arith) ∙ sym (sets-append f 0 to from)) (omega (arith, length-append to from)) (omega arith)

  pub ipv4-stored : (from to : ℕ)
      → with_number_at
      (with_number_at (with_number_at (with_number_at (with_number_at (with_number_at (with_number_at f 14 2 17664) 16 2 total_length) 18 4 0) 22 2 16401) 24 2 0) 26 4 from) 30 4 to
      ≡ sets f 14 (ipv4_bytes 0 0 0 64 from to)
  ipv4-stored from to =
      let one = to_bytes 2 17664 in
      let two = one ++ to_bytes 2 total_length in
      let three = two ++ to_bytes 4 0 in
      let four = three ++ to_bytes 2 16401 in
      let five = four ++ to_bytes 2 0 in
      let six = five ++ to_bytes 4 from in
      field_next f _ 14 six 30 4 to
      (field_next f _ 14 five 26 4 from
      (field_next f _ 14 four 24 2 0
      (field_next f _ 14 three 22 2 16401
      (field_next f _ 14 two 18 4 0
      (field_next f _ 14 one 16 2 total_length
      (stored-within f 14 2 17664 (omega arith))
      refl (omega arith))
      refl (omega arith))
      refl (omega arith))
      refl (omega arith))
      refl (omega arith))
      refl (omega arith)

  pub udp-stored : (from to : ℕ)
      → with_number_at (with_number_at (with_number_at (with_number_at f 34 2 from) 36 2 to) 38 2 udp_length) 40 2 0 ≡ sets f 34 (udp_bytes from to)
  udp-stored from to =
      let two = to_bytes 2 from ++ to_bytes 2 to in
      field_next f _ 34 (two ++ to_bytes 2 udp_length) 40 2 0
      (field_next f _ 34 two 38 2 udp_length
      (field_next f _ 34 (to_bytes 2 from) 36 2 to (stored-within f 34 2 from (omega arith)) refl (omega arith))
      refl (omega arith))
      refl (omega arith)
