-- The checksums as the code sums them: part by part, without a zero for the field, and for UDP in another order. Sums of parts add, and a sum is the residue of
-- the plain sum, which has no order.
-- Assumes nothing.
use Prim.Native.Nat.{ℕ, ◌+◌, ◌%◌, ◌≤◌, ◌<◌}
use mathlib.Core.Path.{◌≡◌, refl, sym, ap, ◌∙◌}
use mathlib.Core.List.{List, ◌++◌}
use native.Mathlib.Nat.{zero-add}
use native.Mathlib.Omega.{arith}
use lib.ListN.{length, take, drop, length-append}
use borrow.Author.Tests.{eq-eqb, ne_eqb}
use Rattle.numbers.specs.BigEndian.{to_bytes, bytes_at, Bytes}
use Rattle.numbers.proofs.Bytes.{bytes_at-part, Bytes-append, Bytes-to_bytes, Bytes-bytes_at}
use Rattle.basics.proofs.Ladder.{if-true, if-false}
use Rattle.wire.specs.Packet.{packet_length}
use Rattle.checksum.specs.Sum.{sum_onto, ones_sum, complement}
use Rattle.checksum.specs.Promises.{plain_sum, residue}
use Rattle.checksum.proofs.Laws.{sum-is-residue, parts_add, plain-append}
use Rattle.frames.specs.Frame.{frame_length, protocol, udp_length, packet_in, pseudo_header, ipv4_checksum, udp_checksum, sent_as}

pub sent-zero : (computed : ℕ) → computed ≡ 0 → 65535 ≡ sent_as computed
unfolding sent_as
sent-zero computed none = sym (if-true 65535 computed (eq-eqb computed 0 none))

pub sent-other : (computed : ℕ) → (computed ≡ 0 → ⊥) → computed ≡ sent_as computed
unfolding sent_as
sent-other computed some = sym (if-false 65535 computed (ne_eqb computed 0 some))

-- a field taken as zero adds nothing
pub sum-without-field : (before after : List ℕ) → Bytes before → Bytes after → length before % 2 ≡ 0
    → ones_sum (before ++ to_bytes 2 0 ++ after) ≡ residue (plain_sum before + plain_sum after)
unfolding plain_sum
sum-without-field before after bytes-before bytes_after even =
    let long = length-append before (to_bytes 2 0) in
    let front = plain-append before (to_bytes 2 0) even in
    let whole = plain-append (before ++ to_bytes 2 0) after (omega arith) in
    sum-is-residue 0 (before ++ to_bytes 2 0 ++ after) (omega arith)
    (Bytes-append (before ++ to_bytes 2 0) after (Bytes-append before (to_bytes 2 0) bytes-before (Bytes-to_bytes 2 0)) bytes_after)
    ∙ ap residue (omega arith)

-- one part summed onto the other
sum-of-parts : (carried : ℕ) (first second : List ℕ) → carried < 65536 → Bytes first → Bytes second → length first % 2 ≡ 0
    → sum_onto (sum_onto carried first) second ≡ residue (carried + (plain_sum first + plain_sum second))
sum-of-parts carried first second low bytes-first bytes-second even =
    sym (parts_add carried first second even)
    ∙ sum-is-residue carried (first ++ second) low (Bytes-append first second bytes-first bytes-second)
    ∙ ap (λ plain. residue (carried + plain)) (plain-append first second even)

-- the addresses and the UDP header in one part, and the words that are the same in every frame
another-order : (f : List ℕ) (packet : ℕ) → 61 + (plain_sum (bytes_at f 26 14) + packet) ≡ plain_sum (pseudo_header f ++ bytes_at f 34 6) + packet
unfolding plain_sum
another-order f packet = omega arith

module _ (f : List ℕ) (bytes : Bytes f) where
  field : (at w : ℕ) → Bytes (bytes_at f at w)
  field = Bytes-bytes_at f bytes

  -- what stands before the UDP checksum in its sum
  pub before-bytes : Bytes (pseudo_header f ++ bytes_at f 34 6)
  before-bytes =
      Bytes-append (pseudo_header f) (bytes_at f 34 6)
      (Bytes-append (bytes_at f 26 8) (to_bytes 2 protocol ++ to_bytes 2 udp_length) (field 26 8)
      (Bytes-append (to_bytes 2 protocol) (to_bytes 2 udp_length) (Bytes-to_bytes 2 protocol) (Bytes-to_bytes 2 udp_length)))
      (field 34 6)

  module _ (long : length f ≡ frame_length) where
    part : (at w : ℕ) → at + w ≤ frame_length → take w (drop at f) ≡ bytes_at f at w
    part at w inside = sym (bytes_at-part f at w (omega arith))

    pub ipv4-summed : (before whole : ℕ) → before ≡ sum_onto 0 (take 10 (drop 14 f)) → whole ≡ sum_onto before (take 8 (drop 26 f)) → complement whole ≡ ipv4_checksum f
    unfolding ipv4_checksum
    ipv4-summed before whole before-so whole-so =
        ap complement
        (whole-so ∙ (λ i. sum_onto ((before-so ∙ ap (sum_onto 0) (part 14 10 (omega arith))) i) (part 26 8 (omega arith) i))
        ∙ sum-of-parts 0 (bytes_at f 14 10) (bytes_at f 26 8) (omega arith) (field 14 10) (field 26 8) refl
        ∙ ap residue (zero-add (plain_sum (bytes_at f 14 10) + plain_sum (bytes_at f 26 8)))
        ∙ sym (sum-without-field (bytes_at f 14 10) (bytes_at f 26 8) (field 14 10) (field 26 8) refl))

    pub udp-summed : (before whole : ℕ) → before ≡ sum_onto 61 (take 14 (drop 26 f)) → whole ≡ sum_onto before (take 36 (drop 42 f))
        → sent_as (complement whole) ≡ udp_checksum f
    unfolding udp_checksum
    udp-summed before whole before-so whole-so =
        let words : 61 + (plain_sum (bytes_at f 26 14) + plain_sum (packet_in f)) ≡ plain_sum (pseudo_header f ++ bytes_at f 34 6) + plain_sum (packet_in f) =
        another-order f (plain_sum (packet_in f)) in
        ap (λ sum. sent_as (complement sum))
        (whole-so ∙ (λ i. sum_onto ((before-so ∙ ap (sum_onto 61) (part 26 14 (omega arith))) i) (part 42 36 (omega arith) i))
        ∙ sum-of-parts 61 (bytes_at f 26 14) (packet_in f) (omega arith) (field 26 14) (field 42 packet_length) refl
        ∙ ap residue words
        ∙ sym (sum-without-field (pseudo_header f ++ bytes_at f 34 6) (packet_in f) before-bytes (field 42 packet_length) refl))
