-- A frame with one byte changed is refused: in a frame that passes the EtherType is fixed, and the words of the IPv4 header, and those of UDP with the pseudo
-- header, sum up to multiples of 65,535; no one byte can change and leave such a sum a multiple.
-- Assumes nothing.
use Prim.Native.Nat.{ℕ, zero, suc, ◌+◌, ◌-◌, ◌/◌, ◌%◌, ◌^◌, ◌≤◌, ◌<◌}
use mathlib.Core.Path.{◌≡◌, refl, sym, ap, ◌∙◌}
use mathlib.Core.List.{List, [], ◌∷◌, ◌++◌}
use native.Mathlib.Omega.{arith}
use lib.Dec.{ltb}
use lib.ListN.{length, get_or, set}
use lib.Seq.{get_or-set_other}
use borrow.Author.Tests.{eqb-true, eqb-false, ltb-true, ltb-false}
use Rattle.numbers.specs.BigEndian.{to_bytes, bytes_at, number_at, Bytes}
use Rattle.numbers.proofs.Bytes.{number-within, bytes_at-add, length-bytes_at, Bytes-bytes_at}
use Rattle.basics.proofs.Ladder.{by-test, if-elim}
use Rattle.checksum.specs.Sum.{ones_sum, complement}
use Rattle.checksum.specs.Promises.{plain_sum}
use Rattle.checksum.proofs.Laws.{plain-append, complement-closes, one-byte-tells}
use Rattle.wire.specs.Packet.{packet_length}
use Rattle.frames.specs.Frame.{frame_length, udp_length, protocol, packet_in, pseudo_header, sent_as, ipv4_checksum, udp_checksum}
use Rattle.frames.specs.Promises.{ByteRefused, flipped, FlipRefused}
use Rattle.frames.proofs.Places.{same-part, part_at, part-set, Bytes-set}
use Rattle.frames.proofs.Sums.{sum-without-field, before-bytes}
use Rattle.frames.proofs.Laws.{Passed, passed, refused, carried}

-- ---- sums of frames that pass

-- a field of two bytes weighs its number
field-weighs : (f : List ℕ) (at : ℕ) → at + 2 ≤ length f → plain_sum (bytes_at f at 2) ≡ number_at f at 2
unfolding plain_sum
field-weighs f at inside = let so = number-within f at 2 inside in omega arith

-- words, a field, and words again sum up part by part
part-sums : (f : List ℕ) (at v w : ℕ) → v % 2 ≡ 0
    → plain_sum (bytes_at f at (v + (2 + w))) ≡ plain_sum (bytes_at f at v) + (plain_sum (bytes_at f (at + v) 2) + plain_sum (bytes_at f (at + v + 2) w))
part-sums f at v w even =
    ap plain_sum (bytes_at-add f at v (2 + w)) ∙ plain-append (bytes_at f at v) (bytes_at f (at + v) (2 + w)) (ap (λ n. n % 2) (length-bytes_at f at v) ∙ even)
    ∙ ap (λ sum. plain_sum (bytes_at f at v) + sum)
    (ap plain_sum (bytes_at-add f (at + v) 2 w) ∙ plain-append (bytes_at f (at + v) 2) (bytes_at f (at + v + 2) w) refl)

module _ (before after : List ℕ) (bytes-before : Bytes before) (bytes_after : Bytes after) (even : length before % 2 ≡ 0) where
  -- the complement of the sum, in its place, makes the sum a multiple of 65,535
  field-closes : (plain_sum before + plain_sum after + complement (ones_sum (before ++ to_bytes 2 0 ++ after))) % 65535 ≡ 0
  field-closes =
      let plain = plain_sum before + plain_sum after in
      ap (λ sum. (plain + complement sum) % 65535) (sum-without-field before after bytes-before bytes_after even) ∙ complement-closes plain

-- zero sent as all ones changes no residue
sent-closes : (sum computed : ℕ) → (sum + computed) % 65535 ≡ 0 → (sum + sent_as computed) % 65535 ≡ 0
unfolding sent_as
sent-closes sum computed closed =
    if-elim (λ sent. (sum + sent) % 65535 ≡ 0) _ _ _ (λ e. let none = eqb-true computed 0 e in omega arith) (λ _. closed)

module _ (port : ℕ) (f : List ℕ) (bytes : Bytes f) (h : Passed port f) where
  ipv4-closes : (plain_sum (bytes_at f 14 20) + 0) % 65535 ≡ 0
  unfolding ipv4_checksum
  ipv4-closes =
      let long = h.long in
      let closed = field-closes (bytes_at f 14 10) (bytes_at f 26 8) (Bytes-bytes_at f bytes 14 10) (Bytes-bytes_at f bytes 26 8) refl in
      let parts = part-sums f 14 10 8 refl in
      let field = field-weighs f 24 (omega arith) ∙ h.ipv4 in
      omega (arith, closed, parts, field)

  udp-closes : (plain_sum (bytes_at f 34 44) + plain_sum (pseudo_header f)) % 65535 ≡ 0
  unfolding udp_checksum
  udp-closes =
      let long = h.long in
      let before = pseudo_header f ++ bytes_at f 34 6 in
      let sum = plain_sum before + plain_sum (packet_in f) in
      let closed = sent-closes sum _ (field-closes before (packet_in f) (before-bytes f bytes) (Bytes-bytes_at f bytes 42 packet_length) refl) in
      let parts = part-sums f 34 6 36 refl in
      let front = plain-append (pseudo_header f) (bytes_at f 34 6) refl in
      let field = field-weighs f 40 (omega arith) ∙ h.udp in
      omega (arith, closed, parts, front, field)

  type-closes : (plain_sum (bytes_at f 12 2) + 63487) % 65535 ≡ 0
  type-closes =
      let long = h.long in
      let field = field-weighs f 12 (omega arith) ∙ (carried h.carries).type-so in
      omega (arith, field)

-- ---- one byte

-- a part and what stands beside it that sum up to a multiple of 65,535 do not so once one byte of the part is another
part-tells : (f : List ℕ) (at w beside index new : ℕ) → Bytes f → at ≤ index → index < at + w → at + w ≤ length f → new < 256 → (new ≡ get_or f index 0 → ⊥)
    → (plain_sum (bytes_at f at w) + beside) % 65535 ≡ 0 → (plain_sum (bytes_at (set f index new) at w) + beside) % 65535 ≡ 0 → ⊥
part-tells f at w beside index new bytes begins ends whole fits other before after =
    let i = index - at in
    let place : index ≡ at + i = omega arith in
    let stands = part_at f at w i (omega arith) in
    let changed : bytes_at (set f index new) at w ≡ set (bytes_at f at w) i new =
    ap (λ k. bytes_at (set f k new) at w) place ∙ part-set f at w i new (omega arith) whole in
    let wide = length-bytes_at f at w in
    one-byte-tells (bytes_at f at w) i new beside (omega arith) (Bytes-bytes_at f bytes at w i) fits
    (λ same. other (same ∙ stands ∙ ap (λ k. get_or f k 0) (sym place))) before (rw changed at after)

pub byte-refused : ByteRefused
byte-refused port f bytes e index new begins ends fits other = refused port g (λ still. go (passed still))
  where
    g : List ℕ
    g = set f index new

    h : Passed port f
    h = passed e

    g-bytes : Bytes g
    g-bytes = Bytes-set f index new bytes fits

    go : Passed port g → ⊥
    go k =
        let long = h.long in
        let tell : (at w beside : ℕ) → at ≤ index → index < at + w → at + w ≤ frame_length → (plain_sum (bytes_at f at w) + beside) % 65535 ≡ 0
        → (plain_sum (bytes_at g at w) + beside) % 65535 ≡ 0 → ⊥ =
        λ at w beside low high whole. part-tells f at w beside index new bytes low high (omega arith) fits other in
        by-test (ltb index 14)
        (λ e. tell 12 2 63487 begins (ltb-true index 14 e) (omega arith) (type-closes port f bytes h) (type-closes port g g-bytes k)) λ e.
        let after = ltb-false index 14 e in
        by-test (ltb index 34)
        (λ e. tell 14 20 0 after (ltb-true index 34 e) (omega arith) (ipv4-closes port f bytes h) (ipv4-closes port g g-bytes k)) λ e.
        let behind = ltb-false index 34 e in
        let same : pseudo_header g ≡ pseudo_header f =
        ap (λ ips. ips ++ (0 ∷ protocol ∷ []) ++ to_bytes 2 udp_length) (same-part g f 26 8 (λ i low high. get_or-set_other f index i new 0 (omega arith))) in
        tell 34 44 (plain_sum (pseudo_header f)) behind ends (omega arith) (udp-closes port f bytes h)
        (ap (λ p. (plain_sum (bytes_at g 34 44) + plain_sum p) % 65535) (sym same) ∙ udp-closes port g g-bytes k)

-- ---- one bit

-- of a byte and a power of two: the bit can be added where it is not, and taken away where it is
record Turned (power byte : ℕ) : Type 0 where
  up : byte / power % 2 ≡ 0 → byte + power < 256
  down : (byte / power % 2 ≡ 0 → ⊥) → power ≤ byte
  some : 0 < power

turned : (bit byte : ℕ) → bit < 8 → byte < 256 → Turned (2 ^ bit) byte
turned zero byte small fits = omega arith
turned (suc zero) byte small fits = omega arith
turned (suc (suc zero)) byte small fits = omega arith
turned (suc (suc (suc zero))) byte small fits = omega arith
turned (suc (suc (suc (suc zero)))) byte small fits = omega arith
turned (suc (suc (suc (suc (suc zero))))) byte small fits = omega arith
turned (suc (suc (suc (suc (suc (suc zero)))))) byte small fits = omega arith
turned (suc (suc (suc (suc (suc (suc (suc zero))))))) byte small fits = omega arith
turned (suc (suc (suc (suc (suc (suc (suc (suc bit)))))))) byte small fits = absurd (omega arith)

flipped-fits : (bit byte : ℕ) → bit < 8 → byte < 256 → flipped bit byte < 256
unfolding flipped
flipped-fits bit byte small fits =
    let t = turned bit byte small fits in
    if-elim (λ new. new < 256) _ _ _ (λ e. t.up (eqb-true _ 0 e)) (λ _. omega arith)

flipped-other : (bit byte : ℕ) → bit < 8 → byte < 256 → flipped bit byte ≡ byte → ⊥
unfolding flipped
flipped-other bit byte small fits =
    let t = turned bit byte small fits in
    if-elim (λ new. new ≡ byte → ⊥) _ _ _ (λ _ same. omega (arith, t.some)) (λ e same. omega (arith, t.some, t.down (eqb-false _ 0 e)))

pub flip-refused : FlipRefused
flip-refused port f bytes e index bit begins ends small =
    let byte = get_or f index 0 in
    byte-refused port f bytes e index (flipped bit byte) begins ends (flipped-fits bit byte small (bytes index)) (flipped-other bit byte small (bytes index))
