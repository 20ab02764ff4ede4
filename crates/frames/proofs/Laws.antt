-- Laws for callers, so that none of them opens what a frame is: what passes, what sealing sets and what it leaves, and a packet put into a frame that passed.
-- No checksum is computed of bytes 24, 25, 40 or 41, so that both stay what they are as they are stored.
-- Assumes nothing.
use Prim.Native.Nat.{ℕ, ◌+◌, ◌%◌, ◌^◌, ◌≤◌, ◌<◌}
use mathlib.Core.Path.{◌≡◌, refl, sym, ap, ◌∙◌}
use mathlib.Core.Bool.{Bool, true, false, ◌&&◌}
use mathlib.Core.List.{List}
use native.Mathlib.Omega.{arith}
use lib.Dec.{eqb}
use lib.ListN.{length, get_or}
use lib.Seq.{length-sets}
use borrow.Author.Tests.{eqb-true, eq-eqb}
use Rattle.numbers.specs.BigEndian.{big_endian, to_bytes, bytes_at, number_at, with_number_at, Bytes}
use Rattle.numbers.proofs.Bytes.{number-within, length-with_number_at, big_endian-to_bytes, to_bytes-number_at}
use Rattle.numbers.proofs.RoundTrip.{stored-stand, stands-stored}
use Rattle.basics.specs.declared.Verdict.TheVariants.{Done}
use Rattle.basics.specs.Ladder.{need◌or◌then◌}
use Rattle.basics.specs.Verdict.{verdict_number}
use Rattle.basics.proofs.Ladder.{by-test, if-elim, if-true, if-false, both_true, and-true, need-elim, need-passed}
use Rattle.wire.specs.Packet.{packet_length}
use Rattle.player.specs.Promises.{OneOf}
use Rattle.player.proofs.Numbers.{one_of}
use Rattle.frames.specs.Frame.{frame_length, ether_type, first_byte, total_length, udp_length, protocol, packet_in, with_packet}
use Rattle.frames.specs.Frame.{ipv4_checksum, sent_as, udp_checksum, carries_udp, frame_check, Passes, sealed}
use Rattle.frames.specs.Promises.{frame_refusals, Refused, SealedStays, SealedTwice, OthersStay}
use Rattle.frames.proofs.Places.{same-part, beside-stored, beside-number, number-stands, stored-again, Bytes-number}
use Rattle.frames.proofs.Places.{SameHeader, middle-number, same-carries, same-ipv4, same-udp}

-- ---- passing

-- what a frame that passes keeps, test by test
pub record Passed (port : ℕ) (f : List ℕ) : Type 0 where
  pub long : length f ≡ frame_length
  pub carries : carries_udp f ≡ true
  pub ipv4 : number_at f 24 2 ≡ ipv4_checksum f
  pub sized : number_at f 38 2 ≡ udp_length
  pub port-so : number_at f 36 2 ≡ port
  pub udp : number_at f 40 2 ≡ udp_checksum f

-- a ladder that comes to "done" passed its first test
passed_first : (b : Bool) (refusal rest : ℕ) → refusal < verdict_number Done → (need b or refusal then rest) ≡ verdict_number Done
    → (b ≡ true) × (rest ≡ verdict_number Done)
unfolding need◌or◌then◌
passed_first true refusal rest low e = (refl, e)
passed_first false refusal rest low e = absurd (omega arith)

module _ {port : ℕ} {f : List ℕ} where
  pub passed : Passes port f → Passed port f
  unfolding frame_check
  passed e =
      let a = passed_first (eqb (length f) frame_length) 21 _ (omega arith) e in
      let b = passed_first (carries_udp f) 22 _ (omega arith) a.1 in
      let c = passed_first (eqb (number_at f 24 2) (ipv4_checksum f)) 23 _ (omega arith) b.1 in
      let d = passed_first (eqb (number_at f 38 2) udp_length && eqb (number_at f 36 2) port) 24 _ (omega arith) c.1 in
      let u = passed_first (eqb (number_at f 40 2) (udp_checksum f)) 25 _ (omega arith) d.1 in
      let both = both_true (eqb (number_at f 38 2) udp_length) (eqb (number_at f 36 2) port) d.0 in
      record {
        long = eqb-true _ _ a.0;
        carries = b.0;
        ipv4 = eqb-true _ _ c.0;
        sized = eqb-true _ _ both.0;
        port-so = eqb-true _ _ both.1;
        udp = eqb-true _ _ u.0;
      }

  pub passes : Passed port f → Passes port f
  unfolding frame_check
  passes h =
      need-passed _ _ (eq-eqb _ _ h.long) ∙ need-passed _ _ h.carries ∙ need-passed _ _ (eq-eqb _ _ h.ipv4)
      ∙ need-passed _ _ (and-true (eq-eqb _ _ h.sized) (eq-eqb _ _ h.port-so)) ∙ need-passed _ _ (eq-eqb _ _ h.udp)

-- what holds of every number that checking answers holds of its answer
pub check-elim : (P : ℕ → Type 0) (port : ℕ) (f : List ℕ) → P 21 → P 22 → P 23 → P 24 → P 25 → P (verdict_number Done) → P (frame_check port f)
unfolding frame_check
check-elim P port f length-no carries-no ipv4-no port-no udp-no done =
    need-elim P _ _ _ length-no λ _.
    need-elim P _ _ _ carries-no λ _.
    need-elim P _ _ _ ipv4-no λ _.
    need-elim P _ _ _ port-no λ _.
    need-elim P _ _ _ udp-no λ _. done

-- a frame that does not pass is refused
pub refused : (port : ℕ) (f : List ℕ) → (Passes port f → ⊥) → Refused port f
refused port f =
    check-elim (λ number. (number ≡ verdict_number Done → ⊥) → OneOf number frame_refusals) port f
    (λ _. one_of 21 frame_refusals refl) (λ _. one_of 22 frame_refusals refl) (λ _. one_of 23 frame_refusals refl)
    (λ _. one_of 24 frame_refusals refl) (λ _. one_of 25 frame_refusals refl) (λ not_done. absurd (not_done refl))

-- what a frame that carries UDP has fixed
pub record Carries (f : List ℕ) : Type 0 where
  pub type-so : number_at f 12 2 ≡ ether_type
  pub first_so : get_or f 14 0 ≡ first_byte
  pub total-so : number_at f 16 2 ≡ total_length
  pub whole : number_at f 20 2 % 16384 ≡ 0
  pub protocol-so : get_or f 23 0 ≡ protocol

pub carried : {f : List ℕ} → carries_udp f ≡ true → Carries f
unfolding carries_udp
carried {f} e =
    let a = both_true _ (eqb (get_or f 23 0) protocol) e in
    let b = both_true _ (eqb (number_at f 20 2 % 16384) 0) a.0 in
    let c = both_true _ (eqb (number_at f 16 2) total_length) b.0 in
    let d = both_true (eqb (number_at f 12 2) ether_type) (eqb (get_or f 14 0) first_byte) c.0 in
    record {
      type-so = eqb-true _ _ d.0;
      first_so = eqb-true _ _ d.1;
      total-so = eqb-true _ _ c.1;
      whole = eqb-true _ _ b.1;
      protocol-so = eqb-true _ _ a.1;
    }

-- ---- sealing

ipv4-fits : (f : List ℕ) → ipv4_checksum f < 2 ^ 16
unfolding ipv4_checksum
ipv4-fits f = omega arith

udp-fits : (f : List ℕ) → udp_checksum f < 2 ^ 16
unfolding udp_checksum sent_as
udp-fits f = if-elim (λ sent. sent < 2 ^ 16) _ _ _ (λ _. omega arith) (λ _. omega arith)

-- what holds of 78 bytes with both checksums stored, and of the frame as it was, holds of sealing it
module _ (P : List ℕ → Type 0) (f : List ℕ) where
  sealed-elim : (length f ≡ frame_length → P (with_number_at (with_number_at f 24 2 (ipv4_checksum f)) 40 2 (udp_checksum f))) → P f → P (sealed f)
  unfolding sealed
  sealed-elim long short = if-elim P _ _ _ (λ e. long (eqb-true (length f) frame_length e)) (λ _. short)

pub long-sealed : (f : List ℕ) → length f ≡ frame_length → sealed f ≡ with_number_at (with_number_at f 24 2 (ipv4_checksum f)) 40 2 (udp_checksum f)
unfolding sealed
long-sealed f long = if-true _ _ (eq-eqb (length f) frame_length long)

pub length-sealed : (f : List ℕ) → length (sealed f) ≡ length f
length-sealed f =
    sealed-elim (λ s. length s ≡ length f) f
    (λ _. length-with_number_at (with_number_at f 24 2 (ipv4_checksum f)) 40 2 (udp_checksum f) ∙ length-with_number_at f 24 2 (ipv4_checksum f)) refl

pub others-stay : OthersStay
others-stay f i not24 not25 not40 not41 =
    sealed-elim (λ s. get_or s i 0 ≡ get_or f i 0) f
    (λ _. beside-number (with_number_at f 24 2 (ipv4_checksum f)) 40 2 (udp_checksum f) i (λ low high. omega arith)
    ∙ beside-number f 24 2 (ipv4_checksum f) i (λ low high. omega arith))
    refl

pub sealed-header : (f : List ℕ) → SameHeader (sealed f) f
sealed-header f = record {
  long = length-sealed f;
  front = λ i low. others-stay f i (omega arith) (omega arith) (omega arith) (omega arith);
  middle = λ i low high. others-stay f i (omega arith) (omega arith) (omega arith) (omega arith);
}

pub sealed-packet : (f : List ℕ) → packet_in (sealed f) ≡ packet_in f
sealed-packet f = same-part (sealed f) f 42 packet_length (λ i low high. others-stay f i (omega arith) (omega arith) (omega arith) (omega arith))

pub sealed-ipv4 : (f : List ℕ) → ipv4_checksum (sealed f) ≡ ipv4_checksum f
sealed-ipv4 f = same-ipv4 (sealed f) f (sealed-header f)

pub sealed-udp : (f : List ℕ) → udp_checksum (sealed f) ≡ udp_checksum f
sealed-udp f = same-udp (sealed f) f (sealed-header f) (sealed-packet f)

-- each checksum stands where it was set
ipv4-stands : (f : List ℕ) → length f ≡ frame_length → bytes_at (sealed f) 24 2 ≡ to_bytes 2 (ipv4_checksum f)
ipv4-stands f long =
    let first = with_number_at f 24 2 (ipv4_checksum f) in
    ap (λ s. bytes_at s 24 2) (long-sealed f long)
    ∙ same-part (with_number_at first 40 2 (udp_checksum f)) first 24 2 (λ i low high. beside-number first 40 2 (udp_checksum f) i (λ above below. omega arith))
    ∙ number-stands f 24 2 (ipv4_checksum f) (omega arith)

udp-stands : (f : List ℕ) → length f ≡ frame_length → bytes_at (sealed f) 40 2 ≡ to_bytes 2 (udp_checksum f)
udp-stands f long =
    let first = with_number_at f 24 2 (ipv4_checksum f) in
    ap (λ s. bytes_at s 40 2) (long-sealed f long)
    ∙ number-stands first 40 2 (udp_checksum f) (omega (arith, length-with_number_at f 24 2 (ipv4_checksum f)))

-- a frame in which both stand stays as it is
stands-sealed : (f : List ℕ) → bytes_at f 24 2 ≡ to_bytes 2 (ipv4_checksum f) → bytes_at f 40 2 ≡ to_bytes 2 (udp_checksum f) → sealed f ≡ f
stands-sealed f ipv4 udp =
    sealed-elim (λ s. s ≡ f) f
    (λ _. ap (λ g. with_number_at g 40 2 (udp_checksum f)) (stored-again f 24 2 (ipv4_checksum f) ipv4) ∙ stored-again f 40 2 (udp_checksum f) udp) refl

pub sealed-twice : SealedTwice
unfolding sealed
sealed-twice f = by-test (eqb (length f) frame_length)
    (λ e. let long = eqb-true (length f) frame_length e in
    stands-sealed (sealed f) (ipv4-stands f long ∙ ap (to_bytes 2) (sym (sealed-ipv4 f))) (udp-stands f long ∙ ap (to_bytes 2) (sym (sealed-udp f))))
    (λ e. ap sealed (if-false _ _ e))

pub sealed-stays : SealedStays
sealed-stays port f bytes e =
    let h = passed e in
    stands-sealed f (sym (to_bytes-number_at f bytes 24 2 (omega arith)) ∙ ap (to_bytes 2) h.ipv4)
    (sym (to_bytes-number_at f bytes 40 2 (omega arith)) ∙ ap (to_bytes 2) h.udp)

-- a number is read where its bytes stand
stands-number : (p : List ℕ) (at w n : ℕ) → at + w ≤ length p → n < 256 ^ w → bytes_at p at w ≡ to_bytes w n → number_at p at w ≡ n
stands-number p at w n inside fits stands = number-within p at w inside ∙ ap big_endian stands ∙ big_endian-to_bytes w n fits

pub sealed-passes : (port : ℕ) (f : List ℕ) → length f ≡ frame_length → carries_udp f ≡ true → number_at f 38 2 ≡ udp_length → number_at f 36 2 ≡ port
    → Passes port (sealed f)
sealed-passes port f long carries sized port-so =
    let s = sealed f in
    let same = sealed-header f in
    let as_long = length-sealed f in
    passes (record {
      long = as_long ∙ long;
      carries = same-carries s f same ∙ carries;
      ipv4 = stands-number s 24 2 (ipv4_checksum f) (omega arith) (ipv4-fits f) (ipv4-stands f long) ∙ sym (sealed-ipv4 f);
      sized = middle-number s f same 38 2 (omega arith) (omega arith) ∙ sized;
      port-so = middle-number s f same 36 2 (omega arith) (omega arith) ∙ port-so;
      udp = stands-number s 40 2 (udp_checksum f) (omega arith) (udp-fits f) (udp-stands f long) ∙ sym (sealed-udp f);
    })

pub bytes-sealed : (f : List ℕ) → Bytes f → Bytes (sealed f)
bytes-sealed f bytes =
    sealed-elim Bytes f (λ _. Bytes-number (with_number_at f 24 2 (ipv4_checksum f)) 40 2 (udp_checksum f) (Bytes-number f 24 2 (ipv4_checksum f) bytes)) bytes

-- ---- a packet put into a frame

pub same-packet : (f : List ℕ) → with_packet f (packet_in f) ≡ f
same-packet f = stands-stored f 42 packet_length

module _ (f p : List ℕ) where
  pub repacked-header : SameHeader (with_packet f p) f
  repacked-header = record {
    long = length-sets f 42 p;
    front = λ i low. beside-stored f 42 p i (λ above below. omega arith);
    middle = λ i low high. beside-stored f 42 p i (λ above below. omega arith);
  }

  pub header_stays : (index : ℕ) → index < 42 → (index ≡ 24 → ⊥) → (index ≡ 25 → ⊥) → (index ≡ 40 → ⊥) → (index ≡ 41 → ⊥)
      → get_or (sealed (with_packet f p)) index 0 ≡ get_or f index 0
  header_stays index before not24 not25 not40 not41 =
      others-stay (with_packet f p) index not24 not25 not40 not41 ∙ beside-stored f 42 p index (λ above below. omega arith)

  pub packet_back : length f ≡ frame_length → length p ≡ packet_length → packet_in (sealed (with_packet f p)) ≡ p
  packet_back long whole =
      sealed-packet (with_packet f p) ∙ ap (bytes_at (with_packet f p) 42) (sym whole) ∙ stored-stand f 42 p (omega arith)

pub repacked-passes : (port : ℕ) (f p : List ℕ) → Passes port f → Passes port (sealed (with_packet f p))
repacked-passes port f p e =
    let h = passed e in
    let same = repacked-header f p in
    sealed-passes port (with_packet f p) (same.long ∙ h.long) (same-carries (with_packet f p) f same ∙ h.carries)
    (middle-number (with_packet f p) f same 38 2 (omega arith) (omega arith) ∙ h.sized)
    (middle-number (with_packet f p) f same 36 2 (omega arith) (omega arith) ∙ h.port-so)
