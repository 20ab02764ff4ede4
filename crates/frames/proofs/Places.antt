-- What is computed of parts of a frame stays where the parts stay: two lists that agree at each place of a part have the same bytes there, and bytes that were
-- stored change no place beside them.
-- Assumes nothing.
use Prim.Native.Nat.{ℕ, zero, suc, ◌+◌, ◌/◌, ◌%◌, ◌≤◌, ◌<◌}
use mathlib.Core.Path.{◌≡◌, refl, sym, ap, ◌∙◌, subst}
use mathlib.Core.Bool.{Bool, true, false, cond, ◌&&◌}
use mathlib.Core.List.{List, [], ◌∷◌, ◌++◌}
use native.Mathlib.Nat.{add-zero}
use native.Mathlib.Omega.{arith}
use lib.Dec.{eqb, leb}
use lib.ListN.{length, get_or, set}
use lib.Seq.{sets, get_or-set_same, get_or-set_other}
use Rattle.numbers.specs.BigEndian.{to_bytes, bytes_at, number_at, with_number_at, Bytes}
use Rattle.numbers.proofs.Bytes.{stored-within, length-to_bytes, Bytes-to_bytes}
use Rattle.numbers.proofs.RoundTrip.{stored-stand, stands-stored}
use Rattle.checksum.specs.Sum.{ones_sum, complement}
use Rattle.frames.specs.Frame.{ether_type, first_byte, total_length, udp_length, protocol, packet_in, ipv4_checksum, sent_as, udp_checksum, carries_udp}
use Rattle.frames.specs.Header.{header_in}

-- ---- parts of any bytes

pub same-part : (p q : List ℕ) (at w : ℕ) → ((i : ℕ) → at ≤ i → i < at + w → get_or p i 0 ≡ get_or q i 0) → bytes_at p at w ≡ bytes_at q at w
same-part p q at zero same = refl
same-part p q at (suc w) same = λ j.
    same at (omega arith) (omega arith) j ∷ same-part p q (at + 1) w (λ i low high. same i (omega arith) (omega arith)) j

pub same_number : (p q : List ℕ) (at w : ℕ) → length p ≡ length q → bytes_at p at w ≡ bytes_at q at w → number_at p at w ≡ number_at q at w
unfolding number_at
same_number p q at w long part = rw (long, part)

pub part_at : (p : List ℕ) (at w i : ℕ) → i < w → get_or (bytes_at p at w) i 0 ≡ get_or p (at + i) 0
part_at p at zero i inside = absurd (omega arith)
part_at p at (suc w) zero inside = ap (λ k. get_or p k 0) (omega arith)
part_at p at (suc w) (suc i) inside = part_at p (at + 1) w i (omega arith) ∙ ap (λ k. get_or p k 0) (omega arith)

-- a byte changed within a part is changed in the part
pub part-set : (p : List ℕ) (at w i new : ℕ) → i < w → at + w ≤ length p → bytes_at (set p (at + i) new) at w ≡ set (bytes_at p at w) i new
part-set p at zero i new inside whole = absurd (omega arith)
part-set p at (suc w) zero new inside whole =
    subst (λ k. bytes_at (set p k new) at (suc w) ≡ set (bytes_at p at (suc w)) 0 new) (sym (add-zero at))
    (λ j. get_or-set_same p at new 0 (omega arith) j ∷ same-part (set p at new) p (at + 1) w (λ k low high. get_or-set_other p at k new 0 (omega arith)) j)
part-set p at (suc w) (suc i) new inside whole =
    let place : at + suc i ≡ at + 1 + i = omega arith in
    λ j.
    get_or-set_other p (at + suc i) at new 0 (omega arith) j
    ∷ (ap (λ k. bytes_at (set p k new) (at + 1) w) place ∙ part-set p (at + 1) w i new (omega arith) (omega arith)) j

pub beside-stored : (p : List ℕ) (at : ℕ) (bytes : List ℕ) (i : ℕ) → (at ≤ i → i < at + length bytes → ⊥) → get_or (sets p at bytes) i 0 ≡ get_or p i 0
beside-stored p at [] i beside = refl
beside-stored p at (b ∷ bytes) i beside =
    beside-stored (set p at b) (suc at) bytes i (λ low high. beside (omega arith) (omega arith))
    ∙ get_or-set_other p at i b 0 (λ same. beside (omega arith) (omega arith))

-- ---- a number that was stored

-- what holds of the bytes with it, and of the bytes as they were, holds of its being stored
pub stored-elim : (P : List ℕ → Type 0) (p : List ℕ) (at w n : ℕ) → P (sets p at (to_bytes w n)) → P p → P (with_number_at p at w n)
unfolding with_number_at
stored-elim P p at w n stored not = either_way (leb (at + w) (length p))
  where
    either_way : (b : Bool) → P (cond b (sets p at (to_bytes w n)) p)
    either_way true = stored
    either_way false = not

pub beside-number : (p : List ℕ) (at w n i : ℕ) → (at ≤ i → i < at + w → ⊥) → get_or (with_number_at p at w n) i 0 ≡ get_or p i 0
beside-number p at w n i beside =
    let wide = length-to_bytes w n in
    stored-elim (λ q. get_or q i 0 ≡ get_or p i 0) p at w n (beside-stored p at (to_bytes w n) i (λ low high. beside low (omega arith))) refl

pub number-stands : (p : List ℕ) (at w n : ℕ) → at + w ≤ length p → bytes_at (with_number_at p at w n) at w ≡ to_bytes w n
number-stands p at w n inside =
    let bytes = to_bytes w n in
    let wide = length-to_bytes w n in
    ap (λ q. bytes_at q at w) (stored-within p at w n inside) ∙ ap (bytes_at (sets p at bytes) at) (sym wide) ∙ stored-stand p at bytes (omega (arith, wide))

pub stored-again : (p : List ℕ) (at w n : ℕ) → bytes_at p at w ≡ to_bytes w n → with_number_at p at w n ≡ p
stored-again p at w n stands = stored-elim (λ q. q ≡ p) p at w n (ap (sets p at) (sym stands) ∙ stands-stored p at w) refl

-- ---- lists of bytes

pub Bytes-set : (p : List ℕ) (at new : ℕ) → Bytes p → new < 256 → Bytes (set p at new)
Bytes-set [] at new bytes fits i = bytes i
Bytes-set (b ∷ p) zero new bytes fits zero = fits
Bytes-set (b ∷ p) zero new bytes fits (suc i) = bytes (suc i)
Bytes-set (b ∷ p) (suc at) new bytes fits zero = bytes 0
Bytes-set (b ∷ p) (suc at) new bytes fits (suc i) = Bytes-set p at new (λ j. bytes (suc j)) fits i

pub Bytes-sets : (p : List ℕ) (at : ℕ) (stored : List ℕ) → Bytes p → Bytes stored → Bytes (sets p at stored)
Bytes-sets p at [] bytes fit = bytes
Bytes-sets p at (b ∷ stored) bytes fit = Bytes-sets (set p at b) (suc at) stored (Bytes-set p at b bytes (fit 0)) (λ i. fit (suc i))

pub Bytes-number : (p : List ℕ) (at w n : ℕ) → Bytes p → Bytes (with_number_at p at w n)
Bytes-number p at w n bytes = stored-elim Bytes p at w n (Bytes-sets p at (to_bytes w n) bytes (Bytes-to_bytes w n)) bytes

-- ---- the header

-- two frames as long as each other, with the same header but for its two checksums
pub record SameHeader (p q : List ℕ) : Type 0 where
  pub long : length p ≡ length q
  pub front : (i : ℕ) → i < 24 → get_or p i 0 ≡ get_or q i 0
  pub middle : (i : ℕ) → 26 ≤ i → i < 40 → get_or p i 0 ≡ get_or q i 0

module _ (p q : List ℕ) (same : SameHeader p q) where
  pub front-part : (at w : ℕ) → at + w ≤ 24 → bytes_at p at w ≡ bytes_at q at w
  front-part at w ends = same-part p q at w (λ i low high. same.front i (omega arith))

  pub middle-part : (at w : ℕ) → 26 ≤ at → at + w ≤ 40 → bytes_at p at w ≡ bytes_at q at w
  middle-part at w begins ends = same-part p q at w (λ i low high. same.middle i (omega arith) (omega arith))

  pub front-number : (at w : ℕ) → at + w ≤ 24 → number_at p at w ≡ number_at q at w
  front-number at w ends = same_number p q at w same.long (front-part at w ends)

  pub middle-number : (at w : ℕ) → 26 ≤ at → at + w ≤ 40 → number_at p at w ≡ number_at q at w
  middle-number at w begins ends = same_number p q at w same.long (middle-part at w begins ends)

  pub same-carries : carries_udp p ≡ carries_udp q
  unfolding carries_udp
  same-carries = λ j.
      eqb (front-number 12 2 (omega arith) j) ether_type && eqb (same.front 14 (omega arith) j) first_byte && eqb (front-number 16 2 (omega arith) j) total_length
      && eqb (front-number 20 2 (omega arith) j % 16384) 0 && eqb (same.front 23 (omega arith) j) protocol

  pub same-ipv4 : ipv4_checksum p ≡ ipv4_checksum q
  unfolding ipv4_checksum
  same-ipv4 = λ j. complement (ones_sum (front-part 14 10 (omega arith) j ++ to_bytes 2 0 ++ middle-part 26 8 (omega arith) (omega arith) j))

  pub same-udp : packet_in p ≡ packet_in q → udp_checksum p ≡ udp_checksum q
  unfolding udp_checksum
  same-udp packets = λ j.
      let pseudo : List ℕ = middle-part 26 8 (omega arith) (omega arith) j ++ (0 ∷ protocol ∷ []) ++ to_bytes 2 udp_length in
      sent_as (complement (ones_sum (pseudo ++ middle-part 34 6 (omega arith) (omega arith) j ++ to_bytes 2 0 ++ packets j)))

  pub same-fields : header_in p ≡ header_in q
  unfolding header_in
  same-fields = λ j. record {
    ethernet_to = front-part 0 6 (omega arith) j;
    ethernet_from = front-part 6 6 (omega arith) j;
    service = same.front 15 (omega arith) j;
    identification = front-number 18 2 (omega arith) j;
    flags = front-number 20 2 (omega arith) j / 16384;
    time_to_live = same.front 22 (omega arith) j;
    ip_from = middle-number 26 4 (omega arith) (omega arith) j;
    ip_to = middle-number 30 4 (omega arith) (omega arith) j;
    port_from = middle-number 34 2 (omega arith) (omega arith) j;
    port_to = middle-number 36 2 (omega arith) (omega arith) j;
  }
