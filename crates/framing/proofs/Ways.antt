-- Each way out of framing a prepare is what the definition says, by the tests that led there; and what is stored is the frame of header and packet.
-- Assumes nothing.
use Prim.Native.Nat.{ℕ, ◌+◌}
use mathlib.Core.Path.{◌≡◌, refl, sym, ap, ◌∙◌}
use mathlib.Core.List.{List, ◌++◌, append-nil}
use native.Mathlib.Omega.{arith}
use lib.ListN.{length, take, drop, length-append, drop_of_length-le}
use lib.Seq.{sets, sets-eq, length-sets}
use borrow.Author.Tests.{eq-eqb, ne_eqb}
use borrow.Rule.Slice.PartMut.{put_mid}
use Rattle.numbers.specs.BigEndian.{to_bytes}
use Rattle.numbers.proofs.Bytes.{sets-append}
use Rattle.basics.specs.declared.Instance.{Instance}
use Rattle.basics.specs.declared.Round.{Round}
use Rattle.basics.specs.declared.Verdict.TheVariants.{Done}
use Rattle.basics.specs.Ladder.{need◌or◌then◌}
use Rattle.basics.specs.Outcome.{outcome}
use Rattle.basics.specs.Verdict.{verdict_number}
use Rattle.messages.specs.declared.Message.{Message}
use Rattle.messages.specs.declared.Message.TheVariants.{Request, Prepare, Promise, Propose, Vote}
use Rattle.messages.specs.Message.{when_prepare}
use Rattle.wire.specs.Packet.{Read, Refused, packet_length, read_packet, packet_of, with_message}
use Rattle.wire.proofs.Laws.{put-over}
use Rattle.frames.specs.Frame.{frame_length, ether_type, sealed}
use Rattle.frames.specs.Header.{Header, ethernet_bytes, ipv4_bytes, udp_bytes, header_bytes, frame_of}
use Rattle.framing.specs.Framing.{addressed, prepare_framed, frame_prepare}
use Rattle.frames.proofs.Parts.{part-lent, part-back}

-- a message that is no prepare prepares nothing
not-prepare : {A : Type 0} (here : Instance → Round → A) (other : A) (m : Message) → ((i : Instance) (r : Round) → m ≡ Prepare i r → ⊥) → other ≡ when_prepare here other m
unfolding when_prepare
not-prepare here other (Request s v) differs = refl
not-prepare here other (Prepare i r) differs = absurd (differs i r refl)
not-prepare here other (Promise s i r b v) differs = refl
not-prepare here other (Propose i r v) differs = refl
not-prepare here other (Vote s i r v) differs = refl

module _ (h : Header) (p f : List ℕ) where
  pub malformed : (number : ℕ) → Refused number ≡ read_packet p → outcome number f ≡ frame_prepare h p f
  unfolding frame_prepare prepare_framed
  malformed number refuses = rw (← refuses)

  module _ (m : Message) (reads : Read m ≡ read_packet p) where
    pub refused-6 : ((i : Instance) (r : Round) → m ≡ Prepare i r → ⊥) → outcome 6 f ≡ frame_prepare h p f
    unfolding frame_prepare prepare_framed
    refused-6 other = rw (← reads) (not-prepare _ _ m other)

    module _ (i : Instance) (r : Round) (asks : m ≡ Prepare i r) where
      pub refused-21 : (length f ≡ frame_length → ⊥) → outcome 21 f ≡ frame_prepare h p f
      unfolding frame_prepare prepare_framed when_prepare need◌or◌then◌
      refused-21 other = rw (← reads, asks, ne_eqb (length f) frame_length other)

      pub framed : (left : List ℕ) → length f ≡ frame_length → left ≡ frame_of h p → outcome (verdict_number Done) left ≡ frame_prepare h p f
      unfolding frame_prepare prepare_framed when_prepare need◌or◌then◌
      framed left long left_so = rw (← reads, asks, eq-eqb (length f) frame_length long, left_so)

-- what is stored part after part from the front on is what the parts are together
parts-stored : (f a b c : List ℕ) → length a ≡ 14 → length b ≡ 20 → sets (sets (sets f 0 a) 14 b) 34 c ≡ sets f 0 (a ++ b ++ c)
parts-stored f a b c a-long b-long =
    let first : sets (sets f 0 a) 14 b ≡ sets f 0 (a ++ b) = ap (λ at. sets (sets f 0 a) at b) (omega arith) ∙ sym (sets-append f 0 a b) in
    ap (λ g. sets g 34 c) first ∙ ap (λ at. sets (sets f 0 (a ++ b)) at c) (omega (arith, length-append a b)) ∙ sym (sets-append f 0 (a ++ b) c)

-- with the packet in the place that is left
with-packet : (f h p : List ℕ) → length f ≡ frame_length → length h ≡ 42 → length p ≡ packet_length → sets (sets f 0 h) 42 p ≡ h ++ p
with-packet f h p long h-long p-long =
    ap (λ at. sets (sets f 0 h) at p) (omega arith) ∙ sym (sets-append f 0 h p)
    ∙ sets-eq (h ++ p) f 0 (omega (arith, length-append h p))
    ∙ ap (λ rest. h ++ p ++ rest) (drop_of_length-le f {i = 0 + length (h ++ p)} (omega (arith, length-append h p))) ∙ append-nil (h ++ p)

module _ (f to from : List ℕ) (ip_from ip_to port_from port_to : ℕ) (long : length f ≡ frame_length) (to_long : length to ≡ 6) (from_long : length from ≡ 6) where
  pub built : (p first second third q left : List ℕ) (m : Message) → packet_of m ≡ p → length p ≡ packet_length → first ≡ sets f 0 (ethernet_bytes to from)
      → second ≡ sets first 14 (ipv4_bytes 0 0 0 64 ip_from ip_to) → third ≡ sets second 34 (udp_bytes port_from port_to)
      → q ≡ with_message (take packet_length (drop 42 third)) m → left ≡ sealed (put_mid 42 packet_length third q)
      → left ≡ frame_of (addressed to from ip_from ip_to port_from port_to) p
  unfolding frame_of
  built p first second third q left m m-so p-long first_so second_so third-so q-so left_so =
      let header = header_bytes (addressed to from ip_from ip_to port_from port_to) in
      let ethernet = ethernet_bytes to from in
      let ipv4 = ipv4_bytes 0 0 0 64 ip_from ip_to in
      let udp = udp_bytes port_from port_to in
      let ethernet-long : length ethernet ≡ 14 = omega (arith, length-append to from, length-append (to ++ from) (to_bytes 2 ether_type)) in
      let header-long : length header ≡ 42 = omega (arith, length-append ethernet ipv4, length-append (ethernet ++ ipv4) udp) in
      let stored : third ≡ sets f 0 header =
      third-so ∙ ap (λ g. sets g 34 udp) (second_so ∙ ap (λ g. sets g 14 ipv4) first_so) ∙ parts-stored f ethernet ipv4 udp ethernet-long refl in
      let third-long : length third ≡ frame_length = ap length stored ∙ length-sets f 0 header ∙ long in
      let put : q ≡ p = q-so ∙ put-over (take packet_length (drop 42 third)) m (ap length (part-lent third third-long)) ∙ m-so in
      left_so
      ∙ ap sealed
      (ap (put_mid 42 packet_length third) put ∙ part-back third p third-long p-long ∙ ap (λ g. sets g 42 p) stored ∙ with-packet f header p long header-long p-long)
