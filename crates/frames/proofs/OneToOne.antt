-- Frames match their fields one to one. The frame of a header and a packet is read back place by place, the addresses and the packet written out so that every
-- place computes; a frame that passes has the bytes of its header and its packet but for the two checksums, and sealing sets them as they were.
-- Assumes nothing.
use Prim.Native.Nat.{ℕ, zero, suc, ◌+◌, ◌*◌, ◌/◌, ◌%◌, ◌≤◌, ◌<◌}
use mathlib.Core.Path.{◌≡◌, refl, sym, ap, ◌∙◌, subst}
use mathlib.Core.Bool.{true}
use mathlib.Core.List.{List, [], ◌∷◌, ◌++◌}
use native.Mathlib.Omega.{arith}
use lib.ListN.{length, get_or}
use borrow.Author.Tests.{eq-eqb}
use Rattle.numbers.specs.BigEndian.{to_bytes, bytes_at, number_at, with_number_at, Bytes}
use Rattle.numbers.proofs.Bytes.{big_endian-to_bytes, to_bytes-number_at, written_out, number_at-lt, Bytes-append, Bytes-to_bytes, Bytes-bytes_at}
use Rattle.basics.proofs.Ladder.{and-true}
use Rattle.wire.specs.Packet.{packet_length}
use Rattle.frames.specs.Frame.{frame_length, ether_type, first_byte, total_length, udp_length, protocol, packet_in, ipv4_checksum, udp_checksum, carries_udp, Passes, sealed}
use Rattle.frames.specs.Header.{Header, header_in, ethernet_bytes, ipv4_bytes, udp_bytes, header_bytes, frame_of, Fitting}
use Rattle.frames.specs.Promises.{PassesExactly, ReadsBack, FrameOfReadsBack}
use Rattle.frames.proofs.Places.{same-fields}
use Rattle.frames.proofs.Laws.{Passed, passed, carried, long-sealed, sealed-header, sealed-packet, sealed-stays, sealed-passes, bytes-sealed}

-- ---- fields to frame and back

-- a header with other addresses
readdressed : (ethernet_to ethernet_from : List ℕ) → Header → Header
readdressed ethernet_to ethernet_from h = record {
  ethernet_to = ethernet_to;
  ethernet_from = ethernet_from;
  service = h.service;
  identification = h.identification;
  flags = h.flags;
  time_to_live = h.time_to_live;
  ip_from = h.ip_from;
  ip_to = h.ip_to;
  port_from = h.port_from;
  port_to = h.port_to;
}

-- with its own, written out
written : Header → Header
unfolding readdressed
written h = readdressed (bytes_at h.ethernet_to 0 6) (bytes_at h.ethernet_from 0 6) h

written_same : (h : Header) → Fitting h → written h ≡ h
unfolding written
written_same h fits = λ j. readdressed (written_out 6 h.ethernet_to fits.to_long j) (written_out 6 h.ethernet_from fits.from_long j) h

module _ (h : Header) (packet : List ℕ) (fits : Fitting h) where
  -- the frame of both before it is sealed
  unsealed : List ℕ
  unsealed = header_bytes (written h) ++ bytes_at packet 0 packet_length

  flags-so : number_at unsealed 20 2 ≡ h.flags * 16384
  unfolding unsealed written number_at
  flags-so = let small = fits.flags_fit in big_endian-to_bytes 2 (h.flags * 16384) (omega arith)

  unsealed-carries : carries_udp unsealed ≡ true
  unfolding carries_udp unsealed written number_at
  unsealed-carries = let so = flags-so in and-true (and-true refl (eq-eqb _ 0 (ap (λ n. n % 16384) so ∙ omega arith))) refl

  flags-back : number_at unsealed 20 2 / 16384 ≡ h.flags
  flags-back = let so = flags-so in omega arith

  unsealed-fields : header_in unsealed ≡ written h
  unfolding header_in unsealed written number_at
  unsealed-fields = λ j. record {
    ethernet_to = bytes_at h.ethernet_to 0 6;
    ethernet_from = bytes_at h.ethernet_from 0 6;
    service = h.service;
    identification = big_endian-to_bytes 2 h.identification fits.identification_fits j;
    flags = flags-back j;
    time_to_live = h.time_to_live;
    ip_from = big_endian-to_bytes 4 h.ip_from fits.ip_from_fits j;
    ip_to = big_endian-to_bytes 4 h.ip_to fits.ip_to_fits j;
    port_from = big_endian-to_bytes 2 h.port_from fits.port_from_fits j;
    port_to = big_endian-to_bytes 2 h.port_to fits.port_to_fits j;
  }

  written-reads-back : ReadsBack (written h) (bytes_at packet 0 packet_length)
  unfolding frame_of unsealed written number_at
  written-reads-back = record {
    passes = sealed-passes h.port_to unsealed refl unsealed-carries refl (big_endian-to_bytes 2 h.port_to fits.port_to_fits);
    header_back = same-fields (sealed unsealed) unsealed (sealed-header unsealed) ∙ unsealed-fields;
    packet_back = sealed-packet unsealed;
  }

two_bytes : (one other : ℕ) → one < 256 → other < 256 → Bytes (one ∷ other ∷ [])
two_bytes one other fits fit zero = fits
two_bytes one other fits fit (suc zero) = fit
two_bytes one other fits fit (suc (suc i)) = omega arith

-- more bytes after bytes: those of a number
and-number : (front : List ℕ) (width number : ℕ) → Bytes front → Bytes (front ++ to_bytes width number)
and-number front width number bytes = Bytes-append front (to_bytes width number) bytes (Bytes-to_bytes width number)

module _ (h : Header) (fits : Fitting h) where
  ipv4-bytes : Bytes (ipv4_bytes h.service h.identification h.flags h.time_to_live h.ip_from h.ip_to)
  ipv4-bytes =
      let kind = first_byte ∷ h.service ∷ [] in
      let sized = kind ++ to_bytes 2 total_length in
      let named = sized ++ to_bytes 2 h.identification in
      let flagged = named ++ to_bytes 2 (h.flags * 16384) in
      let living = flagged ++ (h.time_to_live ∷ protocol ∷ []) in
      let summed = living ++ to_bytes 2 0 in
      and-number (summed ++ to_bytes 4 h.ip_from) 4 h.ip_to
      (and-number summed 4 h.ip_from
      (and-number living 2 0
      (Bytes-append flagged (h.time_to_live ∷ protocol ∷ [])
      (and-number named 2 (h.flags * 16384)
      (and-number sized 2 h.identification (and-number kind 2 total_length (two_bytes first_byte h.service (omega arith) fits.service_fits))))
      (two_bytes h.time_to_live protocol fits.time_to_live_fits (omega arith)))))

  frame-of-bytes : (packet : List ℕ) → Bytes packet → Bytes (frame_of h packet)
  unfolding frame_of
  frame-of-bytes packet bytes =
      let addresses = h.ethernet_to ++ h.ethernet_from in
      let ethernet = ethernet_bytes h.ethernet_to h.ethernet_from in
      let ipv4 = ipv4_bytes h.service h.identification h.flags h.time_to_live h.ip_from h.ip_to in
      let ports = to_bytes 2 h.port_from ++ to_bytes 2 h.port_to in
      bytes-sealed (header_bytes h ++ packet)
      (Bytes-append (header_bytes h) packet
      (Bytes-append (ethernet ++ ipv4) (udp_bytes h.port_from h.port_to)
      (Bytes-append ethernet ipv4 (and-number addresses 2 ether_type (Bytes-append h.ethernet_to h.ethernet_from fits.to_is_bytes fits.from_bytes)) ipv4-bytes)
      (and-number (ports ++ to_bytes 2 udp_length) 2 0
      (and-number ports 2 udp_length (and-number (to_bytes 2 h.port_from) 2 h.port_to (Bytes-to_bytes 2 h.port_from)))))
      bytes)

pub frame-of-reads-back : FrameOfReadsBack
frame-of-reads-back h packet fits bytes long = (
  subst (λ g. ReadsBack g packet) (written_same h fits)
      (subst (ReadsBack (written h)) (written_out packet_length packet long) (written-reads-back h packet fits)),
  frame-of-bytes h fits packet bytes,
)

-- ---- frame to fields and back

-- the frame with each checksum zero
zeroed : List ℕ → List ℕ
zeroed f = bytes_at f 0 24 ++ (0 ∷ 0 ∷ []) ++ bytes_at f 26 14 ++ (0 ∷ 0 ∷ []) ++ bytes_at f 42 36

bytes_back : (port : ℕ) (f : List ℕ) → Bytes f → Passed port f → header_bytes (header_in f) ++ packet_in f ≡ zeroed f
unfolding header_in zeroed
bytes_back port f bytes h =
    let long = h.long in
    let fixed = carried h.carries in
    let whole = fixed.whole in
    let field : (at w n : ℕ) → number_at f at w ≡ n → at + w ≤ frame_length → to_bytes w n ≡ bytes_at f at w =
    λ at w n so inside. ap (to_bytes w) (sym so) ∙ to_bytes-number_at f bytes at w (omega arith) in
    λ j.
    (bytes_at f 0 12 ++ field 12 2 ether_type fixed.type-so (omega arith) j)
    ++ ((sym fixed.first_so j ∷ get_or f 15 0 ∷ []) ++ field 16 2 total_length fixed.total-so (omega arith) j ++ field 18 2 _ refl (omega arith) j
    ++ field 20 2 (number_at f 20 2 / 16384 * 16384) (omega arith) (omega arith) j ++ (get_or f 22 0 ∷ sym fixed.protocol-so j ∷ []) ++ (0 ∷ 0 ∷ [])
    ++ field 26 4 _ refl (omega arith) j ++ field 30 4 _ refl (omega arith) j)
    ++ (field 34 2 _ refl (omega arith) j ++ field 36 2 _ refl (omega arith) j ++ field 38 2 udp_length h.sized (omega arith) j ++ (0 ∷ 0 ∷ [])) ++ packet_in f

-- what is stored over the zeros
zeroed-stored : (f : List ℕ) (ipv4 udp : ℕ) → length f ≡ frame_length
    → with_number_at (with_number_at (zeroed f) 24 2 ipv4) 40 2 udp ≡ with_number_at (with_number_at f 24 2 ipv4) 40 2 udp
unfolding with_number_at zeroed
zeroed-stored f ipv4 udp long = ap (λ g. with_number_at (with_number_at g 24 2 ipv4) 40 2 udp) (written_out frame_length f long)

zeroed-sealed : (f : List ℕ) → length f ≡ frame_length → sealed (zeroed f) ≡ sealed f
unfolding zeroed ipv4_checksum udp_checksum
zeroed-sealed f long = long-sealed (zeroed f) refl ∙ zeroed-stored f (ipv4_checksum f) (udp_checksum f) long ∙ sym (long-sealed f long)

-- the fields of any bytes fit
fields_fit : (f : List ℕ) → Bytes f → Fitting (header_in f)
unfolding header_in
fields_fit f bytes =
    let flags = number_at-lt f bytes 20 2 in
    record {
      to_long = refl;
      to_is_bytes = Bytes-bytes_at f bytes 0 6;
      from_long = refl;
      from_bytes = Bytes-bytes_at f bytes 6 6;
      service_fits = bytes 15;
      identification_fits = number_at-lt f bytes 18 2;
      flags_fit = omega (arith, flags);
      time_to_live_fits = bytes 22;
      ip_from_fits = number_at-lt f bytes 26 4;
      ip_to_fits = number_at-lt f bytes 30 4;
      port_from_fits = number_at-lt f bytes 34 2;
      port_to_fits = number_at-lt f bytes 36 2;
    }

pub passes-exactly : PassesExactly
unfolding header_in frame_of
passes-exactly port f bytes = (forth, back)
  where
    forth : Passes port f → (f ≡ frame_of (header_in f) (packet_in f)) × ((header_in f).port_to ≡ port)
    forth e =
        let h = passed e in
        (sym (ap sealed (bytes_back port f bytes h) ∙ zeroed-sealed f h.long ∙ sealed-stays port f bytes e), h.port-so)

    back : (f ≡ frame_of (header_in f) (packet_in f)) × ((header_in f).port_to ≡ port) → Passes port f
    back so =
        let reads = frame-of-reads-back (header_in f) (packet_in f) (fields_fit f bytes) (Bytes-bytes_at f bytes 42 packet_length) refl in
        subst (λ n. Passes n f) so.1 (subst (Passes (header_in f).port_to) (sym so.0) reads.0.passes)
