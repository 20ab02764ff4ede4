-- The frame: 78 bytes, numbers big-endian.
-- Ethernet II: 0-5 destination, 6-11 source, 12-13 EtherType.
-- IPv4 without options: 14 version and header length, 15 type of service, 16-17 total length, 18-19 identification, 20-21 flags and fragment offset,
-- 22 time to live, 23 protocol, 24-25 checksum, 26-29 source, 30-33 destination.
-- UDP: 34-35 source port, 36-37 destination port, 38-39 length, 40-41 checksum. Then the packet, 42-77.
-- Assumes nothing.
use Rattle.std.specs.Prelude.{ℕ, ◌%◌, ◌≡◌, Bool, ◌&&◌, List, [], ◌∷◌, ◌++◌, eqb, length, get_or}
use Rattle.std.proofs.lemmas.List.Edits.{sets}
use Rattle.numbers.specs.BigEndian.{to_bytes, bytes_at, number_at, with_number_at}
use Rattle.basics.specs.declared.Verdict.TheVariants.{Done}
use Rattle.basics.specs.Ladder.{when◌then◌else◌, need◌or◌then◌}
use Rattle.basics.specs.Outcome.{Outcome, outcome}
use Rattle.basics.specs.Verdict.{verdict_number}
use Rattle.wire.specs.Packet.{packet_length}
use Rattle.checksum.specs.Sum.{ones_sum, complement}

abbrev pub frame_length : ℕ
frame_length = 78

-- EtherType 0800 hex: IPv4
abbrev pub ether_type : ℕ
ether_type = 2048

-- 45 hex: version 4, a header of five times four bytes, which is one without options
abbrev pub first_byte : ℕ
first_byte = 69

-- of IPv4, and of UDP within it: header and all that follows
abbrev pub total_length : ℕ
total_length = 64

abbrev pub udp_length : ℕ
udp_length = 44

abbrev pub protocol : ℕ
protocol = 17

-- the packet where it stands
abbrev pub packet_in : (frame : List ℕ) → List ℕ
packet_in f = bytes_at f 42 packet_length

abbrev pub with_packet : (frame packet : List ℕ) → List ℕ
with_packet f p = sets f 42 p

-- RFC 791: the field is the complement of the one's complement sum of the header's words, the field itself taken as zero.
unfoldable pub ipv4_checksum : (frame : List ℕ) → ℕ
ipv4_checksum f = complement (ones_sum (bytes_at f 14 10 ++ to_bytes 2 0 ++ bytes_at f 26 8))

-- RFC 768: of IPv4 the source and the destination, a zero byte, the protocol, and the length of UDP
abbrev pub pseudo_header : (frame : List ℕ) → List ℕ
pseudo_header f = bytes_at f 26 8 ++ (0 ∷ protocol ∷ []) ++ to_bytes 2 udp_length

-- A computed checksum of zero is sent as all ones.
unfoldable pub sent_as : (computed : ℕ) → ℕ
sent_as computed = when eqb computed 0 then 65535 else computed

-- RFC 768: the complement of the sum of the pseudo header, the UDP header, its field taken as zero, and the packet.
unfoldable pub udp_checksum : (frame : List ℕ) → ℕ
udp_checksum f = sent_as (complement (ones_sum (pseudo_header f ++ bytes_at f 34 6 ++ to_bytes 2 0 ++ packet_in f)))

-- Refused by 22: EtherType not 0800 hex, first IPv4 byte not 45 hex, total length not 64, a fragment, or protocol not 17. A fragment has more fragments after
-- it or an offset, the low 14 bits; don't-fragment and the reserved bit make none.
unfoldable pub carries_udp : (frame : List ℕ) → Bool
carries_udp f =
    eqb (number_at f 12 2) ether_type && eqb (get_or f 14 0) first_byte && eqb (number_at f 16 2) total_length && eqb (number_at f 20 2 % 16384) 0
    && eqb (get_or f 23 0) protocol

-- 21 length not 78; 22; 23 IPv4 checksum; 24 UDP length not 44 or another destination port; 25 UDP checksum; in that order.
unfoldable pub frame_check : (port : ℕ) → (frame : List ℕ) → ℕ
frame_check port f =
    need eqb (length f) frame_length or 21 then
    need carries_udp f or 22 then
    need eqb (number_at f 24 2) (ipv4_checksum f) or 23 then
    need eqb (number_at f 38 2) udp_length && eqb (number_at f 36 2) port or 24 then
    need eqb (number_at f 40 2) (udp_checksum f) or 25 then
    verdict_number Done

-- A frame that is refused by none of 21 to 25.
abbrev pub Passes : (port : ℕ) → (frame : List ℕ) → Type 0
Passes port f = frame_check port f ≡ verdict_number Done

-- The 78 bytes with both checksums set anew; a frame of another length stays as it was.
unfoldable pub sealed : (frame : List ℕ) → List ℕ
sealed f = when eqb (length f) frame_length then with_number_at (with_number_at f 24 2 (ipv4_checksum f)) 40 2 (udp_checksum f) else f

-- The call that seals: 21, 22, 24 (UDP length not 44).
unfoldable pub frame_seal : (frame : List ℕ) → Outcome (List ℕ)
frame_seal f =
    need eqb (length f) frame_length or outcome 21 f then
    need carries_udp f or outcome 22 f then
    need eqb (number_at f 38 2) udp_length or outcome 24 f then
    outcome (verdict_number Done) (sealed f)
