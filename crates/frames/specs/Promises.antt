-- What is promised of frames: they match their fields one to one, a damaged byte is refused, and sealing sets the two checksums alone.
-- Assumes nothing.
use Rattle.std.specs.Prelude.{ℕ, ◌+◌, ◌-◌, ◌/◌, ◌%◌, ◌^◌, ◌≤◌, ◌<◌, ◌≡◌, false, List, [], ◌∷◌, ◌↔◌, eqb, length, get_or, set}
use Rattle.numbers.specs.BigEndian.{number_at, Bytes}
use Rattle.basics.specs.declared.Verdict.TheVariants.{Done}
use Rattle.basics.specs.Ladder.{when◌then◌else◌}
use Rattle.basics.specs.Verdict.{verdict_number, is_verdict}
use Rattle.wire.specs.Packet.{packet_length}
use Rattle.player.specs.Promises.{OneOf}
use Rattle.frames.specs.Frame.{frame_length, packet_in, udp_checksum, frame_check, Passes, sealed, frame_seal}
use Rattle.frames.specs.Header.{Header, header_in, frame_of, Fitting}

-- ---- one to one

-- A frame passes exactly when it is the frame of its own header and packet, with that port.
abbrev pub PassesExactly : Type 0
PassesExactly = (port : ℕ) (frame : List ℕ) → Bytes frame
    → Passes port frame ↔ ((frame ≡ frame_of (header_in frame) (packet_in frame)) × ((header_in frame).port_to ≡ port))

-- The frame of a header and a packet passes, and is read back as they are:
pub record ReadsBack (h : Header) (packet : List ℕ) : Type 0 where
  pub passes : Passes h.port_to (frame_of h packet)
  pub header_back : header_in (frame_of h packet) ≡ h
  pub packet_back : packet_in (frame_of h packet) ≡ packet

-- any header that fits, and any 36 bytes. It is of bytes, too.
abbrev pub FrameOfReadsBack : Type 0
FrameOfReadsBack = (h : Header) (packet : List ℕ) → Fitting h → Bytes packet → length packet ≡ packet_length → ReadsBack h packet × Bytes (frame_of h packet)

-- ---- a frame damaged on its way

abbrev pub frame_refusals : List ℕ
frame_refusals = 21 ∷ 22 ∷ 23 ∷ 24 ∷ 25 ∷ []

-- A frame is refused by one of 21 to 25.
abbrev pub Refused : (port : ℕ) → (frame : List ℕ) → Type 0
Refused port frame = OneOf (frame_check port frame) frame_refusals

-- Of a frame that passes, any one byte but those of the Ethernet addresses changed in any way: it is refused.
abbrev pub ByteRefused : Type 0
ByteRefused = (port : ℕ) (frame : List ℕ) → Bytes frame → Passes port frame
    → (index new : ℕ) → 12 ≤ index → index < frame_length → new < 256 → (new ≡ get_or frame index 0 → ⊥) → Refused port (set frame index new)

-- A byte with one of its bits the other way.
unfoldable pub flipped : (bit byte : ℕ) → ℕ
flipped bit byte = when eqb (byte / 2 ^ bit % 2) 0 then byte + 2 ^ bit else byte - 2 ^ bit

-- "Flip one bit in the IPv4 addresses, UDP header or packet of a frame that passes 21 to 25: it is refused."
abbrev pub FlipRefused : Type 0
FlipRefused = (port : ℕ) (frame : List ℕ) → Bytes frame → Passes port frame
    → (index bit : ℕ) → 12 ≤ index → index < frame_length → bit < 8 → Refused port (set frame index (flipped bit (get_or frame index 0)))

-- ---- checksums

-- "A computed UDP checksum of zero is sent as all ones": none that is sent is zero,
abbrev pub NeverZero : Type 0
NeverZero = (frame : List ℕ) → udp_checksum frame ≡ 0 → ⊥

-- "a received zero is refused".
abbrev pub ZeroRefused : Type 0
ZeroRefused = (port : ℕ) (frame : List ℕ) → number_at frame 40 2 ≡ 0 → Refused port frame

-- Sealing a frame that passes gives it back;
abbrev pub SealedStays : Type 0
SealedStays = (port : ℕ) (frame : List ℕ) → Bytes frame → Passes port frame → sealed frame ≡ frame

-- a frame that was sealed stays as it is;
abbrev pub SealedTwice : Type 0
SealedTwice = (frame : List ℕ) → sealed (sealed frame) ≡ sealed frame

-- and bytes 24, 25, 40 and 41 alone change.
abbrev pub OthersStay : Type 0
OthersStay = (frame : List ℕ) (index : ℕ) → (index ≡ 24 → ⊥) → (index ≡ 25 → ⊥) → (index ≡ 40 → ⊥) → (index ≡ 41 → ⊥)
    → get_or (sealed frame) index 0 ≡ get_or frame index 0

-- ---- the calls

-- Checking answers one of 21 to 25 or done.
abbrev pub CheckNumbers : Type 0
CheckNumbers = (port : ℕ) (frame : List ℕ) → OneOf (frame_check port frame) (21 ∷ 22 ∷ 23 ∷ 24 ∷ 25 ∷ verdict_number Done ∷ [])

-- Of sealing, whatever the frame.
pub record SealPromises (frame : List ℕ) : Type 0 where
  pub numbers_are : OneOf (frame_seal frame).answer (21 ∷ 22 ∷ 24 ∷ verdict_number Done ∷ [])
  pub refusal_keeps_all : is_verdict (frame_seal frame).answer ≡ false → (frame_seal frame).left ≡ frame
  -- What is sealed passes, with the port that it has.
  pub done_passes : (frame_seal frame).answer ≡ verdict_number Done → Passes (number_at frame 36 2) (frame_seal frame).left
