-- What is promised of the players' calls on frames, stated once for all players.
-- Assumes nothing.
use Rattle.std.specs.Prelude.{ℕ, ◌≤◌, ◌<◌, ◌≡◌, true, false, List, ◌∷◌, get_or, set}
use Rattle.numbers.specs.BigEndian.{Bytes}
use Rattle.basics.specs.Outcome.{Outcome, outcome, Lent, lent}
use Rattle.basics.specs.Verdict.{is_verdict, says_send}
use Rattle.player.specs.Promises.{Call, OneOf, ActsOrRefuses}
use Rattle.player.specs.Step.{unchanged, Player}
use Rattle.frames.specs.Frame.{frame_length, packet_in, Passes}
use Rattle.frames.specs.Promises.{frame_refusals}
use Rattle.port.specs.Framed.{framed}

-- The outcome of a call on a frame, with the 36 bytes that it left there in the frame's place.
abbrev pub out_of_frame : {Tables : Type 0} → Outcome (Lent Tables) → Outcome (Lent Tables)
out_of_frame o = outcome o.answer (lent (packet_in o.left.packet) o.left.tables)

-- The order for a frame begins with these, for every player: 7, 21 to 25, 2 to 5, 6.
abbrev pub port_refusals : (others : List ℕ) → List ℕ
port_refusals others = 7 ∷ 21 ∷ 22 ∷ 23 ∷ 24 ∷ 25 ∷ 2 ∷ 3 ∷ 4 ∷ 5 ∷ 6 ∷ others

module _ {Tables : Type 0} (refusals verdicts : List ℕ) (port : ℕ) (frame : List ℕ) (tables : Tables) where
  -- Of one call on a frame: its outcome, and that of the packet's step on the 36 bytes within.
  pub record Promised (framed stepped : Outcome (Lent Tables)) : Type 0 where
    -- It either acts or refuses by its numbers,
    pub numbers_are : ActsOrRefuses refusals verdicts frame tables framed
    -- and "1 never occurs for frames".
    pub never_by_1 : framed.answer ≡ 1 → ⊥
    -- A refusal leaves frame and tables byte for byte as they came;
    pub refusal_keeps_all : is_verdict framed.answer ≡ false → framed ≡ unchanged frame tables framed.answer
    -- hold and decided leave the frame so: it stays wherever the answer does not say to send it.
    pub unsent_stays : says_send framed.answer ≡ false → framed.left.packet ≡ frame
    -- "Other header fields stay": bytes 0 to 23 and 26 to 39, whatever the answer.
    pub header_stays : (index : ℕ) → index < 40 → (index ≡ 24 → ⊥) → (index ≡ 25 → ⊥) → get_or framed.left.packet index 0 ≡ get_or frame index 0
    -- What is sent passes 21 to 25 again, with the same port.
    pub sent_passes : says_send framed.answer ≡ true → Passes port framed.left.packet
    -- Of a frame that passes, the 36 bytes are stepped as they are outside of a frame: the same answer, the same bytes left, the same tables.
    pub packet_stepped : Passes port frame → out_of_frame framed ≡ stepped

-- Whatever the port, the bytes of the frame and the tables.
abbrev pub FramePromises : {Tables : Type 0} → (call : (port : ℕ) → Call Tables) → (step : Call Tables) → (refusals verdicts : List ℕ) → Type 0
FramePromises {Tables} call step refusals verdicts = (port : ℕ) (frame : List ℕ) (tables : Tables) → Bytes frame
    → Promised refusals verdicts port frame tables (call port frame tables) (step (packet_in frame) tables)

-- No damaged frame reaches a player: of a frame that passes, any one byte but those of the Ethernet addresses changed in any way, the call refuses by 7 or by one
-- of 21 to 25, and leaves frame and tables as they came.
abbrev pub DamageRefused : {Tables Cell : Type 0} → Player Tables Cell → Type 0
DamageRefused {Tables} player = (port : ℕ) (frame : List ℕ) (tables : Tables) → Bytes frame → Passes port frame
    → (index new : ℕ) → 12 ≤ index → index < frame_length → new < 256 → (new ≡ get_or frame index 0 → ⊥)
    → let damaged = set frame index new in
    (number : ℕ) × (OneOf number (7 ∷ frame_refusals) × (framed player port damaged tables ≡ unchanged damaged tables number))
