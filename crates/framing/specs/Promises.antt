-- What is promised of framing a prepare.
-- Assumes nothing.
use Rattle.std.specs.Prelude.{ℕ, ◌≡◌, false, List, [], ◌∷◌}
use Rattle.numbers.specs.BigEndian.{Bytes}
use Rattle.basics.specs.declared.Verdict.TheVariants.{Done}
use Rattle.basics.specs.Verdict.{verdict_number, is_verdict}
use Rattle.player.specs.Promises.{OneOf}
use Rattle.frames.specs.Header.{Header, frame_of, Fitting}
use Rattle.frames.specs.Promises.{ReadsBack}
use Rattle.framing.specs.Framing.{frame_prepare}

-- The packet is refused by 1 to 6, then the buffer by 21.
abbrev pub prepare_numbers : List ℕ
prepare_numbers = 1 ∷ 2 ∷ 3 ∷ 4 ∷ 5 ∷ 6 ∷ 21 ∷ verdict_number Done ∷ []

-- Whatever the header, the packet and the buffer.
pub record PreparePromises (h : Header) (packet frame : List ℕ) : Type 0 where
  pub numbers_are : OneOf (frame_prepare h packet frame).answer prepare_numbers
  pub refusal_keeps_all : is_verdict (frame_prepare h packet frame).answer ≡ false → (frame_prepare h packet frame).left ≡ frame
  -- What is framed passes, and is read back as header and packet.
  pub done_reads_back : Fitting h → Bytes packet → (frame_prepare h packet frame).answer ≡ verdict_number Done
      → ((frame_prepare h packet frame).left ≡ frame_of h packet) × ReadsBack h packet
