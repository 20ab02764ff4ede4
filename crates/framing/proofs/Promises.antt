-- The promises of framing a prepare, by its ways out: it answers its numbers alone, a refusal changes nothing, and what is framed is the frame of header and
-- packet, which passes.
-- Assumes nothing.
use Prim.Native.Nat.{ℕ, ◌<◌}
use mathlib.Core.Path.{◌≡◌, refl, sym}
use mathlib.Core.Bool.{false, false≢true}
use mathlib.Core.List.{List}
use native.Mathlib.Omega.{arith}
use lib.ListN.{length}
use Rattle.basics.specs.declared.Verdict.TheVariants.{Done}
use Rattle.basics.specs.Outcome.{Outcome, outcome}
use Rattle.basics.specs.Verdict.{verdict_number, is_verdict}
use Rattle.basics.proofs.Ladder.{need-elim}
use Rattle.messages.proofs.Eliminators.{prepare-elim}
use Rattle.wire.specs.Packet.{Reading, Read, Refused, packet_length, read_packet}
use Rattle.wire.proofs.Laws.{RefusedBy, reader-refuses, read_length}
use Rattle.player.specs.Promises.{OneOf}
use Rattle.player.proofs.Numbers.{one_of}
use Rattle.frames.specs.Header.{Header, frame_of}
use Rattle.frames.specs.Promises.{ReadsBack}
use Rattle.frames.proofs.OneToOne.{frame-of-reads-back}
use Rattle.framing.specs.Framing.{prepare_framed, frame_prepare}
use Rattle.framing.specs.Promises.{prepare_numbers, PreparePromises}

-- a refusal by one of the numbers
abbrev Refusal : ℕ → Type 0
Refusal number = OneOf number prepare_numbers × (number < verdict_number Done)

module _ (P : Outcome (List ℕ) → Type 0) (f : List ℕ) where
  -- what holds of every refusal, and of the frame of header and packet, holds of framing
  framed-elim : (h : Header) (p : List ℕ) → ((number : ℕ) → Refusal number → P (outcome number f))
      → (length p ≡ packet_length → P (outcome (verdict_number Done) (frame_of h p))) → P (frame_prepare h p f)
  unfolding frame_prepare prepare_framed
  framed-elim h p refuses frames =
      go (read_packet p) refl
      (reader-refuses Refusal (one_of 1 prepare_numbers refl, omega arith) (one_of 2 prepare_numbers refl, omega arith)
      (one_of 3 prepare_numbers refl, omega arith) (one_of 4 prepare_numbers refl, omega arith) (one_of 5 prepare_numbers refl, omega arith) p)
    where
      go : (reading : Reading) → read_packet p ≡ reading → RefusedBy Refusal reading → P (prepare_framed h p f reading)
      go (Read m) e _ =
          prepare-elim P _ _ m
          (λ _ _ _. need-elim P _ _ _ (refuses 21 (one_of 21 prepare_numbers refl, omega arith)) λ _. frames (read_length p m e))
          (refuses 6 (one_of 6 prepare_numbers refl, omega arith))
      go (Refused number) _ refusal = refuses number refusal

pub prepare-promises : (h : Header) (packet frame : List ℕ) → PreparePromises h packet frame
unfolding is_verdict
prepare-promises h p f = record {
  numbers_are = framed-elim (λ o. OneOf o.answer prepare_numbers) f h p (λ _ refusal. refusal.0) (λ _. one_of (verdict_number Done) prepare_numbers refl);
  refusal_keeps_all = framed-elim (λ o. is_verdict o.answer ≡ false → o.left ≡ f) f h p (λ _ _ _. refl) (λ _ refuses. absurd (false≢true (sym refuses)));
  done_reads_back = λ fits bytes. framed-elim (λ o. o.answer ≡ verdict_number Done → (o.left ≡ frame_of h p) × ReadsBack h p) f h p
      (λ _ refusal same. absurd (omega arith)) (λ long _. (refl, (frame-of-reads-back h p fits bytes long).0));
}
