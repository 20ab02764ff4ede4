-- Each way out of a step on a frame is what the definition says, by the tests that led there.
-- Assumes nothing.
use Rattle.std.proofs.Common.{ℕ, ◌<◌, arith, refl}
use mathlib.Core.Path.{◌≡◌, sym, ap, ◌∙◌}
use mathlib.Core.Bool.{Bool, true, false}
use mathlib.Core.List.{List}
use lib.ListN.{length}
use borrow.Rule.Slice.PartMut.{mid_of, put_mid}
use Rattle.numbers.specs.BigEndian.{Bytes}
use Rattle.basics.specs.declared.Refusal.{Refusal}
use Rattle.basics.specs.declared.Verdict.{Verdict}
use Rattle.basics.specs.declared.Verdict.TheVariants.{Done}
use Rattle.basics.specs.Outcome.{outcome, lent}
use Rattle.basics.specs.Refusal.{refusal_number}
use Rattle.basics.specs.Verdict.{verdict_number}
use Rattle.basics.proofs.Answer.{refusal-below, verdict-above}
use Rattle.wire.specs.Packet.{packet_length}
use Rattle.player.specs.Step.{unchanged, Player, step}
use Rattle.frames.specs.Frame.{frame_length, frame_check, Passes, sealed}
use Rattle.frames.proofs.Laws.{passed, check-elim}
use Rattle.frames.proofs.Parts.{part-lent, part-back}
use Rattle.port.specs.Framed.{in_frame, framed}
use Rattle.port.proofs.Laws.{framed-7, framed-refused, framed-passes, frame_back}

-- a check that ends in a verdict has passed
passes : (port : ℕ) (f : List ℕ) (v : Verdict) → verdict_number v ≡ frame_check port f → Passes port f
passes port f v checked = check-elim (λ n. verdict_number v ≡ n → n ≡ verdict_number Done) port f (below 21 (omega arith)) (below 22 (omega arith)) (below 23 (omega arith))
    (below 24 (omega arith)) (below 25 (omega arith)) (λ e. refl) checked
  where
    below : (n : ℕ) → n < 101 → verdict_number v ≡ n → n ≡ verdict_number Done
    below n low e = absurd (omega (arith, verdict-above v, e, low))

module _ (port : ℕ) (f : List ℕ) (v : Verdict) (checked : verdict_number v ≡ frame_check port f) where
  pub checked-long : length f ≡ frame_length
  checked-long = (passed (passes port f v checked)).long

module _ {Tables Cell : Type 0} (player : Player Tables Cell) (port : ℕ) (f : List ℕ) (t : Tables) (fine : Bool) (fine-so : fine ≡ player.allowed t) where
  pub refused-7 : fine ≡ false → unchanged f t 7 ≡ framed player port f t
  refused-7 no_way = sym (framed-7 player port f t (sym fine-so ∙ no_way))

  module _ (allowed : fine ≡ true) where
    pub refused-frame : (r : Refusal) → refusal_number r ≡ frame_check port f → unchanged f t (refusal_number r) ≡ framed player port f t
    refused-frame r refused =
        ap (unchanged f t) refused
        ∙ sym (framed-refused player port f t (sym fine-so ∙ allowed) (λ done. omega (arith, refusal-below r, refused, done)))

    module _ (v : Verdict) (checked : verdict_number v ≡ frame_check port f) (answer : ℕ) (left : List ℕ) (next : Tables)
        (stepped : outcome answer (lent left next) ≡ step player (mid_of 42 packet_length f) t) where
      -- the part that is lent is the packet
      in-the-frame : in_frame f (outcome answer (lent left next)) ≡ framed player port f t
      in-the-frame =
          ap (in_frame f) (stepped ∙ ap (λ p. step player p t) (part-lent f (checked-long port f v checked)))
          ∙ sym (framed-passes player port f t (sym fine-so ∙ allowed) (passes port f v checked))

      -- it comes back, and both checksums are set anew
      pub sealed-anew : (after : List ℕ) → length left ≡ length (mid_of 42 packet_length f) → after ≡ sealed (put_mid 42 packet_length f left)
          → outcome answer (lent after next) ≡ framed player port f t
      sealed-anew after as_long after-so =
          let long = checked-long port f v checked in
          let stored = after-so ∙ ap sealed (part-back f left long (as_long ∙ ap length (part-lent f long))) in
          (λ i. outcome answer (lent (stored i) next)) ∙ in-the-frame

      -- it was lent to be read alone, and the frame is as it came
      pub as-it-came : Bytes f → left ≡ mid_of 42 packet_length f → outcome answer (lent f next) ≡ framed player port f t
      as-it-came bytes same =
          let back = frame_back port f bytes (passes port f v checked) (same ∙ part-lent f (checked-long port f v checked)) in
          (λ i. outcome answer (lent (sym back i) next)) ∙ in-the-frame
