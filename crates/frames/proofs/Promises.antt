-- The other promises of frames: no UDP checksum is zero, and each call answers its numbers alone and changes nothing by a refusal, by its ways out.
-- Assumes nothing.
use Prim.Native.Nat.{ℕ, ◌<◌}
use mathlib.Core.Path.{◌≡◌, refl, sym, ◌∙◌}
use mathlib.Core.Bool.{true, false, false≢true}
use mathlib.Core.List.{List, [], ◌∷◌}
use native.Mathlib.Omega.{arith}
use lib.Dec.{eqb}
use lib.ListN.{length}
use borrow.Author.Tests.{eqb-true, eqb-false}
use Rattle.numbers.specs.BigEndian.{number_at}
use Rattle.basics.specs.declared.Verdict.TheVariants.{Done}
use Rattle.basics.specs.Outcome.{Outcome, outcome}
use Rattle.basics.specs.Verdict.{verdict_number, is_verdict}
use Rattle.basics.proofs.Ladder.{if-elim, need-elim}
use Rattle.player.specs.Promises.{OneOf}
use Rattle.player.proofs.Numbers.{one_of}
use Rattle.frames.specs.Frame.{frame_length, udp_length, sent_as, udp_checksum, carries_udp, Passes, sealed, frame_seal}
use Rattle.frames.specs.Promises.{NeverZero, ZeroRefused, CheckNumbers, SealPromises}
use Rattle.frames.proofs.Laws.{passed, check-elim, refused, sealed-passes}

-- ---- zero

sent-some : (computed : ℕ) → sent_as computed ≡ 0 → ⊥
unfolding sent_as
sent-some computed = if-elim (λ sent. sent ≡ 0 → ⊥) (eqb computed 0) 65535 computed (λ _ none. omega arith) (eqb-false computed 0)

pub never-zero : NeverZero
unfolding udp_checksum
never-zero f = sent-some _

pub zero-refused : ZeroRefused
zero-refused port f zero = refused port f (λ e. never-zero f (sym (passed e).udp ∙ zero))

-- ---- the numbers of the calls

abbrev seal-numbers : List ℕ
seal-numbers = 21 ∷ 22 ∷ 24 ∷ verdict_number Done ∷ []

-- a refusal by one of them
abbrev Refusal : ℕ → List ℕ → Type 0
Refusal number numbers = OneOf number numbers × (number < verdict_number Done)

pub check-numbers : CheckNumbers
check-numbers port f =
    let numbers : List ℕ = 21 ∷ 22 ∷ 23 ∷ 24 ∷ 25 ∷ verdict_number Done ∷ [] in
    check-elim (λ number. OneOf number numbers) port f (one_of 21 numbers refl) (one_of 22 numbers refl) (one_of 23 numbers refl) (one_of 24 numbers refl)
    (one_of 25 numbers refl) (one_of (verdict_number Done) numbers refl)

-- ---- the ways out

module _ (P : Outcome (List ℕ) → Type 0) (f : List ℕ) where
  -- what holds of every refusal, and of a frame that is sealed, holds of sealing
  seal-elim : ((number : ℕ) → Refusal number seal-numbers → P (outcome number f))
      → (length f ≡ frame_length → carries_udp f ≡ true → number_at f 38 2 ≡ udp_length → P (outcome (verdict_number Done) (sealed f))) → P (frame_seal f)
  unfolding frame_seal
  seal-elim refuses seals =
      need-elim P _ _ _ (refuses 21 (one_of 21 seal-numbers refl, omega arith)) λ long.
      need-elim P _ _ _ (refuses 22 (one_of 22 seal-numbers refl, omega arith)) λ carries.
      need-elim P _ _ _ (refuses 24 (one_of 24 seal-numbers refl, omega arith)) λ sized. seals (eqb-true _ _ long) carries (eqb-true _ _ sized)

-- ---- the calls

pub seal-promises : (frame : List ℕ) → SealPromises frame
unfolding is_verdict
seal-promises f = record {
  numbers_are = seal-elim (λ o. OneOf o.answer seal-numbers) f (λ _ refusal. refusal.0) (λ _ _ _. one_of (verdict_number Done) seal-numbers refl);
  refusal_keeps_all = seal-elim (λ o. is_verdict o.answer ≡ false → o.left ≡ f) f (λ _ _ _. refl) (λ _ _ _ refuses. absurd (false≢true (sym refuses)));
  done_passes = seal-elim (λ o. o.answer ≡ verdict_number Done → Passes (number_at f 36 2) o.left) f (λ _ refusal same. absurd (omega arith))
      (λ long carries sized _. sealed-passes (number_at f 36 2) f long carries sized refl);
}
