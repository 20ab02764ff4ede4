-- The answer for an instance: its numbers, that only a decided value is written, and what the number answered tells; by the ways out of the answer.
-- Assumes nothing.
use Prim.Native.Nat.{ℕ}
use mathlib.Core.Path.{◌≡◌, refl}
use native.Mathlib.Omega.{arith}
use Rattle.basics.specs.declared.Instance.{Instance}
use Rattle.basics.specs.declared.Value.{Value}
use Rattle.basics.specs.declared.Verdict.TheVariants.{Done, NotYet}
use Rattle.basics.specs.Places.{Place, At, Nowhere, placed}
use Rattle.basics.specs.Verdict.{verdict_number}
use Rattle.basics.proofs.Ladder.{need-elim, if-elim}
use Rattle.basics.proofs.Places.{PlacedBy, placed_by}
use Rattle.player.specs.Promises.{OneOf}
use Rattle.player.proofs.Numbers.{one_of}
use Rattle.quorum.specs.declared.Settings.{Settings}
use Rattle.learner_tables.specs.Tables.{Tables}
use Rattle.learner.specs.Learner as answers
use Rattle.learner.specs.Learner.{Answer, answer_of_cell, answer_at, answer_for, answered}
use Rattle.learner.specs.Promises.{answer_numbers, AnswerPromises}

module _ (s : Settings) (instance : Instance) (t : Tables) (before : Value) where
  -- what holds of the refusals, and of an answer for a cell, holds of the answer
  answer-elim : (P : Answer → Type 0) → P (answers.Refused 7) → P (answers.Refused 8) → P (answers.Refused 17) → ((value : Value) → P (answers.Decided value)) → P answers.NotYet
      → P (answer_for s instance t)
  unfolding answer_for answer_at answer_of_cell
  answer-elim P seven eight seventeen decided not_yet =
      need-elim P _ _ _ seven λ _. place (placed s.instances instance) (placed_by (λ n. P (answers.Refused n)) s.instances instance eight)
    where
      place : (p : Place) → PlacedBy (λ n. P (answers.Refused n)) p → P (answer_at s.acceptors t p)
      place (At index) _ = need-elim P _ _ _ seventeen λ _. if-elim P _ _ _ (λ _. decided _) (λ _. not_yet)
      place (Nowhere number) refused = refused

  -- what the number answered tells of the answer
  record Told (a : Answer) : Type 0 where
    one : OneOf (answered before a).answer answer_numbers
    done : (answered before a).answer ≡ verdict_number Done → a ≡ answers.Decided (answered before a).left
    not_yet : (answered before a).answer ≡ verdict_number NotYet → a ≡ answers.NotYet

  told : Told (answer_for s instance t)
  unfolding answered
  told =
      answer-elim Told
      (refuses 7 (one_of 7 answer_numbers refl) (λ same. omega (arith, same)) (λ same. omega (arith, same)))
      (refuses 8 (one_of 8 answer_numbers refl) (λ same. omega (arith, same)) (λ same. omega (arith, same)))
      (refuses 17 (one_of 17 answer_numbers refl) (λ same. omega (arith, same)) (λ same. omega (arith, same)))
      (λ value. record { one = one_of (verdict_number Done) answer_numbers refl; done = λ _. refl; not_yet = λ same. absurd (omega (arith, same)) })
      (record { one = one_of (verdict_number NotYet) answer_numbers refl; done = λ same. absurd (omega (arith, same)); not_yet = λ _. refl })
    where
      refuses : (number : ℕ) → OneOf number answer_numbers → (number ≡ verdict_number Done → ⊥) → (number ≡ verdict_number NotYet → ⊥) → Told (answers.Refused number)
      refuses number one other another = record { one = one; done = λ same. absurd (other same); not_yet = λ same. absurd (another same) }

  -- unless a value is decided, the one lent stays
  pub answer_keeps : ((answered before (answer_for s instance t)).answer ≡ verdict_number Done → ⊥) → (answered before (answer_for s instance t)).left ≡ before
  unfolding answered
  answer_keeps = kept (answer_for s instance t)
    where
      kept : (a : Answer) → ((answered before a).answer ≡ verdict_number Done → ⊥) → (answered before a).left ≡ before
      kept (answers.Decided value) otherwise = absurd (otherwise refl)
      kept answers.NotYet _ = refl
      kept (answers.Refused number) _ = refl

  pub answer-promises : AnswerPromises s instance t before
  answer-promises = record { numbers_are = told.one; keeps = answer_keeps; done_tells = told.done; not_yet_tells = told.not_yet }
