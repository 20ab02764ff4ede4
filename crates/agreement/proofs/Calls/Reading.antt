-- A call that is lent a learner's tables to read leaves the boxes as they were: none of the numbers that it may answer says to send, and saving returns the tables
-- that it was lent.
-- Assumes nothing.
use Prim.Native.Nat.{ℕ}
use mathlib.Core.Path.{◌≡◌, refl, sym, ap, ◌∙◌}
use mathlib.Core.Bool.{Bool, true, false, not, ◌&&◌}
use mathlib.Core.List.{List, [], ◌∷◌}
use borrow.Author.Tests.{not-true}
use Rattle.basics.specs.Outcome.{Outcome, Lent}
use Rattle.basics.specs.Verdict.{says_send}
use Rattle.basics.proofs.Ladder.{both_true, if-false}
use Rattle.player.specs.Promises.{OneOf, first, later, ActsOrRefuses, refuses, acts}
use Rattle.quorum.specs.declared.Settings.{Settings}
use Rattle.learner_tables.specs.Tables.{Tables}
use Rattle.learner.specs.Learner.{answer_for, answered}
use Rattle.learner.proofs.Answers.{answer-promises}
use Rattle.learner_delivery.specs.Delivery.{deliver}
use Rattle.learner_delivery.proofs.Delivered.{deliver-promises}
use Rattle.learner_holes.specs.Holes as holes
use Rattle.learner_holes.proofs.LeastHole.{hole-promises}
use Rattle.learner_saved.specs.Saved.{save}
use Rattle.learner_saved.proofs.Promises.{save-promises}
use Rattle.agreement.specs.Run.{learner, sent, Boxes, put, after_reading, after_learner, Reads}
use Rattle.agreement.specs.Run as run
use Rattle.agreement.proofs.Families.{put-itself}

-- ---- no number says to send

abbrev none_sends : List ℕ → Bool
none_sends [] = true
none_sends (number ∷ others) = not (says_send number) && none_sends others

one-quiet : {number : ℕ} {numbers : List ℕ} → OneOf number numbers → none_sends numbers ≡ true → says_send number ≡ false
one-quiet {number} (first {others}) quiet = not-true (says_send number) (both_true (not (says_send number)) (none_sends others) quiet).0
one-quiet (later {other} {others} rest) quiet = one-quiet rest (both_true (not (says_send other)) (none_sends others) quiet).1

outcome-quiet : {Tables : Type 0} {refusals verdicts buffer : List ℕ} {tables : Tables} {o : Outcome (Lent Tables)} → ActsOrRefuses refusals verdicts buffer tables o
    → none_sends refusals ≡ true → none_sends verdicts ≡ true → says_send o.answer ≡ false
outcome-quiet (refuses one) refusals verdicts = one-quiet one refusals
outcome-quiet (acts one) refusals verdicts = one-quiet one verdicts

-- ---- the boxes stay

module _ (w : Boxes) (which : ℕ) where
  read-quietly : (answer : ℕ) (buffer : List ℕ) → says_send answer ≡ false → w ≡ after_reading w which answer buffer
  read-quietly answer buffer quiet = λ i. record {
    primary = w.primary;
    acceptor = w.acceptor;
    backup = w.backup;
    learner = w.learner;
    packets = sym (if-false (sent (learner which) buffer ∷ w.packets) w.packets quiet) i;
    wanted = w.wanted;
  }

  leave-quietly : (o : Outcome (Lent Tables)) → o.left.tables ≡ w.learner which → says_send o.answer ≡ false → w ≡ after_learner w which o
  leave-quietly o same quiet = λ i. record {
    primary = w.primary;
    acceptor = w.acceptor;
    backup = w.backup;
    learner = sym (ap (put w.learner which) same ∙ put-itself w.learner which) i;
    packets = sym (if-false (sent (learner which) o.left.packet ∷ w.packets) w.packets quiet) i;
    wanted = w.wanted;
  }

pub reads-keep : {s : Settings} {w u : Boxes} → Reads s w u → w ≡ u
unfolding says_send
reads-keep {s} {w} (run.Reads.learner_answers which i before) =
    let t = w.learner which in
    read-quietly w which (answered before (answer_for s i t)).answer [] (one-quiet (answer-promises s i t before).numbers_are refl)
reads-keep {s} {w} (run.Reads.learner_delivers which buffer count) =
    let t = w.learner which in
    let o = deliver s t buffer count in
    read-quietly w which o.answer o.left.packet (outcome-quiet ((deliver-promises s t).numbers_are buffer count) refl refl)
reads-keep {s} {w} (run.Reads.learner_finds_hole which before) =
    let t = w.learner which in
    read-quietly w which (holes.answered before (holes.find_hole s t)).answer [] (one-quiet (hole-promises s t before).numbers_are refl)
reads-keep {s} {w} (run.Reads.learner_saves which buffer) =
    let t = w.learner which in
    let promised = save-promises s in
    leave-quietly w which (save s buffer t) (promised.keeps_tables buffer t) (outcome-quiet (promised.numbers_are buffer t) refl refl)
