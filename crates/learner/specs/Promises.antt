-- What is promised of the learner's step, and of its answer for an instance.
-- Assumes nothing.
use Rattle.std.specs.Prelude.{ℕ, ◌≡◌, true, List, [], ◌∷◌}
use Rattle.basics.specs.declared.Instance.{Instance}
use Rattle.basics.specs.declared.Value.{Value}
use Rattle.basics.specs.declared.Verdict.TheVariants.{Hold, Decided, Done, NotYet}
use Rattle.basics.specs.Verdict.{verdict_number}
use Rattle.player.specs.Promises.{OneOf, packet_refusals, NumbersAre, RefusalKeepsAll, UsesCell, OtherCellsStay, PossibleStays, FittingStays}
use Rattle.quorum.specs.declared.Settings.{Settings}
use Rattle.learner_cell.specs.Cell.{is_decided, possible}
use Rattle.learner_tables.specs.Tables.{Tables, cell_at, Sized, Fitting}
use Rattle.learner.specs.Learner as answers
use Rattle.learner.specs.Learner.{learner, learner_step, answer_for, answered}

-- ---- the step

-- Order for a packet: 7, 1 to 5, 6, 8, 9, 17, 14, 10, 13, 15.
abbrev pub refusals : List ℕ
refusals = packet_refusals (8 ∷ 9 ∷ 17 ∷ 14 ∷ 10 ∷ 13 ∷ 15 ∷ [])

abbrev pub verdicts : List ℕ
verdicts = verdict_number Hold ∷ verdict_number Decided ∷ []

-- Of the step, whatever the settings. It sends nothing.
pub record StepPromises (s : Settings) : Type 0 where
  pub numbers_are : NumbersAre (learner_step s) refusals verdicts
  pub refusal_keeps_all : RefusalKeepsAll (learner_step s)
  pub other_cells_stay : OtherCellsStay (learner_step s) cell_at (UsesCell (learner s))
  pub possible_stays : PossibleStays (learner_step s) cell_at (possible s.acceptors)
  pub fitting_stays : FittingStays (learner_step s) Fitting
  pub sized_stays : (packet : List ℕ) (t : Tables) {n : ℕ} → Sized n t → Sized n (learner_step s packet t).left.tables
  -- Hold and decided leave the packet unchanged, as refusals do.
  pub packet_stays : (packet : List ℕ) (t : Tables) → (learner_step s packet t).left.packet ≡ packet
  -- A decided cell never moves again.
  pub decided_stays : (packet : List ℕ) (t : Tables) (index : ℕ) → is_decided s.acceptors (cell_at t index) ≡ true
      → cell_at (learner_step s packet t).left.tables index ≡ cell_at t index

-- ---- the answer

-- Answer for an instance: 7, 8, 17; its value, or "not yet".
abbrev pub answer_numbers : List ℕ
answer_numbers = 7 ∷ 8 ∷ 17 ∷ verdict_number Done ∷ verdict_number NotYet ∷ []

-- Of the call for an instance, on tables, and on a value lent to be overwritten.
pub record AnswerPromises (s : Settings) (instance : Instance) (t : Tables) (before : Value) : Type 0 where
  -- It answers one of the numbers.
  pub numbers_are : OneOf (answered before (answer_for s instance t)).answer answer_numbers
  -- Unless a value is decided, the one lent stays.
  pub keeps : ((answered before (answer_for s instance t)).answer ≡ verdict_number Done → ⊥) → (answered before (answer_for s instance t)).left ≡ before
  -- Who is answered "done" has the decided value,
  pub done_tells : (answered before (answer_for s instance t)).answer ≡ verdict_number Done
      → answer_for s instance t ≡ answers.Decided (answered before (answer_for s instance t)).left
  -- and who is answered "not yet" knows that this learner has decided none.
  pub not_yet_tells : (answered before (answer_for s instance t)).answer ≡ verdict_number NotYet → answer_for s instance t ≡ answers.NotYet
