-- Learner: votes are counted, an instance is decided when its set reaches majority, and its value is then the answer for it.
-- Assumes nothing.
use Rattle.std.specs.Prelude.{ℕ, List, Option, Some, None, Result, Ok, Err}
use Rattle.basics.specs.declared.Instance.{Instance}
use Rattle.basics.specs.declared.Refusal.{Refusal}
use Rattle.basics.specs.declared.Value.{Value}
use Rattle.basics.specs.declared.Verdict.TheVariants as verdicts
use Rattle.basics.specs.Ladder.{when◌then◌else◌, need◌or◌then◌}
use Rattle.basics.specs.Outcome.{Outcome, outcome, Lent}
use Rattle.basics.specs.Places.{Place, At, Nowhere, placed}
use Rattle.basics.specs.Refusal.{refusal_number}
use Rattle.basics.specs.Verdict.{verdict_number}
use Rattle.messages.specs.declared.Message.{Message}
use Rattle.messages.specs.Message.{when_vote}
use Rattle.player.specs.Step.{Ruling, refused, Player, step}
use Rattle.quorum.specs.declared.Settings.{Settings}
use Rattle.learner_cell.specs.declared.Cell.{Cell}
use Rattle.learner_cell.specs.Cell.{is_decided, value_of, possible}
use Rattle.learner_rule.specs.Rule.{count_vote}
use Rattle.learner_tables.specs.Tables.{Tables, cell_at, with_cell, learner_allowed}

-- Refused by 6 if no vote, by 8 if the instance is not below N.
unfoldable pub place : (N : ℕ) → Message → Place
place N = when_vote (λ sender instance round value. placed N instance) (Nowhere 6)

unfoldable pub rule : (M : ℕ) → Cell → Message → Ruling Cell
rule M c = when_vote (λ sender instance round value. count_vote M c sender round value) (refused 6)

unfoldable pub learner : Settings → Player Tables Cell
learner s = record {
  allowed = learner_allowed s;
  place = place s.instances;
  cell_at = cell_at;
  with_cell = with_cell;
  rule = rule s.acceptors;
}

unfoldable pub learner_step : Settings → (packet : List ℕ) → Tables → Outcome (Lent Tables)
learner_step s = step (learner s)

-- ---- the answer for an instance

-- What a learner says of an instance.
pub data Answer : Type 0 where
  Decided : Value → Answer
  NotYet : Answer
  Refused : (number : ℕ) → Answer

-- Its value if decided, else "not yet".
unfoldable pub answer_of_cell : (M : ℕ) → Cell → Answer
answer_of_cell M c =
    need possible M c or Refused 17 then
    when is_decided M c then Decided (value_of M c) else NotYet

unfoldable pub answer_at : (M : ℕ) → Tables → Place → Answer
answer_at M t (At index) = answer_of_cell M (cell_at t index)
answer_at M t (Nowhere number) = Refused number

-- Answer for an instance: 7, 8, 17.
unfoldable pub answer_for : Settings → Instance → Tables → Answer
answer_for s instance t =
    need learner_allowed s t or Refused 7 then
    answer_at s.acceptors t (placed s.instances instance)

-- What the call answers, and what it leaves of the value that was lent to be overwritten: only a decided value is written.
unfoldable pub answered : (before : Value) → Answer → Outcome Value
answered before (Decided value) = outcome (verdict_number verdicts.Done) value
answered before NotYet = outcome (verdict_number verdicts.NotYet) before
answered before (Refused number) = outcome number before

-- What each answer of the code comes to.
abbrev pub answer_of : Result (Option Value) Refusal → Answer
answer_of (Ok (Some value)) = Decided value
answer_of (Ok None) = NotYet
answer_of (Err refusal) = Refused (refusal_number refusal)
