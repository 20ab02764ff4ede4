-- Delivery: the values of instances 0, 1, .. before the first undecided one.
-- Assumes nothing.
use Rattle.std.specs.Prelude.{ℕ, ◌*◌, List, [], ◌∷◌, ◌++◌, eqb, length, Result, Ok, Err}
use Rattle.numbers.specs.BigEndian.{to_bytes}
use Rattle.numbers.specs.Fronts.{with_front}
use Rattle.basics.specs.declared.Refusal.{Refusal}
use Rattle.basics.specs.declared.Value.{Value}
use Rattle.basics.specs.declared.Verdict.TheVariants.{Done}
use Rattle.basics.specs.Ladder.{when◌then◌else◌, need◌or◌then◌}
use Rattle.basics.specs.Outcome.{Outcome, outcome, Lent, lent}
use Rattle.basics.specs.Refusal.{refusal_number}
use Rattle.basics.specs.Verdict.{verdict_number}
use Rattle.player.specs.Step.{unchanged}
use Rattle.quorum.specs.declared.Settings.{Settings}
use Rattle.learner_cell.specs.declared.Cell.{Cell}
use Rattle.learner_cell.specs.Cell.{is_decided, value_of}
use Rattle.learner_tables.specs.Tables.{Tables, learner_allowed, cells, all_possible}

-- The delivered list holds the values of instances 0, 1, .. before the first undecided.
unfoldable pub delivered : (M : ℕ) → List Cell → List Value
delivered M [] = []
delivered M (c ∷ cs) = when is_decided M c then value_of M c ∷ delivered M cs else []

-- Values as bytes, 16 each.
unfoldable pub value_bytes : List Value → List ℕ
value_bytes [] = []
value_bytes (v ∷ vs) = to_bytes 8 v.high ++ to_bytes 8 v.low ++ value_bytes vs

-- Written to the front of the buffer, the rest of which stays; the count of values is answered, over the number lent beside the buffer.
abbrev pub written_to : (buffer : List ℕ) → List Value → Lent ℕ
written_to buffer values = lent (with_front buffer (value_bytes values)) (length values)

-- Delivery looks at every cell: 7, then 1 for its buffer, 17.
unfoldable pub deliver : Settings → Tables → (buffer : List ℕ) → (count : ℕ) → Outcome (Lent ℕ)
deliver s t buffer count =
    need learner_allowed s t or unchanged buffer count 7 then
    need eqb (length buffer) (16 * s.instances) or unchanged buffer count 1 then
    need all_possible s.acceptors (cells s t) or unchanged buffer count 17 then
    outcome (verdict_number Done) (written_to buffer (delivered s.acceptors (cells s t)))

-- What each answer of the code comes to: the count of values goes over the number lent beside the buffer.
abbrev pub delivery_of : (buffer : List ℕ) → (count : ℕ) → Result ℕ Refusal → Outcome (Lent ℕ)
delivery_of buffer count (Ok values) = outcome (verdict_number Done) (lent buffer values)
delivery_of buffer count (Err refusal) = unchanged buffer count (refusal_number refusal)
