-- What C is answered: a verdict's number or a refusal's.
-- Assumes nothing.
use Rattle.std.specs.Prelude.{ℕ, Result, Ok, Err}
use Rattle.basics.specs.declared.Refusal.{Refusal}
use Rattle.basics.specs.declared.Verdict.{Verdict}
use Rattle.basics.specs.Refusal.{refusal_number}
use Rattle.basics.specs.Verdict.{verdict_number}

abbrev pub answer_number : Result Verdict Refusal → ℕ
answer_number (Ok verdict) = verdict_number verdict
answer_number (Err refusal) = refusal_number refusal
