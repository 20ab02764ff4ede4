-- `learner_rule::hold_or_decide` meets its contract: each return is a side of the choice.
-- Assumes nothing.
use mathlib.Core.Path.{sym, ◌∙◌}
use Rattle.basics.proofs.Ladder.{if-true, if-false}
use Rattle.learner_rule.specs.Rule.{hold_or_decide}
use Rattle.learner_rule.proofs.hold_or_decide.Goals as goal

pub returns-then-is_decided : goal.returns-then-is_decided
unfolding hold_or_decide
returns-then-is_decided c = sym (if-true _ _ (sym c.is_decided.ensures ∙ c.if-is_decided.true))

pub returns : goal.returns
unfolding hold_or_decide
returns c = sym (if-false _ _ (sym c.is_decided.ensures ∙ c.if-is_decided.false))
