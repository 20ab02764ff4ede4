-- `backup_rule::count_promise` meets its contract: each return is a side of the choice, by the order of the vote rounds.
-- Assumes nothing.
use mathlib.Core.Path.{sym, ◌∙◌}
use Rattle.basics.proofs.Ladder.{if-true, if-false}
use Rattle.backup_rule.specs.Rule.{counting}
use Rattle.backup_rule.proofs.count_promise.Goals as goal

pub returns-then-at_most : goal.returns-then-at_most
unfolding counting
returns-then-at_most c = rw c.with_member-set.ensures (sym (if-true _ _ (sym c.at_most.ensures ∙ c.if-at_most.true)))

pub returns : goal.returns
unfolding counting
returns c = rw c.with_member-set.ensures (sym (if-false _ _ (sym c.at_most.ensures ∙ c.if-at_most.false)))
