-- `backup_rule::choose` meets its contract: each return is a side of the choice.
-- Assumes nothing.
use mathlib.Core.Path.{sym, ◌∙◌}
use Rattle.basics.proofs.Ladder.{if-true, if-false}
use Rattle.backup_rule.specs.Rule.{chosen}
use Rattle.backup_rule.proofs.choose.Goals as goal

pub returns-then-is_none : goal.returns-then-is_none
unfolding chosen
returns-then-is_none c = sym (if-true _ _ (sym c.is_none.ensures ∙ c.if-is_none.true))

pub returns : goal.returns
unfolding chosen
returns c = sym (if-false _ _ (sym c.is_none.ensures ∙ c.if-is_none.false))
