-- `backup_rule::propose_at_majority` meets its contract: each return is a side of the choice, by whether the set reaches majority.
-- Assumes nothing.
use mathlib.Core.Path.{sym, ◌∙◌}
use Rattle.basics.proofs.Ladder.{if-true, if-false}
use Rattle.backup_rule.specs.Rule.{when_majority}
use Rattle.backup_rule.proofs.propose_at_majority.Goals as goal

pub returns-then-not-reaches_majority : goal.returns-then-not-reaches_majority
unfolding when_majority
returns-then-not-reaches_majority c = sym (if-false _ _ (sym c.reaches_majority.ensures ∙ c.if-not-reaches_majority.true))

pub returns : goal.returns
unfolding when_majority
returns c =
    rw c.choose.ensures (sym (if-true _ _ (sym c.reaches_majority.ensures ∙ c.if-not-reaches_majority.false)))
