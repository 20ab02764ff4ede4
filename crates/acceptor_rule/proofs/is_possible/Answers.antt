-- `acceptor_rule::is_possible` meets its contract: each test is what its call ensures.
-- Assumes nothing.
use Rattle.acceptor_rule.specs.Rule.{possible}
use mathlib.Core.Path.{sym, ◌∙◌}
use Rattle.acceptor_rule.proofs.is_possible.Goals as goal

pub returns-then-owned_or_0 : goal.returns-then-owned_or_0
unfolding possible
returns-then-owned_or_0 c = rw (c.is_vote_up_to.ensures, sym c.owned_or_0.ensures ∙ c.if-owned_or_0.true)

pub returns-else-owned_or_0 : goal.returns-else-owned_or_0
unfolding possible
returns-else-owned_or_0 c = c.if-owned_or_0.false ∙ rw (sym c.owned_or_0.ensures ∙ c.if-owned_or_0.false)
