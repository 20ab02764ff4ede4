-- `basics::is_vote_up_to` meets its contract: a vote round none leaves the value alone, and any other the order.
-- Assumes nothing.
use Rattle.basics.proofs.Votes.{never-voted, voted-owned, voted-unowned}
use Rattle.std.proofs.Common.{sym, ◌∙◌}
use Rattle.basics.proofs.is_vote_up_to.Goals as goal

pub returns-then-is_none : goal.returns-then-is_none
returns-then-is_none c =
    let a = c.args in
    c.is_null.ensures ∙ never-voted a.round a.vote_round a.value (sym c.is_none.ensures ∙ c.if-is_none.true)

pub returns-then-owned_or_0 : goal.returns-then-owned_or_0
returns-then-owned_or_0 c =
    let a = c.args in
    c.at_most.ensures
    ∙ voted-owned a.round a.vote_round a.value (sym c.is_none.ensures ∙ c.if-is_none.false) (sym c.owned_or_0.ensures ∙ c.if-owned_or_0.true)

pub returns-else-owned_or_0 : goal.returns-else-owned_or_0
returns-else-owned_or_0 c =
    let a = c.args in
    c.if-owned_or_0.false
    ∙ voted-unowned a.round a.vote_round a.value (sym c.is_none.ensures ∙ c.if-is_none.false) (sym c.owned_or_0.ensures ∙ c.if-owned_or_0.false)
