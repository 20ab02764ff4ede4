-- `backup_rule::take_promise` meets its contract: each return is a way out of `take_promise`.
-- Assumes nothing.
use mathlib.Core.Path.{ap, ◌∙◌}
use Rattle.backup_rule.specs.Rule.{when_majority}
use Rattle.backup_rule.proofs.Ways.{promise-9, promise-17, promise-11, promise-15, promise-counted}
use Rattle.backup_rule.proofs.take_promise.Goals as goal

pub returns-then-acceptors-sender : goal.returns-then-acceptors-sender
returns-then-acceptors-sender c = promise-9 _ _ _ _ _ _ _ _ c.if-acceptors-sender.true

pub returns-then-not-is_possible : goal.returns-then-not-is_possible
returns-then-not-is_possible c = promise-17 _ _ _ _ _ _ _ _ c.if-acceptors-sender.false _ c.is_possible.ensures c.if-not-is_possible.true

pub returns-then-not-cell-same_round : goal.returns-then-not-cell-same_round
returns-then-not-cell-same_round c =
    promise-11 _ _ _ _ _ _ _ _ c.if-acceptors-sender.false _ c.is_possible.ensures c.if-not-is_possible.false _ c.same_round.ensures c.if-not-cell-same_round.true

pub returns-then-has_member : goal.returns-then-has_member
returns-then-has_member c =
    promise-15 _ _ _ _ _ _ _ _ c.if-acceptors-sender.false _ c.is_possible.ensures c.if-not-is_possible.false _ c.same_round.ensures c.if-not-cell-same_round.false
    _ c.has_member.ensures c.if-has_member.true

pub returns : goal.returns
returns c =
    c.propose_at_majority.ensures ∙ ap (when_majority _ _) c.count_promise-counted.ensures
    ∙ promise-counted _ _ _ _ _ _ _ _ c.if-acceptors-sender.false _ c.is_possible.ensures c.if-not-is_possible.false _ c.same_round.ensures c.if-not-cell-same_round.false
    _ c.has_member.ensures c.if-has_member.false
