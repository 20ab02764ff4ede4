-- `learner_rule::count_vote` meets its contract: each return is a way out of `count_vote`.
-- Assumes nothing.
use mathlib.Core.Path.{ap, ◌∙◌}
use Rattle.learner_rule.specs.Rule.{hold_or_decide}
use Rattle.learner_rule.proofs.Ways.{vote-9, vote-17, vote-14, vote-10, vote-higher, vote-added, added-13, added-15, added-counted}
use Rattle.learner_rule.proofs.count_vote.Goals as goal

pub returns-then-acceptors-sender : goal.returns-then-acceptors-sender
returns-then-acceptors-sender c = vote-9 _ _ _ _ _ c.if-acceptors-sender.true

pub returns-then-not-is_possible : goal.returns-then-not-is_possible
returns-then-not-is_possible c = vote-17 _ _ _ _ _ c.if-acceptors-sender.false _ c.is_possible.ensures c.if-not-is_possible.true

pub returns-then-is_decided : goal.returns-then-is_decided
returns-then-is_decided c =
    vote-14 _ _ _ _ _ c.if-acceptors-sender.false _ c.is_possible.ensures c.if-not-is_possible.false _ c.is_decided.ensures c.if-is_decided.true

pub returns-then-not-at_most : goal.returns-then-not-at_most
returns-then-not-at_most c =
    vote-10 _ _ _ _ _ c.if-acceptors-sender.false _ c.is_possible.ensures c.if-not-is_possible.false _ c.is_decided.ensures c.if-is_decided.false
    _ c.at_most.ensures c.if-not-at_most.true

pub returns-then-not-same_round : goal.returns-then-not-same_round
returns-then-not-same_round c =
    c.hold_or_decide.ensures ∙ ap (hold_or_decide _) c.with_voter-next.ensures
    ∙ vote-higher _ _ _ _ _ c.if-acceptors-sender.false _ c.is_possible.ensures c.if-not-is_possible.false _ c.is_decided.ensures c.if-is_decided.false
    _ c.at_most.ensures c.if-not-at_most.false _ c.same_round.ensures c.if-not-same_round.true

pub returns-then-not-same_value : goal.returns-then-not-same_value
returns-then-not-same_value c =
    vote-added _ _ _ _ _ c.if-acceptors-sender.false _ c.is_possible.ensures c.if-not-is_possible.false _ c.is_decided.ensures c.if-is_decided.false
    _ c.at_most.ensures c.if-not-at_most.false _ c.same_round.ensures _ c.if-not-same_round.false
    (added-13 _ _ _ _ _ _ c.same_value.ensures c.if-not-same_value.true)

pub returns-then-has_member : goal.returns-then-has_member
returns-then-has_member c =
    vote-added _ _ _ _ _ c.if-acceptors-sender.false _ c.is_possible.ensures c.if-not-is_possible.false _ c.is_decided.ensures c.if-is_decided.false
    _ c.at_most.ensures c.if-not-at_most.false _ c.same_round.ensures _ c.if-not-same_round.false
    (added-15 _ _ _ _ _ _ c.same_value.ensures c.if-not-same_value.false _ c.has_member.ensures c.if-has_member.true)

pub returns : goal.returns
returns c =
    vote-added _ _ _ _ _ c.if-acceptors-sender.false _ c.is_possible.ensures c.if-not-is_possible.false _ c.is_decided.ensures c.if-is_decided.false
    _ c.at_most.ensures c.if-not-at_most.false _ c.same_round.ensures _ c.if-not-same_round.false
    (c.hold_or_decide-2.ensures ∙ ap (hold_or_decide _) c.with_voter-next-2.ensures
    ∙ added-counted _ _ _ _ _ _ c.same_value.ensures c.if-not-same_value.false _ c.has_member.ensures c.if-has_member.false)
