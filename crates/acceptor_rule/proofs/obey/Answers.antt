-- `acceptor_rule::obey` meets its contract: each return is a way out of the rule.
-- Assumes nothing.
use Rattle.acceptor_rule.specs.Rule.{obeying}
use Rattle.acceptor_rule.proofs.Ways.{obey-17, obey-10, obeyed}
use Rattle.acceptor_rule.proofs.obey.Goals as goal

pub returns-then-not-is_possible : goal.returns-then-not-is_possible
returns-then-not-is_possible c = obey-17 _ _ _ _ c.is_possible.ensures c.if-not-is_possible.true

pub returns-then-not-at_most : goal.returns-then-not-at_most
returns-then-not-at_most c =
    obey-10 _ _ _ _ c.is_possible.ensures c.if-not-is_possible.false _ c.at_most.ensures c.if-not-at_most.true

pub returns-in-Promise : goal.returns-in-Promise
unfolding obeying
returns-in-Promise c =
    obeyed _ _ _ _ c.is_possible.ensures c.if-not-is_possible.false _ c.at_most.ensures c.if-not-at_most.false _ _
    c.in-Promise.is c.promise.ensures

pub returns-in-Vote : goal.returns-in-Vote
unfolding obeying
returns-in-Vote c =
    obeyed _ _ _ _ c.is_possible.ensures c.if-not-is_possible.false _ c.at_most.ensures c.if-not-at_most.false _ _
    c.in-Vote.is c.vote.ensures
