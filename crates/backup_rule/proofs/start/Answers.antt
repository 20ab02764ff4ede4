-- `backup_rule::start` meets its contract: each return is a way out of `start`.
-- Assumes nothing.
use Rattle.backup_rule.proofs.Ways.{start-17, start-16, start-sent}
use Rattle.backup_rule.proofs.start.Goals as goal

pub returns-then-not-is_possible : goal.returns-then-not-is_possible
returns-then-not-is_possible c = start-17 _ _ _ _ _ _ _ c.is_possible.ensures c.if-not-is_possible.true

pub returns-then-next : goal.returns-then-next
returns-then-next c = start-16 _ _ _ _ _ _ _ c.is_possible.ensures c.if-not-is_possible.false _ c.next_round-next.ensures c.if-next.true

pub returns : goal.returns
returns c = start-sent _ _ _ _ _ _ _ c.is_possible.ensures c.if-not-is_possible.false _ c.next_round-next.ensures c.if-next.false
