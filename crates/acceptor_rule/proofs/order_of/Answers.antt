-- `acceptor_rule::order_of` meets its contract: each arm knows which message it has.
-- Assumes nothing.
use mathlib.Core.Path.{sym, ap}
use Rattle.messages.specs.Message.{when_prepare, when_propose}
use Rattle.acceptor_rule.specs.Rule.{order_of}
use Rattle.acceptor_rule.proofs.Ways.{neither}
use Rattle.acceptor_rule.proofs.order_of.Goals as goal

pub returns-in-Prepare : goal.returns-in-Prepare
unfolding order_of when_prepare
returns-in-Prepare c = sym (ap order_of c.in-Prepare.is)

pub returns-in-Propose : goal.returns-in-Propose
unfolding order_of when_prepare when_propose
returns-in-Propose c = sym (ap order_of c.in-Propose.is)

pub returns-in_default : goal.returns-in_default
unfolding order_of
returns-in_default c = neither _ _ _ _ c.in_default.not-Prepare c.in_default.not-Propose
