-- `acceptor::carry_out` meets its contract: each arm knows what the order came to, and stores and sends that.
-- Assumes nothing.
use Rattle.std.proofs.Common.{ap}
use Rattle.std.specs.Prelude.{Ok}
use Rattle.basics.specs.declared.Verdict.TheVariants.{ToLeader, ToLearners}
use Rattle.acceptor_rule.specs.Rule.{ruling_of}
use Rattle.acceptor.proofs.Ways.{carried-sent}
use Rattle.acceptor.proofs.carry_out.Goals as goal

pub returns-in-Promised-clause-ruled : goal.returns-in-Promised-clause-ruled
returns-in-Promised-clause-ruled c =
    carried-sent _ _ _ _ ToLeader _ _ _ _ (ap (λ o. ruling_of (Ok o)) c.in-Promised.is) c.requires.long c.put_message.ensures c.store_cell.ensures.stored

pub returns-in-Voted-clause-ruled : goal.returns-in-Voted-clause-ruled
returns-in-Voted-clause-ruled c =
    carried-sent _ _ _ _ ToLearners _ _ _ _ (ap (λ o. ruling_of (Ok o)) c.in-Voted.is) c.requires.long c.put_message-in-Voted.ensures
    c.store_cell-in-Voted.ensures.stored
