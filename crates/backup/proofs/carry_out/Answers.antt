-- `backup::carry_out` meets its contract: each arm knows what the start or the promise came to, and stores and sends that.
-- Assumes nothing.
use Rattle.std.proofs.Common.{ap}
use Rattle.std.specs.Prelude.{Ok}
use Rattle.backup_rule.specs.Rule.{ruling_of}
use Rattle.backup.proofs.Ways.{carried-held, carried-sent}
use Rattle.backup.proofs.carry_out.Goals as goal

pub returns-in-Held-clause-ruled : goal.returns-in-Held-clause-ruled
returns-in-Held-clause-ruled c = carried-held _ _ _ _ _ _ (ap (λ t. ruling_of (Ok t)) c.in-Held.is) c.store_cell.ensures.stored

pub returns-in-Sent-clause-ruled : goal.returns-in-Sent-clause-ruled
returns-in-Sent-clause-ruled c =
    carried-sent _ _ _ _ _ _ _ _ (ap (λ t. ruling_of (Ok t)) c.in-Sent.is) c.requires c.put_message.ensures c.store_cell-in-Sent.ensures.stored
