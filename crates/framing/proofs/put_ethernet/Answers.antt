-- `framing::put_ethernet` meets its contract: its stores leave the bytes of the Ethernet header.
-- Assumes nothing.
use Rattle.std.proofs.Common.{rules}
use Rattle.framing.proofs.Stores.{ethernet-stored}
use Rattle.framing.proofs.put_ethernet.Goals as goal

pub returns-clause-stored : goal.returns-clause-stored
returns-clause-stored c =
    rw (c.write.ensures, c.put_address-2.ensures, c.put_address.ensures)
    (ethernet-stored c.args.frame.now c.requires c.args.to.now c.args.from.now (search rules) (search rules))
