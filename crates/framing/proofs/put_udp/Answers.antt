-- `framing::put_udp` meets its contract: its stores leave the bytes of the UDP header.
-- Assumes nothing.
use Rattle.framing.proofs.Stores.{udp-stored}
use Rattle.framing.proofs.put_udp.Goals as goal

pub returns : goal.returns
returns c =
    rw (c.write-4.ensures, c.write-3.ensures, c.write-2.ensures, c.write.ensures)
    (udp-stored c.args.frame.now c.requires c.args.from c.args.to)
