-- `wire::put_fields` meets its contract: the eight stores leave the packet of the fields.
-- Assumes nothing.
use Rattle.wire.proofs.WriteWays.{stored}
use Rattle.wire.proofs.put_fields.Goals as goal

pub returns : goal.returns
returns c =
    rw (c.write-7.ensures, c.write-6.ensures, c.write-5.ensures, c.write-4.ensures, c.write-3.ensures, c.write-2.ensures, c.write.ensures, c.put_mark.ensures)
    (stored c.args.packet.now c.args.f c.requires)
