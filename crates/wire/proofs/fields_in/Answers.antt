-- `wire::fields_in` meets its contract: each field is what its read ensures.
-- Assumes nothing.
use Rattle.wire.specs.Packet.{fields_in}
use Rattle.wire.proofs.fields_in.Goals as goal

pub returns : goal.returns
unfolding fields_in
returns c =
    rw (c.read-6.ensures, c.read-5.ensures, c.read-4.ensures, c.read-3.ensures, c.read-2.ensures, c.read.ensures)
