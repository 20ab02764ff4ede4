-- `wire::write_packet` meets its contract: a message is written as its fields.
-- Assumes nothing.
use Rattle.wire.proofs.WriteWays.{as_fields}
use Rattle.wire.proofs.write_packet.Goals as goal

pub returns : goal.returns
returns c = as_fields _ _ _ c.fields_of.ensures _ c.write_fields.ensures
