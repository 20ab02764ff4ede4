-- `wire::put_message` meets its contract: at 36 bytes the packet of the message is put, and at any other length nothing.
-- Assumes nothing.
use Rattle.wire.proofs.WriteWays.{nothing_put, put}
use Rattle.wire.proofs.put_message.Goals as goal

pub returns-then-packet-eq-PACKET_LENGTH : goal.returns-then-packet-eq-PACKET_LENGTH
returns-then-packet-eq-PACKET_LENGTH c = put _ _ c.if-packet-eq-PACKET_LENGTH.true _ c.fields_of.ensures _ c.put_fields.ensures

pub returns-else-packet-eq-PACKET_LENGTH : goal.returns-else-packet-eq-PACKET_LENGTH
returns-else-packet-eq-PACKET_LENGTH c = nothing_put _ _ c.if-packet-eq-PACKET_LENGTH.false
