-- `packets::myrthakel_packet_read` meets its contract: each arm knows the reading, and leaves what that says.
-- Assumes nothing.
use Rattle.std.proofs.Common.{refl, ap}
use Rattle.wire.specs.Packet.{reading_of}
use Rattle.packets.proofs.Ways.{has-read, has-refused}
use Rattle.packets.proofs.myrthakel_packet_read.Goals as goal

pub returns-in-Ok : goal.returns-in-Ok
returns-in-Ok c =
    has-read _ _ _ c.read_packet.ensures _ (ap reading_of c.in-Ok.is) _ c.fields_of-f.ensures _ refl

pub returns-in-Err : goal.returns-in-Err
returns-in-Err c = rw c.refusal_number.ensures (has-refused _ _ _ c.read_packet.ensures _ (ap reading_of c.in-Err.is))
