-- `wire::write_fields` meets its contract: each return is a way out of `write_fields`.
-- Assumes nothing.
use Rattle.std.proofs.Common.{refl}
use Rattle.wire.proofs.WriteWays.{refused-1, refused-5, wrote}
use Rattle.wire.proofs.write_fields.Goals as goal

pub returns-then-packet-ne-PACKET_LENGTH : goal.returns-then-packet-ne-PACKET_LENGTH
returns-then-packet-ne-PACKET_LENGTH c = refused-1 _ _ c.if-packet-ne-PACKET_LENGTH.true

pub returns-then-not-keeps_table : goal.returns-then-not-keeps_table
returns-then-not-keeps_table c = refused-5 _ _ c.if-packet-ne-PACKET_LENGTH.false _ c.keeps_table.ensures c.if-not-keeps_table.true

pub returns-else-not-keeps_table : goal.returns-else-not-keeps_table
returns-else-not-keeps_table c =
    wrote _ _ c.if-packet-ne-PACKET_LENGTH.false _ c.keeps_table.ensures c.if-not-keeps_table.false _ _ c.put_fields.ensures refl
