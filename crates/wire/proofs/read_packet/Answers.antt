-- `wire::read_packet` meets its contract: each return is a way out of `read_packet`.
-- Assumes nothing.
use native.Mathlib.Omega.{arith}
use Rattle.wire.proofs.ReadWays.{refused-1, refused-2, refused-3, refused-4, refused-5, read}
use Rattle.wire.proofs.read_packet.Goals as goal

pub returns-then-packet-ne-PACKET_LENGTH : goal.returns-then-packet-ne-PACKET_LENGTH
returns-then-packet-ne-PACKET_LENGTH c = refused-1 _ c.if-packet-ne-PACKET_LENGTH.true

pub returns-then-not-is_marked : goal.returns-then-not-is_marked
returns-then-not-is_marked c = refused-2 _ c.if-packet-ne-PACKET_LENGTH.false _ c.is_marked.ensures c.if-not-is_marked.true

pub returns-then-read-ne-VERSION : goal.returns-then-read-ne-VERSION
returns-then-read-ne-VERSION c =
    refused-3 _ c.if-packet-ne-PACKET_LENGTH.false _ c.is_marked.ensures c.if-not-is_marked.false _ c.read.ensures (λ same. omega arith)

pub returns-then-packet-gt4 : goal.returns-then-packet-gt4
returns-then-packet-gt4 c =
    refused-4 _ c.if-packet-ne-PACKET_LENGTH.false _ c.is_marked.ensures c.if-not-is_marked.false _ c.read.ensures
    (omega arith) (omega arith)

pub returns-then-not-keeps_table : goal.returns-then-not-keeps_table
returns-then-not-keeps_table c =
    refused-5 _ c.if-packet-ne-PACKET_LENGTH.false _ c.is_marked.ensures c.if-not-is_marked.false _ c.read.ensures
    (omega arith) (omega arith) _ c.fields_in-f.ensures _ c.keeps_table.ensures c.if-not-keeps_table.true

pub returns : goal.returns
returns c =
    read _ c.if-packet-ne-PACKET_LENGTH.false _ c.is_marked.ensures c.if-not-is_marked.false _ c.read.ensures
    (omega arith) (omega arith) _ c.fields_in-f.ensures _ c.keeps_table.ensures c.if-not-keeps_table.false
    _ c.message_of.ensures
