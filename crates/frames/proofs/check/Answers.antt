-- `frames::check` meets its contract: each return is a way out of `frame_check`.
-- Assumes nothing.
use Rattle.std.proofs.Common.{refl}
use Rattle.frames.proofs.Ways.{refused-21, refused-22, refused-23, refused-24, refused-25, passes}
use Rattle.frames.proofs.check.Goals as goal

pub returns-then-frame-ne-FRAME_LENGTH : goal.returns-then-frame-ne-FRAME_LENGTH
returns-then-frame-ne-FRAME_LENGTH c = refused-21 _ _ c.if-frame-ne-FRAME_LENGTH.true

pub returns-then-not-carries_udp : goal.returns-then-not-carries_udp
returns-then-not-carries_udp c = refused-22 _ _ c.if-frame-ne-FRAME_LENGTH.false _ c.carries_udp.ensures c.if-not-carries_udp.true

pub returns-then-read-ipv4_checksum : goal.returns-then-read-ipv4_checksum
returns-then-read-ipv4_checksum c =
    refused-23 _ _ c.if-frame-ne-FRAME_LENGTH.false _ c.carries_udp.ensures c.if-not-carries_udp.false _ _ c.read.ensures
    c.ipv4_checksum.ensures c.if-read-ipv4_checksum.true

pub returns-then-not-read-port : goal.returns-then-not-read-port
returns-then-not-read-port c =
    refused-24 _ _ c.if-frame-ne-FRAME_LENGTH.false _ c.carries_udp.ensures c.if-not-carries_udp.false _ _ c.read.ensures
    c.ipv4_checksum.ensures c.if-read-ipv4_checksum.false _ _ c.read-2.ensures c.read-3.ensures c.if-not-read-port.true

pub returns-then-read-udp_checksum : goal.returns-then-read-udp_checksum
returns-then-read-udp_checksum c =
    refused-25 _ _ c.if-frame-ne-FRAME_LENGTH.false _ c.carries_udp.ensures c.if-not-carries_udp.false _ _ c.read.ensures
    c.ipv4_checksum.ensures c.if-read-ipv4_checksum.false _ _ c.read-2.ensures c.read-3.ensures c.if-not-read-port.false
    _ _ c.read-4.ensures c.udp_checksum.ensures c.if-read-udp_checksum.true

pub returns : goal.returns
returns c =
    passes _ _ c.if-frame-ne-FRAME_LENGTH.false _ c.carries_udp.ensures c.if-not-carries_udp.false _ _ c.read.ensures
    c.ipv4_checksum.ensures c.if-read-ipv4_checksum.false _ _ c.read-2.ensures c.read-3.ensures c.if-not-read-port.false
    _ _ c.read-4.ensures c.udp_checksum.ensures _ c.if-read-udp_checksum.false refl
