-- `frames::myrthakel_frame_seal` meets its contract: each return is a way out of `frame_seal`.
-- Assumes nothing.
use Rattle.std.proofs.Common.{refl}
use Rattle.frames.proofs.Ways.{seal-21, seal-22, seal-24, seals}
use Rattle.frames.proofs.myrthakel_frame_seal.Goals as goal

pub returns-then-frame-ne-FRAME_LENGTH : goal.returns-then-frame-ne-FRAME_LENGTH
returns-then-frame-ne-FRAME_LENGTH c = seal-21 _ c.if-frame-ne-FRAME_LENGTH.true

pub returns-then-not-carries_udp : goal.returns-then-not-carries_udp
returns-then-not-carries_udp c = seal-22 _ c.if-frame-ne-FRAME_LENGTH.false _ c.carries_udp.ensures c.if-not-carries_udp.true

pub returns-then-read-ne-UDP_LENGTH : goal.returns-then-read-ne-UDP_LENGTH
returns-then-read-ne-UDP_LENGTH c =
    seal-24 _ c.if-frame-ne-FRAME_LENGTH.false _ c.carries_udp.ensures c.if-not-carries_udp.false _ c.read.ensures c.if-read-ne-UDP_LENGTH.true

pub returns : goal.returns
returns c =
    seals _ c.if-frame-ne-FRAME_LENGTH.false _ c.carries_udp.ensures c.if-not-carries_udp.false _ c.read.ensures
    _ _ c.if-read-ne-UDP_LENGTH.false c.set_checksums.ensures refl
