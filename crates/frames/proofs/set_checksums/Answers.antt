-- `frames::set_checksums` meets its contract: both checksums are computed before either is stored.
-- Assumes nothing.
use Rattle.frames.proofs.Ways.{stays, stored}
use Rattle.frames.proofs.set_checksums.Goals as goal

pub returns-then-frame-eq-FRAME_LENGTH : goal.returns-then-frame-eq-FRAME_LENGTH
returns-then-frame-eq-FRAME_LENGTH c =
    rw (c.write-then-frame-eq-FRAME_LENGTH.ensures, c.write.ensures, c.udp_checksum-udp.ensures, c.ipv4_checksum-ipv4.ensures)
    (stored c.args.frame.now c.if-frame-eq-FRAME_LENGTH.true)

pub returns-else-frame-eq-FRAME_LENGTH : goal.returns-else-frame-eq-FRAME_LENGTH
returns-else-frame-eq-FRAME_LENGTH c = stays _ c.if-frame-eq-FRAME_LENGTH.false
