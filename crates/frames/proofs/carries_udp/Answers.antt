-- `frames::carries_udp` meets its contract: each test reads what the definition reads.
-- Assumes nothing.
use Rattle.frames.specs.Frame.{carries_udp}
use Rattle.frames.proofs.carries_udp.Goals as goal

pub returns : goal.returns
unfolding carries_udp
returns c =
    rw (c.read.ensures, c.read-2.ensures, c.read-3.ensures)
