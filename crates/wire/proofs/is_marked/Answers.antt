-- `wire::is_marked` meets its contract: the mark is compared as one number.
-- Assumes nothing.
use native.Mathlib.Omega.{arith}
use Rattle.wire.proofs.Mark.{marked-number}
use Rattle.wire.proofs.is_marked.Goals as goal

pub returns : goal.returns
returns c =
    rw c.read.ensures (marked-number c.args.packet.now (λ i. omega (arith, c.shared_slice_known-1.given i)) c.requires)
