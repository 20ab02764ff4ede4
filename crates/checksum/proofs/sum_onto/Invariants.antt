-- `checksum::sum_onto` meets its contract. The invariant: the words that are left, with the sum so far, have the residue of the whole sum.
-- Assumes nothing.
use lib.ListN.{length}
use Rattle.checksum.proofs.Pairs.{Paired}
use Rattle.checksum.proofs.sum_onto.Given as goal

abbrev pub invariant-loop-left : goal.invariant-loop-left
invariant-loop-left l = Paired l.carried l.part l.sum l.left

abbrev pub decreases-loop-left : goal.decreases-loop-left
decreases-loop-left l = length l.left
