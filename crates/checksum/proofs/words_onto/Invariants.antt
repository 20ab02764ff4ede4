-- `checksum::words_onto` meets its contract. The invariant: the words that are left, summed onto the sum so far, come to the whole sum.
-- Assumes nothing.
use mathlib.Core.Path.{◌≡◌}
use lib.ListN.{length}
use Rattle.checksum.specs.Sum.{sum_onto}
use Rattle.checksum.proofs.words_onto.Given as goal

abbrev pub invariant-loop-left : goal.invariant-loop-left
invariant-loop-left l = sum_onto l.sum l.left ≡ sum_onto l.carried l.part

abbrev pub decreases-loop-left : goal.decreases-loop-left
decreases-loop-left l = length l.left
