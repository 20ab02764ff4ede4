-- `checksum::sum_onto` meets its contract. The invariant: the words that are left, with the sum so far, have the residue of the whole sum.
-- Assumes nothing.
use native.Mathlib.Omega.{arith}
use Rattle.checksum.proofs.Pairs.{begins, pair-next, ends}
use Rattle.checksum.proofs.sum_onto.Goals as goal

pub loop-left-init : goal.loop-left-init
loop-left-init c = begins _ _ (omega arith) (λ i. omega (arith, c.type_inv.part i))

pub loop-left-preserved : goal.loop-left-preserved
loop-left-preserved c = pair-next _ c.loop-left.invariant _ _ c.in-len4-up.len_at_least c.from_be_bytes.ensures c.with_pair-sum.ensures c.from_be_bytes.type_inv

pub returns : goal.returns
returns c =
    ends _ c.loop-left.invariant (omega arith) (λ i. omega (arith, c.type_inv.part i)) _ _ c.in_16_bits.ensures c.words_onto.ensures
