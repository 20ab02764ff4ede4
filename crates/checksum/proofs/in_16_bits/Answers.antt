-- `checksum::in_16_bits` meets its contract: a number above 0 has its residue one less, counted from 0.
-- Assumes nothing.
use mathlib.Core.Path.{sym, ap}
use native.Mathlib.Omega.{arith}
use Rattle.checksum.specs.Promises.{residue}
use Rattle.checksum.proofs.Laws.{residue-of}
use Rattle.checksum.proofs.in_16_bits.Goals as goal

pub returns-then-sum-eq0 : goal.returns-then-sum-eq0
unfolding residue
returns-then-sum-eq0 c = ap residue (sym c.if-sum-eq0.true)

pub returns : goal.returns
returns c = sym (residue-of _ (omega (arith, c.if-sum-eq0.false)))
