-- `basics::owner` meets its contract: 0 and none are cases of `owner_of`, and every other round goes by its low two bits.
-- Assumes nothing.
use Rattle.std.proofs.Common.{sym, ◌∙◌, arith, eq-eqb, ne_eqb}
use lib.Bits.{mask_lt}
use Rattle.basics.specs.Ladder.{when◌then◌else◌}
use Rattle.basics.specs.Rounds.{owner_of}
use Rattle.basics.proofs.Ladder.{if-true, if-false}
use Rattle.basics.proofs.Bits.{owner-by-bits}
use Rattle.basics.proofs.owner.Goals as goal

pub returns-then-number-eq0 : goal.returns-then-number-eq0
unfolding owner_of when◌then◌else◌
returns-then-number-eq0 c = simp (eq-eqb _ _ c.if-number-eq0.true)

pub returns-then-number : goal.returns-then-number
unfolding owner_of when◌then◌else◌
returns-then-number c = simp (ne_eqb _ _ c.if-number-eq0.false, eq-eqb _ _ c.if-number.true)

pub returns-then-low_bits-eq0 : goal.returns-then-low_bits-eq0
returns-then-low_bits-eq0 c = sym (owner-by-bits _ c.if-number-eq0.false c.if-number.false ∙ if-true _ _ (eq-eqb _ _ c.if-low_bits-eq0.true))

pub overflow_cast-result : goal.overflow_cast-result
overflow_cast-result c = record { fits = omega (arith, mask_lt c.args.round.0 2) }

pub returns : goal.returns
returns c = sym (owner-by-bits _ c.if-number-eq0.false c.if-number.false ∙ if-false _ _ (ne_eqb _ _ c.if-low_bits-eq0.false))
