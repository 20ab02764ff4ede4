-- `primary_rule::take_request` meets its contract: the tests place the next instance, and by that place each return is what the rule comes to.
-- Assumes nothing.
use mathlib.Core.Path.{sym}
use native.Mathlib.Omega.{arith}
use Rattle.primary_rule.proofs.Laws.{impossible, used-up, proposes}
use Rattle.primary_rule.proofs.Ways.{above, below}
use Rattle.primary_rule.proofs.take_request.Goals as goal

pub returns-then-not-is_possible : goal.returns-then-not-is_possible
returns-then-not-is_possible c = sym (impossible _ _ _ (above _ _ _ c.is_possible.ensures c.if-not-is_possible.true))

pub returns-then-instance-instances : goal.returns-then-instance-instances
returns-then-instance-instances c = sym (used-up _ _ _ (omega (arith, c.if-instance-instances.true)))

pub overflow_add-risen : goal.overflow_add-risen
overflow_add-risen c =
    omega (arith, c.ranges, below _ _ _ c.is_possible.ensures c.if-not-is_possible.false (λ equal. omega (arith, c.if-instance-instances.false)))

pub returns : goal.returns
returns c =
    sym (proposes _ _ _ (below _ _ _ c.is_possible.ensures c.if-not-is_possible.false (λ equal. omega (arith, c.if-instance-instances.false))))
