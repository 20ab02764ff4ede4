-- `primary::myrthakel_primary_fresh` meets its contract: a slice that is not allowed is refused, and the one number of another becomes the fresh cell's.
-- Assumes nothing.
use Rattle.std.proofs.Common.{refl}
use native.Mathlib.Omega.{arith}
use Rattle.primary.proofs.Ways.{one_number, fresh-refused-7, freshly-stored}
use Rattle.primary.proofs.myrthakel_primary_fresh.Goals as goal

pub returns-then-not-is_allowed : goal.returns-then-not-is_allowed
returns-then-not-is_allowed c = fresh-refused-7 _ _ _ c.is_allowed.ensures c.if-not-is_allowed.true

pub bounds-next-0 : goal.bounds-next-0
bounds-next-0 c =
    omega (arith, one_number _ _ _ c.is_allowed.ensures c.if-not-is_allowed.false)

pub returns : goal.returns
returns c =
    freshly-stored _ _ _ c.is_allowed.ensures c.if-not-is_allowed.false _ _ refl c.fresh_cell-fresh.ensures
