-- `primary::step_slice` meets its contract: a slice that is not allowed is refused, and the one number of another is stepped as the record.
-- Assumes nothing.
use Rattle.std.proofs.Common.{arith}
use Rattle.basics.proofs.Answer.{passed-on}
use Rattle.primary.proofs.Ways.{slice-refused-7, one_number, stored, kept}
use Rattle.primary.proofs.step_slice.Goals as goal

pub returns-then-not-is_allowed : goal.returns-then-not-is_allowed
returns-then-not-is_allowed c = slice-refused-7 _ _ _ _ c.is_allowed.ensures c.if-not-is_allowed.true

pub bounds-next-0 : goal.bounds-next-0
bounds-next-0 c = omega (arith, one_number _ _ _ c.is_allowed.ensures c.if-not-is_allowed.false)

pub returns-in_err-taken : goal.returns-in_err-taken
returns-in_err-taken c =
    rw (passed-on _ _ c.from_residual.ensures)
    (kept _ _ _ (one_number _ _ _ c.is_allowed.ensures c.if-not-is_allowed.false) _ _ c.in_err-taken.ensures)

pub bounds-next-0-2 : goal.bounds-next-0-2
bounds-next-0-2 c = omega (arith, one_number _ _ _ c.is_allowed.ensures c.if-not-is_allowed.false)

pub returns : goal.returns
returns c = stored _ _ _ (one_number _ _ _ c.is_allowed.ensures c.if-not-is_allowed.false) _ c.in_ok-taken.ensures
