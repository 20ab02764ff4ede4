-- `primary_port::step` meets its contract: each return is a way out of `primary_frame`.
-- Assumes nothing.
use Rattle.std.proofs.Common.{arith, rules}
use Rattle.basics.proofs.Answer.{passed-on}
use Rattle.primary.specs.Primary.{primary, primary_step}
use Rattle.primary_port.specs.Port.{primary_frame}
use Rattle.port.proofs.Ways.{refused-7, refused-frame, checked-long, sealed-anew}
use Rattle.primary_port.proofs.step.Goals as goal

pub returns-then-not-is_allowed : goal.returns-then-not-is_allowed
unfolding primary_frame primary
returns-then-not-is_allowed c = refused-7 _ _ _ _ _ c.is_allowed.ensures c.if-not-is_allowed.true

pub returns-in_err-check : goal.returns-in_err-check
unfolding primary_frame primary
returns-in_err-check c =
    rw (passed-on _ _ c.from_residual.ensures) (refused-frame _ _ _ _ _ c.is_allowed.ensures c.if-not-is_allowed.false _ c.in_err-check.ensures)

pub slice_bounds-packet-end : goal.slice_bounds-packet-end
slice_bounds-packet-end c = omega (arith, checked-long _ _ _ c.in_ok-check.ensures)

pub returns : goal.returns
unfolding primary_frame primary_step primary
returns c =
    sealed-anew _ _ _ _ _ c.is_allowed.ensures c.if-not-is_allowed.false _ c.in_ok-check.ensures _ _ _ c.step_slice-answer.ensures _ (search rules)
    c.set_checksums.ensures
