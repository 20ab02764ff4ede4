-- `acceptor_port::step` meets its contract: each return is a way out of `acceptor_frame`.
-- Assumes nothing.
use Rattle.std.proofs.Common.{arith, rules}
use Rattle.basics.proofs.Answer.{passed-on}
use Rattle.acceptor.specs.Acceptor.{acceptor, acceptor_step}
use Rattle.acceptor_port.specs.Port.{acceptor_frame}
use Rattle.port.proofs.Ways.{refused-7, refused-frame, checked-long, sealed-anew}
use Rattle.acceptor_port.proofs.step.Goals as goal

pub returns-then-not-are_allowed-clause-stepped : goal.returns-then-not-are_allowed-clause-stepped
unfolding acceptor_frame acceptor
returns-then-not-are_allowed-clause-stepped c = refused-7 _ _ _ _ _ c.are_allowed.ensures c.if-not-are_allowed.true

pub returns-in_err-check-clause-stepped : goal.returns-in_err-check-clause-stepped
unfolding acceptor_frame acceptor
returns-in_err-check-clause-stepped c =
    rw (passed-on _ _ c.from_residual.ensures) (refused-frame _ _ _ _ _ c.are_allowed.ensures c.if-not-are_allowed.false _ c.in_err-check.ensures)

pub slice_bounds-packet-end : goal.slice_bounds-packet-end
slice_bounds-packet-end c = omega (arith, checked-long _ _ _ c.in_ok-check.ensures)

pub returns-clause-stepped : goal.returns-clause-stepped
unfolding acceptor_frame acceptor_step acceptor
returns-clause-stepped c =
    sealed-anew _ _ _ _ _ c.are_allowed.ensures c.if-not-are_allowed.false _ c.in_ok-check.ensures _ _ _ c.step-answer.ensures.stepped _ (search rules)
    c.set_checksums.ensures
