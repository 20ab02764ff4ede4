-- `learner_port::step` meets its contract: each return is a way out of `learner_frame`. A learner leaves the packet as it came, so that sealing gives the frame back.
-- Assumes nothing.
use Rattle.std.proofs.Common.{arith, refl, rules}
use Rattle.basics.proofs.Answer.{passed-on}
use Rattle.learner.specs.Learner.{learner, learner_step}
use Rattle.learner_port.specs.Port.{learner_frame}
use Rattle.port.proofs.Ways.{refused-7, refused-frame, checked-long, as-it-came}
use Rattle.learner_port.proofs.step.Goals as goal

pub returns-then-not-are_allowed-clause-stepped : goal.returns-then-not-are_allowed-clause-stepped
unfolding learner_frame learner
returns-then-not-are_allowed-clause-stepped c = refused-7 _ _ _ _ _ c.are_allowed.ensures c.if-not-are_allowed.true

pub returns-in_err-check-clause-stepped : goal.returns-in_err-check-clause-stepped
unfolding learner_frame learner
returns-in_err-check-clause-stepped c =
    rw (passed-on _ _ c.from_residual.ensures) (refused-frame _ _ _ _ _ c.are_allowed.ensures c.if-not-are_allowed.false _ c.in_err-check.ensures)

pub slice_bounds-packet-end : goal.slice_bounds-packet-end
slice_bounds-packet-end c = omega (arith, checked-long _ _ _ c.in_ok-check.ensures)

pub returns-clause-stepped : goal.returns-clause-stepped
unfolding learner_frame learner_step learner
returns-clause-stepped c =
    as-it-came _ _ _ _ _ c.are_allowed.ensures c.if-not-are_allowed.false _ c.in_ok-check.ensures
    _ _ _ c.step.ensures.stepped (λ i. search (arith, rules)) refl
