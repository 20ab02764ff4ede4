-- `learner::step` meets its contract: each return is a way out of `learner_step`.
-- Assumes nothing.
use Rattle.std.proofs.Common.{◌∙◌, rules}
use Rattle.basics.proofs.Answer.{passed-on}
use Rattle.player.specs.Step.{ruled}
use Rattle.player.proofs.Steps.{counted}
use Rattle.learner.proofs.Ways.{refused-7, malformed, refused-6, nowhere, there}
use Rattle.learner.proofs.step.Goals as goal

pub returns-then-not-are_allowed-clause-stepped : goal.returns-then-not-are_allowed-clause-stepped
returns-then-not-are_allowed-clause-stepped c = refused-7 _ _ _ _ c.are_allowed.ensures c.if-not-are_allowed.true

pub returns-in_err-message-clause-stepped : goal.returns-in_err-message-clause-stepped
returns-in_err-message-clause-stepped c =
    rw (passed-on _ _ c.from_residual.ensures) (malformed _ _ _ _ c.are_allowed.ensures c.if-not-are_allowed.false _ c.in_err-message.ensures)

pub returns-in_default-clause-stepped : goal.returns-in_default-clause-stepped
returns-in_default-clause-stepped c =
    refused-6 _ _ _ _ c.are_allowed.ensures c.if-not-are_allowed.false _ c.in_ok-message.ensures (search rules)

pub returns-in_err-index-clause-stepped : goal.returns-in_err-index-clause-stepped
returns-in_err-index-clause-stepped c =
    rw (passed-on _ _ c.from_residual-in_err-index.ensures)
    (nowhere _ _ _ _ c.are_allowed.ensures c.if-not-are_allowed.false _ c.in_ok-message.ensures _ _ _ _ c.in-Vote.is _ c.in_err-index.ensures)

pub returns-in_err-counted-clause-stepped : goal.returns-in_err-counted-clause-stepped
unfolding ruled
returns-in_err-counted-clause-stepped c =
    rw (passed-on _ _ c.from_residual-in_err-counted.ensures)
    (there _ _ _ _ c.are_allowed.ensures c.if-not-are_allowed.false _ c.in_ok-message.ensures _ _ _ _ c.in-Vote.is
    _ _ _ c.in_ok-index.ensures c.cell_at-cell.ensures c.in_err-counted.ensures)

pub returns-clause-stepped : goal.returns-clause-stepped
returns-clause-stepped c =
    counted _ _ _ _ _ _ c.store_cell.ensures.stored
    ∙ there _ _ _ _ c.are_allowed.ensures c.if-not-are_allowed.false _ c.in_ok-message.ensures _ _ _ _ c.in-Vote.is
    _ _ _ c.in_ok-index.ensures c.cell_at-cell.ensures c.in_ok-counted.ensures
