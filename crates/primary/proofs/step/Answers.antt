-- `primary::step` meets its contract: each return is a way out of `primary_request`.
-- Assumes nothing.
use Rattle.basics.proofs.Answer.{passed-on}
use Rattle.primary.proofs.Ways.{refused-7, malformed, refused-6, request-taken, sent}
use Rattle.player.specs.Step.{ruled}
use Rattle.primary.proofs.step.Goals as goal

pub returns-then-not-settings_allowed : goal.returns-then-not-settings_allowed
returns-then-not-settings_allowed c = refused-7 _ _ _ _ c.settings_allowed.ensures c.if-not-settings_allowed.true

pub returns-in_err-message : goal.returns-in_err-message
returns-in_err-message c =
    rw (passed-on _ _ c.from_residual.ensures)
    (malformed _ _ _ _ c.settings_allowed.ensures c.if-not-settings_allowed.false _ c.in_err-message.ensures)

pub returns-in_default : goal.returns-in_default
returns-in_default c =
    refused-6 _ _ _ _ c.settings_allowed.ensures c.if-not-settings_allowed.false _ c.in_ok-message.ensures c.in_default.not-Request

pub returns-in_err-sent : goal.returns-in_err-sent
unfolding ruled
returns-in_err-sent c =
    rw (passed-on _ _ c.from_residual-in_err-sent.ensures)
    (request-taken _ _ _ _ c.settings_allowed.ensures c.if-not-settings_allowed.false _ c.in_ok-message.ensures _ _ c.in-Request.is _ c.in_err-sent.ensures)

pub returns : goal.returns
returns c =
    sent _ _ _ _ c.settings_allowed.ensures c.if-not-settings_allowed.false _ c.in_ok-message.ensures _ _ c.in-Request.is _ _ c.in_ok-sent.ensures
    c.put_message.ensures
