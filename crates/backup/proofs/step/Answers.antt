-- `backup::step` meets its contract: each return is a way out of `backup_step`.
-- Assumes nothing.
use Rattle.std.proofs.Common.{sym, ◌∙◌, arith}
use Rattle.basics.proofs.Answer.{passed-on}
use Rattle.wire.proofs.Laws.{read_length}
use Rattle.player.specs.Step.{ruled}
use Rattle.backup_tables.specs.Lent.{tables_behind}
use Rattle.backup.proofs.Ways.{brings, step-7, malformed, step-6, step-nowhere, step-there}
use Rattle.backup.proofs.step.Goals as goal

pub returns-then-not-are_allowed-clause-stepped : goal.returns-then-not-are_allowed-clause-stepped
returns-then-not-are_allowed-clause-stepped c = step-7 _ _ _ _ _ c.are_allowed.ensures c.if-not-are_allowed.true

pub returns-in_err-message-clause-stepped : goal.returns-in_err-message-clause-stepped
returns-in_err-message-clause-stepped c =
    rw (passed-on _ _ c.from_residual.ensures) (malformed _ _ _ _ _ c.are_allowed.ensures c.if-not-are_allowed.false _ c.in_err-message.ensures)

pub returns-in_default-clause-stepped : goal.returns-in_default-clause-stepped
returns-in_default-clause-stepped c =
    step-6 _ _ _ _ _ c.are_allowed.ensures c.if-not-are_allowed.false _ c.in_ok-message.ensures c.in_default.not-Promise

pub returns-in_err-index-clause-stepped : goal.returns-in_err-index-clause-stepped
returns-in_err-index-clause-stepped c =
    rw (passed-on _ _ c.from_residual-in_err-index.ensures)
    (step-nowhere _ _ _ _ _ c.are_allowed.ensures c.if-not-are_allowed.false _ c.in_ok-message.ensures _ _ _ _ _ c.in-Promise.is _ c.in_err-index.ensures)

pub overflow_cast-own : goal.overflow_cast-own
overflow_cast-own c =
    let allowed = brings _ _ c.args.packet.now (tables_behind c.args.tables.now) _ c.are_allowed.ensures c.if-not-are_allowed.false in
    omega (arith, allowed.own-most)

pub returns-in_err-taken-clause-stepped : goal.returns-in_err-taken-clause-stepped
unfolding ruled
returns-in_err-taken-clause-stepped c =
    rw (passed-on _ _ c.from_residual-in_err-taken.ensures)
    (step-there _ _ _ _ _ c.are_allowed.ensures c.if-not-are_allowed.false _ c.in_ok-message.ensures _ _ _ _ _ c.in-Promise.is
    _ _ _ c.in_ok-index.ensures c.cell_at-cell.ensures c.in_err-taken.ensures)

pub carry_out-requires : goal.carry_out-requires
carry_out-requires c = read_length _ _ (sym c.in_ok-message.ensures)

pub returns-clause-stepped : goal.returns-clause-stepped
returns-clause-stepped c =
    c.carry_out.ensures.ruled
    ∙ step-there _ _ _ _ _ c.are_allowed.ensures c.if-not-are_allowed.false _ c.in_ok-message.ensures _ _ _ _ _ c.in-Promise.is
    _ _ _ c.in_ok-index.ensures c.cell_at-cell.ensures c.in_ok-taken.ensures
