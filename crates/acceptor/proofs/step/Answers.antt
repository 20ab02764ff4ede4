-- `acceptor::step` meets its contract: each return is a way out of `acceptor_step`.
-- Assumes nothing.
use Rattle.std.proofs.Common.{sym, ◌∙◌, arith}
use Rattle.basics.proofs.Answer.{passed-on}
use Rattle.wire.proofs.Laws.{read_length}
use Rattle.player.specs.Step.{ruled}
use Rattle.acceptor_tables.specs.Lent.{tables_behind}
use Rattle.acceptor.proofs.Ways.{refused-7, brings, cell-within, malformed, refused-6, nowhere, there}
use Rattle.acceptor.proofs.step.Goals as goal

pub returns-then-not-are_allowed-clause-stepped : goal.returns-then-not-are_allowed-clause-stepped
returns-then-not-are_allowed-clause-stepped c = refused-7 _ _ _ _ _ c.are_allowed.ensures c.if-not-are_allowed.true

pub returns-in_err-message-clause-stepped : goal.returns-in_err-message-clause-stepped
returns-in_err-message-clause-stepped c =
    rw (passed-on _ _ c.from_residual.ensures) (malformed _ _ _ _ _ c.are_allowed.ensures c.if-not-are_allowed.false _ c.in_err-message.ensures)

pub returns-in_default-clause-stepped : goal.returns-in_default-clause-stepped
returns-in_default-clause-stepped c =
    refused-6 _ _ _ _ _ c.are_allowed.ensures c.if-not-are_allowed.false _ c.in_ok-message.ensures (sym c.in_default.is ∙ c.order_of.ensures)

pub returns-in_err-index-clause-stepped : goal.returns-in_err-index-clause-stepped
returns-in_err-index-clause-stepped c =
    rw (passed-on _ _ c.from_residual-in_err-index.ensures)
    (nowhere _ _ _ _ _ c.are_allowed.ensures c.if-not-are_allowed.false _ c.in_ok-message.ensures _ (sym c.in-Some.is ∙ c.order_of.ensures)
    _ c.in_err-index.ensures)

pub cell_at-cell-requires : goal.cell_at-cell-requires
cell_at-cell-requires c =
    cell-within _ _ c.args.packet.now _ _ c.are_allowed.ensures c.if-not-are_allowed.false _ _ c.in_ok-index.ensures

pub overflow_cast-own : goal.overflow_cast-own
overflow_cast-own c =
    let allowed = brings _ _ c.args.packet.now (tables_behind c.args.tables.now) _ c.are_allowed.ensures c.if-not-are_allowed.false in
    omega (arith, allowed.own-few)

pub returns-in_err-obeyed-clause-stepped : goal.returns-in_err-obeyed-clause-stepped
unfolding ruled
returns-in_err-obeyed-clause-stepped c =
    rw (passed-on _ _ c.from_residual-in_err-obeyed.ensures)
    (there _ _ _ _ _ c.are_allowed.ensures c.if-not-are_allowed.false _ c.in_ok-message.ensures _ (sym c.in-Some.is ∙ c.order_of.ensures)
    _ _ _ c.in_ok-index.ensures c.cell_at-cell.ensures c.in_err-obeyed.ensures)

pub carry_out-requires : goal.carry_out-requires
carry_out-requires c = record {
  inside = cell-within _ _ c.args.packet.now _ _ c.are_allowed.ensures c.if-not-are_allowed.false _ _ c.in_ok-index.ensures;
  long = read_length _ _ (sym c.in_ok-message.ensures);
}

pub returns-clause-stepped : goal.returns-clause-stepped
returns-clause-stepped c =
    c.carry_out.ensures.ruled
    ∙ there _ _ _ _ _ c.are_allowed.ensures c.if-not-are_allowed.false _ c.in_ok-message.ensures _ (sym c.in-Some.is ∙ c.order_of.ensures)
    _ _ _ c.in_ok-index.ensures c.cell_at-cell.ensures c.in_ok-obeyed.ensures
