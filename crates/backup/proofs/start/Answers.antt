-- `backup::start` meets its contract: each return is a way out of `backup_start`.
-- Assumes nothing.
use Rattle.std.proofs.Common.{◌∙◌, arith}
use Rattle.basics.proofs.Answer.{passed-on}
use Rattle.player.specs.Step.{ruled}
use Rattle.backup_tables.specs.Lent.{tables_behind}
use Rattle.backup.proofs.Ways.{brings, start-7, start-1, start-nowhere, start-there}
use Rattle.backup.proofs.start.Goals as goal

pub returns-then-not-are_allowed-clause-started : goal.returns-then-not-are_allowed-clause-started
returns-then-not-are_allowed-clause-started c = start-7 _ _ _ _ _ c.are_allowed.ensures _ _ _ c.if-not-are_allowed.true

pub returns-then-buffer-ne-PACKET_LENGTH-clause-started : goal.returns-then-buffer-ne-PACKET_LENGTH-clause-started
returns-then-buffer-ne-PACKET_LENGTH-clause-started c =
    start-1 _ _ _ _ _ c.are_allowed.ensures c.if-not-are_allowed.false _ _ _ c.if-buffer-ne-PACKET_LENGTH.true

pub returns-in_err-index-clause-started : goal.returns-in_err-index-clause-started
returns-in_err-index-clause-started c =
    rw (passed-on _ _ c.from_residual.ensures)
    (start-nowhere _ _ _ _ _ c.are_allowed.ensures c.if-not-are_allowed.false _ _ _ c.if-buffer-ne-PACKET_LENGTH.false _ c.in_err-index.ensures)

pub overflow_cast-own : goal.overflow_cast-own
overflow_cast-own c =
    let allowed = brings _ _ c.args.buffer.now (tables_behind c.args.tables.now) _ c.are_allowed.ensures c.if-not-are_allowed.false in
    omega (arith, allowed.own-most)

pub returns-in_err-taken-clause-started : goal.returns-in_err-taken-clause-started
unfolding ruled
returns-in_err-taken-clause-started c =
    rw (passed-on _ _ c.from_residual-in_err-taken.ensures)
    (start-there _ _ _ _ _ c.are_allowed.ensures c.if-not-are_allowed.false _ _ _ c.if-buffer-ne-PACKET_LENGTH.false
    _ _ _ c.in_ok-index.ensures c.cell_at-cell.ensures c.in_err-taken.ensures)

pub returns-clause-started : goal.returns-clause-started
returns-clause-started c =
    c.carry_out.ensures.ruled
    ∙ start-there _ _ _ _ _ c.are_allowed.ensures c.if-not-are_allowed.false _ _ _ c.if-buffer-ne-PACKET_LENGTH.false
    _ _ _ c.in_ok-index.ensures c.cell_at-cell.ensures c.in_ok-taken.ensures
