-- `ledger::board` meets its contract: each return is a way out of a boarding.
-- Assumes nothing.
use Rattle.std.proofs.Common.{rules, sym, ◌∙◌}
use Rattle.basics.proofs.Answer.{passed-on}
use Rattle.ledger.proofs.Ways.{boarding-of-unknown, boarding-refused, boarding-taken}
use Rattle.ledger.proofs.board.Goals as goal

pub returns-in_default-clause-ruled : goal.returns-in_default-clause-ruled
returns-in_default-clause-ruled c = boarding-of-unknown _ c.requires _ _ _ (sym c.find.ensures ∙ c.in_default.is)

pub returns-in_err-next-clause-ruled : goal.returns-in_err-next-clause-ruled
returns-in_err-next-clause-ruled c =
    rw (passed-on _ _ c.from_residual.ensures)
    (boarding-refused _ c.requires _ _ _ _ (sym c.find.ensures ∙ c.in-Some.is) _ c.pass_at-pass.ensures _ c.in_err-next.ensures)

pub returns-clause-ruled : goal.returns-clause-ruled
returns-clause-ruled c =
    let taken = boarding-taken _ c.requires _ _ _ _ (sym c.find.ensures ∙ c.in-Some.is) _ c.pass_at-pass.ensures _ c.in_ok-next.ensures
    _ c.store_pass.ensures.stored in
    search (rules, taken)
