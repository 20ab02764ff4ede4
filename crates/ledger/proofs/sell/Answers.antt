-- `ledger::sell` meets its contract: each return is a way out of a sale.
-- Assumes nothing.
use Rattle.std.proofs.Common.{rules, arith, ap}
use Rattle.ledger.proofs.Ways.{sale-of-known, sale-when-full, room-for-one, sale-taken}
use Rattle.ledger.proofs.sell.Goals as goal

pub returns-then-is_some-clause-ruled : goal.returns-then-is_some-clause-ruled
returns-then-is_some-clause-ruled c = sale-of-known _ c.requires _ _ _ _ c.find.ensures _ c.is_some.ensures c.if-is_some.true

pub returns-then-is_full-clause-ruled : goal.returns-then-is_full-clause-ruled
returns-then-is_full-clause-ruled c =
    sale-when-full _ c.requires _ _ _ _ c.find.ensures _ c.is_some.ensures c.if-is_some.false _ c.is_full.ensures c.if-is_full.true

pub overflow_add-table : goal.overflow_add-table
overflow_add-table c =
    omega (arith, room-for-one _ _ c.is_full.ensures c.if-is_full.false, ap (λ t. t.count) c.store_pass.ensures.stored)

pub returns-clause-ruled : goal.returns-clause-ruled
returns-clause-ruled c =
    let taken = sale-taken _ c.requires _ _ _ _ c.find.ensures _ c.is_some.ensures c.if-is_some.false _ c.is_full.ensures c.if-is_full.false
    _ c.store_pass.ensures.stored in
    search (rules, taken)
