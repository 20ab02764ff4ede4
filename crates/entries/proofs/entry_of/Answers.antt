-- `entries::entry_of` meets its contract: each return is a case of `entry_of`, by the tests that led there.
-- Assumes nothing.
use Rattle.entries.proofs.Ways.{is-null, is-sale, is-boarding, is-malformed}
use Rattle.entries.proofs.entry_of.Goals as goal

pub returns-then-is_null : goal.returns-then-is_null
returns-then-is_null c = is-null _ _ c.is_null.ensures c.if-is_null.true

pub returns-then-is_sale : goal.returns-then-is_sale
returns-then-is_sale c = is-sale _ _ c.is_null.ensures c.if-is_null.false _ c.is_sale.ensures c.if-is_sale.true

pub returns-then-is_boarding : goal.returns-then-is_boarding
returns-then-is_boarding c =
    is-boarding _ _ c.is_null.ensures c.if-is_null.false _ c.is_sale.ensures c.if-is_sale.false _
    c.is_boarding.ensures c.if-is_boarding.true

pub returns : goal.returns
returns c =
    is-malformed _ _ c.is_null.ensures c.if-is_null.false _ c.is_sale.ensures c.if-is_sale.false _
    c.is_boarding.ensures c.if-is_boarding.false
