-- `messages::promise_row` meets its contract: each column is what its tests ensure.
-- Assumes nothing.
use Rattle.messages.specs.Table.{promise_row}
use Rattle.messages.proofs.promise_row.Goals as goal

pub returns : goal.returns
unfolding promise_row
returns c =
    rw (c.is_none-never.ensures, c.owned_or_0.ensures, c.at_most.ensures, c.owned_not_0.ensures, c.is_null.ensures)
