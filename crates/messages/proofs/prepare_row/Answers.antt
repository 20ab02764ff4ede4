-- `messages::prepare_row` meets its contract: each column is what its test ensures.
-- Assumes nothing.
use Rattle.messages.specs.Table.{prepare_row}
use Rattle.messages.proofs.prepare_row.Goals as goal

pub returns : goal.returns
unfolding prepare_row
returns c = rw (c.by_owner.ensures, c.owned_not_0.ensures, c.is_none.ensures, c.is_null.ensures)
