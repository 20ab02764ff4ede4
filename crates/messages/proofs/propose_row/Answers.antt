-- `messages::propose_row` meets its contract: each column is what its test ensures.
-- Assumes nothing.
use Rattle.messages.specs.Table.{propose_row}
use Rattle.messages.proofs.propose_row.Goals as goal

pub returns : goal.returns
unfolding propose_row
returns c = rw (c.by_owner.ensures, c.owned_or_0.ensures, c.is_none.ensures)
