-- `messages::request_row` meets its contract: each column is what its test ensures.
-- Assumes nothing.
use Rattle.messages.specs.Table.{request_row}
use Rattle.messages.proofs.request_row.Goals as goal

pub returns : goal.returns
unfolding request_row
returns c = rw (c.same_round.ensures, c.is_none.ensures, c.is_null.ensures)
