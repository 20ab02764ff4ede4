-- `messages::vote_row` meets its contract: each column is what its test ensures.
-- Assumes nothing.
use Rattle.messages.specs.Table.{vote_row}
use Rattle.messages.proofs.vote_row.Goals as goal

pub returns : goal.returns
unfolding vote_row
returns c = rw (c.owned_or_0.ensures, c.same_round.ensures)
