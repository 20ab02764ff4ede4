-- `messages::by_owner` meets its contract: it tests the number that `owner` answers.
-- Assumes nothing.
use Rattle.messages.proofs.by_owner.Goals as goal

pub returns : goal.returns
returns c = rw c.owner-number.ensures
