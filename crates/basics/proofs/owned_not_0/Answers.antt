-- `basics::owned_not_0` meets its contract: it tests the number that `owner` answers.
-- Assumes nothing.
use Rattle.basics.specs.Rounds.{owned_not_0}
use Rattle.basics.proofs.owned_not_0.Goals as goal

pub returns : goal.returns
unfolding owned_not_0
returns c = rw c.owner-number.ensures
