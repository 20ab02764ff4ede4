-- `quorum::reaches` meets its contract: the size that it compares is the set's count of ones.
-- Assumes nothing.
use Rattle.quorum.specs.Quorum.{reaches}
use Rattle.quorum.proofs.reaches.Goals as goal

pub returns : goal.returns
unfolding reaches
returns c = rw c.size.ensures
