-- `basics::at_most` meets its contract: it compares the ranks.
-- Assumes nothing.
use Rattle.basics.specs.Rounds.{at_most}
use Rattle.basics.proofs.at_most.Goals as goal

pub returns : goal.returns
unfolding at_most
returns c = rw (c.rank_of.ensures, c.rank_of-2.ensures)
