-- `learner_cell::with_voter` meets its contract: the set is what `with_member` ensures.
-- Assumes nothing.
use Rattle.learner_cell.proofs.with_voter.Goals as goal

pub returns : goal.returns
returns c = rw c.with_member-set.ensures
