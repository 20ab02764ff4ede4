-- `learner_holes::is_hole` meets its contract: the code is the definition.
-- Assumes nothing.
use Rattle.learner_holes.specs.Holes.{is_hole}
use Rattle.learner_holes.proofs.is_hole.Goals as goal

pub returns : goal.returns
unfolding is_hole
returns c = rw (c.is_decided.ensures, c.has_vote.ensures)
