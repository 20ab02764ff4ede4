-- `learner_cell::has_vote` meets its contract: the code is the definition.
-- Assumes nothing.
use mathlib.Core.Path.{refl}
use Rattle.learner_cell.specs.Cell.{has_vote}
use Rattle.learner_cell.proofs.has_vote.Goals as goal

pub returns : goal.returns
unfolding has_vote
returns c = refl
