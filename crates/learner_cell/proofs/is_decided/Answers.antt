-- `learner_cell::is_decided` meets its contract: it is what `reaches_majority` ensures.
-- Assumes nothing.
use Rattle.learner_cell.specs.Cell.{is_decided}
use Rattle.learner_cell.proofs.is_decided.Goals as goal

pub returns : goal.returns
unfolding is_decided
returns c = c.reaches_majority.ensures
