-- `learner_cell::is_heard` meets its contract: each test is what its call ensures.
-- Assumes nothing.
use Rattle.learner_cell.specs.Cell.{is_heard}
use Rattle.learner_cell.proofs.is_heard.Goals as goal

pub returns : goal.returns
unfolding is_heard
returns c =
    rw (c.owned_or_0.ensures, c.is_within.ensures, c.size.ensures, c.majority.ensures)
