-- `learner_file::is_marked` meets its contract: the code is the definition.
-- Assumes nothing.
use Rattle.learner_file.specs.File.{marked}
use Rattle.learner_file.proofs.is_marked.Goals as goal

pub returns : goal.returns
unfolding marked
returns c = rw (c.item_at.ensures, c.item_at-2.ensures, c.item_at-3.ensures)
