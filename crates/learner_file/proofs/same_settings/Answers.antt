-- `learner_file::same_settings` meets its contract: the code is the definition.
-- Assumes nothing.
use Rattle.learner_file.specs.File.{same_settings}
use Rattle.learner_file.proofs.same_settings.Goals as goal

pub returns : goal.returns
unfolding same_settings
returns c = rw (c.item_at.ensures, c.read.ensures)
