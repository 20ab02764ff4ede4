-- `learner_tables::is_allowed` meets its contract: the code is the definition.
-- Assumes nothing.
use Rattle.learner_tables.specs.Tables.{is_allowed}
use Rattle.learner_tables.proofs.is_allowed.Goals as goal

pub returns : goal.returns
unfolding is_allowed
returns c = rw c.settings_allowed.ensures
