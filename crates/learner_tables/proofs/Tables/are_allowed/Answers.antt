-- `Tables::are_allowed` meets its contract: they are judged as the tables that are shared.
-- Assumes nothing.
use mathlib.Core.Path.{ap, ◌∙◌}
use Rattle.learner_tables.specs.Tables.{learner_allowed}
use Rattle.learner_tables.proofs.Tables.are_allowed.Goals as goal

pub returns : goal.returns
returns c = c.are_allowed.ensures ∙ ap (learner_allowed _) c.shared.ensures
