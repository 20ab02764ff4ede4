-- `quorum::reaches_majority` meets its contract: the threshold that it hands on is majority.
-- Assumes nothing.
use mathlib.Core.Path.{◌∙◌}
use Rattle.quorum.proofs.reaches_majority.Goals as goal

pub returns : goal.returns
returns c = c.reaches.ensures ∙ rw c.majority.ensures
