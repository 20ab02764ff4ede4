-- `quorum::majority` meets its contract: its body is the definition.
-- Assumes nothing.
use mathlib.Core.Path.{refl}
use Rattle.quorum.specs.Quorum.{majority}
use Rattle.quorum.proofs.majority.Goals as goal

pub returns : goal.returns
unfolding majority
returns c = refl
