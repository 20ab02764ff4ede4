-- `quorum::settings_allowed` meets its contract: its body is the definition.
-- Assumes nothing.
use mathlib.Core.Path.{refl}
use Rattle.quorum.specs.Settings.{acceptors_allowed, instances_allowed, allowed}
use Rattle.quorum.proofs.settings_allowed.Goals as goal

pub returns : goal.returns
unfolding acceptors_allowed instances_allowed allowed
returns c = refl
