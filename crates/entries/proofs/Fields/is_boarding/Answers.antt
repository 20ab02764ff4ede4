-- `entries::Fields::is_boarding` meets its contract: the code is the definition.
-- Assumes nothing.
use mathlib.Core.Path.{refl}
use Rattle.entries.specs.Entry.{is_boarding}
use Rattle.entries.proofs.Fields.is_boarding.Goals as goal

pub returns : goal.returns
unfolding is_boarding
returns c = refl
