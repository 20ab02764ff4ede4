-- `passes::SharedTable::is_full` meets its contract: the code is the definition.
-- Assumes nothing.
use mathlib.Core.Path.{refl}
use Rattle.passes.specs.Passes.{is_full}
use Rattle.passes.proofs.SharedTable.is_full.Goals as goal

pub returns : goal.returns
unfolding is_full
returns c = refl
