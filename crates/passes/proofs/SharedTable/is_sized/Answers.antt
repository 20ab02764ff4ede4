-- `passes::SharedTable::is_sized` meets its contract: the code is the definition.
-- Assumes nothing.
use mathlib.Core.Path.{refl}
use Rattle.passes.specs.Passes.{is_sized}
use Rattle.passes.proofs.SharedTable.is_sized.Goals as goal

pub returns : goal.returns
unfolding is_sized
returns c = refl
