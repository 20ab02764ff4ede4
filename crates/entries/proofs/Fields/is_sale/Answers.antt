-- `entries::Fields::is_sale` meets its contract: the code is the definition.
-- Assumes nothing.
use mathlib.Core.Path.{refl}
use Rattle.entries.specs.Entry.{is_sale}
use Rattle.entries.proofs.Fields.is_sale.Goals as goal

pub returns : goal.returns
unfolding is_sale
returns c = refl
