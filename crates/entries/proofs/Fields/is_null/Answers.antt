-- `entries::Fields::is_null` meets its contract: fields equal the null fields just where each of them is 0.
-- Assumes nothing.
use mathlib.Core.Path.{◌∙◌}
use Rattle.entries.proofs.Ways.{each-zero}
use Rattle.entries.proofs.Fields.is_null.Goals as goal

pub returns : goal.returns
returns c = c.eq.ensures ∙ each-zero c.args.self
