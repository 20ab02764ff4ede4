-- `passes::Table::is_sound` meets its contract: it asks the same table, lent to be read.
-- Assumes nothing.
use Rattle.std.proofs.Common.{ap, ◌∙◌}
use Rattle.passes.specs.Passes.{sound}
use Rattle.passes.proofs.Table.is_sound.Goals as goal

pub returns : goal.returns
returns c = c.is_sound.ensures ∙ ap sound c.shared.ensures
