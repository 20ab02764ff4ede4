-- `passes::Table::is_full` meets its contract: it asks the same table, lent to be read.
-- Assumes nothing.
use Rattle.std.proofs.Common.{ap, ◌∙◌}
use Rattle.passes.specs.Passes.{is_full}
use Rattle.passes.proofs.Table.is_full.Goals as goal

pub returns : goal.returns
returns c = c.is_full.ensures ∙ ap (λ t. is_full t.count) c.shared.ensures
