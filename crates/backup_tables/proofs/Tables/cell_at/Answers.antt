-- `Tables::cell_at` meets its contract: the cell is that of the tables that are shared.
-- Assumes nothing.
use mathlib.Core.Path.{ap, ◌∙◌}
use Rattle.backup_tables.specs.Tables.{cell_at}
use Rattle.backup_tables.proofs.Tables.cell_at.Goals as goal

pub returns : goal.returns
returns c = c.cell_at.ensures ∙ ap (λ t. cell_at t c.args.index) c.shared.ensures
