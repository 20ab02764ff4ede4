-- `SharedTables::cell_at` meets its contract: each field is what its column reads.
-- Assumes nothing.
use Rattle.backup_cell.proofs.Laws.{same-cell}
use Rattle.backup_tables.proofs.SharedTables.cell_at.Goals as goal

pub returns : goal.returns
returns c =
    same-cell c.round_at.ensures c.item_at.ensures c.item_at-2.ensures
    c.round_at-2.ensures c.value_at.ensures c.value_at-2.ensures
