-- `Tables::store_cell` meets its contract: each column is written as its call ensures.
-- Assumes nothing.
use Rattle.backup_tables.proofs.Laws.{same_tables}
use Rattle.backup_tables.proofs.Tables.store_cell.Goals as goal

pub returns-clause-stored : goal.returns-clause-stored
returns-clause-stored c =
    same_tables c.put_round.ensures c.put_item.ensures c.put_item-2.ensures c.put_round-2.ensures
    c.put_value.ensures c.put_value-2.ensures
