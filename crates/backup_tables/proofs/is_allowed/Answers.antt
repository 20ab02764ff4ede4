-- `backup_tables::is_allowed` meets its contract: the code is the definition, with what `tables_allowed` ensures.
-- Assumes nothing.
use Rattle.backup_tables.specs.Tables.{is_allowed}
use Rattle.backup_tables.proofs.is_allowed.Goals as goal

pub returns : goal.returns
unfolding is_allowed
returns c = rw c.tables_allowed.ensures
