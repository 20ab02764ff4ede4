-- `backup_tables::tables_allowed` meets its contract: the code is the definition, with what `settings_allowed` ensures.
-- Assumes nothing.
use Rattle.backup_tables.specs.Tables.{tables_allowed}
use Rattle.backup_tables.proofs.tables_allowed.Goals as goal

pub returns : goal.returns
unfolding tables_allowed
returns c = rw c.settings_allowed.ensures
