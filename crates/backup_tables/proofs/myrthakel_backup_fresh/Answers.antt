-- `backup_tables::myrthakel_backup_fresh` meets its contract: it refuses by `tables_allowed`, or sets the tables fresh.
-- Assumes nothing.
use Rattle.std.proofs.Common.{rules}
use Rattle.backup_tables.proofs.Ways.{refused-7, filled}
use Rattle.backup_tables.proofs.myrthakel_backup_fresh.Goals as goal

pub returns-then-not-tables_allowed : goal.returns-then-not-tables_allowed
returns-then-not-tables_allowed c = refused-7 _ _ _ c.tables_allowed.ensures c.if-not-tables_allowed.true

pub returns : goal.returns
returns c =
    let done = filled _ _ _ c.tables_allowed.ensures c.if-not-tables_allowed.false _ _ c.verdict_number.ensures c.set_fresh.ensures.filled in
    search (rules, done)
