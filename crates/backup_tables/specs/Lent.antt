-- A backup's tables as its code holds them: a reference to each column.
-- Assumes nothing.
use Rattle.std.specs.Prelude.{◌≡◌}
use Rattle.backup_tables.specs.declared.SharedTables as shared
use Rattle.backup_tables.specs.declared.Tables as lent
use Rattle.backup_tables.specs.Tables.{Tables, tables}

-- What the references lead to.
abbrev pub tables_shared : shared.SharedTables → Tables
tables_shared t = tables t.rounds.now t.phases.now t.sets.now t.best_vote_rounds.now t.best_values.now t.own_values.now

abbrev pub tables_behind : lent.Tables → Tables
tables_behind t = tables t.rounds.now t.phases.now t.sets.now t.best_vote_rounds.now t.best_values.now t.own_values.now

-- Each column is behind the reference that it was behind: where these end, the lent slices hold what the tables then hold.
abbrev pub SameReferences : (before after : lent.Tables) → Type 0
SameReferences before after =
    (after.rounds.ghost_name ≡ before.rounds.ghost_name) × (after.phases.ghost_name ≡ before.phases.ghost_name)
    × (after.sets.ghost_name ≡ before.sets.ghost_name) × (after.best_vote_rounds.ghost_name ≡ before.best_vote_rounds.ghost_name)
    × (after.best_values.ghost_name ≡ before.best_values.ghost_name) × (after.own_values.ghost_name ≡ before.own_values.ghost_name)
