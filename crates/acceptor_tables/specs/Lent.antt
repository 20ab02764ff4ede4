-- An acceptor's tables as its code holds them: a reference to each column.
-- Assumes nothing.
use Rattle.std.specs.Prelude.{◌≡◌}
use Rattle.acceptor_tables.specs.declared.Tables as lent
use Rattle.acceptor_tables.specs.Tables.{Tables, tables}

-- What the references lead to.
abbrev pub tables_behind : lent.Tables → Tables
tables_behind t = tables t.rounds.now t.vote_rounds.now t.values.now

-- Each column is behind the reference that it was behind: where these end, the lent slices hold what the tables then hold.
abbrev pub SameReferences : (before after : lent.Tables) → Type 0
SameReferences before after =
    (after.rounds.ghost_name ≡ before.rounds.ghost_name) × (after.vote_rounds.ghost_name ≡ before.vote_rounds.ghost_name)
    × (after.values.ghost_name ≡ before.values.ghost_name)
