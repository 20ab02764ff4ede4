-- "each of 1,024 cells starts with the never-voted mark"
-- Assumes nothing.
use Rattle.std.specs.Prelude.{ℕ, List}
use Rattle.acceptor_tables.specs.Tables as acceptor_tables
use Rattle.backup_tables.specs.Tables as backup_tables
use Rattle.learner_tables.specs.Tables as learner_tables

-- An acceptor's columns.
abbrev pub tables_of_acceptor : (rounds vote_rounds values : List ℕ) → acceptor_tables.Tables
tables_of_acceptor = acceptor_tables.tables

-- A fresh acceptor's.
abbrev pub fresh_acceptor : acceptor_tables.Tables
fresh_acceptor = acceptor_tables.fresh_tables 1024

-- A fresh acceptor's vote rounds.
abbrev pub fresh_vote_rounds : List ℕ
fresh_vote_rounds = fresh_acceptor.vote_rounds

-- A backup's columns.
abbrev pub tables_of_backup : (rounds phases sets best_vote_rounds best_values own_values : List ℕ) → backup_tables.Tables
tables_of_backup = backup_tables.tables

-- A fresh backup's.
abbrev pub fresh_backup : backup_tables.Tables
fresh_backup = backup_tables.fresh_tables 1024

-- A learner's columns.
abbrev pub tables_of_learner : (rounds sets values : List ℕ) → learner_tables.Tables
tables_of_learner = learner_tables.tables

-- A fresh learner's.
abbrev pub fresh_learner : learner_tables.Tables
fresh_learner = learner_tables.fresh_tables 1024
