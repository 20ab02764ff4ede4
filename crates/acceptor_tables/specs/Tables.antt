-- An acceptor's lent tables: the rounds, the vote rounds and the values of its cells, one cell for each instance.
-- Assumes nothing.
use Rattle.std.specs.Prelude.{ℕ, ◌+◌, ◌*◌, ◌^◌, ◌<◌, ◌≡◌, Bool, ◌&&◌, List, eqb, ltb, length, replicate}
use Rattle.basics.specs.Outcome.{Outcome}
use Rattle.basics.specs.Rounds.{none}
use Rattle.columns.specs.Columns.{round_at, with_round, value_at, with_value, Below}
use Rattle.columns.specs.Fresh.{set_fresh}
use Rattle.quorum.specs.declared.Settings.{Settings}
use Rattle.quorum.specs.Settings.{allowed}
use Rattle.acceptor_rule.specs.declared.Cell.{Cell}
use Rattle.acceptor_rule.specs.Rule.{cell}

-- A round and a vote round for each cell, and a value as two numbers.
pub record Tables : Type 0 where
  pub rounds : List ℕ
  pub vote_rounds : List ℕ
  pub values : List ℕ

abbrev pub tables : (rounds vote_rounds values : List ℕ) → Tables
tables rounds vote_rounds values = record { rounds = rounds; vote_rounds = vote_rounds; values = values }

abbrev pub fresh_tables : (N : ℕ) → Tables
fresh_tables N = tables (replicate N 0) (replicate N none.0) (replicate (2 * N) 0)

abbrev pub cell_at : Tables → (index : ℕ) → Cell
cell_at t index = cell (round_at t.rounds index) (round_at t.vote_rounds index) (value_at t.values index)

abbrev pub with_cell : Tables → (index : ℕ) → Cell → Tables
with_cell t index c =
    tables (with_round t.rounds index c.round) (with_round t.vote_rounds index c.vote_round) (with_value t.values index c.value)

-- M and N are allowed, and each table is sized for N.
unfoldable pub tables_allowed : Settings → (rounds vote_rounds values : ℕ) → Bool
tables_allowed s rounds vote_rounds values = allowed s && eqb rounds s.instances && eqb vote_rounds s.instances && eqb values (2 * s.instances)

-- That, and the own number is below M.
unfoldable pub is_allowed : Settings → (own rounds vote_rounds values : ℕ) → Bool
is_allowed s own rounds vote_rounds values = tables_allowed s rounds vote_rounds values && ltb own s.acceptors

abbrev pub acceptor_allowed : Settings → (own : ℕ) → Tables → Bool
acceptor_allowed s own t = is_allowed s own (length t.rounds) (length t.vote_rounds) (length t.values)

-- The same of tables, where no own number is given.
abbrev pub fresh_allowed : Settings → Tables → Bool
fresh_allowed s t = tables_allowed s (length t.rounds) (length t.vote_rounds) (length t.values)

-- Each column filled with its fresh number, as long as it is.
abbrev pub filled_fresh : Tables → Tables
filled_fresh t = tables (replicate (length t.rounds) 0) (replicate (length t.vote_rounds) none.0) (replicate (length t.values) 0)

-- The tables as a run begins with them, whatever they held; 7 where they are not allowed.
unfoldable pub acceptor_fresh : Settings → Tables → Outcome Tables
acceptor_fresh s t = set_fresh (fresh_allowed s t) t (fresh_tables s.instances)

-- The tables have n cells each.
pub record Sized (n : ℕ) (t : Tables) : Type 0 where
  pub of_rounds : length t.rounds ≡ n
  pub of_vote_rounds : length t.vote_rounds ≡ n
  pub of_values : length t.values ≡ 2 * n

-- The cell at the index is within each table.
pub record Within (t : Tables) (index : ℕ) : Type 0 where
  pub in_rounds : index < length t.rounds
  pub in_vote_rounds : index < length t.vote_rounds
  pub in_values : 2 * index + 1 < length t.values

-- The numbers of the tables fit their widths, as those of lent slices do.
pub record Fitting (t : Tables) : Type 0 where
  pub fitting_rounds : Below (2 ^ 32) t.rounds
  pub fitting_vote_rounds : Below (2 ^ 32) t.vote_rounds
  pub fitting_values : Below (2 ^ 64) t.values
