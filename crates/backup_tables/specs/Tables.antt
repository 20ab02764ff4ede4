-- A backup's lent tables: what its cells hold, field by field, one cell for each instance.
-- Assumes nothing.
use Rattle.std.specs.Prelude.{ℕ, ◌+◌, ◌*◌, ◌^◌, ◌<◌, ◌≡◌, Bool, ◌&&◌, List, eqb, leb, length, replicate}
use Rattle.basics.specs.Outcome.{Outcome}
use Rattle.basics.specs.Rounds.{none}
use Rattle.columns.specs.Columns.{round_at, with_round, byte_at, with_byte, value_at, with_value, Below}
use Rattle.columns.specs.Fresh.{set_fresh}
use Rattle.quorum.specs.declared.Settings.{Settings}
use Rattle.quorum.specs.Settings.{allowed}
use Rattle.backup_cell.specs.declared.Cell.{Cell}
use Rattle.backup_cell.specs.Cell.{idle, cell}

-- A number for each cell, and a value as two numbers.
pub record Tables : Type 0 where
  pub rounds : List ℕ
  pub phases : List ℕ
  pub sets : List ℕ
  pub best_vote_rounds : List ℕ
  pub best_values : List ℕ
  pub own_values : List ℕ

abbrev pub tables : (rounds phases sets best_vote_rounds best_values own_values : List ℕ) → Tables
tables rounds phases sets best_vote_rounds best_values own_values =
    record { rounds = rounds; phases = phases; sets = sets; best_vote_rounds = best_vote_rounds; best_values = best_values; own_values = own_values }

abbrev pub fresh_tables : (N : ℕ) → Tables
fresh_tables N = tables (replicate N 0) (replicate N idle) (replicate N 0) (replicate N none.0) (replicate (2 * N) 0) (replicate (2 * N) 0)

abbrev pub cell_at : Tables → (index : ℕ) → Cell
cell_at t index =
    cell (round_at t.rounds index) (byte_at t.phases index) (byte_at t.sets index) (round_at t.best_vote_rounds index) (value_at t.best_values index)
    (value_at t.own_values index)

abbrev pub with_cell : Tables → (index : ℕ) → Cell → Tables
with_cell t index c =
    tables (with_round t.rounds index c.round) (with_byte t.phases index c.phase) (with_byte t.sets index c.set)
    (with_round t.best_vote_rounds index c.best_vote_round) (with_value t.best_values index c.best_value) (with_value t.own_values index c.own_value)

-- M and N are allowed, and each table is sized for N.
unfoldable pub tables_allowed : Settings → (rounds phases sets best_vote_rounds best_values own_values : ℕ) → Bool
tables_allowed s rounds phases sets best_vote_rounds best_values own_values =
    allowed s && eqb rounds s.instances && eqb phases s.instances && eqb sets s.instances && eqb best_vote_rounds s.instances
    && eqb best_values (2 * s.instances) && eqb own_values (2 * s.instances)

-- That, and the own number is 1 to 3.
unfoldable pub is_allowed : Settings → (own rounds phases sets best_vote_rounds best_values own_values : ℕ) → Bool
is_allowed s own rounds phases sets best_vote_rounds best_values own_values =
    tables_allowed s rounds phases sets best_vote_rounds best_values own_values && leb 1 own && leb own 3

abbrev pub backup_allowed : Settings → (own : ℕ) → Tables → Bool
backup_allowed s own t =
    is_allowed s own (length t.rounds) (length t.phases) (length t.sets) (length t.best_vote_rounds) (length t.best_values) (length t.own_values)

-- The same of tables, where no own number is given.
abbrev pub fresh_allowed : Settings → Tables → Bool
fresh_allowed s t =
    tables_allowed s (length t.rounds) (length t.phases) (length t.sets) (length t.best_vote_rounds) (length t.best_values) (length t.own_values)

-- Each column filled with its fresh number, as long as it is.
abbrev pub filled_fresh : Tables → Tables
filled_fresh t =
    tables (replicate (length t.rounds) 0) (replicate (length t.phases) idle) (replicate (length t.sets) 0) (replicate (length t.best_vote_rounds) none.0)
    (replicate (length t.best_values) 0) (replicate (length t.own_values) 0)

-- The tables as a run begins with them, whatever they held; 7 where they are not allowed.
unfoldable pub backup_fresh : Settings → Tables → Outcome Tables
backup_fresh s t = set_fresh (fresh_allowed s t) t (fresh_tables s.instances)

-- The tables have n cells each.
pub record Sized (n : ℕ) (t : Tables) : Type 0 where
  pub of_rounds : length t.rounds ≡ n
  pub of_phases : length t.phases ≡ n
  pub of_sets : length t.sets ≡ n
  pub of_best_vote_rounds : length t.best_vote_rounds ≡ n
  pub of_best_values : length t.best_values ≡ 2 * n
  pub of_own_values : length t.own_values ≡ 2 * n

-- The cell at the index is within each table.
pub record Within (t : Tables) (index : ℕ) : Type 0 where
  pub in_rounds : index < length t.rounds
  pub in_phases : index < length t.phases
  pub in_sets : index < length t.sets
  pub in_best_vote_rounds : index < length t.best_vote_rounds
  pub in_best_values : 2 * index + 1 < length t.best_values
  pub in_own_values : 2 * index + 1 < length t.own_values

-- The numbers of the tables fit their widths, as those of lent slices do.
pub record Fitting (t : Tables) : Type 0 where
  pub fitting_rounds : Below (2 ^ 32) t.rounds
  pub fitting_phases : Below (2 ^ 8) t.phases
  pub fitting_sets : Below (2 ^ 8) t.sets
  pub fitting_best_vote_rounds : Below (2 ^ 32) t.best_vote_rounds
  pub fitting_best_values : Below (2 ^ 64) t.best_values
  pub fitting_own_values : Below (2 ^ 64) t.own_values
