-- A learner's lent tables: the rounds, the sets of voters and the values of its cells, one cell for each instance.
-- Assumes nothing.
use Rattle.std.specs.Prelude.{ℕ, ◌+◌, ◌*◌, ◌^◌, ◌<◌, ◌≡◌, Bool, ◌&&◌, List, eqb, length, replicate}
use Rattle.basics.specs.Outcome.{Outcome}
use Rattle.basics.specs.Rounds.{none}
use Rattle.columns.specs.Columns.{round_at, with_round, byte_at, with_byte, value_at, with_value, Below}
use Rattle.columns.specs.Fresh.{set_fresh}
use Rattle.columns.specs.Walks.{cells_from, every}
use Rattle.quorum.specs.declared.Settings.{Settings}
use Rattle.quorum.specs.Settings.{allowed}
use Rattle.learner_cell.specs.declared.Cell.{Cell}
use Rattle.learner_cell.specs.Cell.{cell, possible}

pub record Tables : Type 0 where
  pub rounds : List ℕ
  pub sets : List ℕ
  pub values : List ℕ

abbrev pub tables : (rounds sets values : List ℕ) → Tables
tables rounds sets values = record { rounds = rounds; sets = sets; values = values }

abbrev pub fresh_tables : (N : ℕ) → Tables
fresh_tables N = tables (replicate N none.0) (replicate N 0) (replicate (2 * N) 0)

abbrev pub cell_at : Tables → (index : ℕ) → Cell
cell_at t index = cell (round_at t.rounds index) (byte_at t.sets index) (value_at t.values index)

abbrev pub with_cell : Tables → (index : ℕ) → Cell → Tables
with_cell t index c = tables (with_round t.rounds index c.round) (with_byte t.sets index c.set) (with_value t.values index c.value)

-- The first cells, so many of them.
abbrev pub first_cells : (count : ℕ) → Tables → List Cell
first_cells count t = cells_from (cell_at t) 0 count

-- The cells of all instances, 0 to N-1.
abbrev pub cells : Settings → Tables → List Cell
cells s t = first_cells s.instances t

-- Every cell of a list is possible.
abbrev pub all_possible : (M : ℕ) → List Cell → Bool
all_possible M cs = every (possible M) cs

-- M and N are allowed, and each table is sized for N. A learner has no own number.
unfoldable pub is_allowed : Settings → (rounds sets values : ℕ) → Bool
is_allowed s rounds sets values = allowed s && eqb rounds s.instances && eqb sets s.instances && eqb values (2 * s.instances)

abbrev pub learner_allowed : Settings → Tables → Bool
learner_allowed s t = is_allowed s (length t.rounds) (length t.sets) (length t.values)

-- Each column filled with its fresh number, as long as it is.
abbrev pub filled_fresh : Tables → Tables
filled_fresh t = tables (replicate (length t.rounds) none.0) (replicate (length t.sets) 0) (replicate (length t.values) 0)

-- The tables as a run begins with them, whatever they held; 7 where they are not allowed.
unfoldable pub learner_fresh : Settings → Tables → Outcome Tables
learner_fresh s t = set_fresh (learner_allowed s t) t (fresh_tables s.instances)

-- The tables have n cells each.
pub record Sized (n : ℕ) (t : Tables) : Type 0 where
  pub of_rounds : length t.rounds ≡ n
  pub of_sets : length t.sets ≡ n
  pub of_values : length t.values ≡ 2 * n

-- The cell at the index is within each table.
pub record Within (t : Tables) (index : ℕ) : Type 0 where
  pub in_rounds : index < length t.rounds
  pub in_sets : index < length t.sets
  pub in_values : 2 * index + 1 < length t.values

-- The numbers of the tables fit their widths, as those of lent slices do.
pub record Fitting (t : Tables) : Type 0 where
  pub fitting_rounds : Below (2 ^ 32) t.rounds
  pub fitting_sets : Below (2 ^ 8) t.sets
  pub fitting_values : Below (2 ^ 64) t.values
