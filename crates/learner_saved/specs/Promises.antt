-- What is promised of saved tables: saving and reading are each other's inverse, where each bit of a set stands, and when each of the two calls acts.
-- Assumes nothing.
use Rattle.std.specs.Prelude.{ℕ, ◌+◌, ◌≤◌, ◌<◌, ◌≡◌, true, List, [], ◌∷◌, ◌↔◌, length, get_or}
use Rattle.numbers.specs.BigEndian.{Bytes}
use Rattle.basics.specs.declared.Verdict.TheVariants.{Done}
use Rattle.basics.specs.Outcome.{outcome, lent}
use Rattle.basics.specs.Verdict.{verdict_number}
use Rattle.player.specs.Promises.{NumbersAre, RefusalKeepsAll, FittingStays}
use Rattle.quorum.specs.declared.Settings.{Settings}
use Rattle.quorum.specs.Quorum.{Member}
use Rattle.learner_tables.specs.Tables.{Tables, cell_at, cells, all_possible, learner_allowed, Sized, Fitting}
use Rattle.learner_file.specs.File.{header_length, saved_length, marked, version_in, same_settings, saved_cell, tables_of}
use Rattle.learner_saved.specs.Saved.{version, saved_table, saved_cells, save, read_saved}

-- ---- there and back

-- Saving and then reading, into any lent table of the same sizes, gives the table.
abbrev pub SaveThenRead : Type 0
SaveThenRead = (s : Settings) (buffer : List ℕ) (t other : Tables) → Fitting t → learner_allowed s other ≡ true → (save s buffer t).answer ≡ verdict_number Done
    → read_saved s (save s buffer t).left.packet other ≡ outcome (verdict_number Done) (lent (save s buffer t).left.packet t)

-- Reading and then saving, to any buffer of that length, gives the bytes.
abbrev pub ReadThenSave : Type 0
ReadThenSave = (s : Settings) (saved buffer : List ℕ) (other : Tables) → Bytes saved → length buffer ≡ length saved → (read_saved s saved other).answer ≡ verdict_number Done
    → save s buffer (read_saved s saved other).left.tables ≡ outcome (verdict_number Done) (lent saved (read_saved s saved other).left.tables)

-- ---- where things stand

-- A saved table has 8 + 21N bytes.
abbrev pub LengthSaved : Type 0
LengthSaved = (s : Settings) (t : Tables) → length (saved_table s t) ≡ saved_length s.instances

-- The cell of an index stands at its place.
abbrev pub SavedCellStands : Type 0
SavedCellStands = (s : Settings) (t : Tables) → Fitting t → (index : ℕ) → index < s.instances → saved_cell (saved_table s t) index ≡ cell_at t index

-- Bit i of a saved cell's set is acceptor i.
abbrev pub SetBits : Type 0
SetBits = (s : Settings) (t : Tables) → Fitting t → (index acceptor : ℕ) → index < s.instances
    → Member acceptor (get_or (saved_table s t) (saved_length index + 4) 0) ↔ Member acceptor (cell_at t index).set

-- ---- the calls

-- Saving: 7, 1, 17.
abbrev pub save_refusals : List ℕ
save_refusals = 7 ∷ 1 ∷ 17 ∷ []

-- Reading: 7, 1, 2, 3, 7, 1, 17.
abbrev pub read_refusals : List ℕ
read_refusals = 7 ∷ 1 ∷ 2 ∷ 3 ∷ 17 ∷ []

-- The tests that saving makes,
pub record Savable (s : Settings) (buffer : List ℕ) (t : Tables) : Type 0 where
  pub fine : learner_allowed s t ≡ true
  pub whole : length buffer ≡ saved_length s.instances
  pub possible : all_possible s.acceptors (cells s t) ≡ true

-- and those that reading makes.
pub record Readable (s : Settings) (saved : List ℕ) (t : Tables) : Type 0 where
  pub fine : learner_allowed s t ≡ true
  pub holds : header_length ≤ length saved
  pub mark : marked saved ≡ true
  pub versioned : version_in saved ≡ version
  pub like : same_settings s saved ≡ true
  pub whole : length saved ≡ saved_length s.instances
  pub possible : all_possible s.acceptors (saved_cells s saved) ≡ true

-- Of saving: it acts exactly when its tests pass, and changes no table.
pub record SavePromises (s : Settings) : Type 0 where
  pub numbers_are : NumbersAre (save s) save_refusals (verdict_number Done ∷ [])
  pub refusal_keeps_all : RefusalKeepsAll (save s)
  pub acts : (buffer : List ℕ) (t : Tables) → Savable s buffer t → save s buffer t ≡ outcome (verdict_number Done) (lent (saved_table s t) t)
  pub only_then : (buffer : List ℕ) (t : Tables) → (save s buffer t).answer ≡ verdict_number Done → Savable s buffer t
  pub keeps_tables : (buffer : List ℕ) (t : Tables) → (save s buffer t).left.tables ≡ t

-- Of reading: it acts exactly when its tests pass, changes no saved byte, and leaves tables of N cells that are all possible and whose numbers fit their widths.
pub record ReadPromises (s : Settings) : Type 0 where
  pub numbers_are : NumbersAre (read_saved s) read_refusals (verdict_number Done ∷ [])
  pub refusal_keeps_all : RefusalKeepsAll (read_saved s)
  pub acts : (saved : List ℕ) (t : Tables) → Readable s saved t → read_saved s saved t ≡ outcome (verdict_number Done) (lent saved (tables_of (saved_cells s saved)))
  pub only_then : (saved : List ℕ) (t : Tables) → (read_saved s saved t).answer ≡ verdict_number Done → Readable s saved t
  pub keeps_bytes : (saved : List ℕ) (t : Tables) → (read_saved s saved t).left.packet ≡ saved
  pub sized_stays : (saved : List ℕ) (t : Tables) → Sized s.instances t → Sized s.instances (read_saved s saved t).left.tables
  pub all_possible : (saved : List ℕ) (t : Tables) → (read_saved s saved t).answer ≡ verdict_number Done
      → all_possible s.acceptors (cells s (read_saved s saved t).left.tables) ≡ true
  pub fitting_stays : FittingStays (read_saved s) Fitting
