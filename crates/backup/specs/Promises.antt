-- What is promised of the backup's calls.
-- Assumes nothing.
use Rattle.std.specs.Prelude.{ℕ, ◌^◌, ◌<◌, ◌≡◌, List, [], ◌∷◌}
use Rattle.basics.specs.declared.Instance.{Instance}
use Rattle.basics.specs.declared.Value.{Value}
use Rattle.basics.specs.declared.Verdict.TheVariants.{ToAcceptors, Hold}
use Rattle.basics.specs.Places.{At, placed}
use Rattle.basics.specs.Verdict.{verdict_number}
use Rattle.player.specs.Promises.{packet_refusals, NumbersAre, RefusalKeepsAll, UsesCell, OtherCellsStay, PossibleStays, SendsKept, FittingStays}
use Rattle.quorum.specs.declared.Settings.{Settings}
use Rattle.backup_cell.specs.Cell.{possible}
use Rattle.backup_tables.specs.Tables.{Tables, cell_at, Sized, Fitting}
use Rattle.backup.specs.Backup.{backup, backup_step, backup_start}

-- ---- the step

-- Order for a packet: 7, 1 to 5, 6, 8, 9, 17, 11, 15.
abbrev pub refusals : List ℕ
refusals = packet_refusals (8 ∷ 9 ∷ 17 ∷ 11 ∷ 15 ∷ [])

abbrev pub verdicts : List ℕ
verdicts = verdict_number ToAcceptors ∷ verdict_number Hold ∷ []

-- Of the step, whatever the settings and the own number.
pub record StepPromises (s : Settings) (own : ℕ) : Type 0 where
  pub numbers_are : NumbersAre (backup_step s own) refusals verdicts
  pub refusal_keeps_all : RefusalKeepsAll (backup_step s own)
  pub other_cells_stay : OtherCellsStay (backup_step s own) cell_at (UsesCell (backup s own))
  pub possible_stays : PossibleStays (backup_step s own) cell_at (possible s.acceptors own)
  pub sends_kept : SendsKept (backup_step s own) Fitting
  pub fitting_stays : FittingStays (backup_step s own) Fitting
  pub sized_stays : (packet : List ℕ) (t : Tables) {n : ℕ} → Sized n t → Sized n (backup_step s own packet t).left.tables

-- ---- the start

-- Order for a start: 7, 1, 8, 17, 16.
abbrev pub start_refusals : List ℕ
start_refusals = 7 ∷ 1 ∷ 8 ∷ 17 ∷ 16 ∷ []

abbrev pub start_verdicts : List ℕ
start_verdicts = verdict_number ToAcceptors ∷ []

-- The cell that a start uses.
abbrev pub StartUses : Settings → Instance → (buffer : List ℕ) → (index : ℕ) → Type 0
StartUses s instance buffer index = placed s.instances instance ≡ At index

-- Instance and value fit their widths.
pub record StartFits (instance : Instance) (value : Value) : Type 0 where
  pub instance_fits : instance.0 < 2 ^ 32
  pub high_fits : value.high < 2 ^ 64
  pub low_fits : value.low < 2 ^ 64

-- Of the start, whatever it is given.
pub record StartPromises (s : Settings) (own : ℕ) (instance : Instance) (floor : ℕ) (value : Value) : Type 0 where
  pub numbers_are : NumbersAre (backup_start s own instance floor value) start_refusals start_verdicts
  pub refusal_keeps_all : RefusalKeepsAll (backup_start s own instance floor value)
  pub other_cells_stay : OtherCellsStay (backup_start s own instance floor value) cell_at (StartUses s instance)
  pub possible_stays : PossibleStays (backup_start s own instance floor value) cell_at (possible s.acceptors own)
  pub sends_kept : StartFits instance value → SendsKept (backup_start s own instance floor value) Fitting
  pub fitting_stays : StartFits instance value → FittingStays (backup_start s own instance floor value) Fitting
  pub sized_stays : (buffer : List ℕ) (t : Tables) {n : ℕ} → Sized n t → Sized n (backup_start s own instance floor value buffer t).left.tables
