-- What is promised of the acceptor's call.
-- Assumes nothing.
use Rattle.std.specs.Prelude.{ℕ, List, [], ◌∷◌}
use Rattle.basics.specs.declared.Verdict.TheVariants.{ToLeader, ToLearners}
use Rattle.basics.specs.Verdict.{verdict_number}
use Rattle.player.specs.Promises.{packet_refusals, NumbersAre, RefusalKeepsAll, UsesCell, OtherCellsStay, PossibleStays, SendsKept, FittingStays}
use Rattle.quorum.specs.declared.Settings.{Settings}
use Rattle.acceptor_rule.specs.Rule.{possible}
use Rattle.acceptor_tables.specs.Tables.{Tables, cell_at, Sized, Fitting}
use Rattle.acceptor.specs.Acceptor.{acceptor, acceptor_step}

-- Order for a packet: 7, 1 to 5, 6, 8, 17, 10.
abbrev pub refusals : List ℕ
refusals = packet_refusals (8 ∷ 17 ∷ 10 ∷ [])

abbrev pub verdicts : List ℕ
verdicts = verdict_number ToLeader ∷ verdict_number ToLearners ∷ []

-- Of the step, whatever the settings and the own number.
pub record StepPromises (s : Settings) (own : ℕ) : Type 0 where
  pub numbers_are : NumbersAre (acceptor_step s own) refusals verdicts
  pub refusal_keeps_all : RefusalKeepsAll (acceptor_step s own)
  pub other_cells_stay : OtherCellsStay (acceptor_step s own) cell_at (UsesCell (acceptor s own))
  pub possible_stays : PossibleStays (acceptor_step s own) cell_at possible
  pub sends_kept : SendsKept (acceptor_step s own) Fitting
  pub fitting_stays : FittingStays (acceptor_step s own) Fitting
  pub sized_stays : (packet : List ℕ) (t : Tables) {n : ℕ} → Sized n t → Sized n (acceptor_step s own packet t).left.tables
