-- What is promised of the delivered list: it holds just the values before the first undecided instance; and of the call that writes it.
-- Assumes nothing.
use Rattle.std.specs.Prelude.{ℕ, ◌≤◌, ◌<◌, ◌≡◌, true, false, List, [], ◌∷◌, length, get_or}
use Rattle.basics.specs.declared.Value.{Value}
use Rattle.basics.specs.declared.Verdict.TheVariants.{Done}
use Rattle.basics.specs.Values.{null}
use Rattle.basics.specs.Verdict.{verdict_number}
use Rattle.player.specs.Promises.{NumbersAre, RefusalKeepsAll}
use Rattle.quorum.specs.declared.Settings.{Settings}
use Rattle.learner_cell.specs.Cell.{is_decided, value_of}
use Rattle.learner_tables.specs.Tables.{Tables, cell_at, cells}
use Rattle.learner_delivery.specs.Delivery.{delivered, deliver}

-- A list of values that are just those of the instances before the first undecided one.
pub record BeforeUndecided (M N : ℕ) (t : Tables) (values : List Value) : Type 0 where
  pub at_most : length values ≤ N
  pub decided : (i : ℕ) → i < length values → is_decided M (cell_at t i) ≡ true
  pub each : (i : ℕ) → i < length values → get_or values i null ≡ value_of M (cell_at t i)
  pub undecided : length values < N → is_decided M (cell_at t (length values)) ≡ false

-- The delivered list is that one.
abbrev pub DeliveredBefore : Type 0
DeliveredBefore = (s : Settings) (t : Tables) → BeforeUndecided s.acceptors s.instances t (delivered s.acceptors (cells s t))

-- Delivery: 7, 1, 17.
abbrev pub refusals : List ℕ
refusals = 7 ∷ 1 ∷ 17 ∷ []

abbrev pub verdicts : List ℕ
verdicts = verdict_number Done ∷ []

-- Of the call on tables.
pub record DeliverPromises (s : Settings) (t : Tables) : Type 0 where
  pub numbers_are : NumbersAre (deliver s t) refusals verdicts
  pub refusal_keeps_all : RefusalKeepsAll (deliver s t)
