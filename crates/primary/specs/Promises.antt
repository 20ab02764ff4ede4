-- What is promised of the primary's calls, and what a repeated request gets.
-- Assumes nothing.
use Rattle.std.specs.Prelude.{ℕ, ◌+◌, ◌^◌, ◌<◌, ◌≡◌, true, List, [], ◌∷◌}
use Rattle.basics.specs.declared.Value.{Value}
use Rattle.basics.specs.declared.Verdict.TheVariants.{ToAcceptors}
use Rattle.basics.specs.Outcome.{Outcome, outcome, Lent, lent}
use Rattle.basics.specs.Rounds.{the_instance, the_round}
use Rattle.basics.specs.Verdict.{verdict_number}
use Rattle.messages.specs.declared.Message.TheVariants.{Request, Propose}
use Rattle.wire.specs.Packet.{Read, read_packet, packet_of}
use Rattle.player.specs.Promises.{packet_refusals, NumbersAre, RefusalKeepsAll, UsesCell, OtherCellsStay, PossibleStays, SendsKept, FittingStays}
use Rattle.columns.specs.Fresh.{SetsFresh}
use Rattle.quorum.specs.declared.Settings.{Settings}
use Rattle.quorum.specs.Settings.{allowed}
use Rattle.primary_rule.specs.declared.Cell.{Cell}
use Rattle.primary_rule.specs.Rule.{cell, possible}
use Rattle.primary.specs.Primary.{cell_at, primary_allowed, fresh_record, primary_fresh, Fitting, primary, primary_step, primary_request, as_slice}

-- Order for a packet: 7, 1 to 5, 6, 17, 12. A request names no instance and no sender to judge, so 8 and 9 of the common order never occur.
abbrev pub refusals : List ℕ
refusals = packet_refusals (17 ∷ 12 ∷ [])

abbrev pub verdicts : List ℕ
verdicts = verdict_number ToAcceptors ∷ []

-- Of the record as a slice.
pub record StepPromises (s : Settings) : Type 0 where
  pub numbers_are : NumbersAre (primary_step s) refusals verdicts
  pub refusal_keeps_all : RefusalKeepsAll (primary_step s)
  pub other_cells_stay : OtherCellsStay (primary_step s) cell_at (UsesCell (primary s))
  pub possible_stays : PossibleStays (primary_step s) cell_at (possible s.instances)
  pub sends_kept : SendsKept (primary_step s) Fitting
  pub fitting_stays : FittingStays (primary_step s) Fitting

-- The record's number fits its width.
abbrev pub CellFitting : Cell → Type 0
CellFitting c = c.next.0 < 2 ^ 32

-- Of the record by reference, which is the one cell.
pub record RequestPromises (s : Settings) : Type 0 where
  pub numbers_are : NumbersAre (primary_request s) refusals verdicts
  pub refusal_keeps_all : RefusalKeepsAll (primary_request s)
  pub possible_stays : PossibleStays (primary_request s) (λ c index. c) (possible s.instances)
  pub sends_kept : SendsKept (primary_request s) CellFitting
  pub fitting_stays : FittingStays (primary_request s) CellFitting

-- Of the call that sets the record fresh: it answers 7 or done alone. 7 keeps the record, and done leaves the fresh one, with which a run begins.
abbrev pub FreshPromises : Settings → Type 0
FreshPromises s = SetsFresh (primary_fresh s) (primary_allowed s) fresh_record

-- ---- the two forms in which the record is lent

-- A slice of one number is stepped as the record with that number. So what holds of runs of the one holds of runs of the other.
abbrev pub SliceIsTheRecord : Type 0
SliceIsTheRecord = (s : Settings) (packet : List ℕ) (number : ℕ) → primary_step s packet (number ∷ []) ≡ as_slice (primary_request s packet (cell (the_instance number)))

-- ---- a repeated request

-- What the primary answers and leaves where it proposes a value for an instance.
abbrev pub proposed : {Tables : Type 0} → (instance : ℕ) → Value → Tables → Outcome (Lent Tables)
proposed instance value tables = outcome (verdict_number ToAcceptors) (lent (packet_of (Propose (the_instance instance) (the_round 0) value)) tables)

-- A request's bytes, and room for two instances more.
pub record TwiceAsked (s : Settings) (packet : List ℕ) (next switch : ℕ) (value : Value) : Type 0 where
  pub fine : allowed s ≡ true
  pub reads : read_packet packet ≡ Read (Request switch value)
  pub below : next + 1 < s.instances

-- "A repeated request gets a second instance": two steps on the same bytes, the second on the record that the first left,
abbrev pub RepeatedStep : Type 0
RepeatedStep = (s : Settings) (packet : List ℕ) (next switch : ℕ) (value : Value) → TwiceAsked s packet next switch value
    → (primary_step s packet (next ∷ []) ≡ proposed next value ((next + 1) ∷ []))
    × (primary_step s packet (primary_step s packet (next ∷ [])).left.tables ≡ proposed (next + 1) value ((next + 2) ∷ []))

-- and the same on the record by reference.
abbrev pub RepeatedRequest : Type 0
RepeatedRequest = (s : Settings) (packet : List ℕ) (next switch : ℕ) (value : Value) → TwiceAsked s packet next switch value
    → (primary_request s packet (cell (the_instance next)) ≡ proposed next value (cell (the_instance (next + 1))))
    × (primary_request s packet (primary_request s packet (cell (the_instance next))).left.tables ≡ proposed (next + 1) value (cell (the_instance (next + 2))))
