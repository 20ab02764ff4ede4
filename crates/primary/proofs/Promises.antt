-- The promises of every call, for the primary, in both forms in which its record is lent: it acts or refuses by its numbers, a refusal keeps all, a possible
-- cell stays possible, and what is sent keeps the packet table; and what a repeated request gets. Each is a theorem of any player, from the facts of this
-- player's rule.
-- Assumes nothing.
use Prim.Native.Nat.{ℕ, ◌+◌}
use mathlib.Core.Path.{◌≡◌, refl, ap, ◌∙◌, subst}
use mathlib.Core.Bool.{true, false}
use mathlib.Core.List.{[], ◌∷◌}
use native.Mathlib.Omega.{arith}
use lib.ListN.{length}
use Rattle.basics.specs.declared.Value.{Value}
use Rattle.basics.specs.Rounds.{the_instance, the_round}
use Rattle.basics.specs.Verdict.{says_send}
use Rattle.basics.proofs.Places.{PlacedBy}
use Rattle.basics.proofs.Rounds.{zero-owned}
use Rattle.messages.specs.declared.Message.{Message}
use Rattle.messages.specs.declared.Message.TheVariants.{Request, Propose}
use Rattle.wire.proofs.Laws.{Writable}
use Rattle.wire.proofs.Widths.{propose-writable, request-value-fits}
use Rattle.player.specs.Promises.{OneOf, first, NumbersAre, RefusalKeepsAll, UsesCell, OtherCellsStay, PossibleStays, SendsKept, FittingStays}
use Rattle.player.proofs.Numbers.{one_of}
use Rattle.player.proofs.Promises.{RuledBy, NextCell, SendsOnly, next-cell, refusal_keeps_all, numbers_are, other_cells_stay, possible_stays, sends_kept, fitting_stays, tables-hold}
use Rattle.quorum.specs.declared.Settings.{Settings}
use Rattle.quorum.specs.Settings.{allowed}
use Rattle.quorum.proofs.Laws.{allowed-brings}
use Rattle.primary_rule.specs.declared.Cell.{Cell}
use Rattle.primary_rule.specs.Rule.{cell, possible}
use Rattle.primary_rule.proofs.Laws.{risen-possible, CellFits}
use Rattle.primary.specs.Primary.{cell_at, with_cell, Fitting, place, rule, primary, primary_step, primary_by_reference, primary_request}
use Rattle.primary.specs.Promises.{refusals, verdicts, StepPromises, RequestPromises, proposed, RepeatedStep, RepeatedRequest}
use Rattle.primary.proofs.Laws.{allowed-next, cell-there, cell_apart, fitting-at, fitting-with, rule-elim, place-elim, placed_first, primary-proposes, request-proposes}

-- ---- what is stored and sent

-- a request's value, proposed for an instance of 32 bits, can be written
pub proposed-writable : (c : Cell) (switch : ℕ) (value : Value) → CellFits c → Writable (Request switch value) → Writable (Propose c.next (the_round 0) value)
proposed-writable c switch value fits asked =
    propose-writable c.next (the_round 0) value (record { instance_fits = fits.next_fits; round_fits = omega arith }) (request-value-fits switch value asked) zero-owned

placed-numbers : (m : Message) → PlacedBy (λ n. OneOf n refusals) (place m)
placed-numbers m = place-elim (λ n. OneOf n refusals) m (one_of 6 refusals refl)

placed-quiet : (m : Message) → PlacedBy (λ n. says_send n ≡ false) (place m)
unfolding says_send
placed-quiet m = place-elim (λ n. says_send n ≡ false) m refl

module _ (N : ℕ) (c : Cell) (m : Message) where
  ruled-numbers : RuledBy refusals verdicts (rule N c m)
  ruled-numbers =
      rule-elim (RuledBy refusals verdicts) N c m (one_of 6 refusals refl) (one_of 17 refusals refl) (one_of 12 refusals refl) (λ switch value _ _. first)

  next-possible : NextCell (λ d. possible N d ≡ true) (rule N c m)
  next-possible = rule-elim (NextCell (λ d. possible N d ≡ true)) N c m tt tt tt (λ switch value _ below. risen-possible N c below)

  sends-writable : CellFits c → Writable m → SendsOnly Writable (rule N c m)
  unfolding says_send
  sends-writable fits asked =
      rule-elim (SendsOnly Writable) N c m refl refl refl (λ switch value asks _. proposed-writable c switch value fits (subst Writable asks asked))

-- N bounds what is stored, whatever the cell held
next_fits : (s : Settings) (c : Cell) (m : Message) → allowed s ≡ true → NextCell CellFits (rule s.instances c m)
next_fits s c m fine =
    rule-elim (NextCell CellFits) s.instances c m tt tt tt
    (λ switch value _ below. record { next_fits = omega (arith, below, (allowed-brings s fine).instances-most) })

-- ---- the record as a slice

module _ (s : Settings) where
  pub primary-numbers : NumbersAre (primary_step s) refusals verdicts
  unfolding primary_step primary
  primary-numbers = numbers_are (primary s) (17 ∷ 12 ∷ []) verdicts placed-numbers (ruled-numbers s.instances)

  pub primary-refusal-keeps-all : RefusalKeepsAll (primary_step s)
  unfolding primary_step
  primary-refusal-keeps-all = refusal_keeps_all (primary s)

  pub primary-other-cells-stay : OtherCellsStay (primary_step s) cell_at (UsesCell (primary s))
  unfolding primary_step primary
  primary-other-cells-stay = other_cells_stay (primary s) cell_apart

  pub primary-possible-stays : PossibleStays (primary_step s) cell_at (possible s.instances)
  unfolding primary_step primary
  primary-possible-stays =
      possible_stays (primary s) cell_apart
      (λ next m index c allowed stands. cell-there next index c (omega (arith, placed_first m index stands, (allowed-next s (length next) allowed).sized)))
      (possible s.instances) (λ c m _. next-possible s.instances c m)

  pub primary-sends-kept : SendsKept (primary_step s) Fitting
  unfolding primary_step primary
  primary-sends-kept =
      sends_kept (primary s) Fitting (λ next m index _ fits asked. sends-writable s.instances (cell_at next index) m (fitting-at next index fits) asked) placed-quiet

  pub primary-fitting-stays : FittingStays (primary_step s) Fitting
  unfolding primary_step primary
  primary-fitting-stays =
      fitting_stays (primary s) Fitting
      (λ next m index allowed fits _. next-cell CellFits (λ c. Fitting (with_cell next index c)) (λ c. fitting-with next index c fits)
      (rule s.instances (cell_at next index) m) (next_fits s (cell_at next index) m (allowed-next s (length next) allowed).settings-allowed))

-- ---- the record by reference

module _ (s : Settings) where
  pub request-numbers : NumbersAre (primary_request s) refusals verdicts
  unfolding primary_request primary_by_reference
  request-numbers = numbers_are (primary_by_reference s) (17 ∷ 12 ∷ []) verdicts placed-numbers (ruled-numbers s.instances)

  pub request-refusal-keeps-all : RefusalKeepsAll (primary_request s)
  unfolding primary_request
  request-refusal-keeps-all = refusal_keeps_all (primary_by_reference s)

  pub request-possible-stays : PossibleStays (primary_request s) (λ c index. c) (possible s.instances)
  unfolding primary_request primary_by_reference
  request-possible-stays packet c index =
      tables-hold (primary_by_reference s) (λ d. possible s.instances d ≡ true) packet c (λ m _ _ _ _ _. next-possible s.instances c m)

  pub request-sends-kept : SendsKept (primary_request s) CellFits
  unfolding primary_request primary_by_reference
  request-sends-kept = sends_kept (primary_by_reference s) CellFits (λ c m _ _ fits asked. sends-writable s.instances c m fits asked) placed-quiet

  pub request-fitting-stays : FittingStays (primary_request s) CellFits
  unfolding primary_request primary_by_reference
  request-fitting-stays = fitting_stays (primary_by_reference s) CellFits (λ c m _ fine _ _. next_fits s c m fine)

-- ---- all of them

pub step-promises : (s : Settings) → StepPromises s
step-promises s = record {
  numbers_are = primary-numbers s;
  refusal_keeps_all = primary-refusal-keeps-all s;
  other_cells_stay = primary-other-cells-stay s;
  possible_stays = primary-possible-stays s;
  sends_kept = primary-sends-kept s;
  fitting_stays = primary-fitting-stays s;
}

pub request-promises : (s : Settings) → RequestPromises s
request-promises s = record {
  numbers_are = request-numbers s;
  refusal_keeps_all = request-refusal-keeps-all s;
  possible_stays = request-possible-stays s;
  sends_kept = λ packet c bytes fits. request-sends-kept s packet c bytes (record { next_fits = fits });
  fitting_stays = λ packet c bytes fits. (request-fitting-stays s packet c bytes (record { next_fits = fits })).next_fits;
}

-- ---- a repeated request

pub repeated-step : RepeatedStep
repeated-step s packet next switch value asked =
    let once = primary-proposes s packet switch value asked.fine asked.reads next (omega (arith, asked.below)) in
    let twice = primary-proposes s packet switch value asked.fine asked.reads (next + 1) asked.below in
    (once, ap (λ o. primary_step s packet o.left.tables) once ∙ twice ∙ ap (λ n. proposed (next + 1) value (n ∷ [])) (omega arith))

pub repeated-request : RepeatedRequest
repeated-request s packet next switch value asked =
    let once = request-proposes s packet switch value asked.fine asked.reads next (omega (arith, asked.below)) in
    let twice = request-proposes s packet switch value asked.fine asked.reads (next + 1) asked.below in
    (once, ap (λ o. primary_request s packet o.left.tables) once ∙ twice ∙ ap (λ n. proposed (next + 1) value (cell (the_instance n))) (omega arith))
