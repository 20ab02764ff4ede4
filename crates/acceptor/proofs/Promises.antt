-- The promises of every call, for the acceptor: it acts or refuses by its numbers, a refusal keeps all, no cell but the instance's changes, a possible
-- cell stays possible, and what is sent keeps the packet table. Each is a theorem of any player, from the facts of this player's rule and tables.
-- Assumes nothing.
use Prim.Native.Nat.{ℕ, ◌≤◌}
use mathlib.Core.Path.{◌≡◌, refl, subst}
use mathlib.Core.Bool.{true, false}
use mathlib.Core.List.{List, [], ◌∷◌}
use Rattle.columns.specs.Columns.{round_at, value_at}
use Rattle.basics.specs.declared.Instance.{Instance}
use Rattle.basics.specs.declared.Round.{Round}
use Rattle.basics.specs.declared.Value.{Value}
use Rattle.basics.specs.Rounds.{at_most}
use Rattle.basics.specs.Verdict.{says_send}
use Rattle.messages.specs.declared.Message.TheVariants.{Prepare, Promise, Propose, Vote}
use Rattle.messages.specs.Table.{keeps_table}
use Rattle.messages.specs.Message.{fields_of}
use Rattle.wire.proofs.Laws.{Writable, prepare-owned, propose-owned}
use Rattle.wire.proofs.Widths.{prepare-fits, propose-fits, propose-value-fits, promise-writable, vote-writable}
use Rattle.player.specs.Promises.{OneOf, first, later, NumbersAre, RefusalKeepsAll, UsesCell, OtherCellsStay, PossibleStays, SendsKept, FittingStays}
use Rattle.player.proofs.Numbers.{one_of}
use Rattle.player.proofs.Promises.{RuledBy, NextCell, SendsOnly, refusal_keeps_all, numbers_are, other_cells_stay, possible_stays, sends_kept, fitting_stays, tables-hold, any-cell}
use Rattle.quorum.specs.declared.Settings.{Settings}
use Rattle.acceptor_rule.specs.Rule.{cell, possible, order_of}
use Rattle.acceptor_rule.proofs.Laws.{vote-up-to-later, promised-possible, voted-possible}
use Rattle.acceptor_tables.specs.Tables.{Tables, cell_at, with_cell, Sized, Fitting}
use Rattle.acceptor.specs.Acceptor.{rule_of, acceptor, acceptor_step}
use Rattle.acceptor.specs.Promises.{refusals, verdicts, StepPromises}
use Rattle.acceptor_tables.proofs.Laws.{allowed-tables, index-within, cell-there, cell_apart, fitting-at, fitting-with, sized-with}
use Rattle.acceptor.proofs.Laws.{rule-elim, place-elim, placed_below}

-- ---- what is stored and sent

pub promise-sent : {own : ℕ} {t : Tables} → own ≤ 6 → Fitting t → (index : ℕ) (i : Instance) (r : Round) → Writable (Prepare i r) → possible (cell_at t index) ≡ true
    → at_most (round_at t.rounds index) r ≡ true → Writable (Promise own i r (round_at t.vote_rounds index) (value_at t.values index))
promise-sent {own} {t} few fits index i r w fine low =
    let c = cell_at t index in
    let cell-fits = fitting-at t index fits in
    promise-writable own i r c.vote_round c.value few (prepare-fits i r w) cell-fits.vote_round_fits cell-fits.value-fits
    (prepare-owned i r w.kept) (vote-up-to-later c r fine low)

pub vote-sent : {own : ℕ} → own ≤ 6 → (i : Instance) (r : Round) (v : Value) → Writable (Propose i r v) → Writable (Vote own i r v)
vote-sent {own} few i r v w = vote-writable own i r v few (propose-fits i r v w) (propose-value-fits i r v w) (propose-owned i r v w.kept)

-- ---- the promises

module _ (s : Settings) (own : ℕ) where
  pub acceptor-numbers : NumbersAre (acceptor_step s own) refusals verdicts
  unfolding acceptor_step acceptor
  acceptor-numbers =
      numbers_are (acceptor s own) (8 ∷ 17 ∷ 10 ∷ []) verdicts
      (λ m. place-elim (λ n. OneOf n refusals) s.instances m (one_of 6 refusals refl) (one_of 8 refusals refl))
      (λ c m. rule-elim (RuledBy refusals verdicts) own c m (one_of 6 refusals refl) (one_of 17 refusals refl) (one_of 10 refusals refl)
      (λ i r _ _ _. first) (λ i r v _ _ _. later first))

  pub acceptor-refusal-keeps-all : RefusalKeepsAll (acceptor_step s own)
  unfolding acceptor_step
  acceptor-refusal-keeps-all = refusal_keeps_all (acceptor s own)

  pub acceptor-other-cells-stay : OtherCellsStay (acceptor_step s own) cell_at (UsesCell (acceptor s own))
  unfolding acceptor_step acceptor
  acceptor-other-cells-stay = other_cells_stay (acceptor s own) cell_apart

  pub acceptor-possible-stays : PossibleStays (acceptor_step s own) cell_at possible
  unfolding acceptor_step acceptor
  acceptor-possible-stays =
      possible_stays (acceptor s own) cell_apart
      (λ t m index c allowed stands. cell-there t index c (index-within t index (allowed-tables s own t allowed).sized (placed_below s.instances m index stands)))
      possible
      (λ c m kept. rule-elim (NextCell (λ d. possible d ≡ true)) own c m tt tt tt
      (λ i r e fine low. promised-possible c r (prepare-owned i r (subst (λ n. keeps_table (fields_of n) ≡ true) e kept)) fine low)
      (λ i r v e _ _. voted-possible r v (propose-owned i r v (subst (λ n. keeps_table (fields_of n) ≡ true) e kept))))

  pub acceptor-sends-kept : SendsKept (acceptor_step s own) Fitting
  unfolding acceptor_step acceptor says_send
  acceptor-sends-kept =
      sends_kept (acceptor s own) Fitting
      (λ t m index allowed fits writable. rule-elim (SendsOnly Writable) own (cell_at t index) m refl refl refl
      (λ i r e fine low. promise-sent (allowed-tables s own t allowed).own-few fits index i r (subst Writable e writable) fine low)
      (λ i r v e _ _. vote-sent (allowed-tables s own t allowed).own-few i r v (subst Writable e writable)))
      (λ m. place-elim (λ n. says_send n ≡ false) s.instances m refl refl)

  pub acceptor-fitting-stays : FittingStays (acceptor_step s own) Fitting
  unfolding acceptor_step acceptor
  acceptor-fitting-stays =
      fitting_stays (acceptor s own) Fitting
      (λ t m index _ fits writable. rule-elim (NextCell (λ c. Fitting (with_cell t index c))) own (cell_at t index) m tt tt tt
      (λ i r e _ _. let held = fitting-at t index fits in
      fitting-with t index (cell r (cell_at t index).vote_round (cell_at t index).value) fits (record {
        round_fits = (prepare-fits i r (subst Writable e writable)).round_fits;
        vote_round_fits = held.vote_round_fits;
        value-fits = held.value-fits;
      }))
      (λ i r v e _ _. let w = subst Writable e writable in
      let round = (propose-fits i r v w).round_fits in
      fitting-with t index (cell r r v) fits (record { round_fits = round; vote_round_fits = round; value-fits = propose-value-fits i r v w })))

  -- the tables keep their sizes
  pub acceptor-sized-stays : (packet : List ℕ) (t : Tables) {n : ℕ} → Sized n t → Sized n (acceptor_step s own packet t).left.tables
  unfolding acceptor_step acceptor
  acceptor-sized-stays packet t {n} =
      tables-hold (acceptor s own) (Sized n) packet t (λ m i _ _ _ before. any-cell (λ c. Sized n (with_cell t i c)) (λ c. sized-with t i c before) (rule_of own (cell_at t i) (order_of m)))

pub step-promises : (s : Settings) (own : ℕ) → StepPromises s own
step-promises s own = record {
  numbers_are = acceptor-numbers s own;
  refusal_keeps_all = acceptor-refusal-keeps-all s own;
  other_cells_stay = acceptor-other-cells-stay s own;
  possible_stays = acceptor-possible-stays s own;
  sends_kept = acceptor-sends-kept s own;
  fitting_stays = acceptor-fitting-stays s own;
  sized_stays = acceptor-sized-stays s own;
}
