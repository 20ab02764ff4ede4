-- The promises of every call, for the learner's step: it acts or refuses by its numbers, a refusal keeps all, no cell but the instance's changes, a possible
-- cell stays possible, and nothing is sent. They are the theorems of any player, from the laws of its rule and tables. A decided cell never moves again.
-- Assumes nothing.
use Prim.Native.Nat.{ℕ}
use mathlib.Core.Path.{◌≡◌, refl, sym, ap, ◌∙◌, subst}
use mathlib.Core.Bool.{true, false≢true}
use mathlib.Core.List.{List, [], ◌∷◌}
use native.Mathlib.Decide.{ℕ_discrete}
use Rattle.basics.proofs.Ladder.{if-elim}
use Rattle.messages.specs.declared.Message.{Message}
use Rattle.messages.specs.Message.{fields_of}
use Rattle.messages.specs.Table.{keeps_table}
use Rattle.wire.proofs.Laws.{vote-sender, vote-owned, Writable}
use Rattle.wire.proofs.Widths.{vote-fits, vote-value-fits}
use Rattle.player.specs.Promises.{OneOf, first, later, NumbersAre, RefusalKeepsAll, UsesCell, OtherCellsStay, PossibleStays, FittingStays}
use Rattle.player.specs.Step.{Ruling, refused, sends, counts, ruled}
use Rattle.player.proofs.Numbers.{one_of}
use Rattle.player.proofs.Promises.{RuledBy, NextCell, next-cell, refusal_keeps_all, numbers_are, tables-hold, any-cell, other_cells_stay, possible_stays, fitting_stays}
use Rattle.player.proofs.Steps.{step-elim}
use Rattle.quorum.specs.declared.Settings.{Settings}
use Rattle.learner_cell.specs.declared.Cell.{Cell}
use Rattle.learner_cell.specs.Cell.{is_decided, possible}
use Rattle.learner_rule.specs.Rule.{hold_or_decide, count_vote}
use Rattle.learner_cell.proofs.Laws.{CellFits}
use Rattle.learner_rule.proofs.Laws.{counting-elim, counted-possible, counted-fits}
use Rattle.learner_tables.specs.Tables.{Tables, cell_at, with_cell, Sized, Fitting}
use Rattle.learner_tables.proofs.Laws.{allowed-tables, index-within, cell-there, cell_apart, fitting-at, fitting-with, sized-with}
use Rattle.learner.specs.Learner.{rule, learner, learner_step}
use Rattle.learner.specs.Promises.{refusals, verdicts, StepPromises}
use Rattle.learner.proofs.Laws.{rule-elim, place-elim, placed_below}

-- ---- the step

-- counted: held, or decided
counted-by : (M : ℕ) (c : Cell) → RuledBy refusals verdicts (hold_or_decide M c)
unfolding hold_or_decide
counted-by M c = if-elim (RuledBy refusals verdicts) _ _ _ (λ _. later first) (λ _. first)

-- a ruling that sends nothing leaves the packet as it is
abbrev Quiet : Ruling Cell → Type 0
Quiet (refused number) = Unit {0}
Quiet (sends verdict m c) = ⊥
Quiet (counts verdict c) = Unit {0}

quiet-packet : (packet : List ℕ) (t : Tables) (store : Cell → Tables) (r : Ruling Cell) → Quiet r → (ruled packet t store r).left.packet ≡ packet
unfolding ruled
quiet-packet packet t store (refused number) quiet = refl
quiet-packet packet t store (sends verdict m c) quiet = absurd quiet
quiet-packet packet t store (counts verdict c) quiet = refl

counted-quiet : (M : ℕ) (c : Cell) → Quiet (hold_or_decide M c)
unfolding hold_or_decide
counted-quiet M c = if-elim Quiet _ _ _ (λ _. tt) (λ _. tt)

-- a decided cell refuses every vote
decided-refuses : (M : ℕ) (c : Cell) (m : Message) (Such : Cell → Type 0) → is_decided M c ≡ true → NextCell Such (rule M c m)
decided-refuses M c m Such over =
    rule-elim (NextCell Such) M c m
    (λ a i r v _. counting-elim (NextCell Such) M c a r v tt tt tt tt tt tt (λ _ _ undecided _ _. absurd (false≢true (sym undecided ∙ over)))
    (λ _ _ undecided _ _ _. absurd (false≢true (sym undecided ∙ over))))
    tt

module _ (s : Settings) where
  -- hold and decided leave the packet unchanged, as refusals do
  pub learner-packet-stays : (packet : List ℕ) (t : Tables) → (learner_step s packet t).left.packet ≡ packet
  unfolding learner_step learner
  learner-packet-stays packet t =
      step-elim (learner s) packet t (λ o. o.left.packet ≡ packet) refl (λ _ _. refl) (λ _ _ _ _. refl)
      (λ _ m _ index _. quiet-packet packet t (with_cell t index) _
      (rule-elim Quiet s.acceptors (cell_at t index) m
      (λ a i r v _. counting-elim Quiet s.acceptors (cell_at t index) a r v tt tt tt tt tt tt (λ _ _ _ _ _. counted-quiet s.acceptors _)
      (λ _ _ _ _ _ _. counted-quiet s.acceptors _))
      tt))

  -- a decided cell never moves again
  pub learner-decided-stays : (packet : List ℕ) (t : Tables) (index : ℕ) → is_decided s.acceptors (cell_at t index) ≡ true
      → cell_at (learner_step s packet t).left.tables index ≡ cell_at t index
  unfolding learner_step learner
  learner-decided-stays packet t index over =
      tables-hold (learner s) (λ u. cell_at u index ≡ cell_at t index) packet t (λ m i _ _ _ _. go m i (ℕ_discrete i index)) refl
    where
      go : (m : Message) (i : ℕ) → Dec (i ≡ index) → NextCell (λ c. cell_at (with_cell t i c) index ≡ cell_at t index) (rule s.acceptors (cell_at t i) m)
      go m i (yes same) = decided-refuses s.acceptors (cell_at t i) m (λ c. cell_at (with_cell t i c) index ≡ cell_at t index)
          (ap (λ k. is_decided s.acceptors (cell_at t k)) same ∙ over)
      go m i (no differ) = any-cell (λ c. cell_at (with_cell t i c) index ≡ cell_at t index) (λ c. cell_apart t i index c differ) (rule s.acceptors (cell_at t i) m)

  pub learner-numbers : NumbersAre (learner_step s) refusals verdicts
  unfolding learner_step learner
  learner-numbers =
      numbers_are (learner s) (8 ∷ 9 ∷ 17 ∷ 14 ∷ 10 ∷ 13 ∷ 15 ∷ []) verdicts
      (λ m. place-elim (λ n. OneOf n refusals) s.instances m (one_of 6 refusals refl) (one_of 8 refusals refl))
      (λ c m. rule-elim (RuledBy refusals verdicts) s.acceptors c m
      (λ a i r v _. counting-elim (RuledBy refusals verdicts) s.acceptors c a r v (one_of 9 refusals refl) (one_of 17 refusals refl) (one_of 14 refusals refl)
      (one_of 10 refusals refl) (one_of 13 refusals refl) (one_of 15 refusals refl) (λ _ _ _ _ _. counted-by s.acceptors _) (λ _ _ _ _ _ _. counted-by s.acceptors _))
      (one_of 6 refusals refl))

  pub learner-refusal-keeps-all : RefusalKeepsAll (learner_step s)
  unfolding learner_step
  learner-refusal-keeps-all = refusal_keeps_all (learner s)

  pub learner-other-cells-stay : OtherCellsStay (learner_step s) cell_at (UsesCell (learner s))
  unfolding learner_step learner
  learner-other-cells-stay = other_cells_stay (learner s) cell_apart

  pub learner-possible-stays : PossibleStays (learner_step s) cell_at (possible s.acceptors)
  unfolding learner_step learner
  learner-possible-stays =
      possible_stays (learner s) cell_apart
      (λ t m index c allowed stands. cell-there t index c (index-within t index (allowed-tables s t allowed).sized (placed_below s.instances m index stands)))
      (possible s.acceptors)
      (λ c m kept. rule-elim (NextCell (λ d. possible s.acceptors d ≡ true)) s.acceptors c m
      (λ a i r v e. let here = subst (λ n. keeps_table (fields_of n) ≡ true) e kept in
      counted-possible s.acceptors c a r v (vote-sender a i r v here) (vote-owned a i r v here))
      tt)

  pub learner-fitting-stays : FittingStays (learner_step s) Fitting
  unfolding learner_step learner
  learner-fitting-stays =
      fitting_stays (learner s) Fitting
      (λ t m index _ fits writable. rule-elim (NextCell (λ c. Fitting (with_cell t index c))) s.acceptors (cell_at t index) m
      (λ a i r v e. let w = subst Writable e writable in
      next-cell CellFits (λ c. Fitting (with_cell t index c)) (λ c cell-fits. fitting-with t index c fits cell-fits) (count_vote s.acceptors (cell_at t index) a r v)
      (counted-fits s.acceptors (cell_at t index) a r v (fitting-at t index fits) (vote-sender a i r v w.kept) (vote-fits a i r v w).round_fits (vote-value-fits a i r v w)))
      tt)

  -- the tables keep their sizes
  pub learner-sized-stays : (packet : List ℕ) (t : Tables) {n : ℕ} → Sized n t → Sized n (learner_step s packet t).left.tables
  unfolding learner_step learner
  learner-sized-stays packet t {n} =
      tables-hold (learner s) (Sized n) packet t (λ m i _ _ _ before. any-cell (λ c. Sized n (with_cell t i c)) (λ c. sized-with t i c before) (rule s.acceptors (cell_at t i) m))

pub step-promises : (s : Settings) → StepPromises s
step-promises s = record {
  numbers_are = learner-numbers s;
  refusal_keeps_all = learner-refusal-keeps-all s;
  other_cells_stay = learner-other-cells-stay s;
  possible_stays = learner-possible-stays s;
  fitting_stays = learner-fitting-stays s;
  sized_stays = learner-sized-stays s;
  packet_stays = learner-packet-stays s;
  decided_stays = learner-decided-stays s;
}
