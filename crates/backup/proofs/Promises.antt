-- The promises of every call, for the backup's step and start: each acts or refuses by its numbers, a refusal keeps all, no cell but the instance's changes, a
-- possible cell stays possible, and what is sent keeps the packet table. The step's are the theorems of any player; the start has the same shape.
-- Assumes nothing.
use Prim.Native.Nat.{ℕ, ◌^◌, ◌<◌, max}
use mathlib.Core.Path.{◌≡◌, refl, ap, ◌∙◌, subst}
use mathlib.Core.Bool.{true, false, false≢true}
use mathlib.Core.List.{List, [], ◌∷◌}
use native.Mathlib.Omega.{arith}
use lib.Dec.{lit<}
use Rattle.basics.proofs.Values.{ValueFits}
use Rattle.basics.specs.declared.Instance.{Instance}
use Rattle.basics.specs.Places.{At}
use Rattle.basics.specs.declared.Round.{Round}
use Rattle.basics.specs.declared.Value.{Value}
use Rattle.basics.specs.Rounds.{the_round, owner_of}
use Rattle.basics.specs.Verdict.{is_verdict, says_send}
use Rattle.basics.proofs.Ladder.{if-elim}
use Rattle.basics.proofs.Places.{placed-index}
use Rattle.basics.proofs.Rounds.{owned-or-0, backup-owned}
use Rattle.messages.specs.declared.Message.TheVariants.{Prepare, Promise, Propose}
use Rattle.messages.specs.Table.{keeps_table}
use Rattle.messages.specs.Message.{fields_of}
use Rattle.wire.proofs.Laws.{promise-sender, promise-votes, Writable}
use Rattle.wire.proofs.Widths.{promise-fits, promise-vote-round-fits, promise-value-fits, propose-writable, prepare-writable}
use Rattle.wire.specs.Packet.{Kept}
use Rattle.player.specs.Step.{unchanged}
use Rattle.player.specs.Promises.{OneOf, first, later, NumbersAre, RefusalKeepsAll, UsesCell, OtherCellsStay, PossibleStays, SendsKept, FittingStays, ActsOrRefuses, refuses}
use Rattle.player.proofs.Numbers.{one_of}
use Rattle.player.proofs.Promises.{RuledBy, NextCell, SendsOnly, refusal_keeps_all, numbers_are, other_cells_stay, possible_stays, sends_kept, fitting_stays, tables-hold, any-cell}
use Rattle.player.proofs.Promises.{ruled-keeps, ruled-numbers, ruled-tables, ruled-sends, stored-possible}
use Rattle.quorum.specs.declared.Settings.{Settings}
use Rattle.quorum.specs.Quorum.{has_member}
use Rattle.backup_cell.specs.Cell.{asking, possible}
use Rattle.backup_cell.proofs.Laws.{asking-started, null-fits}
use Rattle.backup_rule.specs.Rule.{counting, chosen, when_majority, started, next_round}
use Rattle.backup_rule.proofs.Laws.{counted, counted-possible, counting-fits, closed-fits, chosen-fits, start-rule-elim, started-possible}
use Rattle.backup_rule.proofs.Next.{next-smallest}
use Rattle.backup_tables.specs.Tables.{Tables, cell_at, with_cell, backup_allowed, Sized, Fitting}
use Rattle.backup_tables.proofs.Laws.{allowed-tables, index-within, cell-there, cell_apart, fitting-at, fitting-with, sized-with}
use Rattle.backup.specs.Backup.{rule, backup, backup_step, backup_start}
use Rattle.backup.specs.Promises.{refusals, verdicts, StepPromises, start_refusals, start_verdicts, StartUses, StartPromises}
use Rattle.backup.proofs.Laws.{rule-elim, place-elim, placed_below, start-ruling, start-elim}

-- ---- the step

-- what is proposed at majority can be written
module _ (s : Settings) (own : ℕ) (t : Tables) (index a : ℕ) (i : Instance) (r b : Round) (v : Value) where
  pub propose-sent : backup_allowed s own t ≡ true → Fitting t → Writable (Promise a i r b v) → a < s.acceptors → possible s.acceptors own (cell_at t index) ≡ true
      → (cell_at t index).phase ≡ asking → r.0 ≡ (cell_at t index).round.0 → has_member (cell_at t index).set a ≡ false
      → Writable (Propose i (counting (cell_at t index) a b v).round (chosen (counting (cell_at t index) a b v)))
  propose-sent allowed fits w known fine asks same absent =
      let c = cell_at t index in
      let low = promise-sender a i r b v w.kept in
      let next = counting-fits c a b v (fitting-at t index fits) low (promise-vote-round-fits a i r b v w) (promise-value-fits a i r b v w) in
      let few = allowed-tables s own t allowed in
      let kept = counted s.acceptors own c a r b v known low fine asks same absent (promise-votes a i r b v w.kept) in
      let mine = ap owner_of kept.same-round ∙ (asking-started s.acceptors own c fine asks).mine in
      propose-writable i (counting c a b v).round (chosen (counting c a b v))
      (record { instance_fits = (promise-fits a i r b v w).instance_fits; round_fits = next.round_fits }) (chosen-fits (counting c a b v) next)
      (owned-or-0 _ (backup-owned (counting c a b v).round own few.own-least few.own-most mine))

module _ (s : Settings) (own : ℕ) where
  pub backup-numbers : NumbersAre (backup_step s own) refusals verdicts
  unfolding backup_step backup when_majority
  backup-numbers =
      numbers_are (backup s own) (8 ∷ 9 ∷ 17 ∷ 11 ∷ 15 ∷ []) verdicts
      (λ m. place-elim (λ n. OneOf n refusals) s.instances m (one_of 6 refusals refl) (one_of 8 refusals refl))
      (λ c m. rule-elim (RuledBy refusals verdicts) s.acceptors own c m (one_of 6 refusals refl) (one_of 9 refusals refl) (one_of 17 refusals refl)
      (one_of 11 refusals refl) (one_of 15 refusals refl)
      (λ _ i _ b v _ _ _ _ _ _. if-elim (RuledBy refusals verdicts) _ _ _ (λ _. first) (λ _. later first)))

  pub backup-refusal-keeps-all : RefusalKeepsAll (backup_step s own)
  unfolding backup_step
  backup-refusal-keeps-all = refusal_keeps_all (backup s own)

  pub backup-other-cells-stay : OtherCellsStay (backup_step s own) cell_at (UsesCell (backup s own))
  unfolding backup_step backup
  backup-other-cells-stay = other_cells_stay (backup s own) cell_apart

  pub backup-possible-stays : PossibleStays (backup_step s own) cell_at (possible s.acceptors own)
  unfolding backup_step backup
  backup-possible-stays =
      possible_stays (backup s own) cell_apart
      (λ t m index c allowed stands. cell-there t index c (index-within t index (allowed-tables s own t allowed).sized (placed_below s.instances m index stands)))
      (possible s.acceptors own)
      (λ c m kept. rule-elim (NextCell (λ d. possible s.acceptors own d ≡ true)) s.acceptors own c m tt tt tt tt tt
      (λ a i r b v e known fine asks same absent.
      let here = subst (λ n. keeps_table (fields_of n) ≡ true) e kept in
      counted-possible s.acceptors own c a r b v known (promise-sender a i r b v here) fine asks same absent (promise-votes a i r b v here) i))

  pub backup-sends-kept : SendsKept (backup_step s own) Fitting
  unfolding backup_step backup says_send when_majority
  backup-sends-kept =
      sends_kept (backup s own) Fitting
      (λ t m index allowed fits writable. rule-elim (SendsOnly Writable) s.acceptors own (cell_at t index) m refl refl refl refl refl
      (λ a i r b v e known fine asks same absent.
      if-elim (SendsOnly Writable) _ _ _ (λ _. propose-sent s own t index a i r b v allowed fits (subst Writable e writable) known fine asks same absent) (λ _. refl)))
      (λ m. place-elim (λ n. says_send n ≡ false) s.instances m refl refl)

  pub backup-fitting-stays : FittingStays (backup_step s own) Fitting
  unfolding backup_step backup when_majority
  backup-fitting-stays =
      fitting_stays (backup s own) Fitting
      (λ t m index _ fits writable. rule-elim (NextCell (λ c. Fitting (with_cell t index c))) s.acceptors own (cell_at t index) m tt tt tt tt tt
      (λ a i r b v e _ _ _ _ _.
      let w = subst Writable e writable in
      let low = promise-sender a i r b v w.kept in
      let next = counting-fits (cell_at t index) a b v (fitting-at t index fits) low (promise-vote-round-fits a i r b v w) (promise-value-fits a i r b v w) in
      if-elim (NextCell (λ c. Fitting (with_cell t index c))) _ _ _ (λ _. fitting-with t index _ fits (closed-fits (counting (cell_at t index) a b v) next))
      (λ _. fitting-with t index (counting (cell_at t index) a b v) fits next)))

  -- the tables keep their sizes
  pub backup-sized-stays : (packet : List ℕ) (t : Tables) {n : ℕ} → Sized n t → Sized n (backup_step s own packet t).left.tables
  unfolding backup_step backup
  backup-sized-stays packet t {n} =
      tables-hold (backup s own) (Sized n) packet t
      (λ m i _ _ _ before. any-cell (λ c. Sized n (with_cell t i c)) (λ c. sized-with t i c before) (rule s.acceptors own (cell_at t i) m))

-- ---- the start

module _ (s : Settings) (own : ℕ) (i : Instance) (floor : ℕ) (v : Value) where
  pub start-numbers : NumbersAre (backup_start s own i floor v) start_refusals start_verdicts
  start-numbers buffer t =
      start-elim s own i floor v buffer t (ActsOrRefuses start_refusals start_verdicts buffer t) (refuses (one_of 7 start_refusals refl)) (refuses (one_of 1 start_refusals refl))
      (refuses (one_of 8 start_refusals refl))
      (λ _ index _. ruled-numbers buffer t (with_cell t index) start_refusals start_verdicts _
      (start-rule-elim (RuledBy start_refusals start_verdicts) s.acceptors own (cell_at t index) i floor v (one_of 17 start_refusals refl) (one_of 16 start_refusals refl) (λ _. first)))

  pub start-refusal-keeps-all : RefusalKeepsAll (backup_start s own i floor v)
  start-refusal-keeps-all buffer t =
      start-elim s own i floor v buffer t (λ o. is_verdict o.answer ≡ false → o ≡ unchanged buffer t o.answer) (λ _. refl) (λ _. refl) (λ _. refl)
      (λ _ index _. ruled-keeps buffer t (with_cell t index) (start-ruling s own i floor v buffer t index))

  pub start-other-cells-stay : OtherCellsStay (backup_start s own i floor v) cell_at (StartUses s i)
  start-other-cells-stay buffer t other unused =
      start-elim s own i floor v buffer t (λ o. cell_at o.left.tables other ≡ cell_at t other) refl refl refl
      (λ _ index stands. ruled-tables buffer t (with_cell t index) (λ u. cell_at u other ≡ cell_at t other) refl (start-ruling s own i floor v buffer t index)
      (any-cell (λ c. cell_at (with_cell t index c) other ≡ cell_at t other) (λ c. cell_apart t index other c (λ same. unused (stands ∙ ap At same))) (start-ruling s own i floor v buffer t index)))

  pub start-possible-stays : PossibleStays (backup_start s own i floor v) cell_at (possible s.acceptors own)
  start-possible-stays buffer t index before =
      start-elim s own i floor v buffer t (λ o. possible s.acceptors own (cell_at o.left.tables index) ≡ true) before before before
      (λ allowed used stands. let few = allowed-tables s own t allowed in
      ruled-tables buffer t (with_cell t used) (λ u. possible s.acceptors own (cell_at u index) ≡ true) before (start-ruling s own i floor v buffer t used)
      (start-rule-elim (NextCell (λ c. possible s.acceptors own (cell_at (with_cell t used c) index) ≡ true)) s.acceptors own (cell_at t used) i floor v tt tt
      (λ below. let c = started (the_round (next_round own (max (cell_at t used).round.0 floor))) v in
      stored-possible cell_at (possible s.acceptors own) t (with_cell t used c) used index c
      (cell-there t used c (index-within t used few.sized (placed-index s.instances i used stands).1)) (cell_apart t used index c) before
      (started-possible s.acceptors own _ v (omega (arith, few.few.majority-least))
      (next-smallest own (cell_at t used).round.0 floor few.own-least few.own-most below).owned))))

  pub start-sized-stays : (buffer : List ℕ) (t : Tables) {n : ℕ} → Sized n t → Sized n (backup_start s own i floor v buffer t).left.tables
  start-sized-stays buffer t {n} before =
      start-elim s own i floor v buffer t (λ o. Sized n o.left.tables) before before before
      (λ _ index _. ruled-tables buffer t (with_cell t index) (Sized n) before (start-ruling s own i floor v buffer t index)
      (any-cell (λ c. Sized n (with_cell t index c)) (λ c. sized-with t index c before) (start-ruling s own i floor v buffer t index)))

  -- the prepare of a start can be written
  pub prepare-sent : (t : Tables) (index : ℕ) → i.0 < 2 ^ 32 → backup_allowed s own t ≡ true → next_round own (max (cell_at t index).round.0 floor) < 4294967295
      → Writable (Prepare i (the_round (next_round own (max (cell_at t index).round.0 floor))))
  prepare-sent t index instance_fits allowed below =
      let few = allowed-tables s own t allowed in
      prepare-writable i _ (record { instance_fits = instance_fits; round_fits = omega arith })
      (backup-owned _ own few.own-least few.own-most (next-smallest own (cell_at t index).round.0 floor few.own-least few.own-most below).owned)

  module _ (instance_fits : i.0 < 2 ^ 32) (value-fits : ValueFits v) where
    pub start-sends-kept : SendsKept (backup_start s own i floor v) Fitting
    unfolding says_send
    start-sends-kept buffer t bytes fits =
        start-elim s own i floor v buffer t (λ o. says_send o.answer ≡ true → Kept o.left.packet) (λ e. absurd (false≢true e)) (λ e. absurd (false≢true e)) (λ e. absurd (false≢true e))
        (λ allowed index _. ruled-sends buffer t (with_cell t index) (start-ruling s own i floor v buffer t index)
        (start-rule-elim (SendsOnly Writable) s.acceptors own (cell_at t index) i floor v refl refl (prepare-sent t index instance_fits allowed)))

    pub start-fitting-stays : FittingStays (backup_start s own i floor v) Fitting
    start-fitting-stays buffer t bytes fits =
        start-elim s own i floor v buffer t (λ o. Fitting o.left.tables) fits fits fits
        (λ _ index _. ruled-tables buffer t (with_cell t index) Fitting fits (start-ruling s own i floor v buffer t index)
        (start-rule-elim (NextCell (λ c. Fitting (with_cell t index c))) s.acceptors own (cell_at t index) i floor v tt tt
        (λ below. fitting-with t index _ fits (record {
          round_fits = omega arith;
          phase-fits = lit< tt;
          set-fits = lit< tt;
          best-vote-round-fits = lit< tt;
          best-value-fits = null-fits;
          own-value-fits = value-fits;
        }))))

-- ---- all of them

pub step-promises : (s : Settings) (own : ℕ) → StepPromises s own
step-promises s own = record {
  numbers_are = backup-numbers s own;
  refusal_keeps_all = backup-refusal-keeps-all s own;
  other_cells_stay = backup-other-cells-stay s own;
  possible_stays = backup-possible-stays s own;
  sends_kept = backup-sends-kept s own;
  fitting_stays = backup-fitting-stays s own;
  sized_stays = backup-sized-stays s own;
}

pub start-promises : (s : Settings) (own : ℕ) (i : Instance) (floor : ℕ) (v : Value) → StartPromises s own i floor v
start-promises s own i floor v = record {
  numbers_are = start-numbers s own i floor v;
  refusal_keeps_all = start-refusal-keeps-all s own i floor v;
  other_cells_stay = start-other-cells-stay s own i floor v;
  possible_stays = start-possible-stays s own i floor v;
  sends_kept = λ fits. start-sends-kept s own i floor v fits.instance_fits (record { high_fits = fits.high_fits; low_fits = fits.low_fits });
  fitting_stays = λ fits. start-fitting-stays s own i floor v fits.instance_fits (record { high_fits = fits.high_fits; low_fits = fits.low_fits });
  sized_stays = start-sized-stays s own i floor v;
}
