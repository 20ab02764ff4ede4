-- A learner's step leaves boxes that represent sound slots: its cell becomes another sound one.
-- Assumes nothing.
use Prim.Native.Nat.{ℕ}
use mathlib.Core.Path.{◌≡◌, refl, sym, ap, ◌∙◌, subst}
use mathlib.Core.Bool.{true, false}
use mathlib.Core.List.{List, ◌∷◌}
use native.Mathlib.Omega.{arith}
use lib.Dec.{eqb}
use borrow.Author.Tests.{eqb-true}
use Rattle.basics.specs.declared.Value.{Value}
use Rattle.basics.specs.declared.Verdict.TheVariants.{Hold, Decided}
use Rattle.basics.specs.Ladder.{when◌then◌else◌}
use Rattle.basics.specs.Rounds.{the_instance, the_round}
use Rattle.basics.specs.Values.{same_value}
use Rattle.basics.specs.Verdict.{says_send}
use Rattle.basics.proofs.Ladder.{if-elim, if-false, both_true}
use Rattle.basics.proofs.Places.{placed-index}
use Rattle.wire.specs.Packet.{Read}
use Rattle.player.specs.Step.{unchanged, counts, ruled}
use Rattle.quorum.specs.declared.Settings.{Settings}
use Rattle.quorum.specs.Voters.{Mem}
use Rattle.quorum.proofs.Laws.{empty-bit}
use Rattle.learner_cell.specs.declared.Cell.{Cell}
use Rattle.learner_cell.specs.Cell.{is_decided}
use Rattle.learner_rule.specs.Rule.{hold_or_decide}
use Rattle.learner_rule.proofs.Laws.{counting-elim}
use Rattle.learner_tables.specs.Tables.{Tables, cell_at, with_cell, Sized}
use Rattle.learner_tables.proofs.Laws.{cell-there, cell_apart, allowed-tables, index-within}
use Rattle.learner.specs.Learner.{place, learner_step}
use Rattle.learner.specs.Learner as players
use Rattle.learner.proofs.Laws.{rule-elim, place-elim, vote-placed}
use Rattle.agreement.specs.Run.{learner, sent, Boxes, put, after_learner, Handed}
use Rattle.agreement.proofs.Families.{put_all}
use Rattle.agreement.proofs.Slot.{Slot, vote, LearnerSound}
use Rattle.agreement.proofs.Slot.Learner.{listening, listens, joins}
use Rattle.agreement.proofs.Representing.{Told, PlacedAt, Represents, met, met-vote, told_same, wants-moved}
use Rattle.agreement.proofs.Representing.{cells-moved, acceptors-same, backups-same, all_sound, still_placed, unopened-still, step-acts}

same_value-equal : (v u : Value) → same_value v u ≡ true → v ≡ u
same_value-equal v u e =
    let halves = both_true (eqb v.high u.high) (eqb v.low u.low) e in
    λ i. record { high = eqb-true v.high u.high halves.0 i; low = eqb-true v.low u.low halves.1 i }

module _ {s : Settings} {w : Boxes} (h : Represents s w) (which : ℕ) where
  abbrev t : Tables
  t = w.learner which

  refuses : (p : List ℕ) (number : ℕ) → says_send number ≡ false → Represents s (after_learner w which (unchanged p t number))
  refuses p number quiet = record {
    slots = h.slots;
    acceptors = h.acceptors;
    backups = h.backups;
    learners = put_all (λ l u. (i index : ℕ) → PlacedAt s.instances i index → cell_at u index ≡ (h.slots i).learner l) (h.learners which) h.learners;
    told = subst (λ l. Told l h.slots) (sym (if-false (sent (learner which) p ∷ w.packets) w.packets quiet)) h.told;
    wants = h.wants;
    sound = h.sound;
    has-place = h.has-place;
    unopened = h.unopened;
  }

  -- a sound cell is stored, whether it holds or decides
  stores : (p : List ℕ) (j index : ℕ) (c : Cell) → PlacedAt s.instances j index → Sized s.instances t → LearnerSound (h.slots j).votes c
      → Represents s (after_learner w which (ruled p t (with_cell t index) (hold_or_decide s.acceptors c)))
  unfolding hold_or_decide ruled says_send when◌then◌else◌
  stores p j index c at sized sound =
      if-elim (λ r. Represents s (after_learner w which (ruled p t (with_cell t index) r))) (is_decided s.acceptors c) (counts Decided c) (counts Hold c)
      (λ _. stored) (λ _. stored)
    where
      after : Boxes
      after = record {
        primary = w.primary;
        acceptor = w.acceptor;
        backup = w.backup;
        learner = put w.learner which (with_cell t index c);
        packets = w.packets;
        wanted = w.wanted;
      }

      stored : Represents s after
      stored =
          let before = h.slots j in
          let next = listening before which c in
          record {
            slots = put h.slots j next;
            acceptors = acceptors-same h j next (λ _. refl);
            backups = backups-same h j next (λ _. refl);
            learners =
                cells-moved s.instances cell_at (λ (x : Slot). x.learner) h.slots w.learner h.learners j next which (with_cell t index c) c index at (λ _. refl)
                (cell-there t index c (index-within t index sized (placed-index s.instances (the_instance j) index at).1)) (λ n differs. cell_apart t index n c differs);
            told = told_same h.told j next (record { promises = λ x m. m; proposes = λ x m. m; votes = λ x m. m }) (λ x m. m);
            wants = wants-moved h.wants j next (λ _ m. m) (h.wants.proposes j) (h.wants.owns j);
            sound = all_sound h j next (listens (h.sound j) which c sound);
            has-place = still_placed h j next (λ _ _. (index, at));
            unopened = unopened-still h j next (λ u. u);
          }

  pub learner-represents : (p : List ℕ) → Handed w p → Represents s (after_learner w which (learner_step s p t))
  unfolding learner_step players.learner says_send ruled
  learner-represents p handed =
      step-acts (players.learner s) p t (λ o. Represents s (after_learner w which o)) (refuses p)
      (λ m. place-elim (λ n. says_send n ≡ false) s.instances m refl refl)
      (λ allowed m reads index stands.
      let sized = (allowed-tables s t allowed).sized in
      let c = cell_at t index in
      rule-elim (λ r. Represents s (after_learner w which (ruled p t (with_cell t index) r))) s.acceptors c m
      (λ a i r v e.
      let at : PlacedAt s.instances i.0 index = sym (vote-placed s.instances a i r v) ∙ ap (place s.instances) (sym e) ∙ stands in
      let votes = (h.slots i.0).votes in
      let new : Mem (vote a r v) votes = met-vote (met h handed (reads ∙ ap Read e)) in
      counting-elim (λ r. Represents s (after_learner w which (ruled p t (with_cell t index) r))) s.acceptors c a r v
      (refuses p 9 refl) (refuses p 17 refl) (refuses p 14 refl) (refuses p 10 refl) (refuses p 13 refl) (refuses p 15 refl)
      (λ _ _ _ _ _. stores p i.0 index _ at sized (joins votes 0 a r v new (λ b m. absurd (omega (arith, empty-bit b, m)))))
      (λ _ _ _ current agrees _. stores p i.0 index _ at sized (joins votes c.set a r v new (λ b m.
      let heard = subst (LearnerSound votes) (sym (h.learners which i.0 index at)) ((h.sound i.0).learners which) b m in
      let same-round : c.round ≡ r = sym (λ j. the_round (eqb-true r.0 c.round.0 current j)) in
      subst (λ x. Mem (vote b r x) votes) (sym (same_value-equal v c.value agrees)) (subst (λ x. Mem (vote b x c.value) votes) same-round heard)))))
      (refuses p 6 refl))
