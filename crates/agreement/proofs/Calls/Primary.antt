-- The primary's step leaves boxes that stand for sound slots: it opens its next instance, and no other.
-- Assumes nothing.
use Prim.Native.Nat.{ℕ, ◌+◌, ◌≤◌}
use mathlib.Core.Path.{◌≡◌, refl, sym, ap, ◌∙◌, subst}
use mathlib.Core.Bool.{false}
use mathlib.Core.List.{List, [], ◌∷◌}
use native.Mathlib.Omega.{arith}
use lib.ListN.{get_or}
use Rattle.basics.specs.declared.Value.{Value}
use Rattle.basics.specs.Ladder.{when◌then◌else◌}
use Rattle.basics.specs.Rounds.{the_instance, the_round}
use Rattle.basics.specs.Verdict.{says_send}
use Rattle.basics.proofs.Ladder.{if-false}
use Rattle.messages.specs.declared.Message.TheVariants as kind
use Rattle.wire.specs.Packet.{Read, read_packet, packet_of}
use Rattle.wire.proofs.Laws.{Writable, read-writable}
use Rattle.player.specs.Step.{unchanged, ruled}
use Rattle.quorum.specs.declared.Settings.{Settings}
use Rattle.quorum.specs.Voters.{newest, older}
use Rattle.primary_rule.specs.Rule.{cell}
use Rattle.primary.specs.Primary.{primary_step, primary_request, primary_by_reference, as_slice}
use Rattle.primary.proofs.Laws.{slice-is-the-record, rule-elim, place-elim}
use Rattle.primary.proofs.Promises.{proposed-writable}
use Rattle.agreement.specs.Run.{the_primary, sent, by_request, Boxes, primary_record, put, after_primary, Handed, WantedFor, requested}
use Rattle.agreement.proofs.Families.{extend, put-elim, put_same}
use Rattle.agreement.proofs.Slot.{propose, Unopened}
use Rattle.agreement.proofs.Slot.Proposing.{proposing, primary-proposes}
use Rattle.agreement.proofs.Representing.{a-propose, Told, Wants, wanted-still, wants-moved, Represents, Grows}
use Rattle.agreement.proofs.Representing.{told_more, vote-still, acceptors-same, backups-same, learners-same, all_sound, still_placed, step-acts}
use Rattle.agreement.proofs.WellFormed.{WellFormed, handed-bytes}

module _ {s : Settings} {w : Boxes} (formed : WellFormed s w) (h : Represents s w) where
  abbrev next : ℕ
  next = formed.primary.next

  is-next : get_or w.primary 0 0 ≡ next
  is-next = ap (λ l. get_or l 0 0) formed.primary.is

  refuses : (p : List ℕ) (number : ℕ) → says_send number ≡ false → Represents s (after_primary w p (as_slice (unchanged p (cell (the_instance next)) number)))
  refuses p number quiet = record {
    slots = h.slots;
    acceptors = h.acceptors;
    backups = h.backups;
    learners = h.learners;
    told = subst (λ l. Told l h.slots) (sym (if-false (sent the_primary p ∷ w.packets) w.packets quiet)) h.told;
    wants = subst (λ l. Wants l h.slots) (sym (if-false _ w.wanted quiet)) h.wants;
    sound = h.sound;
    has-place = h.has-place;
    unopened = λ i low. h.unopened i (omega (arith, is-next));
  }

  -- The boxes after the primary took a packet and proposed a value.
  abbrev opened : List ℕ → Value → Boxes
  opened p v = record {
    primary = (next + 1) ∷ [];
    acceptor = w.acceptor;
    backup = w.backup;
    learner = w.learner;
    packets = sent the_primary (packet_of (kind.Propose (the_instance next) (the_round 0) v)) ∷ w.packets;
    wanted = by_request (primary_record w).next p ∷ w.wanted;
  }

  -- the request was taken for the next instance
  asks : (p : List ℕ) (switch : ℕ) (v : Value) → read_packet p ≡ Read (kind.Request switch v) → WantedFor (opened p v).wanted (the_instance next) v
  asks p switch v reads = requested p switch reads (newest (ap (λ n. by_request (the_instance n) p) (sym is-next)))

  opens : (p : List ℕ) (switch : ℕ) (v : Value) → read_packet p ≡ Read (kind.Request switch v) → Writable (kind.Propose (the_instance next) (the_round 0) v)
      → Represents s (opened p v)
  opens p switch v reads writable =
      let before = h.slots next in
      let after = proposing before (propose (the_round 0) v) in
      let grows : Grows before after = record { promises = λ x m. m; proposes = λ x m. older m; votes = λ x m. m } in
      record {
        slots = put h.slots next after;
        acceptors = acceptors-same h next after (λ _. refl);
        backups = backups-same h next after (λ _. refl);
        learners = learners-same h next after (λ _. refl);
        told =
            told_more h.told next after grows the_primary _ writable (a-propose (rw put_same (newest refl)))
            (λ x m. vote-still h.told next after grows the_primary _ writable (h.told.votes (the_instance next) x m));
        wants =
            wants-moved h.wants next after (λ _ m. older m) (extend (asks p switch v reads) (λ x m. wanted-still (λ _ n. older n) (h.wants.proposes next x m)))
            (λ b asking. wanted-still (λ _ n. older n) (h.wants.owns next b asking));
        sound = all_sound h next after (primary-proposes (h.sound next) v (h.unopened next (omega (arith, is-next))));
        has-place = still_placed h next after (h.has-place next);
        unopened = put-elim (λ i x. next + 1 ≤ i → Unopened x) (λ low. absurd (omega arith)) (λ i _ low. h.unopened i (omega (arith, is-next)));
      }

  pub primary-represents : (p : List ℕ) → Handed w p → Represents s (after_primary w p (primary_step s p w.primary))
  unfolding primary_request primary_by_reference says_send ruled when◌then◌else◌
  primary-represents p handed =
      let held = cell (the_instance next) in
      subst (λ o. Represents s (after_primary w p o)) (sym (ap (primary_step s p) formed.primary.is ∙ slice-is-the-record s p next))
      (step-acts (primary_by_reference s) p held (λ o. Represents s (after_primary w p (as_slice o))) (refuses p)
      (λ m. place-elim (λ n. says_send n ≡ false) m refl)
      (λ _ m reads index _.
      rule-elim (λ r. Represents s (after_primary w p (as_slice (ruled p held (λ c. c) r)))) s.instances held m (refuses p 6 refl) (refuses p 17 refl) (refuses p 12 refl)
      (λ switch v asks _. let reads_so = reads ∙ ap Read asks in
      opens p switch v reads_so (proposed-writable held switch v formed.primary.fits (read-writable p _ (handed-bytes formed handed) reads_so)))))
