-- An acceptor's step leaves boxes that represent sound slots.
-- Assumes nothing.
use Prim.Native.Nat.{ℕ, ◌≤◌}
use mathlib.Core.Path.{◌≡◌, refl, sym, ap, ◌∙◌, subst}
use mathlib.Core.Bool.{true, false}
use mathlib.Core.List.{List, ◌∷◌}
use Rattle.basics.specs.declared.Instance.{Instance}
use Rattle.basics.specs.declared.Round.{Round}
use Rattle.basics.specs.declared.Value.{Value}
use Rattle.basics.specs.Ladder.{when◌then◌else◌}
use Rattle.basics.specs.Rounds.{owned_or_0, at_most}
use Rattle.basics.specs.Votes.{is_vote_up_to}
use Rattle.basics.specs.Verdict.{says_send}
use Rattle.basics.proofs.Ladder.{if-false, both_true}
use Rattle.basics.proofs.Places.{placed-index}
use Rattle.basics.proofs.Rounds.{at_least}
use Rattle.messages.specs.declared.Message.{Message}
use Rattle.messages.specs.declared.Message.TheVariants as kind
use Rattle.wire.specs.Packet.{Read, packet_of}
use Rattle.wire.proofs.Laws.{Writable, read-writable, written-reads}
use Rattle.player.specs.Step.{unchanged, ruled}
use Rattle.quorum.specs.declared.Settings.{Settings}
use Rattle.quorum.specs.Voters.{Mem, newest, older}
use Rattle.acceptor_rule.specs.declared.Cell.{Cell}
use Rattle.acceptor_rule.specs.Rule.{cell, possible}
use Rattle.acceptor_tables.specs.Tables.{Tables, cell_at, with_cell, Sized}
use Rattle.acceptor_tables.proofs.Laws.{allowed-tables, index-within, cell-there, cell_apart}
use Rattle.acceptor.specs.Acceptor.{place, acceptor_step}
use Rattle.acceptor.specs.Acceptor as players
use Rattle.acceptor.proofs.Laws.{rule-elim, prepare-placed, propose-placed, place-elim}
use Rattle.acceptor.proofs.Promises.{promise-sent, vote-sent}
use Rattle.backup_cell.specs.declared.Cell as Cells
use Rattle.backup_cell.specs.Cell.{asking}
use Rattle.agreement.specs.Run.{acceptor, sent, Boxes, put, after_acceptor, Handed, WantedFor}
use Rattle.agreement.proofs.Families.{extend, put_all, put_same}
use Rattle.agreement.proofs.Slot.{Slot, Propose, propose, Sound}
use Rattle.agreement.proofs.Slot.Acceptor as slot
use Rattle.agreement.proofs.Representing.{a-promise, a-vote, Told, PlacedAt, Represents, Grows, met, met-propose}
use Rattle.agreement.proofs.Representing.{told_more, vote-still, wants-moved, cells-moved, backups-same, learners-same, all_sound, still_placed, unopened-still, step-acts}
use Rattle.agreement.proofs.WellFormed.{WellFormed, handed-bytes}

-- the round of a possible cell, by number
low-round : (c : Cell) (r : Round) → possible c ≡ true → at_most c.round r ≡ true → c.round.0 ≤ r.0
unfolding possible
low-round c r fine low = at_least c.round r (both_true (owned_or_0 c.round) (is_vote_up_to c.round c.vote_round c.value) fine).0 low

module _ {s : Settings} {w : Boxes} (formed : WellFormed s w) (h : Represents s w) (own : ℕ) where
  abbrev t : Tables
  t = w.acceptor own

  refuses : (p : List ℕ) (number : ℕ) → says_send number ≡ false → Represents s (after_acceptor w own (unchanged p t number))
  refuses p number quiet = record {
    slots = h.slots;
    acceptors = put_all (λ a u. (i index : ℕ) → PlacedAt s.instances i index → cell_at u index ≡ (h.slots i).acceptor a) (h.acceptors own) h.acceptors;
    backups = h.backups;
    learners = h.learners;
    told = subst (λ l. Told l h.slots) (sym (if-false (sent (acceptor own) p ∷ w.packets) w.packets quiet)) h.told;
    wants = h.wants;
    sound = h.sound;
    has-place = h.has-place;
    unopened = h.unopened;
  }

  -- The boxes after the acceptor stored a cell and sent a message.
  abbrev obeyed : (j : ℕ) → Message → Cell → Boxes
  obeyed j m c = record {
    primary = w.primary;
    acceptor = put w.acceptor own (with_cell t j c);
    backup = w.backup;
    learner = w.learner;
    packets = sent (acceptor own) (packet_of m) ∷ w.packets;
    wanted = w.wanted;
  }

  module _ (i : Instance) (index : ℕ) (at : PlacedAt s.instances i.0 index) (sized : Sized s.instances t) where
    abbrev before : Slot
    before = h.slots i.0

    obeys : (m : Message) (c : Cell) (next : Slot) → Sound s.acceptors next → ((a : ℕ) → next.acceptor a ≡ put before.acceptor own c a)
        → ((b : ℕ) → next.backup b ≡ before.backup b) → ((l : ℕ) → next.learner l ≡ before.learner l) → ((x : Propose) → Mem x next.proposes → Mem x before.proposes)
        → Told (sent (acceptor own) (packet_of m) ∷ w.packets) (put h.slots i.0 next) → Represents s (obeyed index m c)
    obeys m c next sound acceptors backups learners no_more told = record {
      slots = put h.slots i.0 next;
      acceptors =
          cells-moved s.instances cell_at (λ (x : Slot). x.acceptor) h.slots w.acceptor h.acceptors i.0 next own (with_cell t index c) c index at acceptors
          (cell-there t index c (index-within t index sized (placed-index s.instances i index at).1)) (λ n differs. cell_apart t index n c differs);
      backups = backups-same h i.0 next backups;
      learners = learners-same h i.0 next learners;
      told = told;
      wants =
          wants-moved h.wants i.0 next (λ _ m. m) (λ x m. h.wants.proposes i.0 x (no_more x m))
          (λ b. subst (λ (c : Cells.Cell). c.phase ≡ asking → WantedFor w.wanted i c.own_value) (sym (backups b)) (h.wants.owns i.0 b));
      sound = all_sound h i.0 next sound;
      has-place = still_placed h i.0 next (λ _ _. (index, at));
      unopened = unopened-still h i.0 next (λ u x m. u x (no_more x m));
    }

    promises : (r : Round) (c : Cell) → before.acceptor own ≡ c → Writable (kind.Promise own i r c.vote_round c.value) → c.round.0 ≤ r.0
        → Represents s (obeyed index (kind.Promise own i r c.vote_round c.value) (cell r c.vote_round c.value))
    promises r c e =
        subst
        (λ (d : Cell). Writable (kind.Promise own i r d.vote_round d.value) → d.round.0 ≤ r.0
        → Represents s (obeyed index (kind.Promise own i r d.vote_round d.value) (cell r d.vote_round d.value)))
        e
        (λ writable low.
        let d = before.acceptor own in
        let next = slot.promising before own r in
        let grows : Grows before next = record { promises = λ x m. older m; proposes = λ x m. m; votes = λ x m. m } in
        obeys _ _ next (slot.promises (h.sound i.0) own r low) (λ _. refl) (λ _. refl) (λ _. refl) (λ _ m. m)
        (told_more h.told i.0 next grows (acceptor own) _ writable (a-promise (rw put_same (newest refl)))
        (λ x m. vote-still h.told i.0 next grows (acceptor own) _ writable (h.told.votes i x m))))

    votes : (r : Round) (v : Value) → Mem (propose r v) before.proposes → Writable (kind.Vote own i r v) → (before.acceptor own).round.0 ≤ r.0
        → Represents s (obeyed index (kind.Vote own i r v) (cell r r v))
    votes r v proposed writable low =
        let next = slot.voting before own (propose r v) in
        let m = kind.Vote own i r v in
        let grows : Grows before next = record { promises = λ x m. m; proposes = λ x m. m; votes = λ x m. older m } in
        obeys m (cell r r v) next (slot.votes (h.sound i.0) own (propose r v) proposed low) (λ _. refl) (λ _. refl) (λ _. refl) (λ _ m. m)
        (told_more h.told i.0 next grows (acceptor own) m writable (a-vote (rw put_same (newest refl)) refl)
        (extend (record { packet = packet_of m; switch = own; reads = written-reads m writable; was_sent = newest refl })
        (λ x there. vote-still h.told i.0 next grows (acceptor own) m writable (h.told.votes i x there))))

  pub acceptor-represents : (p : List ℕ) → Handed w p → Represents s (after_acceptor w own (acceptor_step s own p t))
  unfolding acceptor_step players.acceptor says_send ruled when◌then◌else◌
  acceptor-represents p handed =
      step-acts (players.acceptor s own) p t (λ o. Represents s (after_acceptor w own o)) (refuses p)
      (λ m. place-elim (λ n. says_send n ≡ false) s.instances m refl refl)
      (λ allowed m reads index stands.
      let brings = allowed-tables s own t allowed in
      let fits = (formed.acceptors own).fitting in
      let bytes = handed-bytes formed handed in
      rule-elim (λ r. Represents s (after_acceptor w own (ruled p t (with_cell t index) r))) own (cell_at t index) m (refuses p 6 refl) (refuses p 17 refl) (refuses p 10 refl)
      (λ i r e fine low.
      let at : PlacedAt s.instances i.0 index = sym (prepare-placed s.instances i r) ∙ ap (place s.instances) (sym e) ∙ stands in
      let writable = promise-sent brings.own-few fits index i r (read-writable p _ bytes (reads ∙ ap Read e)) fine low in
      promises i index at brings.sized r (cell_at t index) (sym (h.acceptors own i.0 index at)) writable (low-round (cell_at t index) r fine low))
      (λ i r v e fine low.
      let at : PlacedAt s.instances i.0 index = sym (propose-placed s.instances i r v) ∙ ap (place s.instances) (sym e) ∙ stands in
      let writable = vote-sent brings.own-few i r v (read-writable p _ bytes (reads ∙ ap Read e)) in
      votes i index at brings.sized r v (met-propose (met h handed (reads ∙ ap Read e))) writable
      (rw (← h.acceptors own i.0 index at) (low-round (cell_at t index) r fine low))))
