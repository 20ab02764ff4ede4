-- A backup's step and start leave boxes that represent sound slots.
-- Assumes nothing.
use Prim.Native.Nat.{ℕ, ◌<◌, max}
use mathlib.Core.Path.{◌≡◌, refl, sym, ap, ◌∙◌, subst}
use mathlib.Core.Bool.{true, false}
use mathlib.Core.List.{List, ◌∷◌}
use Rattle.basics.specs.declared.Instance.{Instance}
use Rattle.basics.specs.declared.Round.{Round}
use Rattle.basics.specs.declared.Value.{Value}
use Rattle.basics.specs.declared.Verdict.TheVariants.{ToAcceptors, Hold}
use Rattle.basics.specs.Ladder.{when◌then◌else◌}
use Rattle.basics.specs.Rounds.{the_round}
use Rattle.basics.specs.Verdict.{says_send}
use Rattle.basics.proofs.Ladder.{if-elim, if-false}
use Rattle.basics.proofs.Places.{placed-index}
use Rattle.messages.specs.declared.Message.{Message}
use Rattle.messages.specs.declared.Message.TheVariants as kind
use Rattle.wire.specs.Packet.{Read, packet_of}
use Rattle.wire.proofs.Laws.{Writable, read-writable}
use Rattle.player.specs.Step.{unchanged, sends, counts, ruled}
use Rattle.quorum.specs.declared.Settings.{Settings}
use Rattle.quorum.specs.Quorum.{Quorum, within, reaches_majority}
use Rattle.quorum.specs.Voters.{Mem, newest, older}
use Rattle.quorum.proofs.Laws.{with-member-within}
use Rattle.backup_cell.specs.declared.Cell.{Cell}
use Rattle.backup_cell.specs.Cell.{asking}
use Rattle.backup_rule.specs.Rule.{counting, chosen, closed, started, next_round, when_majority}
use Rattle.backup_rule.proofs.Next.{next-smallest}
use Rattle.backup_cell.proofs.Laws.{asking-started}
use Rattle.backup_rule.proofs.Laws.{start-rule-elim}
use Rattle.backup_tables.specs.Tables.{Tables, cell_at, with_cell, Sized}
use Rattle.backup_tables.proofs.Laws.{allowed-tables, index-within, cell-there, cell_apart}
use Rattle.backup.specs.Backup.{place, backup_step, backup_start}
use Rattle.backup.specs.Backup as players
use Rattle.backup.proofs.Laws.{rule-elim, place-elim, promise-placed, start-elim}
use Rattle.backup.proofs.Promises.{propose-sent, prepare-sent}
use Rattle.agreement.specs.Run.{backup, Sent, sent, Wanted, by_start, Boxes, put, after_backup, after_start, Handed, Given, WantedFor}
use Rattle.agreement.specs.Run as run
use Rattle.agreement.proofs.Families.{Owned, owned, extend, put_all, put_same}
use Rattle.agreement.proofs.Slot.{Slot, promise, propose, Sound, Unopened}
use Rattle.agreement.proofs.Slot.Proposing.{moving, proposing}
use Rattle.agreement.proofs.Slot.Backup as slot
use Rattle.agreement.proofs.Representing.{a-prepare, a-propose, Told, Wants, wanted-still, PlacedAt, Represents, Grows, met, met-promise, told_same}
use Rattle.agreement.proofs.Representing.{told_more, vote-still, wants-moved, cells-moved, acceptors-same, learners-same, all_sound, still_placed, unopened-still, step-acts}
use Rattle.agreement.proofs.WellFormed.{WellFormed, handed-bytes}

module _ {s : Settings} {w : Boxes} (formed : WellFormed s w) (h : Represents s w) (own : ℕ) where
  abbrev t : Tables
  t = w.backup own

  -- The boxes after the call left these tables; what was sent and what was wanted is this.
  abbrev leaving : Tables → List Sent → List Wanted → Boxes
  leaving tables packets wanted =
      record { primary = w.primary; acceptor = w.acceptor; backup = put w.backup own tables; learner = w.learner; packets = packets; wanted = wanted }

  keeps : (packets : List Sent) (wanted : List Wanted) → w.packets ≡ packets → w.wanted ≡ wanted → Represents s (leaving t packets wanted)
  keeps packets wanted same-packets same-wanted = record {
    slots = h.slots;
    acceptors = h.acceptors;
    backups = put_all (λ b u. (i index : ℕ) → PlacedAt s.instances i index → cell_at u index ≡ (h.slots i).backup b) (h.backups own) h.backups;
    learners = h.learners;
    told = subst (λ l. Told l h.slots) same-packets h.told;
    wants = subst (λ l. Wants l h.slots) same-wanted h.wants;
    sound = h.sound;
    has-place = h.has-place;
    unopened = h.unopened;
  }

  refuses : (p : List ℕ) (number : ℕ) → says_send number ≡ false → Represents s (after_backup w own (unchanged p t number))
  refuses p number quiet = keeps _ w.wanted (sym (if-false (sent (backup own) p ∷ w.packets) w.packets quiet)) refl

  abbrev sending : Message → List Sent
  sending m = sent (backup own) (packet_of m) ∷ w.packets

  module _ (i : Instance) (index : ℕ) (at : PlacedAt s.instances i.0 index) (sized : Sized s.instances t) where
    abbrev before : Slot
    before = h.slots i.0

    moves : (packets : List Sent) (c : Cell) (next : Slot) → Sound s.acceptors next → ((b : ℕ) → next.backup b ≡ put before.backup own c b)
        → ((a : ℕ) → next.acceptor a ≡ before.acceptor a) → ((l : ℕ) → next.learner l ≡ before.learner l) → (Unopened before → Unopened next)
        → Told packets (put h.slots i.0 next) → {wanted : List Wanted} → Wants wanted (put h.slots i.0 next)
        → Represents s (leaving (with_cell t index c) packets wanted)
    moves packets c next sound backups acceptors learners unopened told wants = record {
      slots = put h.slots i.0 next;
      acceptors = acceptors-same h i.0 next acceptors;
      backups =
          cells-moved s.instances cell_at (λ (x : Slot). x.backup) h.slots w.backup h.backups i.0 next own (with_cell t index c) c index at backups
          (cell-there t index c (index-within t index sized (placed-index s.instances i index at).1)) (λ n differs. cell_apart t index n c differs);
      learners = learners-same h i.0 next learners;
      told = told;
      wants = wants;
      sound = all_sound h i.0 next sound;
      has-place = still_placed h i.0 next (λ _ _. (index, at));
      unopened = unopened-still h i.0 next unopened;
    }

    -- the value that a start names is wanted
    starts : (r : Round) (v : Value) → Writable (kind.Prepare i r) → (before.backup own).round.0 < r.0
        → Represents s (leaving (with_cell t index (started r v)) (sending (kind.Prepare i r)) (by_start own i v ∷ w.wanted))
    starts r v writable above =
        let next = moving before (put before.backup own (started r v)) in
        let grows : Grows before next = record { promises = λ x m. m; proposes = λ x m. m; votes = λ x m. m } in
        moves _ (started r v) next (slot.starts (h.sound i.0) own r v above) (λ _. refl) (λ _. refl) (λ _. refl) (λ u. u)
        (told_more h.told i.0 next grows (backup own) _ writable a-prepare
        (λ x m. vote-still h.told i.0 next grows (backup own) _ writable (h.told.votes i x m)))
        (wants-moved h.wants i.0 next (λ _ m. older m) (λ x m. wanted-still (λ _ n. older n) (h.wants.proposes i.0 x m))
        (put_all (λ b (c : Cell). c.phase ≡ asking → WantedFor (by_start own i v ∷ w.wanted) i c.own_value) (λ _. run.WantedFor.started own (newest refl))
        (λ b asks. wanted-still (λ _ n. older n) (h.wants.owns i.0 b asks))))

    -- a promise for the round while asking
    module _ (a : ℕ) (k : Round) (v : Value) (told : Mem (promise a (before.backup own).round k v) before.promises) (asks : (before.backup own).phase ≡ asking) where
      abbrev counted : Cell
      counted = counting (before.backup own) a k v

      -- the own value is as it was, and wanted
      own-wanted : WantedFor w.wanted i counted.own_value
      unfolding counting
      own-wanted =
          if-elim (λ (c : Cell). WantedFor w.wanted i c.own_value) _ _ _ (λ _. h.wants.owns i.0 own asks) (λ _. h.wants.owns i.0 own asks)

      -- and so is what it proposes: its own value, or one that was proposed before
      chosen-wanted : WantedFor w.wanted i (chosen counted)
      unfolding chosen
      chosen-wanted =
          if-elim (WantedFor w.wanted i) _ _ _ (λ _. own-wanted)
          (λ some. h.wants.proposes i.0 _ ((slot.counts (h.sound i.0) own a k v told).best-proposed some))

      wants-held : (c : Cell) → c.own_value ≡ counted.own_value → (b : ℕ) → (put before.backup own c b).phase ≡ asking
          → WantedFor w.wanted i (put before.backup own c b).own_value
      wants-held c same =
          put_all (λ b (d : Cell). d.phase ≡ asking → WantedFor w.wanted i d.own_value) (λ _. subst (WantedFor w.wanted i) (sym same) own-wanted)
          (h.wants.owns i.0)

      held : Represents s (leaving (with_cell t index counted) w.packets w.wanted)
      held =
          let next = moving before (put before.backup own counted) in
          let grows : Grows before next = record { promises = λ x m. m; proposes = λ x m. m; votes = λ x m. m } in
          moves w.packets counted next (slot.holds (h.sound i.0) own a k v told asks) (λ _. refl) (λ _. refl) (λ _. refl) (λ u. u)
          (told_same h.told i.0 next grows (λ x m. m))
          (wants-moved h.wants i.0 next (λ _ m. m) (h.wants.proposes i.0) (wants-held counted refl))

      proposes : Owned own (before.backup own).round → Quorum s.acceptors counted.set → Writable (kind.Propose i counted.round (chosen counted))
          → Represents s (leaving (with_cell t index (closed counted)) (sending (kind.Propose i counted.round (chosen counted))) w.wanted)
      proposes mine quorum writable =
          let next = proposing (moving before (put before.backup own (closed counted))) (propose counted.round (chosen counted)) in
          let grows : Grows before next = record { promises = λ x m. m; proposes = λ x m. older m; votes = λ x m. m } in
          let same = (slot.counts (h.sound i.0) own a k v told).same-round in
          moves _ (closed counted) next (slot.reaches (h.sound i.0) own a k v told asks mine quorum) (λ _. refl) (λ _. refl) (λ _. refl)
          (extend (rw same mine.positive))
          (told_more h.told i.0 next grows (backup own) _ writable (a-propose (rw put_same (newest refl)))
          (λ x m. vote-still h.told i.0 next grows (backup own) _ writable (h.told.votes i x m)))
          (wants-moved h.wants i.0 next (λ _ m. m) (extend chosen-wanted (h.wants.proposes i.0)) (wants-held (closed counted) refl))

    -- the same of the cell where it stands in the tables
    takes : (a : ℕ) (r k : Round) (v : Value) (p : List ℕ) (c : Cell) → before.backup own ≡ c → Mem (promise a r k v) before.promises → r.0 ≡ c.round.0
        → c.phase ≡ asking → Owned own c.round → a < s.acceptors → within s.acceptors c.set ≡ true
        → (reaches_majority s.acceptors (counting c a k v).set ≡ true → Writable (kind.Propose i (counting c a k v).round (chosen (counting c a k v))))
        → Represents s (after_backup w own (ruled p t (with_cell t index) (when_majority s.acceptors i (counting c a k v))))
    unfolding when_majority ruled says_send when◌then◌else◌
    takes a r k v p c e told same asks mine known inside writable =
        subst (λ (d : Cell). c ≡ d → Represents s (after_backup w own (ruled p t (with_cell t index) (when_majority s.acceptors i (counting d a k v))))) e
        (λ back.
        let d = before.backup own in
        let current : r ≡ d.round = λ j. the_round ((same ∙ ap (λ (x : Cell). x.round.0) back) j) in
        let here : Mem (promise a d.round k v) before.promises = subst (λ x. Mem (promise a x k v) before.promises) current told in
        let asking-still : d.phase ≡ asking = rw (← back) asks in
        let grown = (slot.counts (h.sound i.0) own a k v here).grown in
        if-elim (λ o. Represents s (after_backup w own (ruled p t (with_cell t index) o))) (reaches_majority s.acceptors (counting d a k v).set)
        (sends ToAcceptors (kind.Propose i (counting d a k v).round (chosen (counting d a k v))) (closed (counting d a k v))) (counts Hold (counting d a k v))
        (λ reached. proposes a k v here asking-still (rw (← back) mine)
        (record { inside = rw grown (with-member-within s.acceptors d.set a (rw (← back) inside) known); enough = reached }) (rw (← back) (writable (rw back reached))))
        (λ _. held a k v here asking-still))
        refl

  pub backup-represents : (p : List ℕ) → Handed w p → Represents s (after_backup w own (backup_step s own p t))
  unfolding backup_step players.backup says_send ruled
  backup-represents p handed =
      step-acts (players.backup s own) p t (λ o. Represents s (after_backup w own o)) (refuses p)
      (λ m. place-elim (λ n. says_send n ≡ false) s.instances m refl refl)
      (λ allowed m reads index stands.
      let brings = allowed-tables s own t allowed in
      let M = s.acceptors in
      let c = cell_at t index in
      rule-elim (λ r. Represents s (after_backup w own (ruled p t (with_cell t index) r))) M own c m (refuses p 6 refl) (refuses p 9 refl) (refuses p 17 refl)
      (refuses p 11 refl) (refuses p 15 refl)
      (λ a i r k v e known fine asks same absent.
      let writable = read-writable p _ (handed-bytes formed handed) (reads ∙ ap Read e) in
      let at : PlacedAt s.instances i.0 index = sym (promise-placed s.instances a i r k v) ∙ ap (place s.instances) (sym e) ∙ stands in
      let begun = asking-started M own c fine asks in
      takes i index at brings.sized a r k v p c (sym (h.backups own i.0 index at)) (met-promise (met h handed (reads ∙ ap Read e))) same asks
      (owned own _ brings.own-least brings.own-most begun.mine) known begun.inside
      (λ _. propose-sent s own t index a i r k v allowed (formed.backups own).fitting writable known fine asks same absent)))

  start-refuses : (i : Instance) (v : Value) (buffer : List ℕ) (number : ℕ) → says_send number ≡ false → Represents s (after_start w own i v (unchanged buffer t number))
  start-refuses i v buffer number quiet =
      keeps _ _ (sym (if-false (sent (backup own) buffer ∷ w.packets) w.packets quiet)) (sym (if-false _ w.wanted quiet))

  pub start-represents : (i : Instance) (floor : ℕ) (v : Value) (buffer : List ℕ) → Given i floor v buffer
      → Represents s (after_start w own i v (backup_start s own i floor v buffer t))
  unfolding says_send ruled when◌then◌else◌
  start-represents i floor v buffer given =
      start-elim s own i floor v buffer t (λ o. Represents s (after_start w own i v o)) (start-refuses i v buffer 7 refl) (start-refuses i v buffer 1 refl)
      (start-refuses i v buffer 8 refl)
      (λ allowed index at.
      let brings = allowed-tables s own t allowed in
      start-rule-elim (λ r. Represents s (after_start w own i v (ruled buffer t (with_cell t index) r))) s.acceptors own (cell_at t index) i floor v
      (start-refuses i v buffer 17 refl) (start-refuses i v buffer 16 refl)
      (λ low.
      let r = the_round (next_round own (max (cell_at t index).round.0 floor)) in
      let above = (next-smallest own (cell_at t index).round.0 floor brings.own-least brings.own-most low).above_held in
      let writable = prepare-sent s own i floor v t index given.instance_fits allowed low in
      starts i index at brings.sized r v writable (subst (λ (c : Cell). c.round.0 < r.0) (h.backups own i.0 index at) above)))
