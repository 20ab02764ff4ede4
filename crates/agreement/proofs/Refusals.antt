-- In a run no player refuses by 7 or 17: its tables have their sizes and its cells are possible, so the ladder passes those two tests.
-- Assumes nothing.
use Prim.Native.Nat.{ℕ, ◌+◌, ◌≤◌}
use mathlib.Core.Path.{◌≡◌, refl, sym, subst}
use mathlib.Core.Bool.{Bool, true, false}
use mathlib.Core.List.{List, [], ◌∷◌}
use native.Mathlib.Omega.{arith}
use lib.Dec.{eqb}
use borrow.Author.Tests.{eqb-false}
use Rattle.basics.specs.declared.Instance.{Instance}
use Rattle.basics.specs.declared.Value.{Value}
use Rattle.basics.specs.Rounds.{the_instance}
use Rattle.basics.specs.Verdict.{verdict_number}
use Rattle.basics.specs.Ladder.{need◌or◌then◌}
use Rattle.basics.specs.Places.{Place, At, Nowhere, placed}
use Rattle.basics.proofs.Ladder.{need-elim, need-passed, if-elim}
use Rattle.basics.proofs.Places.{PlacedBy, placed-index, placed_by}
use Rattle.messages.specs.declared.Message.{Message}
use Rattle.messages.proofs.Eliminators.{request-elim, promise-elim, vote-elim}
use Rattle.wire.specs.Packet.{Reading, Read, Refused, read_packet}
use Rattle.wire.proofs.Laws.{RefusedBy, reader-refuses}
use Rattle.basics.specs.Outcome.{Outcome, Lent}
use Rattle.player.specs.Step.{Ruling, refused, sends, counts, Player, after_reading, after_placing, ruled, rule_at, act, step}
use Rattle.quorum.specs.declared.Settings.{Settings}
use Rattle.quorum.specs.Settings.{allowed}
use Rattle.columns.proofs.Walks.{every-passes}
use Rattle.primary_rule.specs.declared.Cell as primary_cells
use Rattle.primary_rule.specs.Rule as primary_rule
use Rattle.primary.specs.Primary as primary
use Rattle.primary.proofs.Laws as primary-laws
use Rattle.acceptor_rule.specs.declared.Cell as acceptor_cells
use Rattle.acceptor_rule.specs.Rule as acceptor_rule
use Rattle.acceptor_rule.proofs.Laws.{order-elim}
use Rattle.acceptor_tables.specs.Tables as acceptor_tables
use Rattle.acceptor_tables.proofs.Laws as acceptor-tables
use Rattle.acceptor.specs.Acceptor as acceptor
use Rattle.acceptor.proofs.Laws as acceptor-laws
use Rattle.backup_cell.specs.declared.Cell as backup_cells
use Rattle.backup_cell.specs.Cell as backup_cell
use Rattle.backup_rule.specs.Rule as backup_rule
use Rattle.backup_tables.specs.Tables as backup_tables
use Rattle.backup_tables.proofs.Laws as backup-tables
use Rattle.backup.specs.Backup as backup
use Rattle.backup.proofs.Laws as backup-laws
use Rattle.learner_cell.specs.declared.Cell as learner_cells
use Rattle.learner_cell.specs.Cell as learner_cell
use Rattle.learner_rule.specs.Rule.{hold_or_decide, add_voter, count_vote}
use Rattle.learner_tables.specs.Tables as learner_tables
use Rattle.learner_tables.proofs.Laws.{sized-allowed}
use Rattle.learner.specs.Learner as answers
use Rattle.learner.specs.Learner.{rule, learner, learner_step, answer_of_cell, answer_at, answer_for}
use Rattle.learner.proofs.Laws as learner-laws
use Rattle.learner_holes.specs.Holes as holes
use Rattle.learner_delivery.specs.Delivery.{deliver}
use Rattle.learner_holes.specs.Holes.{is_hole, first_hole_from, find_hole}
use Rattle.learner_saved.specs.Saved.{save}
use Rattle.agreement.specs.Run.{Boxes, primary_record}
use Rattle.agreement.specs.Agreement.{Neither7Nor17, NeverBy7Or17}
use Rattle.agreement.proofs.WellFormed.{WellFormed, request-is-step}

neither : (number : ℕ) → eqb number 7 ≡ false → eqb number 17 ≡ false → Neither7Nor17 number
neither number seven seventeen = record { not_7 = eqb-false number 7 seven; not_17 = eqb-false number 17 seventeen }

-- a test that passes
passing : {A : Type 0} (P : A → Type 0) {b : Bool} (x y : A) → b ≡ true → P y → P (need b or x then y)
passing P x y e holds = subst P (sym (need-passed x y e)) holds

-- ---- a step of any player

-- the number by which a ruling refuses, or that of its verdict
abbrev Rules : {Cell : Type 0} → Ruling Cell → Type 0
Rules (refused number) = Neither7Nor17 number
Rules (sends verdict m c) = Neither7Nor17 (verdict_number verdict)
Rules (counts verdict c) = Neither7Nor17 (verdict_number verdict)

module _ {Tables Cell : Type 0} (p : List ℕ) (t : Tables) where
  ruled-well : (store : Cell → Tables) (r : Ruling Cell) → Rules r → Neither7Nor17 (ruled p t store r).answer
  unfolding ruled
  ruled-well store (refused number) well = well
  ruled-well store (sends verdict m c) well = well
  ruled-well store (counts verdict c) well = well

  step-well : (player : Player Tables Cell) → player.allowed t ≡ true → ((m : Message) → PlacedBy Neither7Nor17 (player.place m))
      → ((m : Message) (index : ℕ) → player.place m ≡ At index → Rules (player.rule (player.cell_at t index) m)) → Neither7Nor17 (step player p t).answer
  unfolding step act rule_at after_reading after_placing
  step-well player ok places rules =
      passing (λ (o : Outcome (Lent Tables)). Neither7Nor17 o.answer) _ _ ok
      (read (read_packet p) (reader-refuses Neither7Nor17 (neither 1 refl refl) (neither 2 refl refl) (neither 3 refl refl) (neither 4 refl refl) (neither 5 refl refl) p))
    where
      place : (m : Message) (q : Place) → player.place m ≡ q → PlacedBy Neither7Nor17 q
          → Neither7Nor17 (after_placing p t q (λ index. ruled p t (player.with_cell t index) (player.rule (player.cell_at t index) m))).answer
      place m (At index) stands well = ruled-well (player.with_cell t index) _ (rules m index stands)
      place m (Nowhere number) stands well = well

      read : (r : Reading) → RefusedBy Neither7Nor17 r → Neither7Nor17 (after_reading p t r (act player p t)).answer
      read (Read m) well = place m (player.place m) refl (places m)
      read (Refused number) well = well

eight : (N : ℕ) (i : Instance) → PlacedBy Neither7Nor17 (placed N i)
eight N i = placed_by Neither7Nor17 N i (neither 8 refl refl)

-- ---- the rules, at a possible cell

primary-rules : (N : ℕ) (c : primary_cells.Cell) (m : Message) → primary_rule.possible N c ≡ true → Rules (primary.rule N c m)
unfolding primary_rule.take_request
primary-rules N c m fine =
    request-elim Rules _ _ m (λ _ _ _. passing Rules _ _ fine (need-elim Rules _ _ _ (neither 12 refl refl) λ _. neither 101 refl refl)) (neither 6 refl refl)

acceptor-rules : (own : ℕ) (c : acceptor_cells.Cell) (m : Message) → acceptor_rule.possible c ≡ true → Rules (acceptor.rule own c m)
unfolding acceptor_rule.obey acceptor_rule.obeying
acceptor-rules own c m fine =
    order-elim (λ o. Rules (acceptor.rule_of own c o)) m (λ _ _ _. passing Rules _ _ fine (need-elim Rules _ _ _ (neither 10 refl refl) λ _. neither 102 refl refl))
    (λ _ _ _ _. passing Rules _ _ fine (need-elim Rules _ _ _ (neither 10 refl refl) λ _. neither 103 refl refl)) (neither 6 refl refl)

backup-rules : (M own : ℕ) (c : backup_cells.Cell) (m : Message) → backup_cell.possible M own c ≡ true → Rules (backup.rule M own c m)
unfolding backup_rule.take_promise backup_rule.when_majority
backup-rules M own c m fine =
    promise-elim Rules _ _ m
    (λ _ _ _ _ _ _.
    need-elim Rules _ _ _ (neither 9 refl refl) λ _.
    passing Rules _ _ fine
    (need-elim Rules _ _ _ (neither 11 refl refl) λ _.
    need-elim Rules _ _ _ (neither 15 refl refl) λ _.
    if-elim Rules _ _ _ (λ _. neither 101 refl refl) (λ _. neither 104 refl refl)))
    (neither 6 refl refl)

start-rules : (M own : ℕ) (c : backup_cells.Cell) (i : Instance) (floor : ℕ) (v : Value) → backup_cell.possible M own c ≡ true → Rules (backup_rule.start M own c i floor v)
unfolding backup_rule.start
start-rules M own c i floor v fine = passing Rules _ _ fine (need-elim Rules _ _ _ (neither 16 refl refl) λ _. neither 101 refl refl)

learner-rules : (M : ℕ) (c : learner_cells.Cell) (m : Message) → learner_cell.possible M c ≡ true → Rules (rule M c m)
unfolding rule count_vote add_voter hold_or_decide
learner-rules M c m fine =
    vote-elim Rules _ _ m
    (λ _ _ _ _ _.
    need-elim Rules _ _ _ (neither 9 refl refl) λ _.
    passing Rules _ _ fine
    (need-elim Rules _ _ _ (neither 14 refl refl) λ _.
    need-elim Rules _ _ _ (neither 10 refl refl) λ _.
    if-elim Rules _ _ _
    (λ _. need-elim Rules _ _ _ (neither 13 refl refl) λ _. need-elim Rules _ _ _ (neither 15 refl refl) λ _.
    if-elim Rules _ _ _ (λ _. neither 105 refl refl) (λ _. neither 104 refl refl))
    (λ _. if-elim Rules _ _ _ (λ _. neither 105 refl refl) (λ _. neither 104 refl refl))))
    (neither 6 refl refl)

-- ---- a learner's calls over all cells

no-refusal : (M end number : ℕ) (cs : List learner_cells.Cell) (refusal : ℕ) → first_hole_from M end number cs ≡ holes.Refused refusal → ⊥
unfolding first_hole_from
no-refusal M end number [] refusal = λ e. let z : ◌≡◌ {A = ℕ} 0 1 = cc in omega arith
no-refusal M end number (c ∷ cs) refusal =
    if-elim (λ found. found ≡ holes.Refused refusal → ⊥) (is_hole M end number c) (holes.Found (the_instance number)) (first_hole_from M end (number + 1) cs)
    (λ _ e. let z : ◌≡◌ {A = ℕ} 0 1 = cc in omega arith) (λ _. no-refusal M end (number + 1) cs refusal)

-- ---- every call

module _ {s : Settings} {w : Boxes} (ok : allowed s ≡ true) (formed : WellFormed s w) where
  abbrev N : ℕ
  N = s.instances

  module _ (which : ℕ) where
    abbrev t : learner_tables.Tables
    t = w.learner which

    learner-ok : learner_tables.learner_allowed s t ≡ true
    learner-ok = sized-allowed s t ok (formed.learners which).sized

    cells-ok : learner_tables.all_possible s.acceptors (learner_tables.cells s t) ≡ true
    cells-ok = every-passes (learner_tables.cell_at t) (learner_cell.possible s.acceptors) 0 N (λ i below. (formed.learners which).cells i (omega arith))

    answered : (i : Instance) (number : ℕ) → answer_for s i t ≡ answers.Refused number → Neither7Nor17 number
    unfolding answer_for answer_at answer_of_cell
    answered i number = passing (λ a. a ≡ answers.Refused number → Neither7Nor17 number) _ _ learner-ok (at (placed N i) refl (eight N i))
      where
        at : (q : Place) → placed N i ≡ q → PlacedBy Neither7Nor17 q → answer_at s.acceptors t q ≡ answers.Refused number → Neither7Nor17 number
        at (Nowhere other) stands well = λ e. let same : other ≡ number = cc in subst Neither7Nor17 same well
        at (At index) stands well =
            passing (λ a. a ≡ answers.Refused number → Neither7Nor17 number) _ _ ((formed.learners which).cells index (placed-index N i index stands).1)
            (if-elim (λ a. a ≡ answers.Refused number → Neither7Nor17 number) (learner_cell.is_decided s.acceptors (learner_tables.cell_at t index))
            (answers.Decided (learner_cell.value_of s.acceptors (learner_tables.cell_at t index))) answers.NotYet
            (λ _ e. let z : ◌≡◌ {A = ℕ} 0 1 = cc in absurd (omega arith)) (λ _ e. let z : ◌≡◌ {A = ℕ} 0 1 = cc in absurd (omega arith)))

    delivers : (buffer : List ℕ) (count : ℕ) → Neither7Nor17 (deliver s t buffer count).answer
    unfolding deliver
    delivers buffer count =
        passing (λ (o : Outcome (Lent ℕ)). Neither7Nor17 o.answer) _ _ learner-ok
        (need-elim (λ (o : Outcome (Lent ℕ)). Neither7Nor17 o.answer) _ _ _ (neither 1 refl refl) λ _.
        passing (λ (o : Outcome (Lent ℕ)). Neither7Nor17 o.answer) _ _ cells-ok (neither 106 refl refl))

    saves : (buffer : List ℕ) → Neither7Nor17 (save s buffer t).answer
    unfolding save
    saves buffer =
        passing (λ (o : Outcome (Lent learner_tables.Tables)). Neither7Nor17 o.answer) _ _ learner-ok
        (need-elim (λ (o : Outcome (Lent learner_tables.Tables)). Neither7Nor17 o.answer) _ _ _ (neither 1 refl refl) λ _.
        passing (λ (o : Outcome (Lent learner_tables.Tables)). Neither7Nor17 o.answer) _ _ cells-ok (neither 106 refl refl))

    finds : (number : ℕ) → find_hole s t ≡ holes.Refused number → ⊥
    unfolding find_hole
    finds number =
        passing (λ h. h ≡ holes.Refused number → ⊥) _ _ learner-ok
        (passing (λ h. h ≡ holes.Refused number → ⊥) _ _ cells-ok (no-refusal s.acceptors _ 0 (learner_tables.cells s t) number))

  starting : (own : ℕ) (i : Instance) (floor : ℕ) (v : Value) (buffer : List ℕ) → 1 ≤ own → own ≤ 3
      → Neither7Nor17 (backup.backup_start s own i floor v buffer (w.backup own)).answer
  unfolding backup.backup_start rule_at after_placing
  starting own i floor v buffer least most =
      let t = w.backup own in
      passing (λ (o : Outcome (Lent backup_tables.Tables)). Neither7Nor17 o.answer) _ _ (backup-tables.sized-allowed s own t ok least most (formed.backups own).sized)
      (need-elim (λ (o : Outcome (Lent backup_tables.Tables)). Neither7Nor17 o.answer) _ _ _ (neither 1 refl refl) λ _. at (placed N i) refl (eight N i))
    where
      at : (q : Place) → placed N i ≡ q → PlacedBy Neither7Nor17 q
          → Neither7Nor17 (after_placing buffer (w.backup own) q (λ index. ruled buffer (w.backup own) (backup_tables.with_cell (w.backup own) index)
          (backup_rule.start s.acceptors own (backup_tables.cell_at (w.backup own) index) i floor v))).answer
      at (Nowhere number) stands well = well
      at (At index) stands well =
          ruled-well buffer (w.backup own) (backup_tables.with_cell (w.backup own) index) _
          (start-rules s.acceptors own (backup_tables.cell_at (w.backup own) index) i floor v ((formed.backups own).cells index (placed-index N i index stands).1))

  requesting : (p : List ℕ) → Neither7Nor17 (primary.primary_request s p (primary_record w)).answer
  unfolding primary.primary_request primary.primary_by_reference
  requesting p =
      step-well p (primary_record w) (primary.primary_by_reference s) ok (λ m. primary-laws.place-elim Neither7Nor17 m (neither 6 refl refl))
      (λ m _ _. primary-rules N (primary_record w) m (rw formed.primary.is formed.primary.possible))

  pub never_by_7_or_17 : NeverBy7Or17 s w
  unfolding acceptor.acceptor_step acceptor.acceptor backup.backup_step backup.backup learner_step learner
  never_by_7_or_17 = record {
    primary = λ p. subst (λ (o : Outcome (Lent (List ℕ))). Neither7Nor17 o.answer) (sym (request-is-step s w formed.primary p)) (requesting p);
    requests = requesting;
    acceptors = λ own p known.
        let t = w.acceptor own in
        step-well p t (acceptor.acceptor s own) (acceptor-tables.sized-allowed s own t ok known (formed.acceptors own).sized)
        (λ m. acceptor-laws.place-elim Neither7Nor17 N m (neither 6 refl refl) (neither 8 refl refl))
        (λ m index stands. acceptor-rules own (acceptor_tables.cell_at t index) m ((formed.acceptors own).cells index (acceptor-laws.placed_below N m index stands)));
    backups = λ own p least most.
        let t = w.backup own in
        step-well p t (backup.backup s own) (backup-tables.sized-allowed s own t ok least most (formed.backups own).sized)
        (λ m. backup-laws.place-elim Neither7Nor17 N m (neither 6 refl refl) (neither 8 refl refl))
        (λ m index stands. backup-rules s.acceptors own (backup_tables.cell_at t index) m ((formed.backups own).cells index (backup-laws.placed_below N m index stands)));
    starts = starting;
    learners = λ which p.
        step-well p (w.learner which) (learner s) (learner-ok which) (λ m. learner-laws.place-elim Neither7Nor17 N m (neither 6 refl refl) (neither 8 refl refl))
        (λ m index stands. learner-rules s.acceptors (learner_tables.cell_at (w.learner which) index) m
        ((formed.learners which).cells index (learner-laws.placed_below N m index stands)));
    answers = answered;
    deliveries = delivers;
    savings = saves;
    holes = finds;
  }
