-- Laws of the rules for the crates above: what holds of every way out holds of the ruling; a possible cell stays possible, and its numbers stay within
-- their widths.
-- Assumes nothing.
use Prim.Native.Nat.{ℕ, suc, ◌^◌, ◌≤◌, ◌<◌, max}
use mathlib.Core.Path.{◌≡◌, refl, sym, ap, ◌∙◌, subst}
use mathlib.Core.Bool.{true, false, ◌&&◌, false≢true}
use native.Mathlib.Omega.{arith}
use lib.Dec.{eqb, ltb, lit<}
use borrow.Author.Tests.{not-true, eqb-true, eq-eqb, ltb-true, lt-ltb}
use Rattle.basics.proofs.Values.{ValueFits}
use Rattle.basics.specs.declared.Instance.{Instance}
use Rattle.basics.specs.declared.Round.{Round}
use Rattle.basics.specs.declared.Value.{Value}
use Rattle.basics.specs.declared.Verdict.TheVariants.{ToAcceptors}
use Rattle.basics.specs.Rounds.{the_round, none, owner_of, same_round}
use Rattle.basics.specs.Values.{null}
use Rattle.basics.specs.Votes.{is_vote_up_to}
use Rattle.basics.proofs.Ladder.{by-test, if-elim, need-elim, both_true, and-true, or_left, or_right}
use Rattle.basics.proofs.Votes.{never-voted}
use Rattle.messages.specs.declared.Message.TheVariants.{Prepare}
use Rattle.player.specs.Step.{Ruling, refused, sends}
use Rattle.player.proofs.Promises.{NextCell}
use Rattle.quorum.specs.Quorum.{majority, has_member, with_member, within, size, reaches_majority}
use Rattle.quorum.proofs.Laws.{reaches-iff, with-member-size, with-member-within, empty-size, empty-within, with-member-fits}
use Rattle.backup_cell.specs.declared.Cell.{Cell}
use Rattle.backup_cell.specs.Cell.{asking, proposed, phase_fits, possible}
use Rattle.backup_cell.proofs.Laws.{asking-started, made-possible, CellFits}
use Rattle.backup_rule.specs.Rule.{counting, chosen, closed, when_majority, take_promise, started, start, next_round}

-- ---- promises

-- what holds of the refusals of a promise, and of what comes of one that is counted, holds of the ruling
module _ (P : Ruling Cell → Type 0) (M own : ℕ) (c : Cell) (s : ℕ) (i : Instance) (r b : Round) (v : Value) (nine : P (refused 9)) (seventeen : P (refused 17))
    (eleven : P (refused 11)) (fifteen : P (refused 15)) where
  pub take-promise-elim : (s < M → possible M own c ≡ true → c.phase ≡ asking → r.0 ≡ c.round.0 → has_member c.set s ≡ false → P (when_majority M i (counting c s b v)))
      → P (take_promise M own c s i r b v)
  unfolding take_promise
  take-promise-elim counted =
      need-elim P _ _ _ nine λ known.
      need-elim P _ _ _ seventeen λ fine.
      need-elim P _ _ _ eleven λ current.
      need-elim P _ _ _ fifteen λ absent.
      let parts = both_true (eqb c.phase asking) (same_round r c.round) current in
      counted (ltb-true s M known) fine (eqb-true _ _ parts.0) (eqb-true _ _ parts.1) (not-true _ absent)

-- ---- possible cells stay possible

module _ (M own : ℕ) (c : Cell) (s : ℕ) (r b : Round) (v : Value) (known : s < M) (low : s ≤ 6) (fine : possible M own c ≡ true) (asks : c.phase ≡ asking)
    (same : r.0 ≡ c.round.0) (absent : has_member c.set s ≡ false) (votes : is_vote_up_to r b v ≡ true) where
  abbrev next : Cell
  next = counting c s b v

  -- what counting keeps, and what it makes of the set and the best
  pub record Counted (d : Cell) : Type 0 where
    pub same-round : d.round ≡ c.round
    pub same-phase : d.phase ≡ c.phase
    pub grown : d.set ≡ with_member c.set s
    pub voted : is_vote_up_to c.round d.best_vote_round d.best_value ≡ true

  pub counted : Counted next
  unfolding counting
  counted =
      let before = asking-started M own c fine asks in
      let here : r ≡ c.round = λ i. the_round (same i) in
      if-elim Counted _ _ _ (λ _. record { same-round = refl; same-phase = refl; grown = refl; voted = before.voted })
      (λ _. record { same-round = refl; same-phase = refl; grown = refl; voted = subst (λ q. is_vote_up_to q b v ≡ true) here votes })

  pub grown-size : size next.set ≡ suc (size c.set)
  grown-size = ap size counted.grown ∙ with-member-size c.set s (omega arith) absent

  -- with the phase that fits, the next cell is possible
  next-possible : (d : Cell) → d.round ≡ next.round → d.set ≡ next.set → d.best_vote_round ≡ next.best_vote_round → d.best_value ≡ next.best_value
      → phase_fits M d.phase d.set ≡ true → possible M own d ≡ true
  next-possible d round set best value fits =
      let before = asking-started M own c fine asks in
      made-possible M own d (ap owner_of (round ∙ counted.same-round) ∙ before.mine)
      (ap (within M) (set ∙ counted.grown) ∙ with-member-within M c.set s before.inside known)
      (rw (round, best, value, counted.same-round) counted.voted) fits
      (λ empty. absurd (omega (arith, grown-size, ap size (sym set ∙ empty), empty-size)))

  pub counted-possible : (i : Instance) → NextCell (λ d. possible M own d ≡ true) (when_majority M i next)
  unfolding when_majority phase_fits
  counted-possible i =
      if-elim (NextCell (λ d. possible M own d ≡ true)) _ _ _
      (λ reached. let enough = (reaches-iff (majority M) next.set).0 reached in
      next-possible (closed next) refl refl refl refl
      (or_right (eqb proposed asking && ltb (size next.set) (majority M))
      (eq-eqb (size next.set) (majority M) (omega (arith, enough, grown-size, (asking-started M own c fine asks).few)))))
      (λ short. next-possible next refl refl refl refl
      (or_left (eqb next.phase proposed && eqb (size next.set) (majority M))
      (and-true (eq-eqb next.phase asking (counted.same-phase ∙ asks)) (lt-ltb (size next.set) (majority M) (not-reached short)))))
    where
      not-reached : reaches_majority M next.set ≡ false → size next.set < majority M
      not-reached short = by-test (ltb (size next.set) (majority M)) (ltb-true _ _)
          (λ e. absurd (false≢true (sym short ∙ (reaches-iff (majority M) next.set).1 (borrow.Author.Tests.ltb-false _ _ e))))

-- ---- numbers that fit

pub counting-fits : (c : Cell) (s : ℕ) (b : Round) (v : Value) → CellFits c → s ≤ 6 → b.0 < 2 ^ 32 → ValueFits v → CellFits (counting c s b v)
unfolding counting
counting-fits c s b v fits low vote_round_fits value-fits =
    let set-fits = with-member-fits c.set s fits.set-fits (omega arith) in
    if-elim CellFits _ _ _
    (λ _. record {
      round_fits = fits.round_fits;
      phase-fits = fits.phase-fits;
      set-fits = set-fits;
      best-vote-round-fits = fits.best-vote-round-fits;
      best-value-fits = fits.best-value-fits;
      own-value-fits = fits.own-value-fits;
    })
    (λ _. record {
      round_fits = fits.round_fits;
      phase-fits = fits.phase-fits;
      set-fits = set-fits;
      best-vote-round-fits = vote_round_fits;
      best-value-fits = value-fits;
      own-value-fits = fits.own-value-fits;
    })

pub closed-fits : (c : Cell) → CellFits c → CellFits (closed c)
closed-fits c fits = record {
  round_fits = fits.round_fits;
  phase-fits = lit< tt;
  set-fits = fits.set-fits;
  best-vote-round-fits = fits.best-vote-round-fits;
  best-value-fits = fits.best-value-fits;
  own-value-fits = fits.own-value-fits;
}

pub chosen-fits : (c : Cell) → CellFits c → ValueFits (chosen c)
unfolding chosen
chosen-fits c fits = if-elim ValueFits _ _ _ (λ _. fits.own-value-fits) (λ _. fits.best-value-fits)

-- ---- the start

-- what holds of the refusals of a start's rule, and of what it sends, holds of every ruling
pub start-rule-elim : (P : Ruling Cell → Type 0) (M own : ℕ) (c : Cell) (i : Instance) (floor : ℕ) (v : Value) → P (refused 17) → P (refused 16)
    → (next_round own (max c.round.0 floor) < 4294967295
    → P (sends ToAcceptors (Prepare i (the_round (next_round own (max c.round.0 floor)))) (started (the_round (next_round own (max c.round.0 floor))) v)))
    → P (start M own c i floor v)
unfolding start
start-rule-elim P M own c i floor v seventeen sixteen sent =
    need-elim P _ _ _ seventeen λ _. need-elim P _ _ _ sixteen λ below. sent (ltb-true _ _ below)

-- a started cell is possible
pub started-possible : (M own : ℕ) (r : Round) (v : Value) → 1 ≤ majority M → owner_of r ≡ own → possible M own (started r v) ≡ true
unfolding phase_fits
started-possible M own r v some mine =
    made-possible M own (started r v) mine (empty-within M) (sym (never-voted r none null refl))
    (or_left _ (lt-ltb (size 0) (majority M) (omega (arith, empty-size)))) (λ _. refl)
