-- Laws of a backup's cell for the crates above: a fresh one is possible, what a possible one that asks is, and what makes one possible.
-- Assumes nothing.
use Prim.Native.Nat.{ℕ, ◌^◌, ◌<◌}
use mathlib.Core.Path.{◌≡◌, refl, ap}
use mathlib.Core.Bool.{true, not, ◌&&◌}
use mathlib.Core.Logic.{⊎_elim}
use native.Mathlib.Omega.{arith}
use lib.Dec.{eqb, ltb, lit<}
use borrow.Author.Tests.{eqb-true, eq-eqb, ltb-true}
use Rattle.basics.proofs.Values.{ValueFits}
use Rattle.basics.specs.Rounds.{the_round, is_none, owner_of, same_round}
use Rattle.basics.specs.Values.{null, is_null}
use Rattle.basics.specs.Votes.{is_vote_up_to}
use Rattle.basics.proofs.Ladder.{by-test, both_true, and-true, or_left, or_right, or_cases}
use Rattle.quorum.specs.Quorum.{majority, within, size}
use Rattle.backup_cell.specs.declared.Cell.{Cell}
use Rattle.backup_cell.specs.Cell.{idle, asking, proposed, cell, is_fresh, phase_fits, is_started, possible}
use Rattle.backup_cell.specs.Promises.{FreshPossible}

pub same-cell : {c d : Cell} → c.round ≡ d.round → c.phase ≡ d.phase → c.set ≡ d.set → c.best_vote_round ≡ d.best_vote_round → c.best_value ≡ d.best_value
    → c.own_value ≡ d.own_value → c ≡ d
same-cell r p s b v o = λ i. cell (r i) (p i) (s i) (b i) (v i) (o i)

pub fresh-possible : FreshPossible
unfolding possible is_fresh
fresh-possible M own = refl

-- ---- possible cells

-- a possible cell that asks is a started one
pub record Started (M own : ℕ) (c : Cell) : Type 0 where
  pub mine : owner_of c.round ≡ own
  pub inside : within M c.set ≡ true
  pub voted : is_vote_up_to c.round c.best_vote_round c.best_value ≡ true
  pub few : size c.set < majority M

-- an idle cell asks nothing
fresh-idle : (c : Cell) → is_fresh c ≡ true → c.phase ≡ idle
unfolding is_fresh
fresh-idle c e =
    let p = eqb c.phase idle in
    let r = same_round c.round (the_round 0) in
    let s = eqb c.set 0 in
    let b = is_none c.best_vote_round in
    let v = is_null c.best_value in
    let e4 = (both_true (p && r && s && b && v) (is_null c.own_value) e).0 in
    let e3 = (both_true (p && r && s && b) v e4).0 in
    let e2 = (both_true (p && r && s) b e3).0 in
    eqb-true c.phase idle (both_true p r (both_true (p && r) s e2).0).0

pub asking-started : (M own : ℕ) (c : Cell) → possible M own c ≡ true → c.phase ≡ asking → Started M own c
unfolding possible is_started phase_fits
asking-started M own c fine asks =
    ⊎_elim (λ fresh. absurd (omega (arith, fresh-idle c fresh, asks))) is-started (or_cases (is_fresh c) (is_started M own c) fine)
  where
    is-started : is_started M own c ≡ true → Started M own c
    is-started e =
        let mine = eqb (owner_of c.round) own in
        let inside = within M c.set in
        let voted = is_vote_up_to c.round c.best_vote_round c.best_value in
        let e3 = (both_true (mine && inside && voted && phase_fits M c.phase c.set) _ e).0 in
        let e2 = both_true (mine && inside && voted) (phase_fits M c.phase c.set) e3 in
        let e1 = both_true (mine && inside) voted e2.0 in
        let e0 = both_true mine inside e1.0 in
        record {
          mine = eqb-true _ _ e0.0;
          inside = e0.1;
          voted = e1.1;
          few = ⊎_elim (λ a. ltb-true _ _ (both_true (eqb c.phase asking) _ a).1)
              (λ p. absurd (omega (arith, asks, eqb-true c.phase proposed (both_true (eqb c.phase proposed) _ p).0)))
              (or_cases (eqb c.phase asking && ltb (size c.set) (majority M)) _ e2.1);
        }

-- a cell with a round of its own, a set within M that is not empty, a vote up to its round and a phase that fits is possible
pub made-possible : (M own : ℕ) (c : Cell) → owner_of c.round ≡ own → within M c.set ≡ true → is_vote_up_to c.round c.best_vote_round c.best_value ≡ true
    → phase_fits M c.phase c.set ≡ true → (c.set ≡ 0 → is_none c.best_vote_round ≡ true) → possible M own c ≡ true
unfolding possible is_started
made-possible M own c mine inside voted fits empty =
    or_right (is_fresh c)
    (and-true (and-true (and-true (and-true (eq-eqb _ _ mine) inside) voted) fits)
    (by-test (eqb c.set 0) (λ e. or_right (not (eqb c.set 0)) (empty (eqb-true _ _ e))) (λ e. or_left {a = not (eqb c.set 0)} (is_none c.best_vote_round) (ap not e))))

-- ---- numbers that fit

-- the numbers of a cell fit their widths
pub record CellFits (c : Cell) : Type 0 where
  pub round_fits : c.round.0 < 2 ^ 32
  pub phase-fits : c.phase < 2 ^ 8
  pub set-fits : c.set < 2 ^ 8
  pub best-vote-round-fits : c.best_vote_round.0 < 2 ^ 32
  pub best-value-fits : ValueFits c.best_value
  pub own-value-fits : ValueFits c.own_value

pub null-fits : ValueFits null
null-fits = record { high_fits = lit< tt; low_fits = lit< tt }
