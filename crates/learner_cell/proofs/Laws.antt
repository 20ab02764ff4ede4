-- Laws of a learner's cell, for the crates above: what a possible cell has, and that one more voter leaves it possible.
-- Assumes nothing.
use Prim.Native.Nat.{ℕ, ◌^◌, ◌≤◌, ◌<◌}
use mathlib.Core.Path.{◌≡◌, refl, sym, ap, ◌∙◌}
use mathlib.Core.Bool.{true, false, not, ◌&&◌, false≢true}
use mathlib.Core.Logic.{⊎_elim}
use native.Mathlib.Omega.{arith}
use lib.Dec.{eqb, leb}
use borrow.Author.Tests.{not-true, not-false, leb-true, leb-false, le-leb, eqb-true, ne_eqb}
use Rattle.basics.proofs.Values.{ValueFits}
use Rattle.basics.specs.declared.Round.{Round}
use Rattle.basics.specs.declared.Value.{Value}
use Rattle.basics.specs.Rounds.{the_round, none, is_none, owned_or_0}
use Rattle.basics.specs.Values.{the_value, is_null}
use Rattle.basics.proofs.Ladder.{by-test, both_true, and-true, or_right, or_cases}
use Rattle.quorum.specs.Quorum.{majority, has_member, within, size, reaches, reaches_majority}
use Rattle.quorum.proofs.Laws.{majority-some, reaches-iff, empty-size, empty-within, with-member-size, with-member-within}
use Rattle.learner_cell.specs.declared.Cell.{Cell}
use Rattle.learner_cell.specs.Cell.{cell, fresh_cell, is_decided, has_vote, is_fresh, is_heard, possible, with_voter}
use Rattle.learner_cell.specs.Promises.{FreshPossible, FreshUndecided}

pub same-cell : {c d : Cell} → c.round ≡ d.round → c.set ≡ d.set → c.value ≡ d.value → c ≡ d
same-cell r s v = λ i. cell (r i) (s i) (v i)

pub fresh-possible : FreshPossible
unfolding possible is_fresh
fresh-possible M = refl

-- decided is: at least majority voters
pub decided-iff : (M : ℕ) (c : Cell) → is_decided M c ≡ reaches_majority M c.set
unfolding is_decided
decided-iff M c = refl

pub fresh-undecided : FreshUndecided
unfolding is_decided
fresh-undecided M =
    by-test (is_decided M fresh_cell) (λ reached. absurd (omega (arith, (reaches-iff (majority M) 0).0 reached, empty-size, majority-some M))) (λ open-still. open-still)

-- a cell that was heard
pub record Heard (M : ℕ) (c : Cell) : Type 0 where
  pub owned : owned_or_0 c.round ≡ true
  pub inside : within M c.set ≡ true
  pub some : c.set ≡ 0 → ⊥
  pub few : size c.set ≤ majority M

pub heard-brings : (M : ℕ) (c : Cell) → is_heard M c ≡ true → Heard M c
unfolding is_heard
heard-brings M c e =
    let owned = owned_or_0 c.round in
    let inside = within M c.set in
    let some = not (eqb c.set 0) in
    let e2 = both_true (owned && inside && some) (leb (size c.set) (majority M)) e in
    let e1 = both_true (owned && inside) some e2.0 in
    let e0 = both_true owned inside e1.0 in
    record {
      owned = e0.0;
      inside = e0.1;
      some = λ empty. false≢true (sym (not-true (eqb c.set 0) e1.1) ∙ borrow.Author.Tests.eq-eqb c.set 0 empty);
      few = leb-true _ _ e2.1;
    }

pub made-heard : (M : ℕ) (c : Cell) → Heard M c → possible M c ≡ true
unfolding possible is_heard
made-heard M c h =
    or_right (is_fresh c) (and-true (and-true (and-true h.owned h.inside) (ap not (ne_eqb c.set 0 h.some))) (le-leb _ _ h.few))

pub fresh-is : (c : Cell) → is_fresh c ≡ true → c ≡ fresh_cell
unfolding is_fresh
fresh-is c fresh =
    let unheard = both_true (is_none c.round && eqb c.set 0) (is_null c.value) fresh in
    let empty = both_true (is_none c.round) (eqb c.set 0) unheard.0 in
    let halves = both_true (eqb c.value.high 0) (eqb c.value.low 0) unheard.1 in
    let high = eqb-true c.value.high 0 halves.0 in
    let low = eqb-true c.value.low 0 halves.1 in
    same-cell (ap the_round (eqb-true c.round.0 none.0 empty.0)) (eqb-true c.set 0 empty.1) (λ i. the_value (high i) (low i))

-- the set of a possible cell is within M
pub possible-inside : (M : ℕ) (c : Cell) → possible M c ≡ true → within M c.set ≡ true
unfolding possible
possible-inside M c fine =
    ⊎_elim (λ fresh. rw (ap (λ (d : Cell). d.set) (fresh-is c fresh)) (empty-within M)) (λ heard. (heard-brings M c heard).inside)
    (or_cases (is_fresh c) (is_heard M c) fine)

-- a possible cell without a vote is the fresh one
pub voteless-fresh : (M : ℕ) (c : Cell) → possible M c ≡ true → has_vote c ≡ false → c ≡ fresh_cell
unfolding possible has_vote
voteless-fresh M c fine no-vote =
    ⊎_elim (fresh-is c) (λ heard. absurd ((heard-brings M c heard).some (eqb-true _ _ (not-false (eqb c.set 0) no-vote)))) (or_cases (is_fresh c) (is_heard M c) fine)

-- ---- a possible cell stays possible

module _ (M : ℕ) (before s : ℕ) (r : Round) (v : Value) (known : s < M) (low : s ≤ 6) (owned : owned_or_0 r ≡ true) (inside : within M before ≡ true) (absent : has_member before s ≡ false)
    (few : size before < majority M) where
  pub voter-possible : possible M (with_voter before s r v) ≡ true
  voter-possible =
      let grown = with-member-size before s (omega arith) absent in
      made-heard M (with_voter before s r v) (record {
        owned = owned;
        inside = with-member-within M before s inside known;
        some = λ empty. absurd (omega (arith, grown, ap size empty, empty-size));
        few = omega (arith, grown);
      })

pub undecided-few : (M : ℕ) (c : Cell) → is_decided M c ≡ false → size c.set < majority M
unfolding is_decided reaches
undecided-few M c e = leb-false _ _ e

-- ---- numbers that fit

pub record CellFits (c : Cell) : Type 0 where
  pub round_fits : c.round.0 < 2 ^ 32
  pub set-fits : c.set < 2 ^ 8
  pub value-fits : ValueFits c.value
