-- Laws of rounds: their order and their owners. Callers go by these, and not by the text of `rank` and `owner_of`.
-- Assumes nothing.
use Rattle.std.proofs.Common.{◌≡◌, ℕ, suc, ◌+◌, ◌%◌, ◌<◌, ◌≤◌, true, false, leb, sym, refl, ap, ◌∙◌, mod-eq_of_lt, arith, ne_eqb, eqb-true, le-leb, leb-true}
use mathlib.Core.Bool.{false≢true}
use borrow.Author.Tests.{eqb-false}
use Rattle.basics.specs.declared.Round.{Round}
use Rattle.basics.specs.Ladder.{when◌then◌else◌}
use Rattle.basics.specs.Rounds.{the_round, none, is_none, owner_of, owned_or_0, owned_not_0, rank, at_most}
use Rattle.basics.proofs.Ladder.{by-test, if-true, if-false, both_true, if-elim, and-true}

-- ---- the order

-- one more than the round, of 32 bits
pub rank-wraps : (r : Round) → r.0 < 4294967296 → (r.0 + 1) % 4294967296 ≡ rank r
unfolding rank
rank-wraps r fits =
    by-test (is_none r)
    (λ e. let n = eqb-true r.0 4294967295 e in omega (arith, n) ∙ sym (if-true 0 (r.0 + 1) e))
    (λ e. let n = eqb-false r.0 4294967295 e in mod-eq_of_lt (omega (arith, n)) ∙ sym (if-false 0 (r.0 + 1) e))

-- none comes first, then 0, 1, ..
pub rank-none : (r : Round) → is_none r ≡ true → rank r ≡ 0
unfolding rank
rank-none r e = if-true 0 (r.0 + 1) e

pub rank-some : (r : Round) → is_none r ≡ false → rank r ≡ suc r.0
unfolding rank
rank-some r e = if-false 0 (r.0 + 1) e ∙ omega arith

pub rank_most : (r : Round) → rank r ≤ suc r.0
rank_most r = by-test (is_none r) (λ e. omega (arith, rank-none r e)) (λ e. omega (arith, rank-some r e))

-- ---- the owners

pub owned-or-0 : (r : Round) → owned_not_0 r ≡ true → owned_or_0 r ≡ true
unfolding owned_not_0 owned_or_0
owned-or-0 r e = (both_true (leb 1 (owner_of r)) (leb (owner_of r) 3) e).1

-- round 0 is the primary's
pub zero-owned : owned_or_0 (the_round 0) ≡ true
unfolding owned_or_0 owner_of when◌then◌else◌
zero-owned = refl

-- none is no round
pub none-unowned : (r : Round) → is_none r ≡ true → owned_or_0 r ≡ false
unfolding owned_or_0 owner_of when◌then◌else◌
none-unowned r e = let same : r ≡ none = λ i. the_round (eqb-true r.0 4294967295 e i) in ap owned_or_0 same

-- what has an owner is not none
pub owned-some : (r : Round) → owned_or_0 r ≡ true → is_none r ≡ false
owned-some r owned = by-test (is_none r) (λ e. absurd (false≢true (sym (none-unowned r e) ∙ owned))) (λ e. e)

-- where the first has an owner, rounds are ordered as their numbers
pub at_least : (a r : Round) → owned_or_0 a ≡ true → at_most a r ≡ true → a.0 ≤ r.0
unfolding at_most
at_least a r owned e = omega (arith, leb-true (rank a) (rank r) e, rank-some a (owned-some a owned), rank_most r)

-- a backup's rounds are those with its remainder by 4, but for none
pub owner-is : (r : Round) (own : ℕ) → 1 ≤ own → r.0 < 4294967295 → r.0 % 4 ≡ own → owner_of r ≡ own
unfolding owner_of when◌then◌else◌
owner-is r own least below remainder =
    rw (ne_eqb r.0 0 (λ e. omega (arith, e, remainder)), ne_eqb r.0 4294967295 (λ e. omega (arith, e)), ne_eqb (r.0 % 4) 0 (λ e. omega (arith, e, remainder))) remainder

pub owner-remainder : (r : Round) (own : ℕ) → 1 ≤ own → own ≤ 3 → owner_of r ≡ own → (r.0 % 4 ≡ own) × (r.0 ≡ 4294967295 → ⊥)
unfolding owner_of
owner-remainder r own least most =
    if-elim Mine _ _ _ (λ _ e. absurd (omega arith)) λ _.
    if-elim Mine _ _ _ (λ _ e. absurd (omega arith)) λ some.
    if-elim Mine _ _ _ (λ _ e. absurd (omega arith)) λ _ e. (e, eqb-false r.0 4294967295 some)
  where
    Mine : ℕ → Type 0
    Mine owner = owner ≡ own → (r.0 % 4 ≡ own) × (r.0 ≡ 4294967295 → ⊥)

pub backup-owned : (r : Round) (own : ℕ) → 1 ≤ own → own ≤ 3 → owner_of r ≡ own → owned_not_0 r ≡ true
unfolding owned_not_0
backup-owned r own least most e = and-true (le-leb 1 (owner_of r) (omega arith)) (le-leb (owner_of r) 3 (omega arith))
