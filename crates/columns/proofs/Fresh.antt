-- A call that sets tables fresh: its two ways out, by the test that led there, and what is promised of it, by the two outcomes of that test.
-- Assumes nothing.
use Prim.Native.Nat.{ℕ}
use mathlib.Core.Path.{◌≡◌, refl}
use mathlib.Core.Bool.{Bool, true, false, false≢true}
use mathlib.Core.Logic.{◌⊎◌, inl, inr, ◌↔◌}
use native.Mathlib.Omega.{arith}
use Rattle.basics.specs.declared.Verdict.TheVariants.{Done}
use Rattle.basics.specs.Ladder.{need◌or◌then◌}
use Rattle.basics.specs.Outcome.{Outcome, outcome}
use Rattle.basics.specs.Verdict.{verdict_number}
use Rattle.columns.specs.Fresh.{set_fresh, SetsFresh}

-- ---- the ways out

module _ {Tables : Type 0} {allowed fine : Bool} (before fresh : Tables) (fine-so : fine ≡ allowed) where
  pub fresh-refused : fine ≡ false → outcome 7 before ≡ set_fresh allowed before fresh
  unfolding set_fresh need◌or◌then◌
  fresh-refused no_way = rw (← fine-so, no_way)

  pub fresh-done : fine ≡ true → {answer : ℕ} {after : Tables} → answer ≡ verdict_number Done → after ≡ fresh → outcome answer after ≡ set_fresh allowed before fresh
  unfolding set_fresh need◌or◌then◌
  fresh-done passed answer-so after-so = rw (← fine-so, passed, answer-so, after-so)

-- ---- what is promised

module _ {Tables : Type 0} (t fresh : Tables) where
  abbrev left_by : Bool → Outcome Tables
  left_by allowed = set_fresh allowed t fresh

  numbers : (b : Bool) → ((left_by b).answer ≡ 7) ⊎ ((left_by b).answer ≡ verdict_number Done)
  unfolding set_fresh need◌or◌then◌
  numbers true = inr refl
  numbers false = inl refl

  exactly : (b : Bool) → ((left_by b).answer ≡ verdict_number Done) ↔ (b ≡ true)
  unfolding set_fresh need◌or◌then◌
  exactly true = (λ _. refl, λ _. refl)
  exactly false = (λ e. absurd (omega (arith, e)), λ e. absurd (false≢true e))

  keeps : (b : Bool) → (left_by b).answer ≡ 7 → (left_by b).left ≡ t
  unfolding set_fresh need◌or◌then◌
  keeps true e = absurd (omega (arith, e))
  keeps false e = refl

  leaves : (b : Bool) → (left_by b).answer ≡ verdict_number Done → (left_by b).left ≡ fresh
  unfolding set_fresh need◌or◌then◌
  leaves true e = refl
  leaves false e = absurd (omega (arith, e))

pub sets-fresh : {Tables : Type 0} (allowed : Tables → Bool) (fresh : Tables) → SetsFresh (λ t. set_fresh (allowed t) t fresh) allowed fresh
sets-fresh allowed fresh = record {
  numbers_are = λ t. numbers t fresh (allowed t);
  done_exactly = λ t. exactly t fresh (allowed t);
  refusal_keeps_all = λ t. keeps t fresh (allowed t);
  done_leaves_fresh = λ t. leaves t fresh (allowed t);
}
