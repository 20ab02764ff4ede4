-- Laws of the choice and of the ladder of refusals, and tests by their parts.
-- Assumes nothing.
use Rattle.std.proofs.Common.{◌≡◌, Bool, true, false, ◌&&◌, ◌||◌, ◌⊎◌, refl, inl, inr}
use mathlib.Core.Bool.{false≢true}
use Rattle.basics.specs.Ladder.{when◌then◌else◌, need◌or◌then◌}

-- what a test came to, with the equation kept
pub by-test : {P : Type 0} (b : Bool) → (b ≡ true → P) → (b ≡ false → P) → P
by-test true yea nay = yea refl
by-test false yea nay = nay refl

-- what holds of both branches, each with its outcome of the test, holds of the choice
pub if-elim : {A : Type 0} (P : A → Type 0) (b : Bool) (x y : A) → (b ≡ true → P x) → (b ≡ false → P y) → P (when b then x else y)
unfolding when◌then◌else◌
if-elim P true x y yea nay = yea refl
if-elim P false x y yea nay = nay refl

pub if-true : {A : Type 0} {b : Bool} (x y : A) → b ≡ true → (when b then x else y) ≡ x
unfolding when◌then◌else◌
if-true x y e = rw e

pub if-false : {A : Type 0} {b : Bool} (x y : A) → b ≡ false → (when b then x else y) ≡ y
unfolding when◌then◌else◌
if-false x y e = rw e

-- what holds of the refusal, and of what is behind the test if it passes, holds of the ladder
pub need-elim : {A : Type 0} (P : A → Type 0) (b : Bool) (x y : A) → P x → (b ≡ true → P y) → P (need b or x then y)
unfolding need◌or◌then◌
need-elim P true x y no_way go_on = go_on refl
need-elim P false x y no_way go_on = no_way

pub need-passed : {A : Type 0} {b : Bool} (x y : A) → b ≡ true → (need b or x then y) ≡ y
unfolding need◌or◌then◌
need-passed x y e = rw e

pub need-failed : {A : Type 0} {b : Bool} (x y : A) → b ≡ false → (need b or x then y) ≡ x
unfolding need◌or◌then◌
need-failed x y e = rw e

pub both_true : (a b : Bool) → a && b ≡ true → (a ≡ true) × (b ≡ true)
both_true true b e = (refl, e)
both_true false b e = absurd (false≢true e)

pub and-true : {a b : Bool} → a ≡ true → b ≡ true → a && b ≡ true
and-true {a} {b} e f = rw e f

pub or_left : {a : Bool} (b : Bool) → a ≡ true → a || b ≡ true
or_left b e = rw e

pub or_right : (a : Bool) {b : Bool} → b ≡ true → a || b ≡ true
or_right true e = refl
or_right false e = e

pub or_cases : (a b : Bool) → a || b ≡ true → (a ≡ true) ⊎ (b ≡ true)
or_cases true b e = inl refl
or_cases false b e = inr e
