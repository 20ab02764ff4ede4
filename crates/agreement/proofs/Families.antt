-- Laws of a backup's rounds, of membership in a list, and of a family with one member replaced.
-- Assumes nothing.
use Prim.Native.Nat.{ℕ, ◌≤◌, ◌<◌}
use mathlib.Core.Path.{◌≡◌, refl, sym, subst}
use mathlib.Core.Bool.{false}
use mathlib.Core.List.{List, [], ◌∷◌}
use native.Mathlib.Omega.{arith}
use borrow.Author.Tests.{eqb-true, eqb-false, eq-eqb, ne_eqb}
use Rattle.basics.specs.declared.Round.{Round}
use Rattle.basics.specs.Rounds.{is_none, owner_of}
use Rattle.basics.proofs.Ladder.{if-elim, if-true, if-false}
use Rattle.basics.proofs.Rounds.{owner-remainder}
use Rattle.quorum.specs.Voters.{Mem, newest, older}
use Rattle.agreement.specs.Run.{put}

-- ---- rounds

-- A round of a backup is one, and not 0.
pub record Owned (own : ℕ) (r : Round) : Type 0 where
  pub mine : owner_of r ≡ own
  pub positive : 0 < r.0
  pub some : is_none r ≡ false

pub owned : (own : ℕ) (r : Round) → 1 ≤ own → own ≤ 3 → owner_of r ≡ own → Owned own r
owned own r least most mine =
    let brings = owner-remainder r own least most mine in
    record { mine = mine; positive = omega (arith, brings.0); some = ne_eqb r.0 4294967295 brings.1 }

-- ---- membership

module _ {A : Type 0} where
  -- nothing stands in the empty list
  pub nowhere : {x : A} {B : Type 0} → Mem x [] → B
  nowhere m = elim m [ ]

  -- what holds of the new entry and of all others holds of all
  pub extend : {P : A → Type 0} {y : A} {ys : List A} → P y → ((x : A) → Mem x ys → P x) → (x : A) → Mem x (y ∷ ys) → P x
  extend {P = P} p h x (newest e) = subst P (sym e) p
  extend p h x (older m) = h x m

-- ---- a family with one member replaced

module _ {A : Type 0} where
  -- what holds of the new member, and of every other one, holds of all
  pub put-elim : (P : ℕ → A → Type 0) {f : ℕ → A} {k : ℕ} {x : A} → P k x → ((n : ℕ) → (k ≡ n → ⊥) → P n (f n)) → (n : ℕ) → P n (put f k x n)
  unfolding put
  put-elim P {f} {k} {x} p h n = if-elim (P n) _ _ _ (λ e. subst (λ m. P m x) (eqb-true k n e) p) (λ e. h n (eqb-false k n e))

  pub put_all : (P : ℕ → A → Type 0) {f : ℕ → A} {k : ℕ} {x : A} → P k x → ((n : ℕ) → P n (f n)) → (n : ℕ) → P n (put f k x n)
  put_all P p h = put-elim P p (λ n _. h n)

  pub put_same : (f : ℕ → A) (k : ℕ) (x : A) → put f k x k ≡ x
  unfolding put
  put_same f k x = if-true x (f k) (eq-eqb k k refl)

  pub put_other : (f : ℕ → A) (k : ℕ) (x : A) (n : ℕ) → (k ≡ n → ⊥) → put f k x n ≡ f n
  unfolding put
  put_other f k x n h = if-false x (f n) (ne_eqb k n h)

  -- a member replaced by itself
  pub put-itself : (f : ℕ → A) (k : ℕ) → put f k (f k) ≡ f
  put-itself f k = λ i n. put-elim (λ m x. x ≡ f m) {f = f} {k = k} {x = f k} refl (λ m _. refl) n i
