-- What the code's tests say of the next instance: one that is impossible is above N, and one that is possible and not used up is below it.
-- Assumes nothing.
use Prim.Native.Nat.{ℕ, ◌<◌}
use mathlib.Core.Path.{◌≡◌, sym, ◌∙◌}
use mathlib.Core.Bool.{Bool, true, false}
use native.Mathlib.Omega.{arith}
use borrow.Author.Tests.{leb-true, leb-false}
use Rattle.primary_rule.specs.declared.Cell.{Cell}
use Rattle.primary_rule.specs.Rule.{possible}

module _ (N : ℕ) (c : Cell) (sound : Bool) (sound-so : sound ≡ possible N c) where
  pub above : sound ≡ false → N < c.next.0
  unfolding possible
  above impossible = leb-false c.next.0 N (sym sound-so ∙ impossible)

  pub below : sound ≡ true → (c.next.0 ≡ N → ⊥) → c.next.0 < N
  unfolding possible
  below fine differs = let most = leb-true c.next.0 N (sym sound-so ∙ fine) in omega arith
