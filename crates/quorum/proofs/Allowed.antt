-- The settings that are allowed are just those of the paper: from the tests to the numbers by what allowed settings bring, and back by the three cases of M.
-- Assumes nothing.
use mathlib.Core.Path.{◌≡◌}
use mathlib.Core.Bool.{true, and-eq-true_iff}
use mathlib.Core.Logic.{◌⊎◌, inl, inr}
use Prim.Native.Nat.{ℕ}
use lib.Dec.{leb}
use borrow.Author.Tests.{le-leb}
use Rattle.quorum.specs.Settings.{acceptors_allowed, instances_allowed, allowed, settings, AllowedExactly}
use Rattle.quorum.proofs.Laws.{allowed-brings}

one_of_three : (M : ℕ) → (M ≡ 3) ⊎ ((M ≡ 5) ⊎ (M ≡ 7)) → acceptors_allowed M ≡ true
unfolding acceptors_allowed
one_of_three M (inl three) = rw three
one_of_three M (inr (inl five)) = rw five
one_of_three M (inr (inr seven)) = rw seven

allowed-exactly : AllowedExactly
unfolding allowed instances_allowed
allowed-exactly M N = (
  λ test. let brings = allowed-brings (settings M N) test in (brings.acceptors-are, brings.instances-least, brings.instances-most),
  λ fits. (and-eq-true_iff (acceptors_allowed M) (instances_allowed N)).1
      (one_of_three M fits.0, (and-eq-true_iff (leb 1 N) (leb N 1024)).1 (le-leb 1 N fits.1, le-leb N 1024 fits.2)),
)
