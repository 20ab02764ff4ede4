-- Of two learners' delivered lists one is a prefix of the other, where cells that both have decided hold one value: by going along both.
-- Assumes nothing.
use Prim.Native.Nat.{ℕ, zero, suc, ◌+◌, ◌<◌}
use mathlib.Core.Path.{◌≡◌, subst}
use mathlib.Core.Bool.{true, false}
use mathlib.Core.List.{List, [], ◌∷◌}
use mathlib.Core.Logic.{◌⊎◌, inl, inr}
use native.Mathlib.Omega.{arith}
use Rattle.basics.specs.declared.Value.{Value}
use Rattle.basics.proofs.Ladder.{by-test, if-true, if-false}
use Rattle.learner_cell.specs.declared.Cell.{Cell}
use Rattle.learner_cell.specs.Cell.{is_decided, value_of}
use Rattle.columns.specs.Walks.{cells_from}
use Rattle.learner_tables.specs.Tables.{Tables, cell_at}
use Rattle.learner_delivery.specs.Delivery.{delivered}
use Rattle.agreement.specs.Agreement.{Prefix, at_its_end, same_value}

abbrev OnePrefix : List Value → List Value → Type 0
OnePrefix first second = Prefix first second ⊎ Prefix second first

module _ (M : ℕ) where
  stops : (c : Cell) (cs : List Cell) → is_decided M c ≡ false → delivered M (c ∷ cs) ≡ []
  unfolding delivered
  stops c cs e = if-false _ _ e

  goes_on : (c : Cell) (cs : List Cell) → is_decided M c ≡ true → delivered M (c ∷ cs) ≡ value_of M c ∷ delivered M cs
  unfolding delivered
  goes_on c cs e = if-true _ _ e

  along : (c d : Cell) (cs ds : List Cell) → (is_decided M c ≡ true → is_decided M d ≡ true → value_of M c ≡ value_of M d) → OnePrefix (delivered M cs) (delivered M ds)
      → OnePrefix (delivered M (c ∷ cs)) (delivered M (d ∷ ds))
  along c d cs ds agree rest =
      by-test (is_decided M c)
      (λ first. by-test (is_decided M d)
      (λ second. rw (goes_on c cs first, goes_on d ds second) (both (value_of M c) (value_of M d) (agree first second) rest))
      (λ open-still. rw (stops d ds open-still) (inr at_its_end)))
      (λ open-still. rw (stops c cs open-still) (inl at_its_end))
    where
      both : (v u : Value) → v ≡ u → OnePrefix (delivered M cs) (delivered M ds) → OnePrefix (v ∷ delivered M cs) (u ∷ delivered M ds)
      both v u e (inl p) = inl (subst (λ x. Prefix (v ∷ delivered M cs) (x ∷ delivered M ds)) e (same_value p))
      both v u e (inr p) = inr (subst (λ x. Prefix (x ∷ delivered M ds) (v ∷ delivered M cs)) e (same_value p))

  pub one-prefix : (t u : Tables) (index count : ℕ)
      → ((i : ℕ) → i < index + count → is_decided M (cell_at t i) ≡ true → is_decided M (cell_at u i) ≡ true → value_of M (cell_at t i) ≡ value_of M (cell_at u i))
      → OnePrefix (delivered M (cells_from (cell_at t) index count)) (delivered M (cells_from (cell_at u) index count))
  unfolding cells_from delivered
  one-prefix t u index zero agree = inl at_its_end
  one-prefix t u index (suc count) agree =
      along (cell_at t index) (cell_at u index) (cells_from (cell_at t) (suc index) count) (cells_from (cell_at u) (suc index) count) (agree index (omega arith))
      (one-prefix t u (suc index) count (λ i below. agree i (omega arith)))
