-- A walk over the cells from an index on: its next cell, its end, its length and the cell at a place of it, and the walk that judges every cell.
-- Assumes nothing.
use Prim.Native.Nat.{ℕ, zero, suc, ◌+◌, ◌-◌, ◌≤◌, ◌<◌}
use mathlib.Core.Path.{◌≡◌, refl, sym, ap, ◌∙◌, subst}
use mathlib.Core.Bool.{Bool, true, false}
use mathlib.Core.List.{List, [], ◌∷◌}
use lib.ListN.{length, get_or}
use native.Mathlib.Decide.{ℕ_discrete}
use native.Mathlib.Omega.{arith}
use native.Mathlib.Numerals.{add-one}
use Rattle.basics.proofs.Ladder.{both_true, and-true}
use Rattle.columns.specs.Walks.{cells_from, every}

-- what holds of a number, and of every other one, holds of each
pub here-or-elsewhere : (P : ℕ → Type 0) (number j : ℕ) → P number → ((number ≡ j → ⊥) → P j) → P j
here-or-elsewhere P number j here elsewhere = go (ℕ_discrete number j)
  where
    go : Dec (number ≡ j) → P j
    go (yes same) = subst P same here
    go (no other) = elsewhere other

module _ {Cell : Type 0} (cell_at : ℕ → Cell) where
  module _ (index count : ℕ) where
    -- the cells that are left at an index
    abbrev pub cells_left : List Cell
    cells_left = cells_from cell_at index (count - index)

    pub cells-next : index < count → cells_left ≡ cell_at index ∷ cells_from cell_at (index + 1) (count - (index + 1))
    unfolding cells_from
    cells-next inside =
        let more : count - index ≡ suc (count - suc index) = omega arith in
        ap (cells_from cell_at index) more ∙ ap (λ k. cell_at index ∷ cells_from cell_at k (count - k)) (sym (add-one index))

    pub cells-end : count ≤ index → cells_left ≡ []
    unfolding cells_from
    cells-end past = let no_more : count - index ≡ 0 = omega arith in ap (cells_from cell_at index) no_more

  pub length-cells : (index count : ℕ) → length (cells_from cell_at index count) ≡ count
  unfolding cells_from
  length-cells index zero = refl
  length-cells index (suc count) = ap suc (length-cells (suc index) count)

  -- the cell at a place of a walk
  pub cell-of : (none : Cell) (index count place : ℕ) → place < count → get_or (cells_from cell_at index count) place none ≡ cell_at (index + place)
  unfolding cells_from
  cell-of none index zero place low = absurd (omega arith)
  cell-of none index (suc count) zero low = ap cell_at (omega arith)
  cell-of none index (suc count) (suc place) low = cell-of none (suc index) count place (omega arith) ∙ ap cell_at (omega arith)

  pub cells-all : (count : ℕ) → cells_from cell_at 0 count ≡ cells_left 0 count
  cells-all count = let all : count ≡ count - 0 = omega arith in ap (cells_from cell_at 0) all

  module _ (test : Cell → Bool) where
    module _ (index count : ℕ) where
      -- the walk that judges every cell goes on from one that passes, and ends at one that does not
      module _ (inside : index < count) (c : Cell) (c-so : c ≡ cell_at index) (fine : Bool) (fine-so : fine ≡ test c) where
        pub every-next : fine ≡ true → every test (cells_left index count) ≡ every test (cells_left (index + 1) count)
        unfolding every
        every-next passes = rw (cells-next index count inside, ← c-so, ← fine-so, passes)

        pub every-stops : fine ≡ false → false ≡ every test (cells_left index count)
        unfolding every
        every-stops fails = rw (cells-next index count inside, ← c-so, ← fine-so, fails)

      pub every-ends : count ≤ index → true ≡ every test (cells_left index count)
      unfolding every
      every-ends past = rw (cells-end index count past)

    -- where each cell passes, every one does
    pub every-passes : (index count : ℕ) → ((i : ℕ) → i < index + count → test (cell_at i) ≡ true) → every test (cells_from cell_at index count) ≡ true
    unfolding every cells_from
    every-passes index zero fine = refl
    every-passes index (suc count) fine = and-true (fine index (omega arith)) (every-passes (suc index) count (λ i below. fine i (omega arith)))

    -- and where every one does, each cell passes
    pub every-brings : (index count : ℕ) → every test (cells_from cell_at index count) ≡ true → (i : ℕ) → index ≤ i → i < index + count → test (cell_at i) ≡ true
    unfolding every cells_from
    every-brings index zero all i least low = absurd (omega arith)
    every-brings index (suc count) all i least low =
        let parts = both_true (test (cell_at index)) (every test (cells_from cell_at (suc index) count)) all in
        here-or-elsewhere (λ k. test (cell_at k) ≡ true) index i parts.0 λ other. every-brings (suc index) count parts.1 i (omega (arith, other)) (omega arith)
