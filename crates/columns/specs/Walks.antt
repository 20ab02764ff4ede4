-- Walks over the cells of tables, said once for any cell and any way to find the cell at an index.
-- Assumes nothing.
use Rattle.std.specs.Prelude.{ℕ, zero, suc, Bool, true, ◌&&◌, List, [], ◌∷◌}

module _ {Cell : Type 0} where
  -- The cells from an index on, so many of them.
  unfoldable pub cells_from : (cell_at : (index : ℕ) → Cell) → (index count : ℕ) → List Cell
  cells_from cell_at index zero = []
  cells_from cell_at index (suc count) = cell_at index ∷ cells_from cell_at (suc index) count

  -- Every cell of a list passes the test.
  unfoldable pub every : (test : Cell → Bool) → List Cell → Bool
  every test [] = true
  every test (c ∷ cs) = test c && every test cs
