-- `learner_file::put_cells` meets its contract. The invariant: with the cells that are left, the buffer comes to what it comes to with all.
-- Assumes nothing.
use mathlib.Core.Path.{refl, sym, ◌∙◌}
use native.Mathlib.Omega.{arith}
use borrow.Author.Rules.{rules}
use Rattle.learner_file.specs.File.{with_cell_bytes}
use Rattle.learner_file.proofs.Ways.{store-first, store-next, store-ends}
use Rattle.learner_file.proofs.put_cells.Goals as goal

pub loop-index-init : goal.loop-index-init
loop-index-init c = (omega arith, (refl, store-first _ _ _ _))

pub loop-index-smaller : goal.loop-index-smaller
loop-index-smaller c = omega arith

pub loop-index-preserved : goal.loop-index-preserved
loop-index-preserved c = (
  omega arith,
  (
    search rules,
    c.loop-index.invariant.1.1
        ∙ store-next with_cell_bytes _ _ _ _ c.loop-index-test.true _ c.cell_at-cell.ensures _ c.put_cell.ensures,
  ),
)

pub shape_of-buffer : goal.shape_of-buffer
shape_of-buffer c = c.loop-index.invariant.1.0

pub returns : goal.returns
returns c = sym (c.loop-index.invariant.1.1 ∙ store-ends with_cell_bytes _ _ _ _ c.loop-index-test.false)
