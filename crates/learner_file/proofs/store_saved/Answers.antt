-- `learner_file::store_saved` meets its contract. The invariant: with the saved cells that are left, the tables come to what they come to with all.
-- Assumes nothing.
use mathlib.Core.Path.{refl, sym, ◌∙◌}
use native.Mathlib.Omega.{arith}
use borrow.Author.Rules.{rules}
use Rattle.learner_tables.specs.Tables.{with_cell}
use Rattle.learner_file.proofs.Ways.{store-first, store-next, store-ends}
use Rattle.learner_file.proofs.store_saved.Goals as goal

pub loop-index-init : goal.loop-index-init
loop-index-init c = (omega arith, ((refl, refl, refl), store-first _ _ _ _))

pub loop-index-smaller : goal.loop-index-smaller
loop-index-smaller c = omega arith

pub loop-index-preserved : goal.loop-index-preserved
loop-index-preserved c = (
  omega arith,
  (
    search rules,
    c.loop-index.invariant.1.1
        ∙ store-next with_cell _ _ _ _ c.loop-index-test.true _ c.cell_in-cell.ensures _ c.store_cell.ensures.stored,
  ),
)

pub returns-clause-stored : goal.returns-clause-stored
returns-clause-stored c = sym (c.loop-index.invariant.1.1 ∙ store-ends with_cell _ _ _ _ c.loop-index-test.false)
