-- `SharedTables::all_possible` meets its contract. The invariant: the judgment of the cells that are left is that of all.
-- Assumes nothing.
use mathlib.Core.Path.{sym, ap, ◌∙◌}
use native.Mathlib.Omega.{arith}
use Rattle.learner_tables.specs.Tables.{all_possible}
use Rattle.columns.proofs.Walks.{cells-all, every-next, every-stops, every-ends}
use Rattle.learner_cell.specs.Cell.{possible}
use Rattle.learner_tables.proofs.SharedTables.all_possible.Goals as goal

pub loop-index-init : goal.loop-index-init
loop-index-init c = (omega arith, ap (all_possible _) (cells-all _ _))

pub returns-then-not-is_possible : goal.returns-then-not-is_possible
returns-then-not-is_possible c =
    every-stops _ (possible _) _ _ c.loop-index-test.true _ c.cell_at-cell.ensures _ c.is_possible.ensures c.if-not-is_possible.true
    ∙ sym c.loop-index.invariant.1

pub loop-index-smaller : goal.loop-index-smaller
loop-index-smaller c = omega arith

pub loop-index-preserved : goal.loop-index-preserved
loop-index-preserved c = (
  omega arith,
  c.loop-index.invariant.1
      ∙ every-next _ (possible _) _ _ c.loop-index-test.true _ c.cell_at-cell.ensures _ c.is_possible.ensures c.if-not-is_possible.false,
)

pub returns : goal.returns
returns c = every-ends _ (possible _) _ _ c.loop-index-test.false ∙ sym c.loop-index.invariant.1
