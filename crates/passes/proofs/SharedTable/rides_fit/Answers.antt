-- `passes::SharedTable::rides_fit` meets its contract. The invariant: the judgment of the rides that are left to look at is that of all.
-- Assumes nothing.
use mathlib.Core.Path.{refl, sym, ap, ◌∙◌}
use native.Mathlib.Omega.{arith}
use borrow.Author.Tests.{le-leb, lt-leb}
use Rattle.columns.specs.Walks.{every}
use Rattle.columns.proofs.Walks.{cells-all, every-next, every-stops, every-ends}
use Rattle.passes.specs.Passes.{rides_fit}
use Rattle.passes.proofs.SharedTable.rides_fit.Goals as goal

pub loop-place-init : goal.loop-place-init
loop-place-init c = (omega arith, ap (every rides_fit) (cells-all _ _))

pub returns-then-rides-gt-MOST_RIDES : goal.returns-then-rides-gt-MOST_RIDES
returns-then-rides-gt-MOST_RIDES c =
    every-stops _ rides_fit _ _ c.loop-place-test.true _ c.item_at-rides.ensures _ refl (lt-leb _ _ c.if-rides-gt-MOST_RIDES.true)
    ∙ sym c.loop-place.invariant.1

pub loop-place-smaller : goal.loop-place-smaller
loop-place-smaller c = omega arith

pub loop-place-preserved : goal.loop-place-preserved
loop-place-preserved c = (
  omega arith,
  c.loop-place.invariant.1
      ∙ every-next _ rides_fit _ _ c.loop-place-test.true _ c.item_at-rides.ensures _ refl (le-leb _ _ c.if-rides-gt-MOST_RIDES.false),
)

pub returns : goal.returns
returns c = every-ends _ rides_fit _ _ c.loop-place-test.false ∙ sym c.loop-place.invariant.1
