-- `passes::SharedTable::has_twice` meets its contract. The invariant: a number stands twice from here on exactly if one stands twice at all.
-- Assumes nothing.
use mathlib.Core.Path.{sym, ap, ◌∙◌}
use native.Mathlib.Omega.{arith}
use Rattle.columns.proofs.Walks.{cells-all}
use Rattle.passes.specs.Passes.{twice}
use Rattle.passes.specs.Lent.{table_shared}
use Rattle.passes.proofs.Ways.{twice-here, twice-later, twice-nowhere}
use Rattle.passes.proofs.SharedTable.has_twice.Goals as goal

pub loop-place-init : goal.loop-place-init
loop-place-init c = (omega arith, ap twice (cells-all _ _))

pub returns-then-is_some : goal.returns-then-is_some
returns-then-is_some c =
    twice-here (table_shared c.args.self.now) _ c.loop-place-test.true _ c.item_at-number.ensures _ c.find.ensures _ c.is_some.ensures c.if-is_some.true
    ∙ sym c.loop-place.invariant.1

pub loop-place-preserved : goal.loop-place-preserved
loop-place-preserved c = (
  omega arith,
  c.loop-place.invariant.1
      ∙ twice-later (table_shared c.args.self.now) _ c.loop-place-test.true _ c.item_at-number.ensures _ c.find.ensures _ c.is_some.ensures c.if-is_some.false,
)

pub returns : goal.returns
returns c = twice-nowhere (table_shared c.args.self.now) _ c.loop-place-test.false ∙ sym c.loop-place.invariant.1
