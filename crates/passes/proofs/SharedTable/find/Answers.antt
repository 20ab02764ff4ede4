-- `passes::SharedTable::find` meets its contract. The invariant: what is found from here on is what is found from the first place on.
-- Assumes nothing.
use mathlib.Core.Path.{sym, ◌∙◌}
use Rattle.passes.proofs.Ways.{found_here, found-later, found_nowhere}
use Rattle.passes.proofs.SharedTable.find.Goals as goal

pub returns-then-item_at-number : goal.returns-then-item_at-number
returns-then-item_at-number c =
    found_here _ _ _ c.loop-place-test.true _ c.item_at.ensures c.if-item_at-number.true ∙ sym c.loop-place.invariant

pub loop-place-preserved : goal.loop-place-preserved
loop-place-preserved c =
    c.loop-place.invariant ∙ found-later _ _ _ c.loop-place-test.true _ c.item_at.ensures c.if-item_at-number.false

pub returns : goal.returns
returns c = found_nowhere _ _ _ c.loop-place-test.false ∙ sym c.loop-place.invariant
