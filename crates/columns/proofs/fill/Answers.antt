-- `columns::fill` meets its contract. The invariant: the cells before the place are filled, and the others are as they came. A cell that holds what equals the
-- item holds the item, by the law of items.
-- Assumes nothing.
use mathlib.Core.Path.{ap, ◌∙◌}
use native.Mathlib.Omega.{arith}
use lib.ListN.{set}
use Rattle.std.proofs.Common.{rules}
use Rattle.columns.proofs.Fills.{fill-next}
use Rattle.columns.proofs.fill.Goals as goal
use Rattle.columns.proofs.fill.Goals.{then-ne, else-ne}

pub loop-place-preserved : goal.loop-place-preserved
loop-place-preserved g c =
    fill-next c.loop-place.invariant (omega arith)
    (elim c.if-ne.branch [
      | then-ne w ↦ w.column-is
      | else-ne w ↦ w.column-is ∙ ap (set c.loop-place.column c.loop-place.place-index) (g.met.T.Item.same _ _ (search rules))
    ])
