-- `learner_holes::first_hole` meets its contract. The invariant: the first hole from here on is the first hole of all.
-- Assumes nothing.
use mathlib.Core.Path.{sym, ◌∙◌}
use native.Mathlib.Omega.{arith}
use Rattle.learner_holes.proofs.Ways.{walk_begins, hole-here, hole-later, no_hole_left}
use Rattle.learner_holes.proofs.first_hole.Goals as goal

pub loop-number-init : goal.loop-number-init
loop-number-init c = (omega arith, walk_begins _ _ _ _ c.decided_end-end.ensures)

pub loop-number-smaller : goal.loop-number-smaller
loop-number-smaller c = omega arith

pub loop-number-preserved : goal.loop-number-preserved
loop-number-preserved c = (
  omega arith,
  c.loop-number.invariant.1 ∙ hole-later _ _ _ _ _ c.if-instances-number.false _ c.cell_at-cell.ensures _ c.is_hole.ensures c.if-is_hole.false,
)

pub returns-then-instances-number : goal.returns-then-instances-number
returns-then-instances-number c = no_hole_left _ _ _ _ _ c.if-instances-number.true ∙ sym c.loop-number.invariant.1

pub returns-then-is_hole : goal.returns-then-is_hole
returns-then-is_hole c =
    hole-here _ _ _ _ _ c.if-instances-number.false _ c.cell_at-cell.ensures _ c.is_hole.ensures c.if-is_hole.true ∙ sym c.loop-number.invariant.1
