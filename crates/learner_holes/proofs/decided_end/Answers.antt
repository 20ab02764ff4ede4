-- `learner_holes::decided_end` meets its contract. The invariant: the end that the walk comes to from here is the end of all.
-- Assumes nothing.
use mathlib.Core.Path.{sym, ap, ◌∙◌}
use native.Mathlib.Omega.{arith}
use Rattle.columns.proofs.Walks.{cells-all}
use Rattle.learner_holes.specs.Holes.{decided_end_from}
use Rattle.learner_holes.proofs.Ways.{end-rises, end_stays, end-reached}
use Rattle.learner_holes.proofs.decided_end.Goals.{then-is_decided, else-is_decided}
use Rattle.learner_holes.proofs.decided_end.Goals as goal

pub loop-number-init : goal.loop-number-init
loop-number-init c = (omega arith, ap (decided_end_from _ 0 0) (cells-all _ _))

pub loop-number-smaller : goal.loop-number-smaller
loop-number-smaller c = omega arith

pub loop-number-preserved : goal.loop-number-preserved
loop-number-preserved c = (
  omega arith,
  c.loop-number.invariant.1
      ∙ elim c.if-is_decided.branch [
        | then-is_decided w ↦ end-rises _ _ _ _ _ c.loop-number-test.true _ c.cell_at-cell.ensures _ c.is_decided.ensures _ w.if-is_decided.true w.end-is
        | else-is_decided w ↦ end_stays _ _ _ _ _ c.loop-number-test.true _ c.cell_at-cell.ensures _ c.is_decided.ensures _ w.if-is_decided.false w.end-is
      ],
)

pub returns : goal.returns
returns c = end-reached _ _ _ _ _ c.loop-number-test.false ∙ sym c.loop-number.invariant.1
