-- `learner_delivery::write_delivered` meets its contract. The invariant: the values of the cells before stand in the buffer, and the list goes on with those left.
-- Assumes nothing.
use mathlib.Core.Path.{◌≡◌, refl, ap, ◌∙◌}
use native.Mathlib.Omega.{arith}
use Rattle.basics.specs.Outcome.{lent}
use Rattle.learner_cell.specs.Cell.{value_of}
use Rattle.learner_delivery.proofs.Ways.{split-all, split-past, split-stops, split-next, written_none, written_next, walk-done}
use borrow.Author.Rules.{rules}
use Rattle.learner_delivery.proofs.write_delivered.Goals as goal

pub loop-count-init : goal.loop-count-init
loop-count-init c = (omega arith, (refl, (written_none _ _ _ _ refl, split-all _ _ _ _ refl)))

pub shape_of-buffer-then-not-is_decided : goal.shape_of-buffer-then-not-is_decided
shape_of-buffer-then-not-is_decided c = c.loop-count.invariant.1.0

pub returns-then-not-is_decided : goal.returns-then-not-is_decided
returns-then-not-is_decided c =
    let known = c.loop-count.invariant.1.1 in
    walk-done _ _ _ _ _ _ known.0
    (known.1 ∙ split-stops _ _ _ _ c.loop-count-test.true _ c.cell_at-cell.ensures _ c.is_decided.ensures c.if-not-is_decided.true)

pub loop-count-smaller : goal.loop-count-smaller
loop-count-smaller c = omega arith

pub loop-count-preserved : goal.loop-count-preserved
loop-count-preserved c =
    let known = c.loop-count.invariant.1.1 in (
      omega arith,
      (
        search rules,
        (
          written_next _ _ _ _ _ _ _ _ _ (c.value_of-value.ensures ∙ ap (value_of _) c.cell_at-cell.ensures) known.0 refl
              (omega (arith, c.requires)) c.write.ensures c.write-in-loop-count.ensures,
          known.1 ∙ split-next _ _ _ _ c.loop-count-test.true _ c.cell_at-cell.ensures _ c.is_decided.ensures c.if-not-is_decided.false,
        ),
      ),
    )

pub shape_of-buffer : goal.shape_of-buffer
shape_of-buffer c = c.loop-count.invariant.1.0

pub returns : goal.returns
returns c =
    let known = c.loop-count.invariant.1.1 in
    let all : c.args.settings.instances ≡ c.loop-count.count = omega (arith, c.loop-count.invariant.0) in
    ap (lent c.loop-count.buffer) all ∙ walk-done _ _ _ _ _ _ known.0 (known.1 ∙ split-past _ _ _ _ c.loop-count-test.false)
