-- `backup_rule::next_round` meets its contract: the larger of the two is taken, and whichever of the four sums has the own bits is the next round.
-- Assumes nothing.
use Prim.Native.Nat.{max}
use mathlib.Core.Path.{◌≡◌, ap, ◌∙◌}
use Rattle.backup_rule.specs.Rule.{next_round}
use native.Mathlib.Omega.{arith}
use Rattle.backup_rule.proofs.Next.{next-is, fourth-is}
use Rattle.backup_rule.proofs.next_round.Goals.{then-number-floor, else-number-floor}
use Rattle.backup_rule.proofs.next_round.Goals as goal

pub returns-then-above-own_bits : goal.returns-then-above-own_bits
returns-then-above-own_bits c =
    let larger : c.if-number-floor.above ≡ max c.args.held.0 c.args.floor =
    elim c.if-number-floor.branch [
      | then-number-floor w ↦ omega (arith, w.above-is, w.if-number-floor.true)
      | else-number-floor w ↦ omega (arith, w.above-is, w.if-number-floor.false)
    ] in
    next-is _ _ _ (omega arith) (omega arith) c.if-above-own_bits.true ∙ ap (next_round _) larger

pub returns-then-above-own_bits-2 : goal.returns-then-above-own_bits-2
returns-then-above-own_bits-2 c =
    let larger : c.if-number-floor.above ≡ max c.args.held.0 c.args.floor =
    elim c.if-number-floor.branch [
      | then-number-floor w ↦ omega (arith, w.above-is, w.if-number-floor.true)
      | else-number-floor w ↦ omega (arith, w.above-is, w.if-number-floor.false)
    ] in
    next-is _ _ _ (omega arith) (omega arith) c.if-above-own_bits-2.true ∙ ap (next_round _) larger

pub returns-then-above-own_bits-3 : goal.returns-then-above-own_bits-3
returns-then-above-own_bits-3 c =
    let larger : c.if-number-floor.above ≡ max c.args.held.0 c.args.floor =
    elim c.if-number-floor.branch [
      | then-number-floor w ↦ omega (arith, w.above-is, w.if-number-floor.true)
      | else-number-floor w ↦ omega (arith, w.above-is, w.if-number-floor.false)
    ] in
    next-is _ _ _ (omega arith) (omega arith) c.if-above-own_bits-3.true ∙ ap (next_round _) larger

pub returns : goal.returns
returns c =
    let larger : c.if-number-floor.above ≡ max c.args.held.0 c.args.floor =
    elim c.if-number-floor.branch [
      | then-number-floor w ↦ omega (arith, w.above-is, w.if-number-floor.true)
      | else-number-floor w ↦ omega (arith, w.above-is, w.if-number-floor.false)
    ] in
    fourth-is _ _ c.if-above-own_bits.false c.if-above-own_bits-2.false c.if-above-own_bits-3.false ∙ ap (next_round _) larger
