-- `bench_lines::decimal_in` meets its contract. The invariant: all are digits if those that are left are, the number goes on to the whole one, and so many
-- digits leave it below that power of ten.
-- Assumes nothing.
use native.Mathlib.Omega.{arith}
use mathlib.Core.Path.{◌∙◌}
use Rattle.bench_lines.proofs.Digits.{digit-none, digit-so, digits-go-on, digits-stop, digits-end}
use Rattle.bench_lines.proofs.Digits.{number-goes-on, number-ends, power-goes-on, decimal-wrong-length, decimal-no-digits, decimal-is}
use Rattle.bench_lines.proofs.decimal_in.Goals as goal

pub returns-in_default : goal.returns-in_default
returns-in_default c = decimal-wrong-length c.args.text.now (λ some. omega arith)

pub returns-in_default-2 : goal.returns-in_default-2
returns-in_default-2 c = decimal-wrong-length c.args.text.now (λ some. omega arith)

pub returns-in_err-digit : goal.returns-in_err-digit
returns-in_err-digit c =
    let text = c.args.text.now in
    let large = digit-none _ c.in_err-digit.ensures in
    c.from_residual.ensures ∙ decimal-no-digits text (c.loop-byte.invariant.digits ∙ digits-stop 10 text c.loop-byte.byte-index (omega arith) (omega arith))

pub returns-then-digit-ge10 : goal.returns-then-digit-ge10
returns-then-digit-ge10 c =
    let text = c.args.text.now in
    let same = digit-so _ _ c.in_ok-digit.ensures in
    decimal-no-digits text (c.loop-byte.invariant.digits ∙ digits-stop 10 text c.loop-byte.byte-index (omega arith) (omega arith))

pub loop-byte-preserved : goal.loop-byte-preserved
loop-byte-preserved c =
    let text = c.args.text.now in
    let index = c.loop-byte.byte-index in
    let same = digit-so _ _ c.in_ok-digit.ensures in
    let from = c.from.ensures in
    record {
      digits = c.loop-byte.invariant.digits ∙ digits-go-on 10 text index (omega arith) (omega arith);
      goes_on = c.loop-byte.invariant.goes_on ∙ rw (from, ← same) (number-goes-on text c.loop-byte.number index (omega arith));
      below = power-goes-on c.loop-byte.number c.from.result index c.loop-byte.invariant.below (omega arith);
    }

pub returns : goal.returns
returns c =
    let text = c.args.text.now in
    let digits = c.loop-byte.invariant.digits ∙ digits-end 10 text c.loop-byte.byte-index (omega arith) in
    let number = c.loop-byte.invariant.goes_on ∙ number-ends text c.loop-byte.number c.loop-byte.byte-index (omega arith) in
    c.ok.ensures.value ∙ decimal-is text (omega arith) (omega arith) digits _ (omega (arith, number)) c.try_from.result c.try_from.ensures
