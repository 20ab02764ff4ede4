-- `bench_lines::hex_in` meets its contract. The invariant: all are digits if those that are left are, and what is written, and what the digits that are left
-- stand for, are the bytes of all.
-- Assumes nothing.
use Prim.Native.Nat.{◌+◌, ◌*◌}
use native.Mathlib.Omega.{arith}
use lib.ListN.{length-set}
use mathlib.Core.Path.{◌≡◌, ◌∙◌}
use Rattle.bench_lines.proofs.Digits.{digit-none, digit-so, digit-small, digits-go-on, digits-stop, digits-end}
use Rattle.bench_lines.proofs.Digits.{bytes-go-on, bytes-end, hex-so, hex-wrong-length, hex-no-digits}
use Rattle.bench_lines.proofs.hex_in.Goals as goal

pub returns-then-text : goal.returns-then-text
returns-then-text g c = hex-wrong-length g.row.N c.args.text.now (λ long. omega arith)

pub returns-in_err-digit : goal.returns-in_err-digit
returns-in_err-digit g c =
    let text = c.args.text.now in
    let large = digit-none _ c.in_err-digit.ensures in
    c.from_residual.ensures ∙ hex-no-digits g.row.N text
    (c.loop-index.invariant.digits ∙ digits-stop 16 text (2 * c.loop-index.index) (omega arith) (omega arith))

pub overflow_mul-bytes : goal.overflow_mul-bytes
overflow_mul-bytes g c = omega (arith, digit-small _ _ c.in_ok-digit.ensures)

pub returns-in_err-bytes : goal.returns-in_err-bytes
returns-in_err-bytes g c =
    let text = c.args.text.now in
    let high = digit-so _ _ c.in_ok-digit.ensures in
    let small = digit-small _ _ c.in_ok-digit.ensures in
    let large = digit-none _ c.in_err-bytes.ensures in
    c.from_residual-in_err-bytes.ensures ∙ hex-no-digits g.row.N text
    (c.loop-index.invariant.digits ∙ digits-go-on 16 text (2 * c.loop-index.index) (omega arith) (omega arith)
    ∙ digits-stop 16 text (2 * c.loop-index.index + 1) (omega arith) (omega arith))

pub overflow_add-bytes : goal.overflow_add-bytes
overflow_add-bytes g c = omega (arith, digit-small _ _ c.in_ok-digit.ensures, digit-small _ _ c.in_ok-bytes.ensures)

pub loop-index-preserved : goal.loop-index-preserved
loop-index-preserved g c =
    let text = c.args.text.now in
    let index = c.loop-index.index in
    let high = digit-so _ _ c.in_ok-digit.ensures in
    let low = digit-so _ _ c.in_ok-bytes.ensures in
    let high-small = digit-small _ _ c.in_ok-digit.ensures in
    let low-small = digit-small _ _ c.in_ok-bytes.ensures in
    let next : (2 * index + 1) + 1 ≡ 2 * (index + 1) = omega arith in
    record {
      as_long = simp length-set c.loop-index.invariant.as_long;
      digits =
          c.loop-index.invariant.digits ∙ digits-go-on 16 text (2 * index) (omega arith) (omega arith)
          ∙ digits-go-on 16 text (2 * index + 1) (omega arith) (omega arith) ∙ rw next;
      bytes =
          c.loop-index.invariant.bytes ∙ bytes-go-on text c.loop-index.bytes index _ (omega arith) (omega arith) (rw (high, low));
    }

pub returns : goal.returns
returns g c =
    let text = c.args.text.now in
    hex-so g.row.N text (omega arith) (c.loop-index.invariant.digits ∙ digits-end 16 text (2 * c.loop-index.index) (omega arith)) _
    (c.loop-index.invariant.bytes ∙ bytes-end text c.loop-index.bytes c.loop-index.index (omega arith) (omega arith))
