-- `numbers::read` meets its contract: outside the bytes nothing is read, and inside them the number of the bytes that stand there.
-- Assumes nothing.
use mathlib.Core.Path.{◌∙◌}
use native.Mathlib.Omega.{arith}
use Rattle.numbers.proofs.Ways.{number_read, nothing_read}
use Rattle.numbers.proofs.read.Goals as goal

pub returns-then-not-lies_within : goal.returns-then-not-lies_within
returns-then-not-lies_within g c = c.zero.ensures ∙ nothing_read _ _ _ _ (omega arith) _ c.lies_within.ensures c.if-not-lies_within.true

pub returns : goal.returns
returns g c = number_read _ _ _ _ (omega arith) _ c.lies_within.ensures _ _ (omega arith) c.from_bytes.ensures c.if-not-lies_within.false
