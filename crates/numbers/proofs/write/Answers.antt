-- `numbers::write` meets its contract: outside the bytes nothing is written, and inside them the number's own bytes.
-- Assumes nothing.
use native.Mathlib.Omega.{arith}
use Rattle.numbers.proofs.Ways.{number_written, nothing_written}
use Rattle.numbers.proofs.write.Goals as goal

pub returns-then-lies_within : goal.returns-then-lies_within
returns-then-lies_within g c =
    number_written _ _ _ _ (omega arith) _ c.lies_within.ensures _ _ _ (omega arith) c.put_bytes.ensures c.if-lies_within.true

pub returns-else-lies_within : goal.returns-else-lies_within
returns-else-lies_within g c = nothing_written _ _ _ _ (omega arith) _ c.lies_within.ensures _ c.if-lies_within.false
