-- `passes::SharedTable::find` meets its contract. The invariant: what is found from here on is what is found from the first place on.
-- Assumes nothing.
use mathlib.Core.Path.{◌≡◌}
use Rattle.passes.specs.Passes.{find}
use Rattle.passes.specs.Lent.{table_shared}
use Rattle.passes.proofs.SharedTable.find.Given as goal

abbrev pub invariant-loop-place : goal.invariant-loop-place
invariant-loop-place l = find (table_shared l.self) l.from l.number ≡ find (table_shared l.self) l.place l.number
