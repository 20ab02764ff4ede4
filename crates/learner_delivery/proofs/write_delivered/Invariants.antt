-- `learner_delivery::write_delivered` meets its contract. The invariant: the values of the cells before stand in the buffer, and the list goes on with those left.
-- Assumes nothing.
use Prim.Native.Nat.{◌≤◌, ◌-◌}
use mathlib.Core.Path.{◌≡◌}
use lib.ListN.{length}
use Rattle.learner_tables.specs.Tables.{cells}
use Rattle.learner_tables.specs.Lent.{tables_shared}
use Rattle.learner_delivery.specs.Delivery.{delivered}
use Rattle.learner_delivery.proofs.Ways.{written, split}
use Rattle.learner_delivery.proofs.write_delivered.Given as goal

abbrev pub invariant-loop-count : goal.invariant-loop-count
invariant-loop-count l =
    let t = tables_shared l.tables in
    let s = l.settings in
    (l.count ≤ s.instances) × ((length l.buffer ≡ length l.initial.buffer) × ((l.buffer ≡ written s.acceptors l.initial.buffer t l.count)
    × (delivered s.acceptors (cells s t) ≡ split s.acceptors t l.count s.instances)))

abbrev pub decreases-loop-count : goal.decreases-loop-count
decreases-loop-count l = l.settings.instances - l.count
