-- `passes::SharedTable::rides_fit` meets its contract. The invariant: the judgment of the rides that are left to look at is that of all.
-- Assumes nothing.
use Prim.Native.Nat.{◌≤◌}
use mathlib.Core.Path.{◌≡◌}
use Rattle.columns.specs.Walks.{cells_from, every}
use Rattle.columns.proofs.Walks.{cells_left}
use Rattle.passes.specs.Passes.{number_in, rides_fit}
use Rattle.passes.proofs.SharedTable.rides_fit.Given as goal

abbrev pub invariant-loop-place : goal.invariant-loop-place
invariant-loop-place l =
    let at = number_in l.self.rides_left.now in
    let count = l.self.count in
    (l.place ≤ count) × (every rides_fit (cells_from at 0 count) ≡ every rides_fit (cells_left at l.place count))
