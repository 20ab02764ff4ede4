-- `passes::SharedTable::has_twice` meets its contract. The invariant: a number stands twice from here on exactly if one stands twice at all.
-- Assumes nothing.
use Prim.Native.Nat.{◌≤◌}
use mathlib.Core.Path.{◌≡◌}
use Rattle.columns.specs.Walks.{cells_from}
use Rattle.columns.proofs.Walks.{cells_left}
use Rattle.passes.specs.Passes.{number_in, twice}
use Rattle.passes.proofs.SharedTable.has_twice.Given as goal

abbrev pub invariant-loop-place : goal.invariant-loop-place
invariant-loop-place l =
    let at = number_in l.self.passes.now in
    let count = l.self.count in
    (l.place ≤ count) × (twice (cells_from at 0 count) ≡ twice (cells_left at l.place count))
