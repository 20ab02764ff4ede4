-- `columns::fill` meets its contract. The invariant: the cells before the place are filled, and the others are as they came.
-- Assumes nothing.
use Rattle.columns.proofs.Fills.{Filled}
use Rattle.columns.proofs.fill.Given as goal

abbrev pub invariant-loop-place : goal.invariant-loop-place
invariant-loop-place g l = Filled l.initial.column l.item l.place-index l.column
