-- `learner_cell::value_of` meets its contract: a cell holds one value.
-- Assumes nothing.
use mathlib.Core.Path.{refl}
use Rattle.learner_cell.specs.Cell.{value_of}
use Rattle.learner_cell.proofs.value_of.Goals as goal

pub returns : goal.returns
unfolding value_of
returns c = refl
