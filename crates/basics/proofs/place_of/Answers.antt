-- `basics::place_of` meets its contract: an instance below N stands at its own number.
-- Assumes nothing.
use Rattle.std.proofs.Common.{le-ltb, lt-ltb}
use Rattle.basics.specs.Ladder.{need◌or◌then◌}
use Rattle.basics.specs.Places.{placed}
use Rattle.basics.proofs.place_of.Goals as goal

pub returns-then-number-instances : goal.returns-then-number-instances
unfolding placed need◌or◌then◌
returns-then-number-instances c = rw (lt-ltb _ _ c.if-number-instances.true)

pub returns : goal.returns
unfolding placed need◌or◌then◌
returns c = rw (le-ltb _ _ c.if-number-instances.false)
