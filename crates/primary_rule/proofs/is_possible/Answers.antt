-- `primary_rule::is_possible` meets its contract: the code is the definition.
-- Assumes nothing.
use mathlib.Core.Path.{refl}
use Rattle.primary_rule.specs.Rule.{possible}
use Rattle.primary_rule.proofs.is_possible.Goals as goal

pub returns : goal.returns
unfolding possible
returns c = refl
