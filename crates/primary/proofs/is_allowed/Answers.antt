-- `primary::is_allowed` meets its contract: the code is the definition, with what `settings_allowed` ensures.
-- Assumes nothing.
use Rattle.primary.specs.Primary.{is_allowed}
use Rattle.primary.proofs.is_allowed.Goals as goal

pub returns : goal.returns
unfolding is_allowed
returns c = rw c.settings_allowed.ensures
