-- `basics::rank_of` meets its contract: the sum wraps to 0 at none alone.
-- Assumes nothing.
use Rattle.std.proofs.Common.{◌∙◌, arith}
use Rattle.basics.proofs.Rounds.{rank-wraps}
use Rattle.basics.proofs.rank_of.Goals as goal

pub returns : goal.returns
returns c = c.wrapping_add_u32.ensures.value ∙ rank-wraps c.args.round (omega arith)
