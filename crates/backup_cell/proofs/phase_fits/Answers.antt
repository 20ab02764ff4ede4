-- `backup_cell::phase_fits` meets its contract: each count is what its call ensures.
-- Assumes nothing.
use Rattle.backup_cell.specs.Cell.{phase_fits}
use Rattle.backup_cell.proofs.phase_fits.Goals as goal

pub returns : goal.returns
unfolding phase_fits
returns c = rw (c.size-members.ensures, c.majority-majority.ensures)
