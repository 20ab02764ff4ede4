-- `learner_file::cell_in` meets its contract: each field is what its read ensures.
-- Assumes nothing.
use Rattle.learner_file.specs.File.{cell_in}
use Rattle.learner_file.proofs.cell_in.Goals as goal

pub returns : goal.returns
unfolding cell_in
returns c =
    rw (c.read-3.ensures, c.read-2.ensures, c.item_at.ensures, c.read.ensures, c.saved_length-at.ensures)
