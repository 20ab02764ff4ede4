-- `Tables::are_allowed` meets its contract: the columns' lengths are judged.
-- Assumes nothing.
use Rattle.acceptor_tables.proofs.Tables.are_allowed.Goals as goal

pub returns : goal.returns
returns c = c.is_allowed.ensures
