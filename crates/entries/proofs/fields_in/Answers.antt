-- `entries::fields_in` meets its contract: each field is read at its place.
-- Assumes nothing.
use Rattle.entries.specs.Entry.{fields_in}
use Rattle.entries.proofs.fields_in.Goals as goal

pub returns : goal.returns
unfolding fields_in
returns c =
    rw (c.read.ensures, c.read-2.ensures, c.read-3.ensures, c.read-4.ensures)
