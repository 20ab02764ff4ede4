-- `entries::entry_in` meets its contract: bytes of another length are malformed, and others are the entry of their fields.
-- Assumes nothing.
use Rattle.entries.proofs.Ways.{wrong-length, right-length}
use Rattle.entries.proofs.entry_in.Goals as goal

pub returns-then-value-ne-ENTRY_LENGTH : goal.returns-then-value-ne-ENTRY_LENGTH
returns-then-value-ne-ENTRY_LENGTH c = wrong-length _ c.if-value-ne-ENTRY_LENGTH.true

pub returns : goal.returns
returns c = right-length _ c.if-value-ne-ENTRY_LENGTH.false _ c.fields_in.ensures _ c.entry_of.ensures
