-- `ledger::enter` meets its contract: a table that is not sound is refused, and so is a malformed entry; each other kind is ruled by its own function.
-- Assumes nothing.
use Rattle.std.proofs.Common.{sym, ap, ◌∙◌, Some}
use Rattle.entries.specs.Entry.{entry_read}
use Rattle.ledger.proofs.Ways.{table-unsound, table-sound, entry-null, entry-malformed, entry-sale, entry-boarding}
use Rattle.ledger.proofs.enter.Goals as goal

pub returns-then-not-is_sound-clause-entered : goal.returns-then-not-is_sound-clause-entered
returns-then-not-is_sound-clause-entered c = table-unsound _ _ _ c.is_sound.ensures c.if-not-is_sound.true

pub returns-in_default-clause-entered : goal.returns-in_default-clause-entered
returns-in_default-clause-entered c =
    entry-malformed _ _ _ c.is_sound.ensures c.if-not-is_sound.false (sym (ap entry_read c.in_default.is) ∙ c.entry_in.ensures)

pub returns-in-Null-clause-entered : goal.returns-in-Null-clause-entered
returns-in-Null-clause-entered c =
    entry-null _ _ _ c.is_sound.ensures c.if-not-is_sound.false (sym (ap entry_read (c.in-Some.is ∙ ap Some c.in-Null.is)) ∙ c.entry_in.ensures)

pub sell-requires : goal.sell-requires
sell-requires c = table-sound _ _ c.is_sound.ensures c.if-not-is_sound.false

pub returns-in-Sale-clause-entered : goal.returns-in-Sale-clause-entered
returns-in-Sale-clause-entered c =
    entry-sale _ _ _ c.is_sound.ensures c.if-not-is_sound.false _ _ _ _ (sym (ap entry_read (c.in-Some.is ∙ ap Some c.in-Sale.is)) ∙ c.entry_in.ensures)
    c.sell.ensures.ruled

pub board-requires : goal.board-requires
board-requires c = table-sound _ _ c.is_sound.ensures c.if-not-is_sound.false

pub returns-in-Boarding-clause-entered : goal.returns-in-Boarding-clause-entered
returns-in-Boarding-clause-entered c =
    entry-boarding _ _ _ c.is_sound.ensures c.if-not-is_sound.false _ _ _ _ (sym (ap entry_read (c.in-Some.is ∙ ap Some c.in-Boarding.is)) ∙ c.entry_in.ensures)
    c.board.ensures.ruled
