-- `backup_cell::is_started` meets its contract: each test is what its call ensures.
-- Assumes nothing.
use Rattle.backup_cell.specs.Cell.{is_started}
use mathlib.Core.Path.{sym, ◌∙◌}
use borrow.Author.Tests.{eq-eqb, ne_eqb}
use Rattle.backup_cell.proofs.is_started.Goals as goal

pub returns-then-owner-own : goal.returns-then-owner-own
unfolding is_started
returns-then-owner-own c =
    let owned = sym c.owner.ensures ∙ c.if-owner-own.true in
    rw (eq-eqb _ _ owned, c.is_within.ensures, c.is_vote_up_to.ensures, c.phase_fits.ensures, c.is_none.ensures)

pub returns-else-owner-own : goal.returns-else-owner-own
unfolding is_started
returns-else-owner-own c = rw (← c.owner.ensures, ne_eqb _ _ c.if-owner-own.false)
