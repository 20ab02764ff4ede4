-- `backup_cell::is_possible` meets its contract: a fresh cell is possible, and any other exactly if it is started.
-- Assumes nothing.
use Rattle.backup_cell.specs.Cell.{is_fresh, possible}
use mathlib.Core.Path.{◌≡◌, sym, ◌∙◌}
use Rattle.backup_cell.proofs.Ways.{field-by-field}
use Rattle.backup_cell.proofs.is_possible.Goals as goal

pub returns-then-eq : goal.returns-then-eq
unfolding possible
returns-then-eq c =
    let compared : c.eq.result ≡ is_fresh c.args.cell = rw (c.eq.ensures, c.fresh_cell.ensures) (field-by-field c.args.cell) in
    c.if-eq.true ∙ rw (sym compared ∙ c.if-eq.true)

pub returns-else-eq : goal.returns-else-eq
unfolding possible
returns-else-eq c =
    let compared : c.eq.result ≡ is_fresh c.args.cell = rw (c.eq.ensures, c.fresh_cell.ensures) (field-by-field c.args.cell) in
    rw (c.is_started.ensures, sym compared ∙ c.if-eq.false)
