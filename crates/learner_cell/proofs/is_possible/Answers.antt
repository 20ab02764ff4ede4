-- `learner_cell::is_possible` meets its contract: a fresh cell is possible, and any other exactly if it is heard.
-- Assumes nothing.
use Rattle.learner_cell.specs.Cell.{possible}
use mathlib.Core.Path.{sym, ◌∙◌}
use Rattle.learner_cell.proofs.is_possible.Goals as goal

pub returns-then-is_fresh : goal.returns-then-is_fresh
unfolding possible
returns-then-is_fresh c = c.if-is_fresh.true ∙ rw (sym c.is_fresh.ensures ∙ c.if-is_fresh.true)

pub returns-else-is_fresh : goal.returns-else-is_fresh
unfolding possible
returns-else-is_fresh c = rw (c.is_heard.ensures, sym c.is_fresh.ensures ∙ c.if-is_fresh.false)
