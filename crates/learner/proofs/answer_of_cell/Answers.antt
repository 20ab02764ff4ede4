-- `learner::answer_of_cell` meets its contract: each return is a way out of `answer_of_cell`.
-- Assumes nothing.
use Rattle.learner.proofs.Ways.{cell-17, cell-decided, cell-not-yet}
use Rattle.learner.proofs.answer_of_cell.Goals as goal

pub returns-then-not-is_possible : goal.returns-then-not-is_possible
returns-then-not-is_possible c = cell-17 _ _ _ c.is_possible.ensures c.if-not-is_possible.true

pub returns-then-is_decided : goal.returns-then-is_decided
returns-then-is_decided c =
    cell-decided _ _ _ c.is_possible.ensures c.if-not-is_possible.false _ c.is_decided.ensures c.if-is_decided.true _ c.value_of.ensures

pub returns : goal.returns
returns c =
    cell-not-yet _ _ _ c.is_possible.ensures c.if-not-is_possible.false _ c.is_decided.ensures c.if-is_decided.false
