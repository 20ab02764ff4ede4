-- `learner::answer_for` meets its contract: each return is a way out of `answer_for`.
-- Assumes nothing.
use Rattle.basics.proofs.Answer.{passed-on}
use Rattle.learner.proofs.Ways.{answer-7, answer-nowhere, answer-there}
use Rattle.learner.proofs.answer_for.Goals as goal

pub returns-then-not-are_allowed : goal.returns-then-not-are_allowed
returns-then-not-are_allowed c = answer-7 _ _ _ _ c.are_allowed.ensures c.if-not-are_allowed.true

pub returns-in_err-index : goal.returns-in_err-index
returns-in_err-index c =
    rw (passed-on _ _ c.from_residual.ensures) (answer-nowhere _ _ _ _ c.are_allowed.ensures c.if-not-are_allowed.false _ c.in_err-index.ensures)

pub returns : goal.returns
returns c =
    answer-there _ _ _ _ c.are_allowed.ensures c.if-not-are_allowed.false _ _ _ c.in_ok-index.ensures c.cell_at.ensures c.answer_of_cell.ensures
