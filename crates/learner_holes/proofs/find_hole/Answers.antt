-- `learner_holes::find_hole` meets its contract: each return is a way out of `find_hole`.
-- Assumes nothing.
use Rattle.learner_holes.proofs.Ways.{hole-7, hole-17, hole-walked}
use Rattle.learner_holes.proofs.find_hole.Goals as goal

pub returns-then-not-are_allowed : goal.returns-then-not-are_allowed
returns-then-not-are_allowed c = hole-7 _ _ _ c.are_allowed.ensures c.if-not-are_allowed.true

pub returns-then-not-all_possible : goal.returns-then-not-all_possible
returns-then-not-all_possible c = hole-17 _ _ _ c.are_allowed.ensures c.if-not-are_allowed.false _ c.all_possible.ensures c.if-not-all_possible.true

pub returns : goal.returns
returns c =
    hole-walked _ _ _ c.are_allowed.ensures c.if-not-are_allowed.false _ c.all_possible.ensures c.if-not-all_possible.false _ c.first_hole.ensures
