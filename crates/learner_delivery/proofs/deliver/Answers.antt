-- `learner_delivery::deliver` meets its contract: each return is a way out of `deliver`.
-- Assumes nothing.
use Rattle.learner_delivery.proofs.Ways.{deliver-7, deliver-1, deliver-17, deliver-done}
use Rattle.learner_delivery.proofs.deliver.Goals as goal

pub returns-then-not-are_allowed : goal.returns-then-not-are_allowed
returns-then-not-are_allowed c = deliver-7 _ _ _ _ c.are_allowed.ensures c.if-not-are_allowed.true

pub returns-then-buffer-settings : goal.returns-then-buffer-settings
returns-then-buffer-settings c = deliver-1 _ _ _ _ c.are_allowed.ensures c.if-not-are_allowed.false c.if-buffer-settings.true

pub returns-then-not-all_possible : goal.returns-then-not-all_possible
returns-then-not-all_possible c =
    deliver-17 _ _ _ _ c.are_allowed.ensures c.if-not-are_allowed.false c.if-buffer-settings.false _ c.all_possible.ensures c.if-not-all_possible.true

pub returns : goal.returns
returns c =
    deliver-done _ _ _ _ c.are_allowed.ensures c.if-not-are_allowed.false c.if-buffer-settings.false _ c.all_possible.ensures c.if-not-all_possible.false
    _ c.write_delivered.ensures
