-- `learner_delivery::myrthakel_learner_deliver` meets its contract: each arm knows the answer, and leaves what that says.
-- Assumes nothing.
use Rattle.std.proofs.Common.{sym, ap, ◌∙◌}
use Rattle.learner_delivery.specs.Delivery.{delivery_of}
use Rattle.learner_delivery.proofs.myrthakel_learner_deliver.Goals as goal

pub returns-in-Ok : goal.returns-in-Ok
returns-in-Ok c = rw c.verdict_number.ensures (sym (ap (delivery_of _ _) c.in-Ok.is) ∙ c.deliver.ensures _)

pub returns-in-Err : goal.returns-in-Err
returns-in-Err c = rw c.refusal_number.ensures (sym (ap (delivery_of _ _) c.in-Err.is) ∙ c.deliver.ensures _)
