-- `learner_holes::myrthakel_learner_first_hole` meets its contract: each arm knows the answer, and leaves what that says.
-- Assumes nothing.
use Rattle.std.proofs.Common.{Ok, sym, ap, ◌∙◌}
use Rattle.learner_holes.specs.Holes.{hole_of, answered}
use Rattle.learner_holes.proofs.myrthakel_learner_first_hole.Goals as goal

pub returns-in-Ok-Some : goal.returns-in-Ok-Some
unfolding answered
returns-in-Ok-Some c =
    let said = ap hole_of (c.in-Ok-Some.is ∙ ap Ok c.in-Ok-Some.field-0-is) in
    rw c.verdict_number.ensures (ap (answered _) (sym said ∙ c.find_hole.ensures))

pub returns-in-Ok-None : goal.returns-in-Ok-None
unfolding answered
returns-in-Ok-None c =
    let said = ap hole_of (c.in-Ok-None.is ∙ ap Ok c.in-Ok-None.field-0-is) in
    rw c.verdict_number-in-Ok-None.ensures (ap (answered _) (sym said ∙ c.find_hole.ensures))

pub returns-in-Err : goal.returns-in-Err
unfolding answered
returns-in-Err c = rw c.refusal_number.ensures (ap (answered _) (sym (ap hole_of c.in-Err.is) ∙ c.find_hole.ensures))
