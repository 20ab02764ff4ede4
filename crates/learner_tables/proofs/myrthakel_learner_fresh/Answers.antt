-- `learner_tables::myrthakel_learner_fresh` meets its contract: it refuses by `is_allowed`, or sets the tables fresh.
-- Assumes nothing.
use Rattle.std.proofs.Common.{rules}
use Rattle.learner_tables.proofs.Ways.{refused-7, filled}
use Rattle.learner_tables.proofs.myrthakel_learner_fresh.Goals as goal

pub returns-then-not-is_allowed : goal.returns-then-not-is_allowed
returns-then-not-is_allowed c = refused-7 _ _ _ c.is_allowed.ensures c.if-not-is_allowed.true

pub returns : goal.returns
returns c =
    let done = filled _ _ _ c.is_allowed.ensures c.if-not-is_allowed.false _ _ c.verdict_number.ensures c.set_fresh.ensures.filled in
    search (rules, done)
