-- `messages::message_of` meets its contract: each arm is a case of `message_of`, by its type.
-- Assumes nothing.
use Rattle.std.proofs.Common.{ne_eqb}
use Rattle.basics.specs.Ladder.{when◌then◌else◌}
use Rattle.messages.specs.Message.{message_of}
use Rattle.messages.proofs.message_of.Goals as goal

pub returns-in-0 : goal.returns-in-0
unfolding message_of when◌then◌else◌
returns-in-0 c = rw c.in-0.is

pub returns-in-1 : goal.returns-in-1
unfolding message_of when◌then◌else◌
returns-in-1 c = rw c.in-1.is

pub returns-in-2 : goal.returns-in-2
unfolding message_of when◌then◌else◌
returns-in-2 c = rw c.in-2.is

pub returns-in-3 : goal.returns-in-3
unfolding message_of when◌then◌else◌
returns-in-3 c = rw c.in-3.is

pub returns-in_default : goal.returns-in_default
unfolding message_of when◌then◌else◌
returns-in_default c =
    let other = c.in_default.in_default-own.rest in
    simp (ne_eqb _ _ other.0.0.0.1, ne_eqb _ _ other.0.0.1, ne_eqb _ _ other.0.1, ne_eqb _ _ other.1)
