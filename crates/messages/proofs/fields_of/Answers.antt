-- `messages::fields_of` meets its contract: each arm knows which message it has.
-- Assumes nothing.
use mathlib.Core.Path.{sym, ap}
use Rattle.messages.specs.Message.{fields_of}
use Rattle.messages.proofs.fields_of.Goals as goal

pub returns-in-Request : goal.returns-in-Request
unfolding fields_of
returns-in-Request c = sym (ap fields_of c.in-Request.is)

pub returns-in-Prepare : goal.returns-in-Prepare
unfolding fields_of
returns-in-Prepare c = rw c.owner.ensures (sym (ap fields_of c.in-Prepare.is))

pub returns-in-Promise : goal.returns-in-Promise
unfolding fields_of
returns-in-Promise c = sym (ap fields_of c.in-Promise.is)

pub returns-in-Propose : goal.returns-in-Propose
unfolding fields_of
returns-in-Propose c = rw c.owner-in-Propose.ensures (sym (ap fields_of c.in-Propose.is))

pub returns-in-Vote : goal.returns-in-Vote
unfolding fields_of
returns-in-Vote c = sym (ap fields_of c.in-Vote.is)
