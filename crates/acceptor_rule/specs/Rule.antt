-- An acceptor's cell, and how it obeys. Cell: round (fresh 0), vote round (fresh none), value (fresh null). A prepare or propose is obeyed when its round
-- is at least the cell's.
-- Assumes nothing.
use Rattle.std.specs.Prelude.{ℕ, Bool, ◌&&◌, Option, Some, None, Result, Ok, Err}
use Rattle.basics.specs.declared.Instance.{Instance}
use Rattle.basics.specs.declared.Refusal.{Refusal}
use Rattle.basics.specs.declared.Round.{Round}
use Rattle.basics.specs.declared.Value.{Value}
use Rattle.basics.specs.declared.Verdict.TheVariants.{ToLeader, ToLearners}
use Rattle.basics.specs.Ladder.{need◌or◌then◌}
use Rattle.basics.specs.Refusal.{refusal_number}
use Rattle.basics.specs.Rounds.{the_round, none, owned_or_0, at_most}
use Rattle.basics.specs.Values.{null}
use Rattle.basics.specs.Votes.{is_vote_up_to}
use Rattle.messages.specs.declared.Message.{Message}
use Rattle.messages.specs.declared.Message.TheVariants.{Promise, Vote}
use Rattle.messages.specs.Message.{when_prepare, when_propose}
use Rattle.player.specs.Step.{Ruling, refused, sends}
use Rattle.acceptor_rule.specs.declared.Cell.{Cell}
use Rattle.acceptor_rule.specs.declared.Order.{Order}
use Rattle.acceptor_rule.specs.declared.Asked.{Asked}
use Rattle.acceptor_rule.specs.declared.Asked.TheVariants as asked
use Rattle.acceptor_rule.specs.declared.Obeyed.{Obeyed}
use Rattle.acceptor_rule.specs.declared.Obeyed.TheVariants.{Promised, Voted}

abbrev pub cell : (round vote_round : Round) → Value → Cell
cell round vote_round value = record { round = round; vote_round = vote_round; value = value }

abbrev pub fresh_cell : Cell
fresh_cell = cell (the_round 0) none null

-- Possible: round owned or 0; vote round none with null value, or owned or 0 and at most the round.
unfoldable pub possible : Cell → Bool
possible c = owned_or_0 c.round && is_vote_up_to c.round c.vote_round c.value

abbrev pub order : Instance → Round → Asked → Order
order instance round asked = record { instance = instance; round = round; asked = asked }

-- What a message orders: a prepare asks for a promise, a propose for a vote, and no other kind orders anything.
unfoldable pub order_of : Message → Option Order
order_of m =
    when_prepare (λ instance round. Some (order instance round asked.Promise))
    (when_propose (λ instance round value. Some (order instance round (asked.Vote value))) None m) m

-- Prepare: the cell's round becomes the packet's; out goes a promise with the cell's vote round and value. The switch number sent is the acceptor's own.
abbrev pub promising : (own : ℕ) → Cell → Instance → Round → Ruling Cell
promising own c instance round =
    sends ToLeader (Promise own instance round c.vote_round c.value) (cell round c.vote_round c.value)

-- Propose: round and vote round become the packet's round, and the value its value; out goes a vote, with the own switch number likewise.
abbrev pub voting : (own : ℕ) → Instance → Round → Value → Ruling Cell
voting own instance round value = sends ToLearners (Vote own instance round value) (cell round round value)

unfoldable pub obeying : (own : ℕ) → Cell → Instance → Round → Asked → Ruling Cell
obeying own c instance round asked.Promise = promising own c instance round
obeying own c instance round (asked.Vote value) = voting own instance round value

-- Obeyed when its round is at least the cell's: 17, 10.
unfoldable pub obey : (own : ℕ) → Cell → Order → Ruling Cell
obey own c o =
    need possible c or refused 17 then
    need at_most c.round o.round or refused 10 then
    obeying own c o.instance o.round o.asked

-- What each answer of the code comes to.
abbrev pub ruling_of : Result Obeyed Refusal → Ruling Cell
ruling_of (Ok (Promised c m)) = sends ToLeader m c
ruling_of (Ok (Voted c m)) = sends ToLearners m c
ruling_of (Err refusal) = refused (refusal_number refusal)
