-- Messages: what a packet that keeps the table says, without the fields that its row fixes; and one eliminator for each kind, so that what a player
-- does with its kind says nothing about the others.
-- Assumes nothing.
use Rattle.std.specs.Prelude.{ℕ, eqb}
use Rattle.basics.specs.declared.Instance.{Instance}
use Rattle.basics.specs.declared.Round.{Round}
use Rattle.basics.specs.declared.Value.{Value}
use Rattle.basics.specs.Ladder.{when◌then◌else◌}
use Rattle.basics.specs.Rounds.{the_instance, the_round, none, owner_of}
use Rattle.basics.specs.Values.{null}
use Rattle.messages.specs.declared.Fields.{Fields}
use Rattle.messages.specs.declared.Message.{Message}
use Rattle.messages.specs.declared.Message.TheVariants.{Request, Prepare, Promise, Propose, Vote}

abbrev pub fields : (kind switch : ℕ) → Instance → (round vote_round : Round) → Value → Fields
fields k s i r b v = record { kind = k; switch = s; instance = i; round = r; vote_round = b; value = v }

-- The message that fields are.
unfoldable pub message_of : Fields → Message
message_of f =
    when eqb f.kind 0 then Request f.switch f.value else
    when eqb f.kind 1 then Prepare f.instance f.round else
    when eqb f.kind 2 then Promise f.switch f.instance f.round f.vote_round f.value else
    when eqb f.kind 3 then Propose f.instance f.round f.value else
    Vote f.switch f.instance f.round f.value

-- The fields that a message is: what its row fixes is put back.
unfoldable pub fields_of : Message → Fields
fields_of (Request switch value) = fields 0 switch (the_instance 0) (the_round 0) none value
fields_of (Prepare instance round) = fields 1 (owner_of round) instance round none null
fields_of (Promise sender instance round vote_round value) = fields 2 sender instance round vote_round value
fields_of (Propose instance round value) = fields 3 (owner_of round) instance round none value
fields_of (Vote sender instance round value) = fields 4 sender instance round round value

module _ {A : Type 0} where
  unfoldable pub when_request : ((switch : ℕ) → Value → A) → A → Message → A
  when_request here other (Request switch value) = here switch value
  when_request here other (Prepare instance round) = other
  when_request here other (Promise sender instance round vote_round value) = other
  when_request here other (Propose instance round value) = other
  when_request here other (Vote sender instance round value) = other

  unfoldable pub when_prepare : (Instance → Round → A) → A → Message → A
  when_prepare here other (Request switch value) = other
  when_prepare here other (Prepare instance round) = here instance round
  when_prepare here other (Promise sender instance round vote_round value) = other
  when_prepare here other (Propose instance round value) = other
  when_prepare here other (Vote sender instance round value) = other

  unfoldable pub when_promise : ((sender : ℕ) → Instance → (round vote_round : Round) → Value → A) → A → Message → A
  when_promise here other (Request switch value) = other
  when_promise here other (Prepare instance round) = other
  when_promise here other (Promise sender instance round vote_round value) = here sender instance round vote_round value
  when_promise here other (Propose instance round value) = other
  when_promise here other (Vote sender instance round value) = other

  unfoldable pub when_propose : (Instance → Round → Value → A) → A → Message → A
  when_propose here other (Request switch value) = other
  when_propose here other (Prepare instance round) = other
  when_propose here other (Promise sender instance round vote_round value) = other
  when_propose here other (Propose instance round value) = here instance round value
  when_propose here other (Vote sender instance round value) = other

  unfoldable pub when_vote : ((sender : ℕ) → Instance → Round → Value → A) → A → Message → A
  when_vote here other (Request switch value) = other
  when_vote here other (Prepare instance round) = other
  when_vote here other (Promise sender instance round vote_round value) = other
  when_vote here other (Propose instance round value) = other
  when_vote here other (Vote sender instance round value) = here sender instance round value
