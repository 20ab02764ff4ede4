-- A step on a packet, said once for all players: the order of refusals 7, 1 to 5, 6, 8, and then the player's own rule at the instance's cell, which begins
-- with 9 and 17.
-- Assumes nothing.
use Rattle.std.specs.Prelude.{ℕ, Bool, List}
use Rattle.basics.specs.Places.{Place, At, Nowhere}
use Rattle.basics.specs.declared.Verdict.{Verdict}
use Rattle.basics.specs.Ladder.{need◌or◌then◌}
use Rattle.basics.specs.Verdict.{verdict_number}
use Rattle.basics.specs.Outcome.{Outcome, outcome, Lent, lent}
use Rattle.messages.specs.declared.Message.{Message}
use Rattle.wire.specs.Packet.{Reading, Read, Refused, read_packet, packet_of}

-- A refusal sends nothing and changes nothing.
abbrev pub unchanged : {Tables : Type 0} → List ℕ → Tables → (number : ℕ) → Outcome (Lent Tables)
unchanged packet tables number = outcome number (lent packet tables)

-- A player's ruling from a cell and a message: a refusal; or a verdict with the next cell, and a message to send in the packet's place, or
-- (hold: counted; decided) the packet unchanged.
pub data Ruling (Cell : Type 0) : Type 0 where
  refused : (number : ℕ) → Ruling Cell
  sends : Verdict → Message → Cell → Ruling Cell
  counts : Verdict → Cell → Ruling Cell

-- A player, with its settings and its own number, if it has one.
pub record Player (Tables Cell : Type 0) : Type 0 where
  -- M and N allowed, tables sized for N, own number allowed
  pub allowed : Tables → Bool
  -- refused by 6 if the message is of another kind than the player's
  pub place : Message → Place
  pub cell_at : Tables → (index : ℕ) → Cell
  pub with_cell : Tables → (index : ℕ) → Cell → Tables
  pub rule : Cell → Message → Ruling Cell

module _ {Tables : Type 0} (packet : List ℕ) (tables : Tables) where
  -- A packet is first read into a message or a refusal, whose number is passed on.
  unfoldable pub after_reading : Reading → (Message → Outcome (Lent Tables)) → Outcome (Lent Tables)
  after_reading (Read message) next = next message
  after_reading (Refused number) next = unchanged packet tables number

  unfoldable pub after_placing : Place → ((index : ℕ) → Outcome (Lent Tables)) → Outcome (Lent Tables)
  after_placing (At index) next = next index
  after_placing (Nowhere number) next = unchanged packet tables number

  unfoldable pub ruled : {Cell : Type 0} → (Cell → Tables) → Ruling Cell → Outcome (Lent Tables)
  ruled store (refused number) = unchanged packet tables number
  ruled store (sends verdict message cell) = outcome (verdict_number verdict) (lent (packet_of message) (store cell))
  ruled store (counts verdict cell) = outcome (verdict_number verdict) (lent packet (store cell))

module _ {Tables Cell : Type 0} (cell_at : Tables → (index : ℕ) → Cell) (with_cell : Tables → (index : ℕ) → Cell → Tables) (packet : List ℕ) (tables : Tables) where
  -- A rule at the cell of a place.
  unfoldable pub rule_at : Place → (rule : Cell → Ruling Cell) → Outcome (Lent Tables)
  rule_at place rule = after_placing packet tables place λ index. ruled packet tables (with_cell tables index) (rule (cell_at tables index))

module _ {Tables Cell : Type 0} (player : Player Tables Cell) (packet : List ℕ) (tables : Tables) where
  -- The player's rule at the cell of a message.
  unfoldable pub act : Message → Outcome (Lent Tables)
  act message = rule_at player.cell_at player.with_cell packet tables (player.place message) λ cell. player.rule cell message

  unfoldable pub step : Outcome (Lent Tables)
  step =
      need player.allowed tables or unchanged packet tables 7 then
      after_reading packet tables (read_packet packet) act
