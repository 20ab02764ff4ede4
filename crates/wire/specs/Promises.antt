-- What is promised of packets: bytes and messages match one to one.
-- Assumes nothing.
use Rattle.std.specs.Prelude.{ℕ, ◌^◌, ◌≤◌, ◌<◌, ◌≡◌, List, ◌↔◌, length}
use Rattle.numbers.specs.BigEndian.{Bytes}
use Rattle.basics.specs.declared.Verdict.TheVariants.{Done}
use Rattle.basics.specs.Outcome.{outcome}
use Rattle.basics.specs.Verdict.{verdict_number}
use Rattle.messages.specs.declared.Fields.{Fields}
use Rattle.messages.specs.declared.Message.{Message}
use Rattle.messages.specs.Message.{fields_of}
use Rattle.wire.specs.Packet.{Read, packet_length, read_packet, Malformed, Kept, write_packet}

-- The numbers fit where they stand.
pub record InRange (f : Fields) : Type 0 where
  pub switch_fits : f.switch < 2 ^ 16
  pub instance_fits : f.instance.0 < 2 ^ 32
  pub round_fits : f.round.0 < 2 ^ 32
  pub vote_round_fits : f.vote_round.0 < 2 ^ 32
  pub high_fits : f.value.high < 2 ^ 64
  pub low_fits : f.value.low < 2 ^ 64

-- Writing a message and reading it back gives the message: what the writer took, over whatever bytes, is read as it.
abbrev pub WriteThenRead : Type 0
WriteThenRead = (m : Message) (over left : List ℕ) → InRange (fields_of m) → write_packet m over ≡ outcome (verdict_number Done) left → read_packet left ≡ Read m

-- Reading a packet and writing it back, over any 36 bytes, gives the bytes.
abbrev pub ReadThenWrite : Type 0
ReadThenWrite = (packet over : List ℕ) (m : Message) → Bytes packet → length over ≡ packet_length → read_packet packet ≡ Read m
    → write_packet m over ≡ outcome (verdict_number Done) packet

-- A packet has a reading exactly when it keeps the table.
abbrev pub ReadingIffKept : Type 0
ReadingIffKept = (packet : List ℕ) → ((m : Message) × (read_packet packet ≡ Read m)) ↔ Kept packet

-- Malformed means refused by 1 to 5.
abbrev pub MalformedNumbers : Type 0
MalformedNumbers = (packet : List ℕ) → (malformed : Malformed packet) → (1 ≤ malformed.number) × (malformed.number ≤ 5)
