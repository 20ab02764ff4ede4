-- The packet: 36 bytes, big-endian. Bytes 0-2 mark "RDE"; 3 type; 4-5 version, 1; 6-7 switch number; 8-11 instance; 12-15 round; 16-19 vote round;
-- 20-35 value.
-- Assumes nothing.
use Rattle.std.specs.Prelude.{ℕ, Result, Ok, Err, ◌≡◌, List, [], ◌∷◌, ◌++◌, Bool, true, ◌&&◌, eqb, leb, length, get_or}
use Rattle.numbers.specs.BigEndian.{number_at, to_bytes}
use Rattle.basics.specs.Ladder.{when◌then◌else◌, need◌or◌then◌}
use Rattle.basics.specs.declared.Refusal.{Refusal}
use Rattle.basics.specs.Refusal.{refusal_number}
use Rattle.basics.specs.Rounds.{the_instance, the_round}
use Rattle.basics.specs.declared.Verdict.TheVariants.{Done}
use Rattle.basics.specs.Verdict.{verdict_number}
use Rattle.basics.specs.Outcome.{Outcome, outcome}
use Rattle.messages.specs.declared.Fields.{Fields}
use Rattle.messages.specs.declared.Message.{Message}
use Rattle.messages.specs.Table.{keeps_table}
use Rattle.messages.specs.Message.{fields, message_of, fields_of}

abbrev pub packet_length : ℕ
packet_length = 36

abbrev pub version : ℕ
version = 1

-- Bytes 0 to 2 are "RDE".
abbrev pub marked : List ℕ → Bool
marked p = eqb (get_or p 0 0) 82 && eqb (get_or p 1 0) 68 && eqb (get_or p 2 0) 69

-- The fields where they stand.
unfoldable pub fields_in : List ℕ → Fields
fields_in p =
    fields (get_or p 3 0) (number_at p 6 2) (the_instance (number_at p 8 4)) (the_round (number_at p 12 4)) (the_round (number_at p 16 4))
    (record { high = number_at p 20 8; low = number_at p 28 8 })

-- A packet is first read into a message or a refusal.
pub data Reading : Type 0 where
  Read : Message → Reading
  Refused : (number : ℕ) → Reading

unfoldable pub read_packet : List ℕ → Reading
read_packet p =
    need eqb (length p) packet_length or Refused 1 then
    need marked p or Refused 2 then
    need eqb (number_at p 4 2) version or Refused 3 then
    need leb (get_or p 3 0) 4 or Refused 4 then
    need keeps_table (fields_in p) or Refused 5 then
    Read (message_of (fields_in p))

-- A reading's refusal number; 0 where it has a message.
abbrev pub refusal_of : Reading → ℕ
refusal_of (Read m) = 0
refusal_of (Refused number) = number

-- What each answer of the code comes to.
abbrev pub reading_of : Result Message Refusal → Reading
reading_of (Ok m) = Read m
reading_of (Err refusal) = Refused (refusal_number refusal)

-- Malformed means refused by 1 to 5, that is, by the reader.
pub record Malformed (p : List ℕ) : Type 0 where
  pub number : ℕ
  pub refuses : read_packet p ≡ Refused number

-- A packet that keeps the table: length, mark, version and row.
pub record Kept (p : List ℕ) : Type 0 where
  pub long : length p ≡ packet_length
  pub mark : marked p ≡ true
  pub versioned : number_at p 4 2 ≡ version
  pub table : keeps_table (fields_in p) ≡ true

-- The 36 bytes of fields.
unfoldable pub packet_with : Fields → List ℕ
packet_with f =
    (82 ∷ 68 ∷ 69 ∷ f.kind ∷ []) ++ to_bytes 2 version ++ to_bytes 2 f.switch ++ to_bytes 4 f.instance.0 ++ to_bytes 4 f.round.0
    ++ to_bytes 4 f.vote_round.0 ++ to_bytes 8 f.value.high ++ to_bytes 8 f.value.low

-- The 36 bytes of a message.
unfoldable pub packet_of : Message → List ℕ
packet_of m = packet_with (fields_of m)

-- What 36 bytes hold once a message is put in their place; a packet of another length stays as it was.
unfoldable pub with_message : List ℕ → Message → List ℕ
with_message p m = when eqb (length p) packet_length then packet_of m else p

-- What writing answers, and what the packet holds then: refused by 1 where the packet has another length, by 5 where the fields break the table.
unfoldable pub write_fields : Fields → List ℕ → Outcome (List ℕ)
write_fields f p =
    need eqb (length p) packet_length or outcome 1 p then
    need keeps_table f or outcome 5 p then
    outcome (verdict_number Done) (packet_with f)

-- A message is written as its fields.
unfoldable pub write_packet : Message → List ℕ → Outcome (List ℕ)
write_packet m = write_fields (fields_of m)
