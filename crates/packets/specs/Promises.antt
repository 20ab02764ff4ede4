-- What is promised of the two calls: each undoes the other, they answer their numbers alone, and a refusal writes nothing.
-- Assumes nothing.
use Rattle.std.specs.Prelude.{ℕ, ◌^◌, ◌<◌, ◌≡◌, false, List, [], ◌∷◌, length}
use Rattle.numbers.specs.BigEndian.{Bytes}
use Rattle.basics.specs.declared.Verdict.TheVariants.{Done}
use Rattle.basics.specs.Outcome.{outcome}
use Rattle.basics.specs.Verdict.{verdict_number, is_verdict}
use Rattle.messages.specs.declared.Fields.{Fields}
use Rattle.wire.specs.Packet.{packet_length, fields_in, Kept}
use Rattle.player.specs.Promises.{OneOf}
use Rattle.packets.specs.Packets.{packet_write, packet_read}

-- The numbers that C gives fit their widths. Of the type and the switch number nothing is asked: the writer judges them.
pub record Fitting (f : Fields) : Type 0 where
  pub instance_fits : f.instance.0 < 2 ^ 32
  pub round_fits : f.round.0 < 2 ^ 32
  pub vote_round_fits : f.vote_round.0 < 2 ^ 32
  pub high_fits : f.value.high < 2 ^ 64
  pub low_fits : f.value.low < 2 ^ 64

-- ---- there and back

-- What the writer took, over whatever bytes, is read as the same fields, over whatever numbers are lent.
abbrev pub WriteThenRead : Type 0
WriteThenRead = (f before : Fields) (over left : List ℕ) → Fitting f → packet_write f over ≡ outcome (verdict_number Done) left
    → packet_read left before ≡ outcome (verdict_number Done) f

-- What the reader read, written over any 36 bytes, gives the bytes.
abbrev pub ReadThenWrite : Type 0
ReadThenWrite = (packet over : List ℕ) (f before : Fields) → Bytes packet → length over ≡ packet_length → packet_read packet before ≡ outcome (verdict_number Done) f
    → packet_write f over ≡ outcome (verdict_number Done) packet

-- ---- the calls

abbrev pub write_numbers : List ℕ
write_numbers = 1 ∷ 4 ∷ 5 ∷ verdict_number Done ∷ []

abbrev pub read_numbers : List ℕ
read_numbers = 1 ∷ 2 ∷ 3 ∷ 4 ∷ 5 ∷ verdict_number Done ∷ []

-- Of writing, whatever the fields and the packet.
pub record WritePromises (f : Fields) (packet : List ℕ) : Type 0 where
  pub numbers_are : OneOf (packet_write f packet).answer write_numbers
  pub refusal_keeps_all : is_verdict (packet_write f packet).answer ≡ false → (packet_write f packet).left ≡ packet
  -- What is written keeps the packet table.
  pub done_keeps : Fitting f → (packet_write f packet).answer ≡ verdict_number Done → Kept (packet_write f packet).left

-- Of reading, whatever the packet and the numbers lent.
pub record ReadPromises (packet : List ℕ) (before : Fields) : Type 0 where
  pub numbers_are : OneOf (packet_read packet before).answer read_numbers
  pub refusal_keeps_all : is_verdict (packet_read packet before).answer ≡ false → (packet_read packet before).left ≡ before
  -- Only of a packet that keeps the table, and the fields as they stand there.
  pub done_keeps : (packet_read packet before).answer ≡ verdict_number Done → Kept packet
  pub done_tells : (packet_read packet before).answer ≡ verdict_number Done → (packet_read packet before).left ≡ fields_in packet
