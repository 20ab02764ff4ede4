-- The two calls by which a host writes and reads packets. The fields are numbers of their own, the type and the switch number wider than they stand in the packet.
-- Assumes nothing.
use Rattle.std.specs.Prelude.{ℕ, List, eqb, leb, length}
use Rattle.basics.specs.declared.Verdict.TheVariants.{Done}
use Rattle.basics.specs.Ladder.{need◌or◌then◌}
use Rattle.basics.specs.Outcome.{Outcome, outcome}
use Rattle.basics.specs.Rounds.{the_instance, the_round}
use Rattle.basics.specs.Values.{the_value}
use Rattle.basics.specs.Verdict.{verdict_number}
use Rattle.messages.specs.declared.Fields.{Fields}
use Rattle.messages.specs.Message.{fields, fields_of}
use Rattle.messages.specs.Table.{keeps_table}
use Rattle.wire.specs.Packet.{Reading, Read, Refused, packet_length, read_packet, packet_with}

-- The fields as a host gives and gets them, a number each.
abbrev pub numbered : (kind switch instance round vote_round high low : ℕ) → Fields
numbered kind switch instance round vote_round high low = fields kind switch (the_instance instance) (the_round round) (the_round vote_round) (the_value high low)

-- The largest number of the 2 bytes in which a switch number stands.
abbrev pub last_switch : ℕ
last_switch = 65535

-- Writing: 1 (packet not 36 bytes), 4 (type above 4), 5 (a switch number that has no room, of a request too), 5 (the table, of all fields as they are given).
unfoldable pub packet_write : Fields → (packet : List ℕ) → Outcome (List ℕ)
packet_write f p =
    need eqb (length p) packet_length or outcome 1 p then
    need leb f.kind 4 or outcome 4 p then
    need leb f.switch last_switch or outcome 5 p then
    need keeps_table f or outcome 5 p then
    outcome (verdict_number Done) (packet_with f)

-- What a reading leaves of the fields that were lent to be overwritten: only those of a message are written.
unfoldable pub fields_read : (before : Fields) → Reading → Outcome Fields
fields_read before (Read m) = outcome (verdict_number Done) (fields_of m)
fields_read before (Refused number) = outcome number before

-- Reading: 1 to 5, as for every packet.
unfoldable pub packet_read : (packet : List ℕ) → (before : Fields) → Outcome Fields
packet_read p before = fields_read before (read_packet p)
