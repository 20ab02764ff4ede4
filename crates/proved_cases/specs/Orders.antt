-- The orders of refusal as one table: for each call, and each two neighbours in its order, an input that has both faults and is answered by the earlier number.
-- N = 8, all cells of a table are alike, values are null and packets are for instance 0 unless said. No input has both of 8 and 17, since an instance not
-- below N has no cell, nor both of the primary's 17 and 12, nor of the learner's 10 and 13: there each of the two has a row with the number before them, and
-- with the one behind. Nor has any both of the ledger's 34 and a number behind it, since of an unknown pass there is nothing to compare. Where M is 7, 9 is
-- never given, since sender 7 breaks the packet table. The players' calls on frames have rows up to the packet's 2 and 3: from there on their orders are the
-- packet's.
-- Assumes nothing.
use Rattle.std.specs.Prelude.{ℕ, ◌≡◌, List, [], ◌∷◌, ◌++◌, map, set, replicate}
use Rattle.basics.specs.declared.Value.{Value}
use Rattle.basics.specs.Rounds.{the_instance, the_round, none}
use Rattle.basics.specs.Values.{the_value, null}
use Rattle.messages.specs.declared.Message.TheVariants.{Request, Prepare, Promise, Propose, Vote}
use Rattle.wire.specs.Packet.{packet_of}
use Rattle.packets.specs.Packets.{numbered, packet_write, packet_read}
use Rattle.frames.specs.Frame.{frame_check, sealed, frame_seal}
use Rattle.framing.specs.Framing.{addressed, frame_prepare}
use Rattle.quorum.specs.Settings.{settings}
use Rattle.primary_rule.specs.Rule as primary_rule
use Rattle.primary.specs.Primary.{primary_step, primary_request}
use Rattle.primary_port.specs.Port.{primary_frame}
use Rattle.acceptor_tables.specs.Tables as acceptors
use Rattle.acceptor.specs.Acceptor.{acceptor_step}
use Rattle.acceptor_port.specs.Port.{acceptor_frame}
use Rattle.backup_tables.specs.Tables as backups
use Rattle.backup.specs.Backup.{backup_step, backup_start}
use Rattle.backup_port.specs.Port.{backup_frame}
use Rattle.learner_tables.specs.Tables as learners
use Rattle.learner.specs.Learner.{learner_step, answer_for, answered}
use Rattle.learner_port.specs.Port.{learner_frame}
use Rattle.learner_delivery.specs.Delivery.{deliver}
use Rattle.learner_holes.specs.Holes as holes
use Rattle.learner_saved.specs.Saved.{save, read_saved}
use Rattle.columns.specs.Walks.{cells_from}
use Rattle.entries.specs.Entry.{fields, field_bytes}
use Rattle.passes.specs.Passes as passes
use Rattle.ledger.specs.Ledger.{enter}
use Rattle.proved_cases.specs.Frames.{ethernet, ipv4}

-- A row: what a call answers, and the number that the paper gives.
pub record Row : Type 0 where
  pub answer : ℕ
  pub number : ℕ

infix 80 ◌gives◌
abbrev ◌gives◌ : (answer number : ℕ) → Row
answer gives number = record { answer = answer; number = number }

-- ---- packets

abbrev v : Value
v = the_value 0 0x2a

abbrev request : List ℕ
request = packet_of (Request 9 v)

abbrev prepare : List ℕ
prepare = packet_of (Prepare (the_instance 0) (the_round 1))

abbrev promise : (sender instance round : ℕ) → List ℕ
promise sender instance round = packet_of (Promise sender (the_instance instance) (the_round round) none null)

abbrev propose : (instance round : ℕ) → List ℕ
propose instance round = packet_of (Propose (the_instance instance) (the_round round) null)

abbrev vote : (sender instance round : ℕ) → Value → List ℕ
vote sender instance round value = packet_of (Vote sender (the_instance instance) (the_round round) value)

-- All that take a packet begin alike. The packet is one that the player takes, the other one is of another kind.
abbrev reading : (step : (M : ℕ) → (packet : List ℕ) → ℕ) → (M : ℕ) → (packet other : List ℕ) → List Row
reading step M packet other =
    -- 7 before 1: M is 4, 37 bytes
    step 4 (0 ∷ packet) gives 7
    -- 1 before 2: 37 bytes, the mark from the second on
    ∷ step M (0 ∷ packet) gives 1
    -- 2 before 3: another mark, version 2
    ∷ step M (set (set packet 0 0) 5 2) gives 2
    -- 3 before 4: version 2, type 5
    ∷ step M (set (set packet 5 2) 3 5) gives 3
    -- 4 before 5: type 5, round 4, which is nobody's
    ∷ step M (set (set packet 3 5) 15 4) gives 4
    -- 5 before 6: another kind, in round 4
    ∷ step M (set other 15 4) gives 5
    ∷ []

-- ---- primary: 7, 1 to 5, 6, 17, 12

abbrev primary_order : (step : (next M : ℕ) → (packet : List ℕ) → ℕ) → List Row
primary_order step =
    reading (step 0) 3 request (vote 0 0 0 null) ++
    -- 6 before 17: another kind, next above N
    step 9 3 (vote 0 0 0 null) gives 6
    -- 6 before 12: another kind, next equals N
    ∷ step 8 5 (vote 0 0 0 null) gives 6
    -- 17 and not 12: next above N
    ∷ step 9 7 request gives 17
    -- 12 and not 17: next equals N
    ∷ step 8 7 request gives 12
    ∷ []

abbrev by_slice : (next M : ℕ) → (packet : List ℕ) → ℕ
by_slice next M packet = (primary_step (settings M 8) packet (next ∷ [])).answer

abbrev by_reference : (next M : ℕ) → (packet : List ℕ) → ℕ
by_reference next M packet = (primary_request (settings M 8) packet (primary_rule.cell (the_instance next))).answer

-- ---- acceptor: 7, 1 to 5, 6, 8, 17, 10

abbrev acceptor : (round vote_round M : ℕ) → (packet : List ℕ) → ℕ
acceptor round vote_round M packet = (acceptor_step (settings M 8) 0 packet (acceptors.tables (replicate 8 round) (replicate 8 vote_round) (replicate 16 0))).answer

abbrev acceptor_order : List Row
acceptor_order =
    reading (acceptor 0 0) 5 (propose 0 0) (vote 0 0 0 null) ++
    -- 6 before 8: a vote, instance 8
    acceptor 0 0 3 (vote 0 8 0 null) gives 6
    -- 6 before 17: a vote, a vote round above the round
    ∷ acceptor 1 5 5 (vote 0 0 0 null) gives 6
    -- 8 before 17: instance 8, a vote round above the round
    ∷ acceptor 1 5 5 (propose 8 1) gives 8
    -- 8 before 10: instance 8, a round below
    ∷ acceptor 5 1 7 (propose 8 1) gives 8
    -- 17 before 10: a vote round above the round, a round below
    ∷ acceptor 5 9 7 (propose 0 1) gives 17
    -- 10: a round below
    ∷ acceptor 5 1 3 (propose 0 1) gives 10
    ∷ []

-- ---- backup 1: 7, 1 to 5, 6, 8, 9, 17, 11, 15

-- In round 1, with no vote told of.
abbrev backup_tables : (phase set : ℕ) → backups.Tables
backup_tables phase set =
    backups.tables (replicate 8 1) (replicate 8 phase) (replicate 8 set) (replicate 8 none.0) (replicate 16 0) (replicate 16 0)

abbrev backup : (phase set M : ℕ) → (packet : List ℕ) → ℕ
backup phase set M packet = (backup_step (settings M 8) 1 packet (backup_tables phase set)).answer

abbrev backup_order : List Row
backup_order =
    reading (backup 1 0) 7 (promise 0 0 1) (vote 0 0 0 null) ++
    -- 6 before 8: a vote, instance 8
    backup 1 0 3 (vote 0 8 0 null) gives 6
    -- 6 before 17: a vote, phase 3
    ∷ backup 3 0 7 (vote 0 0 0 null) gives 6
    -- 8 before 9: instance 8, sender M
    ∷ backup 1 0 3 (promise 3 8 1) gives 8
    ∷ backup 1 0 5 (promise 5 8 1) gives 8
    -- 9 before 17: sender M, phase 3
    ∷ backup 3 0 3 (promise 3 0 1) gives 9
    ∷ backup 3 0 5 (promise 5 0 1) gives 9
    -- 8 before 17: instance 8, phase 3
    ∷ backup 3 0 7 (promise 6 8 1) gives 8
    -- 5 and not 9: M is 7, sender 7
    ∷ backup 3 0 7 (promise 7 8 1) gives 5
    -- 17 before 11: asking with majority, another round
    ∷ backup 1 3 3 (promise 2 0 5) gives 17
    ∷ backup 1 7 5 (promise 4 0 5) gives 17
    ∷ backup 1 15 7 (promise 6 0 5) gives 17
    -- 17 before 11: not asking, phase 3
    ∷ backup 3 1 3 (promise 2 0 1) gives 17
    -- 11 before 15: another round, sender in the set
    ∷ backup 1 1 3 (promise 0 0 5) gives 11
    ∷ backup 1 3 5 (promise 1 0 5) gives 11
    ∷ backup 1 7 7 (promise 2 0 5) gives 11
    -- 11 before 15: proposed, sender in the set
    ∷ backup 2 3 3 (promise 0 0 1) gives 11
    ∷ backup 2 7 5 (promise 1 0 1) gives 11
    ∷ backup 2 15 7 (promise 2 0 1) gives 11
    -- 15: sender in the set
    ∷ backup 1 7 7 (promise 2 0 1) gives 15
    ∷ []

-- ---- a start of backup 1: 7, 1, 8, 17, 16

abbrev start : (phase M instance floor length : ℕ) → ℕ
start phase M instance floor length = (backup_start (settings M 8) 1 (the_instance instance) floor null (replicate length 0) (backup_tables phase 0)).answer

abbrev start_order : List Row
start_order =
    -- 7 before 1: M is 4, 35 bytes
    start 1 4 0 0 35 gives 7
    -- 1 before 8: 35 bytes, instance 8
    ∷ start 1 3 8 0 35 gives 1
    -- 1 before 17: 35 bytes, phase 3
    ∷ start 3 5 0 0 35 gives 1
    -- 8 before 17: instance 8, phase 3
    ∷ start 3 5 8 0 36 gives 8
    -- 8 before 16: instance 8, no round above the floor
    ∷ start 1 7 8 4_294_967_295 36 gives 8
    -- 17 before 16: phase 3, no round above the floor
    ∷ start 3 7 0 4_294_967_295 36 gives 17
    -- 16: no round above the floor
    ∷ start 1 7 0 4_294_967_295 36 gives 16
    ∷ []

-- ---- learner: 7, 1 to 5, 6, 8, 9, 17, 14, 10, 13, 15

-- In round 5; without voters it is impossible.
abbrev learner_tables : (set : ℕ) → learners.Tables
learner_tables set = learners.tables (replicate 8 5) (replicate 8 set) (replicate 16 0)

abbrev learner : (set M : ℕ) → (packet : List ℕ) → ℕ
learner set M packet = (learner_step (settings M 8) packet (learner_tables set)).answer

abbrev learner_order : List Row
learner_order =
    reading (learner 1) 3 (vote 1 0 5 null) (promise 1 0 5) ++
    -- 6 before 8: a promise, instance 8
    learner 1 5 (promise 1 8 5) gives 6
    -- 6 before 17: a promise, no voters
    ∷ learner 0 7 (promise 1 0 5) gives 6
    -- 8 before 9: instance 8, sender M
    ∷ learner 1 3 (vote 3 8 5 null) gives 8
    ∷ learner 1 5 (vote 5 8 5 null) gives 8
    -- 9 before 17: sender M, no voters
    ∷ learner 0 3 (vote 3 0 5 null) gives 9
    ∷ learner 0 5 (vote 5 0 5 null) gives 9
    -- 8 before 17: instance 8, no voters
    ∷ learner 0 7 (vote 6 8 5 null) gives 8
    -- 5 and not 9: M is 7, sender 7
    ∷ learner 0 7 (vote 7 8 5 null) gives 5
    -- 17 before 14: more voters than majority
    ∷ learner 7 3 (vote 0 0 5 null) gives 17
    ∷ learner 15 5 (vote 0 0 5 null) gives 17
    ∷ learner 31 7 (vote 0 0 5 null) gives 17
    -- 14 before 10: decided, a round below
    ∷ learner 3 3 (vote 2 0 1 null) gives 14
    ∷ learner 7 5 (vote 4 0 1 null) gives 14
    ∷ learner 15 7 (vote 6 0 1 null) gives 14
    -- 14 before 13: decided, another value
    ∷ learner 3 3 (vote 2 0 5 v) gives 14
    ∷ learner 7 5 (vote 4 0 5 v) gives 14
    ∷ learner 15 7 (vote 6 0 5 v) gives 14
    -- 10 and not 13: a round below, another value
    ∷ learner 1 3 (vote 2 0 1 v) gives 10
    -- 13 and not 10: the same round, another value
    ∷ learner 1 3 (vote 2 0 5 v) gives 13
    -- 10 before 15: a round below, sender in the set
    ∷ learner 1 3 (vote 0 0 1 null) gives 10
    ∷ learner 3 5 (vote 1 0 1 null) gives 10
    ∷ learner 7 7 (vote 2 0 1 null) gives 10
    -- 13 before 15: another value, sender in the set
    ∷ learner 1 3 (vote 0 0 5 v) gives 13
    ∷ learner 3 5 (vote 1 0 5 v) gives 13
    ∷ learner 7 7 (vote 2 0 5 v) gives 13
    -- 15: sender in the set
    ∷ learner 7 7 (vote 2 0 5 null) gives 15
    ∷ []

-- ---- answer for an instance: 7, 8, 17

abbrev answer : (set M instance : ℕ) → ℕ
answer set M instance = (answered null (answer_for (settings M 8) (the_instance instance) (learner_tables set))).answer

abbrev answer_order : List Row
answer_order =
    -- 7 before 8: M is 4, instance 8
    answer 1 4 8 gives 7
    -- 7 before 17: M is 4, no voters
    ∷ answer 0 4 0 gives 7
    -- 8 before 17: instance 8, no voters
    ∷ answer 0 5 8 gives 8
    -- 17: no voters
    ∷ answer 0 7 0 gives 17
    ∷ []

-- ---- delivery: 7, 1, 17; holes: 7, 17; saving: 7, 1, 17

abbrev delivery : (set M length : ℕ) → ℕ
delivery set M length = (deliver (settings M 8) (learner_tables set) (replicate length 0) 0).answer

abbrev hole : (set M : ℕ) → ℕ
hole set M = (holes.answered 0 (holes.find_hole (settings M 8) (learner_tables set))).answer

abbrev saving : (set M length : ℕ) → ℕ
saving set M length = (save (settings M 8) (replicate length 0) (learner_tables set)).answer

abbrev walk_orders : List Row
walk_orders =
    -- delivery, 7 before 1: M is 4, 127 bytes
    delivery 1 4 127 gives 7
    -- delivery, 1 before 17: 127 bytes, no voters
    ∷ delivery 0 5 127 gives 1
    -- delivery, 17: no voters
    ∷ delivery 0 7 128 gives 17
    -- holes, 7 before 17: M is 4, no voters
    ∷ hole 0 4 gives 7
    -- holes, 17: no voters
    ∷ hole 0 5 gives 17
    -- saving, 7 before 1: M is 4, 175 bytes
    ∷ saving 1 4 175 gives 7
    -- saving, 1 before 17: 175 bytes, no voters
    ∷ saving 0 5 175 gives 1
    -- saving, 17: no voters
    ∷ saving 0 7 176 gives 17
    ∷ []

-- ---- reading a saved table: 7 for the lent table, 1 if under 8 bytes, 2, 3, 7, 1 for the whole length, 17

-- A header for M = 5 and N = 8, and cells of round 0 without voters.
abbrev saved : List ℕ
saved = 82 ∷ 68 ∷ 84 ∷ 0 ∷ 1 ∷ 5 ∷ 0 ∷ 8 ∷ replicate 168 0

abbrev reading_back : (M : ℕ) → (saved : List ℕ) → ℕ
reading_back M saved = (read_saved (settings M 8) saved (learner_tables 1)).answer

abbrev reading_back_order : List Row
reading_back_order =
    -- 7 before 1: M is 4, 7 bytes
    reading_back 4 (replicate 7 0) gives 7
    -- 1 before 2: 7 bytes, another mark
    ∷ reading_back 5 (replicate 7 0) gives 1
    -- 2 before 3: another mark, version 2
    ∷ reading_back 5 (set (set saved 0 0) 4 2) gives 2
    -- 3 before 7: version 2, M saved is 7
    ∷ reading_back 5 (set (set saved 4 2) 5 7) gives 3
    -- 7 before 1: M saved is 7, 177 bytes
    ∷ reading_back 5 (set saved 5 7 ++ 0 ∷ []) gives 7
    -- 7 before 1: N saved is 9, 177 bytes
    ∷ reading_back 5 (set saved 7 9 ++ 0 ∷ []) gives 7
    -- 1 before 17: 177 bytes, no voters
    ∷ reading_back 5 (saved ++ 0 ∷ []) gives 1
    -- 17: no voters
    ∷ reading_back 5 saved gives 17
    ∷ []

-- ---- writing a packet: 1, 4, 5

-- Of value v, over so many zeros.
abbrev writing : (kind switch round length : ℕ) → ℕ
writing kind switch round length = (packet_write (numbered kind switch 0 round none.0 0 0x2a) (replicate length 0)).answer

abbrev writing_order : List Row
writing_order =
    -- 1 before 4: 35 bytes, type 5
    writing 5 9 0 35 gives 1
    -- 1 before 5: 37 bytes, switch number 65,536
    ∷ writing 0 65536 0 37 gives 1
    -- 4 before 5: type 5, switch number 65,536
    ∷ writing 5 65536 0 36 gives 4
    -- 4 before 5: type 256, a round that a request has not
    ∷ writing 256 9 1 36 gives 4
    -- 5: a request's switch number 65,536
    ∷ writing 0 65536 0 36 gives 5
    -- 5: a round that a request has not
    ∷ writing 0 9 1 36 gives 5
    ∷ []

-- ---- reading a packet: 1 to 5

abbrev reading_into : (packet : List ℕ) → ℕ
reading_into packet = (packet_read packet (numbered 11 12 13 14 15 16 17)).answer

abbrev reading_into_order : List Row
reading_into_order =
    -- 1 before 2: 37 bytes, the mark from the second on
    reading_into (0 ∷ request) gives 1
    -- 2 before 3: another mark, version 2
    ∷ reading_into (set (set request 0 0) 5 2) gives 2
    -- 3 before 4: version 2, type 5
    ∷ reading_into (set (set request 5 2) 3 5) gives 3
    -- 4 before 5: type 5, round 4, which is nobody's
    ∷ reading_into (set (set request 3 5) 15 4) gives 4
    -- 5: round 4, which is nobody's
    ∷ reading_into (set request 15 4) gives 5
    ∷ []

-- ---- frames: 21 to 25

-- From 192.0.2.1:40001 to 192.0.2.10:47036, both checksums right whatever the packet says.
abbrev frame_with : (packet : List ℕ) → List ℕ
frame_with packet = sealed (ethernet ++ ipv4 ++ 0x9c ∷ 0x41 ∷ 0xb7 ∷ 0xbc ∷ 0x00 ∷ 0x2c ∷ 0x00 ∷ 0x00 ∷ packet)

-- All that judge a frame do it alike. A byte that is changed alone leaves the checksum over it wrong.
abbrev judging : (call : (frame : List ℕ) → ℕ) → (frame : List ℕ) → List Row
judging call frame =
    -- 21 before 22: 79 bytes, the EtherType from the second on
    call (0 ∷ frame) gives 21
    -- 22 before 23: total length 65, and so another IPv4 checksum
    ∷ call (set frame 17 65) gives 22
    -- 23 before 24: another IPv4 checksum, another port
    ∷ call (set (set frame 25 0) 37 0) gives 23
    -- 24 before 25: another port, and so another UDP checksum
    ∷ call (set frame 37 0) gives 24
    -- 24 before 25: UDP length 45, and so another UDP checksum
    ∷ call (set frame 39 45) gives 24
    -- 25 before 2: another mark, and so another UDP checksum
    ∷ call (set frame 42 0) gives 25
    ∷ []

-- ---- checking a frame: 21 to 25; sealing: 21, 22, 24

abbrev checking : (frame : List ℕ) → ℕ
checking frame = frame_check 47036 frame

abbrev sealing : (frame : List ℕ) → ℕ
sealing frame = (frame_seal frame).answer

abbrev sealing_order : List Row
sealing_order =
    -- 21 before 22: 79 bytes, the EtherType from the second on
    sealing (0 ∷ frame_with request) gives 21
    -- 22 before 24: another EtherType, UDP length 45
    ∷ sealing (set (set (frame_with request) 13 1) 39 45) gives 22
    -- 24: UDP length 45
    ∷ sealing (set (frame_with request) 39 45) gives 24
    ∷ []

-- ---- framing a prepare: 1 to 5, 6, 21

-- Into 77 bytes, which is a fault of every row.
abbrev framing : (packet : List ℕ) → ℕ
framing packet = (frame_prepare (addressed (replicate 6 0) (replicate 6 0) 0 0 0 0) packet (replicate 77 0)).answer

abbrev framing_order : List Row
framing_order =
    -- 1 before 2: 37 bytes, the mark from the second on
    framing (0 ∷ prepare) gives 1
    -- 2 before 3: another mark, version 2
    ∷ framing (set (set prepare 0 0) 5 2) gives 2
    -- 3 before 4: version 2, type 5
    ∷ framing (set (set prepare 5 2) 3 5) gives 3
    -- 4 before 5: type 5, round 4, which is nobody's
    ∷ framing (set (set prepare 3 5) 15 4) gives 4
    -- 5 before 6: another kind, in round 4
    ∷ framing (set request 15 4) gives 5
    -- 6 before 21: another kind
    ∷ framing request gives 6
    -- 21: 77 bytes
    ∷ framing prepare gives 21
    ∷ []

-- ---- the players' calls on frames: 7, 21 to 25, then 2 on

abbrev on_frames : (step : (M : ℕ) → (frame : List ℕ) → ℕ) → (packet : List ℕ) → List Row
on_frames step packet =
    -- 7 before 21: M is 4, 79 bytes
    step 4 (0 ∷ frame_with packet) gives 7
    ∷ judging (step 3) (frame_with packet) ++
    -- 2 before 3: another mark, version 2
    step 3 (frame_with (set (set packet 0 0) 5 2)) gives 2
    ∷ []

abbrev to_primary : (M : ℕ) → (frame : List ℕ) → ℕ
to_primary M frame = (primary_frame (settings M 8) 47036 frame (0 ∷ [])).answer

abbrev to_acceptor : (M : ℕ) → (frame : List ℕ) → ℕ
to_acceptor M frame = (acceptor_frame (settings M 8) 0 47036 frame (acceptors.tables (replicate 8 0) (replicate 8 0) (replicate 16 0))).answer

abbrev to_backup : (M : ℕ) → (frame : List ℕ) → ℕ
to_backup M frame = (backup_frame (settings M 8) 1 47036 frame (backup_tables 1 0)).answer

abbrev to_learner : (M : ℕ) → (frame : List ℕ) → ℕ
to_learner M frame = (learner_frame (settings M 8) 47036 frame (learner_tables 1)).answer

-- ---- entering a value in a ledger: 30; null is skipped; 31; of a sale 32, 33; of a boarding 34, 35, 36, 37

-- The passes 0, 1, .. in use, so many, each with so many rides left, last day 300 and last scan 5.
abbrev entering : (count rides_left : ℕ) → (value : List ℕ) → ℕ
entering count rides_left value =
    (enter value (passes.table (passes.columns (cells_from (λ place. place) 0 256) (replicate 256 rides_left) (replicate 256 300) (replicate 256 5)) count)).answer

abbrev sale : (rides pass : ℕ) → List ℕ
sale rides pass = field_bytes (fields 1 rides pass 300 0 0)

abbrev boarding : (rides pass day scan : ℕ) → List ℕ
boarding rides pass day scan = field_bytes (fields 2 rides pass day scan 0)

abbrev entering_order : List Row
entering_order =
    -- 30 before null: 41 rides left, null
    entering 1 41 (replicate 16 0) gives 30
    -- 30 before 31: 41 rides left, 17 bytes
    ∷ entering 1 41 (replicate 17 0) gives 30
    -- null before 31: kind 0
    ∷ entering 1 0 (replicate 16 0) gives 111
    -- 31 before 32: 41 rides, a known pass
    ∷ entering 1 0 (sale 41 0) gives 31
    -- 32 before 33: a known pass, 256 in use
    ∷ entering 256 0 (sale 1 255) gives 32
    -- 33: an unknown pass, 256 in use
    ∷ entering 256 0 (sale 1 256) gives 33
    -- 31 before 34: a boarding with rides 1, an unknown pass
    ∷ entering 1 0 (boarding 1 1 300 6) gives 31
    -- 34: an unknown pass
    ∷ entering 1 0 (boarding 0 1 301 5) gives 34
    -- 35 before 36: the day after the last, the last scan
    ∷ entering 1 1 (boarding 0 0 301 5) gives 35
    -- 35 before 37: the day after the last, no ride left
    ∷ entering 1 0 (boarding 0 0 301 6) gives 35
    -- 36 before 37: the last scan, no ride left
    ∷ entering 1 0 (boarding 0 0 300 5) gives 36
    -- 37: no ride left
    ∷ entering 1 0 (boarding 0 0 300 6) gives 37
    ∷ []

-- ---- all of them

abbrev pub rows : List Row
rows =
    primary_order by_slice ++ primary_order by_reference ++ acceptor_order ++ backup_order ++ start_order ++ learner_order ++ answer_order ++ walk_orders ++ reading_back_order
    ++ writing_order ++ reading_into_order ++ judging checking (frame_with request) ++ sealing_order ++ framing_order
    ++ on_frames to_primary request ++ on_frames to_acceptor (propose 0 0) ++ on_frames to_backup (promise 0 0 1) ++ on_frames to_learner (vote 1 0 5 null)
    ++ entering_order

-- Each call answers the paper's number.
abbrev pub Orders : Type 0
Orders = map (λ row. row.answer) rows ≡ map (λ row. row.number) rows
