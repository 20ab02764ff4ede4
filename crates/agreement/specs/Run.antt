-- Runs. All players start fresh, each with its own number and all with the same settings; nothing but its own calls changes a player's tables, and none is
-- reset. What a call does is the definition that the exported call's own contract cites, over packet bytes and lent tables. Every exported call is one of a
-- run, but for those that set tables fresh, with which it begins (agreement/specs/Begin.antt), for writing and reading packets and for checking, sealing and
-- framing, which touch no table, and for reading a saved table back. The players' calls on frames are those of runs over frames (frame_agreement).
-- Assumes nothing.
use Rattle.std.specs.Prelude.{ℕ, ◌*◌, ◌^◌, ◌<◌, ◌≡◌, List, [], ◌∷◌, eqb, length}
use Rattle.numbers.specs.BigEndian.{Bytes}
use Rattle.basics.specs.declared.Instance.{Instance}
use Rattle.basics.specs.declared.Round.{Round}
use Rattle.basics.specs.declared.Value.{Value}
use Rattle.basics.specs.Ladder.{when◌then◌else◌}
use Rattle.basics.specs.Verdict.{says_send}
use Rattle.messages.specs.declared.Message.TheVariants.{Request, Vote}
use Rattle.wire.specs.Packet.{Read, read_packet, Malformed}
use Rattle.basics.specs.Outcome.{Outcome, Lent}
use Rattle.quorum.specs.declared.Settings.{Settings}
use Rattle.quorum.specs.Voters.{Mem, Distinct}
use Rattle.primary_rule.specs.declared.Cell as primary_cells
use Rattle.primary.specs.Primary.{cell_at, primary_step, primary_request, as_slice}
use Rattle.acceptor_tables.specs.Tables as acceptors
use Rattle.acceptor.specs.Acceptor.{acceptor_step}
use Rattle.backup_tables.specs.Tables as backups
use Rattle.backup.specs.Backup.{backup_step, backup_start}
use Rattle.learner_tables.specs.Tables as learners
use Rattle.learner.specs.Learner.{Answer}
use Rattle.learner.specs.Learner as answers
use Rattle.learner.specs.Learner.{learner_step, answer_for, answered}
use Rattle.learner_delivery.specs.Delivery.{deliver}
use Rattle.learner_holes.specs.Holes as holes
use Rattle.learner_saved.specs.Saved.{save}

-- Who makes a call. Acceptors and backups go by their own numbers; a learner has none, and the one here just tells it from the others.
pub data Caller : Type 0 where
  the_primary : Caller
  acceptor : (own : ℕ) → Caller
  backup : (own : ℕ) → Caller
  learner : (which : ℕ) → Caller

-- A packet that was sent, and whose call sent it.
pub record Sent : Type 0 where
  pub by : Caller
  pub packet : List ℕ

abbrev pub sent : Caller → List ℕ → Sent
sent by packet = record { by = by; packet = packet }

-- What was wanted for an instance: by the packet that the primary took when that instance was its next, or by a start that was not refused, with its value.
pub data Wanted : Type 0 where
  by_request : Instance → (packet : List ℕ) → Wanted
  by_start : (own : ℕ) → Instance → Value → Wanted

-- Every player's lent tables; and of the calls so far the packets sent and what was wanted, the latest first.
pub record Boxes : Type 0 where
  pub primary : List ℕ
  pub acceptor : (own : ℕ) → acceptors.Tables
  pub backup : (own : ℕ) → backups.Tables
  pub learner : (which : ℕ) → learners.Tables
  pub packets : List Sent
  pub wanted : List Wanted

-- All players fresh: the primary's one number is its next instance, 0.
abbrev pub fresh_boxes : (N : ℕ) → Boxes
fresh_boxes N = record {
  primary = 0 ∷ [];
  acceptor = λ _. acceptors.fresh_tables N;
  backup = λ _. backups.fresh_tables N;
  learner = λ _. learners.fresh_tables N;
  packets = [];
  wanted = [];
}

-- The primary's record, which it is lent as a slice of one number, or by reference.
abbrev pub primary_record : Boxes → primary_cells.Cell
primary_record w = cell_at w.primary 0

-- All as before, but for one.
unfoldable pub put : {A : Type 0} → (before : ℕ → A) → (one : ℕ) → A → ℕ → A
put before one new other = when eqb one other then new else before other

-- One more where the verdict says to send.
abbrev pub more_when_sent : {A : Type 0} → (answer : ℕ) → A → List A → List A
more_when_sent answer new before = when says_send answer then new ∷ before else before

-- Where the verdict says to send, the packet as it is at exit is sent.
abbrev pub sending : {Tables : Type 0} → Caller → Outcome (Lent Tables) → List Sent → List Sent
sending by o packets = more_when_sent o.answer (sent by o.left.packet) packets

-- The boxes after a call, by its outcome.
abbrev pub after_primary : Boxes → (packet : List ℕ) → Outcome (Lent (List ℕ)) → Boxes
after_primary w p o = record {
  primary = o.left.tables;
  acceptor = w.acceptor;
  backup = w.backup;
  learner = w.learner;
  packets = sending the_primary o w.packets;
  wanted = more_when_sent o.answer (by_request (primary_record w).next p) w.wanted;
}

abbrev pub after_acceptor : Boxes → (own : ℕ) → Outcome (Lent acceptors.Tables) → Boxes
after_acceptor w own o = record {
  primary = w.primary;
  acceptor = put w.acceptor own o.left.tables;
  backup = w.backup;
  learner = w.learner;
  packets = sending (acceptor own) o w.packets;
  wanted = w.wanted;
}

abbrev pub after_backup : Boxes → (own : ℕ) → Outcome (Lent backups.Tables) → Boxes
after_backup w own o = record {
  primary = w.primary;
  acceptor = w.acceptor;
  backup = put w.backup own o.left.tables;
  learner = w.learner;
  packets = sending (backup own) o w.packets;
  wanted = w.wanted;
}

abbrev pub after_start : Boxes → (own : ℕ) → Instance → Value → Outcome (Lent backups.Tables) → Boxes
after_start w own instance value o = record {
  primary = w.primary;
  acceptor = w.acceptor;
  backup = put w.backup own o.left.tables;
  learner = w.learner;
  packets = sending (backup own) o w.packets;
  wanted = more_when_sent o.answer (by_start own instance value) w.wanted;
}

abbrev pub after_learner : Boxes → (which : ℕ) → Outcome (Lent learners.Tables) → Boxes
after_learner w which o = record {
  primary = w.primary;
  acceptor = w.acceptor;
  backup = w.backup;
  learner = put w.learner which o.left.tables;
  packets = sending (learner which) o w.packets;
  wanted = w.wanted;
}

-- A call that is lent a learner's tables to read and leaves none: its answer, and the buffer as it is at exit, if it has one.
abbrev pub after_reading : Boxes → (which answer : ℕ) → (buffer : List ℕ) → Boxes
after_reading w which answer buffer = record {
  primary = w.primary;
  acceptor = w.acceptor;
  backup = w.backup;
  learner = w.learner;
  packets = more_when_sent answer (sent (learner which) buffer) w.packets;
  wanted = w.wanted;
}

-- A packet that may be handed over, to any player: a request, one refused by the reader, or a byte copy of one sent earlier.
pub data Handed (w : Boxes) (p : List ℕ) : Type 0 where
  request : Bytes p → (switch : ℕ) (value : Value) → read_packet p ≡ Read (Request switch value) → Handed w p
  malformed : Bytes p → Malformed p → Handed w p
  copy : (by : Caller) → Mem (sent by p) w.packets → Handed w p

-- What a start is given: any numbers of 32 and 64 bits and any bytes, as the C call's types have them.
pub record Given (instance : Instance) (floor : ℕ) (value : Value) (buffer : List ℕ) : Type 0 where
  pub instance_fits : instance.0 < 2 ^ 32
  pub floor_fits : floor < 2 ^ 32
  pub high_fits : value.high < 2 ^ 64
  pub low_fits : value.low < 2 ^ 64
  pub bytes : Bytes buffer

-- One call of those that are lent a learner's tables to read: answering, delivery, holes, saving.
pub data Reads (s : Settings) (w : Boxes) : Boxes → Type 0 where
  learner_answers : (which : ℕ) (instance : Instance) (before : Value)
      → Reads s w (after_reading w which (answered before (answer_for s instance (w.learner which))).answer [])
  learner_delivers : (which : ℕ) (buffer : List ℕ) (count : ℕ)
      → Reads s w (after_reading w which (deliver s (w.learner which) buffer count).answer (deliver s (w.learner which) buffer count).left.packet)
  learner_finds_hole : (which before : ℕ) → Reads s w (after_reading w which (holes.answered before (holes.find_hole s (w.learner which))).answer [])
  learner_saves : (which : ℕ) (buffer : List ℕ) → Reads s w (after_learner w which (save s buffer (w.learner which)))

-- One call. Own numbers that are not allowed are refused by the step itself. The primary's record is lent in either form.
pub data Call (s : Settings) (w : Boxes) : Boxes → Type 0 where
  primary_steps : (p : List ℕ) → Handed w p → Call s w (after_primary w p (primary_step s p w.primary))
  primary_requests : (p : List ℕ) → Handed w p → Call s w (after_primary w p (as_slice (primary_request s p (primary_record w))))
  acceptor_steps : (own : ℕ) (p : List ℕ) → Handed w p → Call s w (after_acceptor w own (acceptor_step s own p (w.acceptor own)))
  backup_steps : (own : ℕ) (p : List ℕ) → Handed w p → Call s w (after_backup w own (backup_step s own p (w.backup own)))
  backup_starts : (own : ℕ) (instance : Instance) (floor : ℕ) (value : Value) (buffer : List ℕ) → Given instance floor value buffer
      → Call s w (after_start w own instance value (backup_start s own instance floor value buffer (w.backup own)))
  learner_steps : (which : ℕ) (p : List ℕ) → Handed w p → Call s w (after_learner w which (learner_step s p (w.learner which)))
  only_reads : {u : Boxes} → Reads s w u → Call s w u

-- The boxes after any number of calls more. Which calls there are is the kind of run: a relation of the boxes before a call and after it.
pub data Later (Calls : Boxes → Boxes → Type 0) (w : Boxes) : Boxes → Type 0 where
  now : Later Calls w w
  and_then : {u x : Boxes} → Later Calls w u → Calls u x → Later Calls w x

-- The boxes of a run of that kind.
abbrev pub Run : (Calls : Boxes → Boxes → Type 0) → Settings → Boxes → Type 0
Run Calls s w = Later Calls (fresh_boxes s.instances) w

-- The acceptor's own call sent a vote packet, for this instance, round and value.
pub record VoteSent (packets : List Sent) (own : ℕ) (instance : Instance) (round : Round) (value : Value) : Type 0 where
  pub packet : List ℕ
  pub switch : ℕ
  pub reads : read_packet packet ≡ Read (Vote switch instance round value)
  pub was_sent : Mem (sent (acceptor own) packet) packets

-- Decided: in one round more than half of the acceptors, counted as distinct acceptors, have sent a vote for the value.
pub record Decided (s : Settings) (w : Boxes) (instance : Instance) (value : Value) : Type 0 where
  pub round : Round
  pub voters : List ℕ
  pub distinct : Distinct voters
  pub are_acceptors : (own : ℕ) → Mem own voters → own < s.acceptors
  pub more_than_half : s.acceptors < 2 * length voters
  pub voted : (own : ℕ) → Mem own voters → VoteSent w.packets own instance round value

-- Wanted: a request with the value was taken by the primary for the instance, or a start that was not refused named both.
pub data WantedFor (wanted : List Wanted) (instance : Instance) (value : Value) : Type 0 where
  requested : (packet : List ℕ) (switch : ℕ) → read_packet packet ≡ Read (Request switch value) → Mem (by_request instance packet) wanted
      → WantedFor wanted instance value
  started : (own : ℕ) → Mem (by_start own instance value) wanted → WantedFor wanted instance value

-- What a learner says of an instance: nothing, where its answer is a refusal.
pub data Said : Type 0 where
  nothing : Said
  not_yet : Said
  says : Value → Said

abbrev pub said_by : Answer → Said
said_by (answers.Decided value) = says value
said_by answers.NotYet = not_yet
said_by (answers.Refused number) = nothing

abbrev pub said : Settings → Boxes → (which : ℕ) → Instance → Said
said s w which instance = said_by (answer_for s instance (w.learner which))
