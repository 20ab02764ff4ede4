-- The starred cases of the paper as one table, over whole steps: packet bytes and lent tables. M = 3, N = 8 unless said; "v" is a value ending in 2a,
-- other bytes zero. Where the paper leaves it open: instance 0, acceptor 0, distinct senders, w ending in 2b, the asking backup is 1 in round 1, and a
-- start writes over zeros. Backup 2's last round, which the paper leaves out, stands beside the others.
-- Assumes nothing.
use Rattle.std.specs.Prelude.{ℕ, ◌≡◌, List, [], ◌∷◌, replicate}
use Rattle.basics.specs.declared.Instance.{Instance}
use Rattle.basics.specs.declared.Value.{Value}
use Rattle.basics.specs.declared.Verdict.{Verdict}
use Rattle.basics.specs.declared.Verdict.TheVariants.{ToAcceptors, ToLeader, ToLearners, Hold, Decided}
use Rattle.basics.specs.Rounds.{the_instance, the_round, none}
use Rattle.basics.specs.Values.{the_value, null}
use Rattle.basics.specs.Verdict.{verdict_number}
use Rattle.messages.specs.declared.Message.{Message}
use Rattle.messages.specs.declared.Message.TheVariants.{Prepare, Promise, Propose, Vote}
use Rattle.wire.specs.Packet.{packet_of}
use Rattle.basics.specs.Outcome.{Outcome, outcome, Lent, lent}
use Rattle.player.specs.Step.{unchanged}
use Rattle.quorum.specs.Settings.{settings}
use Rattle.acceptor_rule.specs.Rule as acceptor_rule
use Rattle.acceptor_tables.specs.Tables as acceptors
use Rattle.acceptor.specs.Acceptor.{acceptor_step}
use Rattle.backup_cell.specs.Cell as backup_cell
use Rattle.backup_tables.specs.Tables as backups
use Rattle.backup.specs.Backup.{backup_step, backup_start}
use Rattle.learner_cell.specs.Cell as learner_cell
use Rattle.learner_tables.specs.Tables as learners
use Rattle.learner.specs.Learner.{Answer}
use Rattle.learner.specs.Learner as answers
use Rattle.learner.specs.Learner.{learner_step, answer_for}

abbrev v : Value
v = the_value 0 0x2a

abbrev w : Value
w = the_value 0 0x2b

abbrev first : Instance
first = the_instance 0

abbrev zeros : List ℕ
zeros = replicate 36 0

-- A row: who is given which message with which tables, and the outcome.
pub data Row : Type 0 where
  acceptor : acceptors.Tables → Message → Outcome (Lent acceptors.Tables) → Row
  start : (own : ℕ) → backups.Tables → (floor : ℕ) → Value → Outcome (Lent backups.Tables) → Row
  backup : backups.Tables → Message → Outcome (Lent backups.Tables) → Row
  learner : (M : ℕ) → learners.Tables → Message → Outcome (Lent learners.Tables) → Row
  answer : (M : ℕ) → learners.Tables → Answer → Row

-- The outcome is the one that the definitions give.
abbrev pub Holds : Row → Type 0
Holds (acceptor t m o) = acceptor_step (settings 3 8) 0 (packet_of m) t ≡ o
Holds (start own t floor value o) = backup_start (settings 3 8) own first floor value zeros t ≡ o
Holds (backup t m o) = backup_step (settings 3 8) 1 (packet_of m) t ≡ o
Holds (learner M t m o) = learner_step (settings M 8) (packet_of m) t ≡ o
Holds (answer M t a) = answer_for (settings M 8) first t ≡ a

abbrev pub All : List Row → Type 0
All [] = Unit {0}
All (row ∷ rows) = Holds row × All rows

-- The outcome that sends a message, and the one that refuses one.
abbrev sent : {Tables : Type 0} → Verdict → Message → Tables → Outcome (Lent Tables)
sent verdict m t = outcome (verdict_number verdict) (lent (packet_of m) t)

abbrev refused : {Tables : Type 0} → Message → Tables → (number : ℕ) → Outcome (Lent Tables)
refused m t number = unchanged (packet_of m) t number

abbrev held : {Tables : Type 0} → Message → Tables → Outcome (Lent Tables)
held m t = outcome (verdict_number Hold) (lent (packet_of m) t)

-- The acceptor's tables, fresh but for the cell of instance 0.
abbrev fresh : acceptors.Tables
fresh = acceptors.fresh_tables 8

abbrev voted : acceptors.Tables
voted = acceptors.with_cell fresh 0 (acceptor_rule.cell (the_round 0) (the_round 0) v)

abbrev promised : acceptors.Tables
promised = acceptors.with_cell fresh 0 (acceptor_rule.cell (the_round 1) (the_round 0) v)

abbrev asked : acceptors.Tables
asked = acceptors.with_cell fresh 0 (acceptor_rule.cell (the_round 1) none null)

-- The backup's tables, fresh but for the cell of instance 0.
abbrev idle : backups.Tables
idle = backups.fresh_tables 8

abbrev asking : (round : ℕ) → Value → (set : ℕ) → backups.Tables
asking round value set = backups.with_cell idle 0 (backup_cell.cell (the_round round) backup_cell.asking set none null value)

abbrev proposed : backups.Tables
proposed = backups.with_cell idle 0 (backup_cell.cell (the_round 1) backup_cell.proposed 3 (the_round 0) v w)

-- A start that writes a prepare of this round, and one that is refused.
abbrev starts : (own : ℕ) → backups.Tables → (floor round : ℕ) → Row
starts own t floor round = start own t floor v (sent ToAcceptors (Prepare first (the_round round)) (asking round v 0))

abbrev refuses : (own : ℕ) → backups.Tables → (floor : ℕ) → Row
refuses own t floor = start own t floor v (unchanged zeros t 16)

-- The learner's tables, fresh but for the cell of instance 0.
abbrev unheard : learners.Tables
unheard = learners.fresh_tables 8

abbrev heard : (round set : ℕ) → learners.Tables
heard round set = learners.with_cell unheard 0 (learner_cell.cell (the_round round) set v)

-- A vote for v, in a round, from an acceptor.
abbrev vote : (round sender : ℕ) → Message
vote round sender = Vote sender first (the_round round) v

abbrev pub cases : List Row
cases =
    -- Fresh acceptor, propose round 0, v: vote; cell 0, 0, v.
    acceptor fresh (Propose first (the_round 0) v) (sent ToLearners (Vote 0 first (the_round 0) v) voted)
    -- Then prepare round 1: promise with vote round 0 and v.
    ∷ acceptor voted (Prepare first (the_round 1)) (sent ToLeader (Promise 0 first (the_round 1) (the_round 0) v) promised)
    -- Then propose round 0: refusal 10.
    ∷ acceptor promised (Propose first (the_round 0) v) (refused (Propose first (the_round 0) v) promised 10)
    -- Fresh acceptor, prepare round 1: promise with none and null.
    ∷ acceptor fresh (Prepare first (the_round 1)) (sent ToLeader (Promise 0 first (the_round 1) none null) asked)
    -- Backup 1, floor 0: round 1; started again: round 5.
    ∷ starts 1 idle 0 1
    ∷ starts 1 (asking 1 v 0) 0 5
    -- Backup 3, floor 4,294,967,290: round 4,294,967,291; floor 4,294,967,291: refusal 16.
    ∷ starts 3 idle 4_294_967_290 4_294_967_291
    ∷ refuses 3 (asking 4_294_967_291 v 0) 4_294_967_291
    ∷ refuses 3 idle 4_294_967_291
    -- Backup 1, floor 4,294,967,292: round 4,294,967,293; floor 4,294,967,293: refusal 16.
    ∷ starts 1 idle 4_294_967_292 4_294_967_293
    ∷ refuses 1 (asking 4_294_967_293 v 0) 4_294_967_293
    ∷ refuses 1 idle 4_294_967_293
    -- Backup 2, floor 4,294,967,293: round 4,294,967,294; floor 4,294,967,294: refusal 16.
    ∷ starts 2 idle 4_294_967_293 4_294_967_294
    ∷ refuses 2 idle 4_294_967_294
    -- Backup asking with own value w, promises (none) and (0, v): proposes v.
    ∷ start 1 idle 0 w (sent ToAcceptors (Prepare first (the_round 1)) (asking 1 w 0))
    ∷ backup (asking 1 w 0) (Promise 0 first (the_round 1) none null) (held (Promise 0 first (the_round 1) none null) (asking 1 w 1))
    ∷ backup (asking 1 w 1) (Promise 1 first (the_round 1) (the_round 0) v) (sent ToAcceptors (Propose first (the_round 1) v) proposed)
    -- Learner: vote round 1 from 0, round 2 from 2, round 1 from 1: the third is refusal 10, not yet decided.
    ∷ learner 3 unheard (vote 1 0) (held (vote 1 0) (heard 1 1))
    ∷ learner 3 (heard 1 1) (vote 2 2) (held (vote 2 2) (heard 2 4))
    ∷ learner 3 (heard 2 4) (vote 1 1) (refused (vote 1 1) (heard 2 4) 10)
    ∷ answer 3 (heard 2 4) answers.NotYet
    -- M = 5: two equal votes hold, the third decides.
    ∷ learner 5 unheard (vote 0 0) (held (vote 0 0) (heard 0 1))
    ∷ learner 5 (heard 0 1) (vote 0 1) (held (vote 0 1) (heard 0 3))
    ∷ learner 5 (heard 0 3) (vote 0 2) (outcome (verdict_number Decided) (lent (packet_of (vote 0 2)) (heard 0 7)))
    ∷ answer 5 (heard 0 7) (answers.Decided v)
    ∷ []
