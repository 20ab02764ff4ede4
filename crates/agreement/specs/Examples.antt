-- Runs, call by call: who is handed which message, as its packet's bytes, and what the call answers. In the first a value
-- is decided and a backup takes over while old packets still travel; in the second a backup repairs a hole with the null value; in the third one vote is lost;
-- in the fourth the last scan of the evening has one vote, and a backup repairs it; in the last two a majority of 5 and of 7 decides. The primary's record is
-- lent as a slice, and once by reference.
-- Assumes nothing.
use Rattle.std.specs.Prelude.{ℕ, ◌^◌, ◌≡◌, Bool, true, false, ◌&&◌, ◌||◌, List, [], ◌∷◌, eqb, ltb, replicate}
use Rattle.basics.specs.declared.Instance.{Instance}
use Rattle.basics.specs.declared.Value.{Value}
use Rattle.basics.specs.declared.Verdict.TheVariants.{ToAcceptors, ToLeader, ToLearners, Hold, Decided}
use Rattle.basics.specs.Rounds.{the_instance, the_round, none}
use Rattle.basics.specs.Values.{the_value, null}
use Rattle.basics.specs.Verdict.{verdict_number}
use Rattle.messages.specs.declared.Message.{Message}
use Rattle.messages.specs.declared.Message.TheVariants.{Request, Prepare, Promise, Propose, Vote}
use Rattle.messages.specs.Message.{when_request}
use Rattle.wire.specs.Packet.{Reading, Read, Refused, packet_length, read_packet, packet_of}
use Rattle.quorum.specs.declared.Settings.{Settings}
use Rattle.primary.specs.Primary.{primary_step, primary_request, as_slice}
use Rattle.acceptor.specs.Acceptor.{acceptor_step}
use Rattle.backup.specs.Backup.{backup_step, backup_start}
use Rattle.learner.specs.Learner.{learner_step}
use Rattle.learner_holes.specs.Holes as holes
use Rattle.learner_holes.specs.Holes.{find_hole}
use Rattle.agreement.specs.Run.{Sent, Boxes, fresh_boxes, primary_record, after_primary, after_acceptor, after_backup, after_start, after_learner, VoteSent, not_yet, says, said}
use Rattle.agreement.specs.Agreement.{delivered_by}

-- The verdicts by their numbers.
abbrev pub to_acceptors : ℕ
to_acceptors = verdict_number ToAcceptors

abbrev pub to_leader : ℕ
to_leader = verdict_number ToLeader

abbrev pub to_learners : ℕ
to_learners = verdict_number ToLearners

abbrev pub hold : ℕ
hold = verdict_number Hold

abbrev pub decided : ℕ
decided = verdict_number Decided

-- A call: what it is handed, or what a start is given over a buffer of zeros, and the number that it answers.
pub data Row : Type 0 where
  primary_gets : Message → (answer : ℕ) → Row
  primary_gets_by_reference : Message → (answer : ℕ) → Row
  acceptor_gets : (own : ℕ) → Message → (answer : ℕ) → Row
  backup_starts : (own : ℕ) → Instance → (floor : ℕ) → Value → (answer : ℕ) → Row
  backup_gets : (own : ℕ) → Message → (answer : ℕ) → Row
  learner_gets : (which : ℕ) → Message → (answer : ℕ) → Row

abbrev pub zeros : List ℕ
zeros = replicate packet_length 0

-- The boxes after a row.
abbrev pub after : Settings → Boxes → Row → Boxes
after s w (primary_gets m answer) = after_primary w (packet_of m) (primary_step s (packet_of m) w.primary)
after s w (primary_gets_by_reference m answer) = after_primary w (packet_of m) (as_slice (primary_request s (packet_of m) (primary_record w)))
after s w (acceptor_gets own m answer) = after_acceptor w own (acceptor_step s own (packet_of m) (w.acceptor own))
after s w (backup_starts own i floor v answer) = after_start w own i v (backup_start s own i floor v zeros (w.backup own))
after s w (backup_gets own m answer) = after_backup w own (backup_step s own (packet_of m) (w.backup own))
after s w (learner_gets which m answer) = after_learner w which (learner_step s (packet_of m) (w.learner which))

-- The call answers the row's number.
abbrev pub answers : Settings → Boxes → Row → Bool
answers s w (primary_gets m answer) = eqb (primary_step s (packet_of m) w.primary).answer answer
answers s w (primary_gets_by_reference m answer) = eqb (primary_request s (packet_of m) (primary_record w)).answer answer
answers s w (acceptor_gets own m answer) = eqb (acceptor_step s own (packet_of m) (w.acceptor own)).answer answer
answers s w (backup_starts own i floor v answer) = eqb (backup_start s own i floor v zeros (w.backup own)).answer answer
answers s w (backup_gets own m answer) = eqb (backup_step s own (packet_of m) (w.backup own)).answer answer
answers s w (learner_gets which m answer) = eqb (learner_step s (packet_of m) (w.learner which)).answer answer

-- Two packets are the same bytes.
unfoldable pub equal_bytes : List ℕ → List ℕ → Bool
equal_bytes [] [] = true
equal_bytes [] (b ∷ q) = false
equal_bytes (a ∷ p) [] = false
equal_bytes (a ∷ p) (b ∷ q) = eqb a b && equal_bytes p q

unfoldable pub was_sent : List ℕ → List Sent → Bool
was_sent p [] = false
was_sent p (x ∷ xs) = equal_bytes p x.packet || was_sent p xs

abbrev pub reads_request : Reading → Bool
reads_request (Read m) = when_request (λ switch value. true) false m
reads_request (Refused number) = false

-- The packet may be handed over: a request, or a copy of one sent earlier.
abbrev pub may_hand : Boxes → List ℕ → Bool
may_hand w p = reads_request (read_packet p) || was_sent p w.packets

abbrev pub is_handed : Boxes → Row → Bool
is_handed w (primary_gets m answer) = may_hand w (packet_of m)
is_handed w (primary_gets_by_reference m answer) = may_hand w (packet_of m)
is_handed w (acceptor_gets own m answer) = may_hand w (packet_of m)
is_handed w (backup_starts own i floor v answer) = ltb i.0 (2 ^ 32) && ltb floor (2 ^ 32) && ltb v.high (2 ^ 64) && ltb v.low (2 ^ 64)
is_handed w (backup_gets own m answer) = may_hand w (packet_of m)
is_handed w (learner_gets which m answer) = may_hand w (packet_of m)

-- All rows, one after the other.
unfoldable pub played : Settings → Boxes → List Row → Boxes
played s w [] = w
played s w (row ∷ rows) = played s (after s w row) rows

unfoldable pub plays : Settings → Boxes → List Row → Bool
plays s w [] = true
plays s w (row ∷ rows) = is_handed w row && answers s w row && plays s (after s w row) rows

-- ---- a takeover while old packets travel

-- M = 3, N = 2.
abbrev pub three : Settings
three = record { acceptors = 3; instances = 2 }

abbrev pub first : Instance
first = the_instance 0

abbrev pub second : Instance
second = the_instance 1

abbrev pub v : Value
v = the_value 0 0x2a

abbrev pub u : Value
u = the_value 0 0x2b

-- The primary's value is decided in round 0, by acceptors 0 and 1; no learner has heard.
abbrev pub deciding : List Row
deciding =
    primary_gets (Request 9 v) to_acceptors
    ∷ acceptor_gets 0 (Propose first (the_round 0) v) to_learners
    ∷ acceptor_gets 1 (Propose first (the_round 0) v) to_learners
    ∷ []

abbrev pub taking_over : List Row
taking_over =
    -- backup 1 takes over with a value of its own; acceptors 1 and 2 promise
    backup_starts 1 first 0 u to_acceptors
    ∷ acceptor_gets 1 (Prepare first (the_round 1)) to_leader
    ∷ acceptor_gets 2 (Prepare first (the_round 1)) to_leader
    -- the old propose still travels: acceptor 2 has promised, and refuses it
    ∷ acceptor_gets 2 (Propose first (the_round 0) v) 10
    -- what acceptor 1 voted binds the backup; a doubled promise is refused
    ∷ backup_gets 1 (Promise 2 first (the_round 1) none null) hold
    ∷ backup_gets 1 (Promise 2 first (the_round 1) none null) 15
    ∷ backup_gets 1 (Promise 1 first (the_round 1) (the_round 0) v) to_acceptors
    ∷ acceptor_gets 2 (Propose first (the_round 1) v) to_learners
    ∷ acceptor_gets 0 (Propose first (the_round 1) v) to_learners
    -- learner 0 hears the old votes alone, learner 1 the new ones after an old one, and another old one late
    ∷ learner_gets 0 (Vote 0 first (the_round 0) v) hold
    ∷ learner_gets 0 (Vote 1 first (the_round 0) v) decided
    ∷ learner_gets 1 (Vote 1 first (the_round 0) v) hold
    ∷ learner_gets 1 (Vote 2 first (the_round 1) v) hold
    ∷ learner_gets 1 (Vote 0 first (the_round 0) v) 10
    ∷ learner_gets 1 (Vote 0 first (the_round 1) v) decided
    ∷ []

abbrev pub early : Boxes
early = played three (fresh_boxes 2) deciding

abbrev pub taken : Boxes
taken = played three early taking_over

-- ---- a hole repaired with the null value

-- The propose for instance 0 is lost on its way; instance 1 is decided.
abbrev pub leaving_a_hole : List Row
leaving_a_hole =
    primary_gets (Request 9 v) to_acceptors
    ∷ primary_gets_by_reference (Request 9 u) to_acceptors
    ∷ acceptor_gets 0 (Propose second (the_round 0) u) to_learners
    ∷ acceptor_gets 2 (Propose second (the_round 0) u) to_learners
    ∷ learner_gets 0 (Vote 2 second (the_round 0) u) hold
    ∷ learner_gets 0 (Vote 0 second (the_round 0) u) decided
    ∷ []

-- Backup 2 repairs instance 0 with the null value.
abbrev pub repairing : List Row
repairing =
    backup_starts 2 first 0 null to_acceptors
    ∷ acceptor_gets 0 (Prepare first (the_round 2)) to_leader
    ∷ acceptor_gets 1 (Prepare first (the_round 2)) to_leader
    ∷ backup_gets 2 (Promise 0 first (the_round 2) none null) hold
    ∷ backup_gets 2 (Promise 1 first (the_round 2) none null) to_acceptors
    ∷ acceptor_gets 0 (Propose first (the_round 2) null) to_learners
    ∷ acceptor_gets 1 (Propose first (the_round 2) null) to_learners
    ∷ learner_gets 0 (Vote 0 first (the_round 2) null) hold
    ∷ learner_gets 0 (Vote 1 first (the_round 2) null) decided
    -- the lost propose arrives after all
    ∷ acceptor_gets 1 (Propose first (the_round 0) v) 10
    ∷ []

abbrev pub holed : Boxes
holed = played three (fresh_boxes 2) leaving_a_hole

abbrev pub repaired : Boxes
repaired = played three holed repairing

-- ---- one vote does not decide

-- Acceptor 0 alone votes for the primary's value; the others have promised backup 1, and vote for its own. So one of three, which is half of them rounded
-- down, must not decide, nor one that is counted twice.
abbrev pub splitting : List Row
splitting =
    primary_gets (Request 9 v) to_acceptors
    ∷ acceptor_gets 0 (Propose first (the_round 0) v) to_learners
    ∷ backup_starts 1 first 0 u to_acceptors
    ∷ acceptor_gets 1 (Prepare first (the_round 1)) to_leader
    ∷ acceptor_gets 2 (Prepare first (the_round 1)) to_leader
    ∷ backup_gets 1 (Promise 1 first (the_round 1) none null) hold
    ∷ backup_gets 1 (Promise 2 first (the_round 1) none null) to_acceptors
    ∷ acceptor_gets 1 (Propose first (the_round 1) u) to_learners
    ∷ acceptor_gets 2 (Propose first (the_round 1) u) to_learners
    ∷ learner_gets 0 (Vote 1 first (the_round 1) u) hold
    ∷ learner_gets 0 (Vote 2 first (the_round 1) u) decided
    ∷ []

abbrev pub split : Boxes
split = played three (fresh_boxes 2) splitting

-- ---- the last hole of the evening

-- M = 3, N = 3.
abbrev pub evening : Settings
evening = record { acceptors = 3; instances = 3 }

abbrev pub third : Instance
third = the_instance 2

abbrev pub last : Value
last = the_value 0 0x2c

-- Two scans are decided. The third one has the vote of acceptor 0 alone, and the learner hears it.
abbrev pub scanning : List Row
scanning =
    primary_gets (Request 9 v) to_acceptors
    ∷ acceptor_gets 0 (Propose first (the_round 0) v) to_learners
    ∷ acceptor_gets 1 (Propose first (the_round 0) v) to_learners
    ∷ learner_gets 0 (Vote 0 first (the_round 0) v) hold
    ∷ learner_gets 0 (Vote 1 first (the_round 0) v) decided
    ∷ primary_gets (Request 9 u) to_acceptors
    ∷ acceptor_gets 1 (Propose second (the_round 0) u) to_learners
    ∷ acceptor_gets 2 (Propose second (the_round 0) u) to_learners
    ∷ learner_gets 0 (Vote 1 second (the_round 0) u) hold
    ∷ learner_gets 0 (Vote 2 second (the_round 0) u) decided
    ∷ primary_gets (Request 9 last) to_acceptors
    ∷ acceptor_gets 0 (Propose third (the_round 0) last) to_learners
    ∷ learner_gets 0 (Vote 0 third (the_round 0) last) hold
    ∷ []

-- Backup 1 repairs it. Where that acceptor promises, it proposes the value voted for,
abbrev pub keeping_the_scan : List Row
keeping_the_scan =
    backup_starts 1 third 0 null to_acceptors
    ∷ acceptor_gets 0 (Prepare third (the_round 1)) to_leader
    ∷ acceptor_gets 1 (Prepare third (the_round 1)) to_leader
    ∷ backup_gets 1 (Promise 1 third (the_round 1) none null) hold
    ∷ backup_gets 1 (Promise 0 third (the_round 1) (the_round 0) last) to_acceptors
    ∷ acceptor_gets 0 (Propose third (the_round 1) last) to_learners
    ∷ acceptor_gets 1 (Propose third (the_round 1) last) to_learners
    ∷ learner_gets 0 (Vote 0 third (the_round 1) last) hold
    ∷ learner_gets 0 (Vote 1 third (the_round 1) last) decided
    ∷ []

-- and where it does not, null.
abbrev pub giving_up_the_scan : List Row
giving_up_the_scan =
    backup_starts 1 third 0 null to_acceptors
    ∷ acceptor_gets 1 (Prepare third (the_round 1)) to_leader
    ∷ acceptor_gets 2 (Prepare third (the_round 1)) to_leader
    ∷ backup_gets 1 (Promise 1 third (the_round 1) none null) hold
    ∷ backup_gets 1 (Promise 2 third (the_round 1) none null) to_acceptors
    ∷ acceptor_gets 1 (Propose third (the_round 1) null) to_learners
    ∷ acceptor_gets 2 (Propose third (the_round 1) null) to_learners
    ∷ learner_gets 0 (Vote 1 third (the_round 1) null) hold
    ∷ learner_gets 0 (Vote 2 third (the_round 1) null) decided
    ∷ []

abbrev pub scanned : Boxes
scanned = played evening (fresh_boxes 3) scanning

abbrev pub scan_kept : Boxes
scan_kept = played evening scanned keeping_the_scan

abbrev pub scan_given_up : Boxes
scan_given_up = played evening scanned giving_up_the_scan

-- ---- five acceptors, and seven

abbrev pub five : Settings
five = record { acceptors = 5; instances = 1 }

abbrev pub seven : Settings
seven = record { acceptors = 7; instances = 1 }

abbrev pub three_of_five : List Row
three_of_five =
    primary_gets (Request 9 v) to_acceptors
    ∷ acceptor_gets 4 (Propose first (the_round 0) v) to_learners
    ∷ acceptor_gets 2 (Propose first (the_round 0) v) to_learners
    ∷ acceptor_gets 0 (Propose first (the_round 0) v) to_learners
    ∷ learner_gets 0 (Vote 4 first (the_round 0) v) hold
    ∷ learner_gets 0 (Vote 2 first (the_round 0) v) hold
    ∷ learner_gets 0 (Vote 0 first (the_round 0) v) decided
    ∷ []

-- Four of seven promise backup 3, and four vote: the last of these and three who were not asked.
abbrev pub four_of_seven : List Row
four_of_seven =
    backup_starts 3 first 0 u to_acceptors
    ∷ acceptor_gets 0 (Prepare first (the_round 3)) to_leader
    ∷ acceptor_gets 1 (Prepare first (the_round 3)) to_leader
    ∷ acceptor_gets 2 (Prepare first (the_round 3)) to_leader
    ∷ acceptor_gets 3 (Prepare first (the_round 3)) to_leader
    ∷ backup_gets 3 (Promise 0 first (the_round 3) none null) hold
    ∷ backup_gets 3 (Promise 1 first (the_round 3) none null) hold
    ∷ backup_gets 3 (Promise 2 first (the_round 3) none null) hold
    ∷ backup_gets 3 (Promise 3 first (the_round 3) none null) to_acceptors
    ∷ acceptor_gets 3 (Propose first (the_round 3) u) to_learners
    ∷ acceptor_gets 4 (Propose first (the_round 3) u) to_learners
    ∷ acceptor_gets 5 (Propose first (the_round 3) u) to_learners
    ∷ acceptor_gets 6 (Propose first (the_round 3) u) to_learners
    ∷ learner_gets 0 (Vote 3 first (the_round 3) u) hold
    ∷ learner_gets 0 (Vote 4 first (the_round 3) u) hold
    ∷ learner_gets 0 (Vote 5 first (the_round 3) u) hold
    ∷ learner_gets 0 (Vote 6 first (the_round 3) u) decided
    ∷ []

abbrev pub of_five : Boxes
of_five = played five (fresh_boxes 1) three_of_five

abbrev pub of_seven : Boxes
of_seven = played seven (fresh_boxes 1) four_of_seven

-- ---- how they go

-- Computed from the definitions: every row may be played and answers as it says, and the learners say this in the end.
pub record Computed : Type 0 where
  pub deciding_plays : plays three (fresh_boxes 2) deciding ≡ true
  pub first_vote : VoteSent early.packets 0 first (the_round 0) v
  pub second_vote : VoteSent early.packets 1 first (the_round 0) v
  pub taking_over_plays : plays three early taking_over ≡ true
  pub old_votes_heard : said three taken 0 first ≡ says v
  pub new_votes_heard : said three taken 1 first ≡ says v
  pub no_votes_heard : said three taken 2 first ≡ not_yet
  pub leaving_a_hole_plays : plays three (fresh_boxes 2) leaving_a_hole ≡ true
  pub the_hole : find_hole three (holed.learner 0) ≡ holes.Found first
  pub repairing_plays : plays three holed repairing ≡ true
  pub null_said : said three repaired 0 first ≡ says null
  pub no_hole_left : find_hole three (repaired.learner 0) ≡ holes.NoHole
  pub both_delivered : delivered_by three repaired 0 ≡ null ∷ u ∷ []
  pub splitting_plays : plays three (fresh_boxes 2) splitting ≡ true
  pub the_other_said : said three split 0 first ≡ says u
  pub one_vote : VoteSent split.packets 0 first (the_round 0) v
  pub scanning_plays : plays evening (fresh_boxes 3) scanning ≡ true
  pub the_last_hole : find_hole evening (scanned.learner 0) ≡ holes.Found third
  pub keeping_plays : plays evening scanned keeping_the_scan ≡ true
  pub none_when_kept : find_hole evening (scan_kept.learner 0) ≡ holes.NoHole
  pub three_delivered : delivered_by evening scan_kept 0 ≡ v ∷ u ∷ last ∷ []
  pub giving_up_plays : plays evening scanned giving_up_the_scan ≡ true
  pub none_when_given_up : find_hole evening (scan_given_up.learner 0) ≡ holes.NoHole
  pub null_delivered : delivered_by evening scan_given_up 0 ≡ v ∷ u ∷ null ∷ []
  pub three_of_five_plays : plays five (fresh_boxes 1) three_of_five ≡ true
  pub five_said : said five of_five 0 first ≡ says v
  pub four_of_seven_plays : plays seven (fresh_boxes 1) four_of_seven ≡ true
  pub seven_said : said seven of_seven 0 first ≡ says u
