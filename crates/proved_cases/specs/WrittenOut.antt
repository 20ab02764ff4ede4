-- Calls whose packets, tables and answers are all written out in the paper's numbers, so that no name stands between a row and the paper: the mark "RDE", the types 0 to 4,
-- version 1, every field in its place, none as 4,294,967,295, the phases in their table, the verdicts' numbers, and the bytes of a saved table. M = 3, N = 2, instance 1, and
-- the value has the bytes 1 to 16. Backup 1's round is 16,909,061, which has the bytes 1, 2, 3, 5.
-- Assumes nothing.
use Rattle.std.specs.Prelude.{ℕ, ◌≡◌, List, [], ◌∷◌, map, replicate}
use Rattle.basics.specs.Rounds.{the_instance}
use Rattle.basics.specs.Values.{the_value}
use Rattle.basics.specs.Outcome.{outcome, lent}
use Rattle.messages.specs.declared.Fields.{Fields}
use Rattle.player.specs.Step.{unchanged}
use Rattle.packets.specs.Packets.{numbered, packet_write, packet_read}
use Rattle.quorum.specs.Settings.{settings}
use Rattle.primary.specs.Primary.{primary_fresh, primary_step}
use Rattle.acceptor_tables.specs.Tables as acceptors
use Rattle.acceptor_tables.specs.Tables.{acceptor_fresh}
use Rattle.acceptor.specs.Acceptor.{acceptor_step}
use Rattle.backup_tables.specs.Tables as backups
use Rattle.backup_tables.specs.Tables.{backup_fresh}
use Rattle.backup.specs.Backup.{backup_step, backup_start}
use Rattle.learner_tables.specs.Tables as learners
use Rattle.learner_tables.specs.Tables.{learner_fresh}
use Rattle.learner.specs.Learner.{learner_step, answer_for, answered}
use Rattle.learner_holes.specs.Holes as holes
use Rattle.learner_saved.specs.Saved.{save, read_saved}

-- ---- packets: mark, type, version, switch number; instance; round; vote round; value

abbrev request : List ℕ
request =
    82 ∷ 68 ∷ 69 ∷ 0 ∷ 0 ∷ 1 ∷ 0 ∷ 9 ∷ 0 ∷ 0 ∷ 0 ∷ 0 ∷ 0 ∷ 0 ∷ 0 ∷ 0 ∷ 255 ∷ 255 ∷ 255 ∷ 255
    ∷ 1 ∷ 2 ∷ 3 ∷ 4 ∷ 5 ∷ 6 ∷ 7 ∷ 8 ∷ 9 ∷ 10 ∷ 11 ∷ 12 ∷ 13 ∷ 14 ∷ 15 ∷ 16 ∷ []

abbrev null_request : List ℕ
null_request =
    82 ∷ 68 ∷ 69 ∷ 0 ∷ 0 ∷ 1 ∷ 0 ∷ 9 ∷ 0 ∷ 0 ∷ 0 ∷ 0 ∷ 0 ∷ 0 ∷ 0 ∷ 0 ∷ 255 ∷ 255 ∷ 255 ∷ 255
    ∷ 0 ∷ 0 ∷ 0 ∷ 0 ∷ 0 ∷ 0 ∷ 0 ∷ 0 ∷ 0 ∷ 0 ∷ 0 ∷ 0 ∷ 0 ∷ 0 ∷ 0 ∷ 0 ∷ []

abbrev prepare : List ℕ
prepare =
    82 ∷ 68 ∷ 69 ∷ 1 ∷ 0 ∷ 1 ∷ 0 ∷ 1 ∷ 0 ∷ 0 ∷ 0 ∷ 1 ∷ 1 ∷ 2 ∷ 3 ∷ 5 ∷ 255 ∷ 255 ∷ 255 ∷ 255
    ∷ 0 ∷ 0 ∷ 0 ∷ 0 ∷ 0 ∷ 0 ∷ 0 ∷ 0 ∷ 0 ∷ 0 ∷ 0 ∷ 0 ∷ 0 ∷ 0 ∷ 0 ∷ 0 ∷ []

-- Of acceptor 2, which never voted, and of acceptor 0, which voted in round 0.
abbrev promise_of_none : List ℕ
promise_of_none =
    82 ∷ 68 ∷ 69 ∷ 2 ∷ 0 ∷ 1 ∷ 0 ∷ 2 ∷ 0 ∷ 0 ∷ 0 ∷ 1 ∷ 1 ∷ 2 ∷ 3 ∷ 5 ∷ 255 ∷ 255 ∷ 255 ∷ 255
    ∷ 0 ∷ 0 ∷ 0 ∷ 0 ∷ 0 ∷ 0 ∷ 0 ∷ 0 ∷ 0 ∷ 0 ∷ 0 ∷ 0 ∷ 0 ∷ 0 ∷ 0 ∷ 0 ∷ []

abbrev promise_of_vote : List ℕ
promise_of_vote =
    82 ∷ 68 ∷ 69 ∷ 2 ∷ 0 ∷ 1 ∷ 0 ∷ 0 ∷ 0 ∷ 0 ∷ 0 ∷ 1 ∷ 1 ∷ 2 ∷ 3 ∷ 5 ∷ 0 ∷ 0 ∷ 0 ∷ 0
    ∷ 1 ∷ 2 ∷ 3 ∷ 4 ∷ 5 ∷ 6 ∷ 7 ∷ 8 ∷ 9 ∷ 10 ∷ 11 ∷ 12 ∷ 13 ∷ 14 ∷ 15 ∷ 16 ∷ []

-- Of acceptor 2, with another value of round 0. In a run one round has one value.
abbrev promise_of_tie : List ℕ
promise_of_tie =
    82 ∷ 68 ∷ 69 ∷ 2 ∷ 0 ∷ 1 ∷ 0 ∷ 2 ∷ 0 ∷ 0 ∷ 0 ∷ 1 ∷ 1 ∷ 2 ∷ 3 ∷ 5 ∷ 0 ∷ 0 ∷ 0 ∷ 0
    ∷ 16 ∷ 15 ∷ 14 ∷ 13 ∷ 12 ∷ 11 ∷ 10 ∷ 9 ∷ 8 ∷ 7 ∷ 6 ∷ 5 ∷ 4 ∷ 3 ∷ 2 ∷ 1 ∷ []

-- Of the primary in round 0, and of backup 1.
abbrev propose_of_primary : List ℕ
propose_of_primary =
    82 ∷ 68 ∷ 69 ∷ 3 ∷ 0 ∷ 1 ∷ 0 ∷ 0 ∷ 0 ∷ 0 ∷ 0 ∷ 1 ∷ 0 ∷ 0 ∷ 0 ∷ 0 ∷ 255 ∷ 255 ∷ 255 ∷ 255
    ∷ 1 ∷ 2 ∷ 3 ∷ 4 ∷ 5 ∷ 6 ∷ 7 ∷ 8 ∷ 9 ∷ 10 ∷ 11 ∷ 12 ∷ 13 ∷ 14 ∷ 15 ∷ 16 ∷ []

abbrev propose_of_backup : List ℕ
propose_of_backup =
    82 ∷ 68 ∷ 69 ∷ 3 ∷ 0 ∷ 1 ∷ 0 ∷ 1 ∷ 0 ∷ 0 ∷ 0 ∷ 1 ∷ 1 ∷ 2 ∷ 3 ∷ 5 ∷ 255 ∷ 255 ∷ 255 ∷ 255
    ∷ 1 ∷ 2 ∷ 3 ∷ 4 ∷ 5 ∷ 6 ∷ 7 ∷ 8 ∷ 9 ∷ 10 ∷ 11 ∷ 12 ∷ 13 ∷ 14 ∷ 15 ∷ 16 ∷ []

-- Of acceptor 2 in backup 1's round.
abbrev vote : List ℕ
vote =
    82 ∷ 68 ∷ 69 ∷ 4 ∷ 0 ∷ 1 ∷ 0 ∷ 2 ∷ 0 ∷ 0 ∷ 0 ∷ 1 ∷ 1 ∷ 2 ∷ 3 ∷ 5 ∷ 1 ∷ 2 ∷ 3 ∷ 5
    ∷ 1 ∷ 2 ∷ 3 ∷ 4 ∷ 5 ∷ 6 ∷ 7 ∷ 8 ∷ 9 ∷ 10 ∷ 11 ∷ 12 ∷ 13 ∷ 14 ∷ 15 ∷ 16 ∷ []

-- One of each type, and as numbers: type, switch number, instance, round, vote round, and the two halves of the value.
abbrev packets : List (List ℕ)
packets = request ∷ prepare ∷ promise_of_vote ∷ propose_of_backup ∷ vote ∷ []

abbrev packet_fields : List Fields
packet_fields =
    numbered 0 9 0 0 4_294_967_295 0x0102030405060708 0x090a0b0c0d0e0f10
    ∷ numbered 1 1 1 16_909_061 4_294_967_295 0 0
    ∷ numbered 2 0 1 16_909_061 0 0x0102030405060708 0x090a0b0c0d0e0f10
    ∷ numbered 3 1 1 16_909_061 4_294_967_295 0x0102030405060708 0x090a0b0c0d0e0f10
    ∷ numbered 4 2 1 16_909_061 16_909_061 0x0102030405060708 0x090a0b0c0d0e0f10
    ∷ []

abbrev some_fields : Fields
some_fields = numbered 11 12 13 14 15 16 17

-- ---- tables: cell 0 is fresh; a value is two numbers, of the bytes 1 to 8 and 9 to 16

abbrev no_values : List ℕ
no_values = 0 ∷ 0 ∷ 0 ∷ 0 ∷ []

abbrev values : List ℕ
values = 0 ∷ 0 ∷ 0x0102030405060708 ∷ 0x090a0b0c0d0e0f10 ∷ []

abbrev never_voted : acceptors.Tables
never_voted = acceptors.tables (0 ∷ 0 ∷ []) (4_294_967_295 ∷ 4_294_967_295 ∷ []) no_values

abbrev promised : acceptors.Tables
promised = acceptors.tables (0 ∷ 16_909_061 ∷ []) (4_294_967_295 ∷ 4_294_967_295 ∷ []) no_values

abbrev voted : acceptors.Tables
voted = acceptors.tables (0 ∷ 16_909_061 ∷ []) (4_294_967_295 ∷ 16_909_061 ∷ []) values

-- The phases are 0 idle, 1 asking, 2 proposed.
abbrev idle : backups.Tables
idle = backups.tables (0 ∷ 0 ∷ []) (0 ∷ 0 ∷ []) (0 ∷ 0 ∷ []) (4_294_967_295 ∷ 4_294_967_295 ∷ []) no_values no_values

abbrev asking : backups.Tables
asking = backups.tables (0 ∷ 16_909_061 ∷ []) (0 ∷ 1 ∷ []) (0 ∷ 0 ∷ []) (4_294_967_295 ∷ 4_294_967_295 ∷ []) no_values (0 ∷ 0 ∷ 7 ∷ 8 ∷ [])

abbrev told_of_vote : backups.Tables
told_of_vote = backups.tables (0 ∷ 16_909_061 ∷ []) (0 ∷ 1 ∷ []) (0 ∷ 1 ∷ []) (4_294_967_295 ∷ 0 ∷ []) values (0 ∷ 0 ∷ 7 ∷ 8 ∷ [])

abbrev proposed : backups.Tables
proposed = backups.tables (0 ∷ 16_909_061 ∷ []) (0 ∷ 2 ∷ []) (0 ∷ 5 ∷ []) (4_294_967_295 ∷ 0 ∷ []) values (0 ∷ 0 ∷ 7 ∷ 8 ∷ [])

-- Impossible: a best vote, told by nobody.
abbrev best_of_empty_set : backups.Tables
best_of_empty_set = backups.tables (0 ∷ 16_909_061 ∷ []) (0 ∷ 1 ∷ []) (0 ∷ 0 ∷ []) (4_294_967_295 ∷ 0 ∷ []) values (0 ∷ 0 ∷ 7 ∷ 8 ∷ [])

abbrev unheard : learners.Tables
unheard = learners.tables (4_294_967_295 ∷ 4_294_967_295 ∷ []) (0 ∷ 0 ∷ []) no_values

-- By acceptor 0 or 2 (bits 1 and 4), and by both.
abbrev heard_of_0 : learners.Tables
heard_of_0 = learners.tables (4_294_967_295 ∷ 16_909_061 ∷ []) (0 ∷ 1 ∷ []) values

abbrev heard : learners.Tables
heard = learners.tables (4_294_967_295 ∷ 16_909_061 ∷ []) (0 ∷ 4 ∷ []) values

abbrev decided : learners.Tables
decided = learners.tables (4_294_967_295 ∷ 16_909_061 ∷ []) (0 ∷ 5 ∷ []) values

-- Mark "RDT", version 1 (2 bytes), M (1), N (2), then N cells of 21 bytes: round 4, set 1, value 16.
abbrev saved : List ℕ
saved =
    82 ∷ 68 ∷ 84 ∷ 0 ∷ 1 ∷ 3 ∷ 0 ∷ 2
    ∷ 255 ∷ 255 ∷ 255 ∷ 255 ∷ 0 ∷ 0 ∷ 0 ∷ 0 ∷ 0 ∷ 0 ∷ 0 ∷ 0 ∷ 0 ∷ 0 ∷ 0 ∷ 0 ∷ 0 ∷ 0 ∷ 0 ∷ 0 ∷ 0
    ∷ 1 ∷ 2 ∷ 3 ∷ 5 ∷ 4 ∷ 1 ∷ 2 ∷ 3 ∷ 4 ∷ 5 ∷ 6 ∷ 7 ∷ 8 ∷ 9 ∷ 10 ∷ 11 ∷ 12 ∷ 13 ∷ 14 ∷ 15 ∷ 16 ∷ []

-- ---- the rows

pub record WrittenOut : Type 0 where
  -- tables set fresh, whatever they held; 7 where M is 4, N is 1 of tables for 2, or the record has two numbers
  pub primary_made_fresh : primary_fresh (settings 3 2) (2 ∷ []) ≡ outcome 106 (0 ∷ [])
  pub acceptor_made_fresh : acceptor_fresh (settings 3 2) voted ≡ outcome 106 never_voted
  pub backup_made_fresh : backup_fresh (settings 3 2) proposed ≡ outcome 106 idle
  pub learner_made_fresh : learner_fresh (settings 3 2) decided ≡ outcome 106 unheard
  pub primary_not_fresh : primary_fresh (settings 3 2) (2 ∷ 3 ∷ []) ≡ outcome 7 (2 ∷ 3 ∷ [])
  pub acceptor_not_fresh : acceptor_fresh (settings 4 2) voted ≡ outcome 7 voted
  pub backup_not_fresh : backup_fresh (settings 3 1) proposed ≡ outcome 7 proposed
  pub learner_not_fresh : learner_fresh (settings 3 1) decided ≡ outcome 7 decided
  -- 101 to acceptors, 102 to leader, 103 to learners, 104 hold, 105 decided, 106 done, 107 not yet, 108 no hole
  pub request_proposed : primary_step (settings 3 2) request (1 ∷ []) ≡ outcome 101 (lent propose_of_primary (2 ∷ []))
  pub start_prepares :
      backup_start (settings 3 2) 1 (the_instance 1) 16_909_060 (the_value 7 8) (replicate 36 0) idle ≡ outcome 101 (lent prepare asking)
  pub prepare_promised : acceptor_step (settings 3 2) 2 prepare never_voted ≡ outcome 102 (lent promise_of_none promised)
  pub promise_held : backup_step (settings 3 2) 1 promise_of_vote asking ≡ outcome 104 (lent promise_of_vote told_of_vote)
  pub majority_proposes : backup_step (settings 3 2) 1 promise_of_none told_of_vote ≡ outcome 101 (lent propose_of_backup proposed)
  -- a vote round above the best so far becomes the best, and an equal one does not
  pub tie_keeps_the_first : backup_step (settings 3 2) 1 promise_of_tie told_of_vote ≡ outcome 101 (lent propose_of_backup proposed)
  pub propose_voted : acceptor_step (settings 3 2) 2 propose_of_backup promised ≡ outcome 103 (lent vote voted)
  pub vote_held : learner_step (settings 3 2) vote unheard ≡ outcome 104 (lent vote heard)
  pub vote_decides : learner_step (settings 3 2) vote heard_of_0 ≡ outcome 105 (lent vote decided)
  pub value_answered : answered (the_value 7 8) (answer_for (settings 3 2) (the_instance 1) decided) ≡ outcome 106 (the_value 0x0102030405060708 0x090a0b0c0d0e0f10)
  pub not_yet_answered : answered (the_value 7 8) (answer_for (settings 3 2) (the_instance 1) heard) ≡ outcome 107 (the_value 7 8)
  -- below a decided instance, and with one vote; without a vote there is none
  pub hole_found : holes.answered 9 (holes.find_hole (settings 3 2) decided) ≡ outcome 106 0
  pub voted_hole_found : holes.answered 9 (holes.find_hole (settings 3 2) heard) ≡ outcome 106 1
  pub no_hole_found : holes.answered 9 (holes.find_hole (settings 3 2) unheard) ≡ outcome 108 9
  pub table_saved : save (settings 3 2) (replicate 50 0) heard ≡ outcome 106 (lent saved heard)
  pub table_read : read_saved (settings 3 2) saved unheard ≡ outcome 106 (lent saved heard)
  -- the fields of packets, there and back
  pub fields_written : map (λ f. packet_write f (replicate 36 0)) packet_fields ≡ map (outcome 106) packets
  pub fields_as_read : map (λ p. packet_read p some_fields) packets ≡ map (outcome 106) packet_fields
  pub null_not_written : packet_write (numbered 0 9 0 0 4_294_967_295 0 0) vote ≡ outcome 5 vote
  pub null_not_read : packet_read null_request some_fields ≡ outcome 5 some_fields
  -- null is never requested: 5; with an empty set, best is none: 17
  pub null_refused : primary_step (settings 3 2) null_request (1 ∷ []) ≡ unchanged null_request (1 ∷ []) 5
  pub best_refused : backup_step (settings 3 2) 1 promise_of_none best_of_empty_set ≡ unchanged promise_of_none best_of_empty_set 17
