-- The example runs and the slips go as they are said to: all of it is computed from the definitions, through the packets' bytes.
-- Assumes nothing.
use Prim.Native.Nat.{ℕ}
use mathlib.Core.Path.{◌≡◌, refl, ap}
use mathlib.Core.Bool.{true, false, ◌&&◌, not}
use mathlib.Core.List.{[], ◌∷◌}
use native.Mathlib.Omega.{arith}
use lib.Count.{ones}
use lib.Dec.{eqb, ltb}
use borrow.Author.Tests.{eqb-false}
use Rattle.numbers.specs.BigEndian.{number_at}
use Rattle.basics.specs.declared.Round.{Round}
use Rattle.basics.specs.declared.Value.{Value}
use Rattle.basics.specs.Ladder.{when◌then◌else◌, need◌or◌then◌}
use Rattle.basics.specs.Rounds.{the_round, owner_of, owned_or_0, owned_not_0, rank, at_most}
use Rattle.basics.specs.Votes.{is_vote_up_to}
use Rattle.basics.specs.Places.{placed}
use Rattle.basics.specs.Values.{null}
use Rattle.basics.specs.Verdict.{says_send}
use Rattle.messages.specs.declared.Message.TheVariants.{Vote}
use Rattle.messages.specs.Table.{request_row, prepare_row, promise_row, propose_row, vote_row, table_row, keeps_table}
use Rattle.messages.specs.Message.{message_of, fields_of, when_request, when_prepare, when_promise, when_propose, when_vote}
use Rattle.wire.specs.Packet.{Read, fields_in, read_packet, packet_with, packet_of}
use Rattle.player.specs.Step.{after_reading, after_placing, ruled, rule_at, act, step}
use Rattle.quorum.specs.Settings.{acceptors_allowed, instances_allowed, allowed}
use Rattle.quorum.specs.Quorum.{majority, bit, has_member, with_member, within, reaches}
use Rattle.quorum.specs.Voters.{newest, older}
use Rattle.columns.specs.Fresh.{set_fresh}
use Rattle.columns.specs.Walks.{cells_from, every}
use Rattle.primary_rule.specs.Rule as primary_rule
use Rattle.primary.specs.Primary as primary
use Rattle.acceptor_rule.specs.Rule as acceptor_rule
use Rattle.acceptor_tables.specs.Tables as acceptor_tables
use Rattle.acceptor.specs.Acceptor as acceptor
use Rattle.backup_cell.specs.Cell as backup_cell
use Rattle.backup_rule.specs.Rule as backup_rule
use Rattle.backup_tables.specs.Tables as backup_tables
use Rattle.backup.specs.Backup as backup
use Rattle.learner_cell.specs.Cell as learner_cell
use Rattle.learner_rule.specs.Rule as learner_rule
use Rattle.learner_tables.specs.Tables as learner_tables
use Rattle.learner.specs.Learner as learner
use Rattle.learner_delivery.specs.Delivery.{delivered}
use Rattle.learner_holes.specs.Holes as holes
use Rattle.agreement.specs.Run.{by_start, Boxes, put, Decided, WantedFor, requested, started}
use Rattle.agreement.specs.Run as run
use Rattle.agreement.specs.Examples.{equal_bytes, was_sent, played, plays, three, first, v, u, early, split, Computed}
use Rattle.agreement.specs.Slips.{set_fresh as fresh_slip, slipped, voting_then_promising, discarding, promising, voting_for_both, hearing_one, promised_by_one, voting_for_own}
use Rattle.agreement.specs.Slips.{starting_twice, voting_in_round_5, starting_with_u, voting_for_v, voting_for_old, taking_one, voting_twice, proposing_u, proposing_v}
use Rattle.agreement.specs.Slips.{vote_round_0, stale_vote, doubled_vote, doubled_promise, earlier_promise, made_up_value, Slips}
use Rattle.agreement.proofs.Families.{nowhere}
use Rattle.agreement.proofs.Finding.{is_acceptor, sent_by, vote-found, two-votes}

-- two acceptors' votes, found among the packets
by_two : (w : Boxes) (a b : ℕ) (r : Round) (x : Value) → not (eqb a b) && ltb a 3 && ltb b 3 ≡ true
    → sent_by a (packet_of (Vote a first r x)) w.packets ≡ true → read_packet (packet_of (Vote a first r x)) ≡ Read (Vote a first r x)
    → sent_by b (packet_of (Vote b first r x)) w.packets ≡ true → read_packet (packet_of (Vote b first r x)) ≡ Read (Vote b first r x) → Decided three w first x
by_two w a b r x two sent-a reads-a sent-b reads-b =
    two-votes w a b r x two (vote-found a first r x w.packets sent-a reads-a) (vote-found b first r x w.packets sent-b reads-b)

pub apart : (x y : Value) → eqb x.low y.low ≡ false → x ≡ y → ⊥
apart x y differ e = eqb-false x.low y.low differ (ap (λ (z : Value). z.low) e)

-- where a start with u is all that was wanted, v was not
only-u : WantedFor (by_start 1 first u ∷ []) first v → ⊥
only-u (requested packet switch reads (newest e)) = let z : ◌≡◌ {A = ℕ} 0 1 = cc in omega arith
only-u (requested packet switch reads (older m)) = nowhere m
only-u (started own (newest e)) = let same : v ≡ u = cc in apart v u refl same
only-u (started own (older m)) = nowhere m

both : Computed × Slips
unfolding ones number_at when◌then◌else◌ need◌or◌then◌ owner_of owned_or_0 owned_not_0 rank at_most request_row prepare_row promise_row propose_row vote_row table_row keeps_table is_vote_up_to
    message_of fields_of when_request when_prepare when_promise when_propose when_vote fields_in read_packet packet_with packet_of placed after_reading after_placing ruled rule_at act step says_send
    acceptors_allowed instances_allowed allowed majority bit has_member with_member within reaches put equal_bytes was_sent is_acceptor sent_by plays played
    set_fresh primary.primary_fresh acceptor_tables.acceptor_fresh backup_tables.backup_fresh learner_tables.learner_fresh
    primary_rule.possible primary_rule.take_request primary.is_allowed primary.primary primary.primary_step primary.primary_by_reference primary.primary_request
    acceptor_rule.possible acceptor_rule.order_of acceptor_rule.obeying acceptor_rule.obey acceptor_tables.tables_allowed acceptor_tables.is_allowed acceptor.acceptor acceptor.acceptor_step
    backup_cell.is_fresh backup_cell.phase_fits backup_cell.is_started backup_cell.possible backup_rule.next_round backup_rule.start backup_rule.counting backup_rule.chosen
    backup_rule.when_majority backup_rule.take_promise backup_tables.tables_allowed backup_tables.is_allowed backup.backup backup.backup_step backup.backup_start
    learner_cell.is_decided learner_cell.has_vote learner_cell.value_of learner_cell.is_fresh learner_cell.is_heard learner_cell.possible learner_rule.hold_or_decide learner_rule.add_voter learner_rule.count_vote
    learner_tables.is_allowed learner.place learner.rule learner.learner learner.learner_step learner.answer_of_cell learner.answer_at learner.answer_for
    cells_from every delivered holes.decided_end_from holes.is_hole holes.first_hole_from holes.find_hole
both = (
  record {
    deciding_plays = refl;
    first_vote = vote-found 0 first (the_round 0) v early.packets refl refl;
    second_vote = vote-found 1 first (the_round 0) v early.packets refl refl;
    taking_over_plays = refl;
    old_votes_heard = refl;
    new_votes_heard = refl;
    no_votes_heard = refl;
    leaving_a_hole_plays = refl;
    the_hole = refl;
    repairing_plays = refl;
    null_said = refl;
    no_hole_left = refl;
    both_delivered = refl;
    splitting_plays = refl;
    the_other_said = refl;
    one_vote = vote-found 0 first (the_round 0) v split.packets refl refl;
    scanning_plays = refl;
    the_last_hole = refl;
    keeping_plays = refl;
    none_when_kept = refl;
    three_delivered = refl;
    giving_up_plays = refl;
    none_when_given_up = refl;
    null_delivered = refl;
    three_of_five_plays = refl;
    five_said = refl;
    four_of_seven_plays = refl;
    seven_said = refl;
  },
  record {
    never_voted_is_round_0 = record {
      are_played = record { before_plays = refl; slip_plays = refl; after_plays = refl };
      one_decided = by_two (slipped vote_round_0 voting_then_promising discarding) 0 2 (the_round 0) v refl refl refl refl refl;
      other_decided = by_two (slipped vote_round_0 voting_then_promising discarding) 0 1 (the_round 1) null refl refl refl refl refl;
    };
    round_compared_only_on_prepare = record {
      are_played = record { before_plays = refl; slip_plays = refl; after_plays = refl };
      one_decided = by_two (slipped stale_vote promising voting_for_both) 0 2 (the_round 0) v refl refl refl refl refl;
      other_decided = by_two (slipped stale_vote promising voting_for_both) 0 1 (the_round 1) u refl refl refl refl refl;
    };
    vote_packets_counted = record {
      are_played = record { before_plays = refl; slip_plays = refl; after_plays = refl };
      one_said = refl;
      other_decided = by_two (slipped doubled_vote hearing_one []) 1 2 (the_round 1) u refl refl refl refl refl;
    };
    promise_packets_counted = record {
      are_played = record { before_plays = refl; slip_plays = refl; after_plays = refl };
      one_decided = by_two (slipped doubled_promise promised_by_one voting_for_own) 1 2 (the_round 0) v refl refl refl refl refl;
      other_decided = by_two (slipped doubled_promise promised_by_one voting_for_own) 0 1 (the_round 1) u refl refl refl refl refl;
    };
    promises_of_an_earlier_start_added = record {
      are_played = record { before_plays = refl; slip_plays = refl; after_plays = refl };
      one_decided = by_two (slipped earlier_promise starting_twice voting_in_round_5) 0 1 (the_round 2) v refl refl refl refl refl;
      other_decided = by_two (slipped earlier_promise starting_twice voting_in_round_5) 0 2 (the_round 5) u refl refl refl refl refl;
    };
    value_made_up = record {
      are_played = record { before_plays = refl; slip_plays = refl; after_plays = refl };
      is_decided = by_two (slipped made_up_value starting_with_u voting_for_v) 0 1 (the_round 1) v refl refl refl refl refl;
      not_wanted = only-u;
    };
    acceptor_set_fresh = record {
      are_played = record { before_plays = refl; slip_plays = refl; after_plays = refl };
      one_decided = by_two (slipped (fresh_slip (run.Caller.acceptor 0)) promising voting_for_old) 0 2 (the_round 0) v refl refl refl refl refl;
      other_decided = by_two (slipped (fresh_slip (run.Caller.acceptor 0)) promising voting_for_old) 0 1 (the_round 1) u refl refl refl refl refl;
    };
    primary_set_fresh = record {
      are_played = record { before_plays = refl; slip_plays = refl; after_plays = refl };
      one_decided = by_two (slipped (fresh_slip run.Caller.the_primary) taking_one voting_twice) 0 1 (the_round 0) v refl refl refl refl refl;
      other_decided = by_two (slipped (fresh_slip run.Caller.the_primary) taking_one voting_twice) 1 2 (the_round 0) u refl refl refl refl refl;
    };
    backup_set_fresh = record {
      are_played = record { before_plays = refl; slip_plays = refl; after_plays = refl };
      one_decided = by_two (slipped (fresh_slip (run.Caller.backup 1)) proposing_u proposing_v) 0 1 (the_round 1) u refl refl refl refl refl;
      other_decided = by_two (slipped (fresh_slip (run.Caller.backup 1)) proposing_u proposing_v) 1 2 (the_round 1) v refl refl refl refl refl;
    };
    learner_set_fresh = record {
      are_played = record { before_plays = refl; slip_plays = refl; after_plays = refl };
      was_said = refl;
      no_more = refl;
    };
  },
)

pub computed : Computed
computed = both.0

pub slips : Slips
slips = both.1
