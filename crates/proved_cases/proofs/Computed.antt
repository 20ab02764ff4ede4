-- The starred cases, those of frames, of holes and of rounds, the orders of refusal and the calls that are written out hold: each is computed from the
-- definitions, all with one list of them.
-- Assumes nothing.
use mathlib.Core.Path.{refl}
use lib.Count.{ones}
use Rattle.numbers.specs.BigEndian.{number_at, with_number_at}
use Rattle.basics.specs.Ladder.{when◌then◌else◌, need◌or◌then◌}
use Rattle.basics.specs.Rounds.{owner_of, owned_or_0, owned_not_0, rank, at_most}
use Rattle.basics.specs.Votes.{is_vote_up_to}
use Rattle.basics.specs.Places.{placed}
use Rattle.messages.specs.Table.{request_row, prepare_row, promise_row, propose_row, vote_row, table_row, keeps_table}
use Rattle.messages.specs.Message.{message_of, fields_of, when_request, when_prepare, when_promise, when_propose, when_vote}
use Rattle.wire.specs.Packet.{fields_in, read_packet, packet_with, packet_of}
use Rattle.player.specs.Step.{after_reading, after_placing, ruled, rule_at, act, step}
use Rattle.packets.specs.Packets.{packet_write, fields_read, packet_read}
use Rattle.checksum.specs.Sum.{sum_onto}
use Rattle.frames.specs.Frame.{ipv4_checksum, sent_as, udp_checksum, carries_udp, frame_check, sealed, frame_seal}
use Rattle.frames.specs.Header.{frame_of}
use Rattle.framing.specs.Framing.{prepare_framed, frame_prepare}
use Rattle.port.specs.Framed.{framed}
use Rattle.quorum.specs.Settings.{acceptors_allowed, instances_allowed, allowed}
use Rattle.quorum.specs.Quorum.{majority, bit, has_member, with_member, within, reaches}
use Rattle.columns.specs.Fresh.{set_fresh}
use Rattle.columns.specs.Walks.{cells_from, every}
use Rattle.primary_rule.specs.Rule as primary_rule
use Rattle.primary.specs.Primary as primary
use Rattle.primary_port.specs.Port.{primary_frame}
use Rattle.acceptor_rule.specs.Rule as acceptor_rule
use Rattle.acceptor_tables.specs.Tables as acceptor_tables
use Rattle.acceptor.specs.Acceptor as acceptor
use Rattle.acceptor_port.specs.Port.{acceptor_frame}
use Rattle.backup_cell.specs.Cell as backup_cell
use Rattle.backup_rule.specs.Rule as backup_rule
use Rattle.backup_tables.specs.Tables as backup_tables
use Rattle.backup.specs.Backup as backup
use Rattle.backup_port.specs.Port.{backup_frame}
use Rattle.learner_cell.specs.Cell as learner_cell
use Rattle.learner_rule.specs.Rule as learner_rule
use Rattle.learner_tables.specs.Tables as learner_tables
use Rattle.learner.specs.Learner as learner
use Rattle.learner_port.specs.Port.{learner_frame}
use Rattle.learner_delivery.specs.Delivery.{deliver}
use Rattle.learner_holes.specs.Holes as holes
use Rattle.learner_file.specs.File.{header, marked, same_settings, cell_bytes, cell_in, cells_bytes, rounds_of, sets_of, values_of}
use Rattle.learner_saved.specs.Saved.{saved_table, save, read_saved}
use Rattle.entries.specs.Entry as entries
use Rattle.passes.specs.Passes as passes
use Rattle.ledger_rule.specs.Rule as ledger_rule
use Rattle.ledger.specs.Ledger.{enter}
use Rattle.proved_cases.specs.Cases.{cases, All}
use Rattle.proved_cases.specs.Frames.{FrameCases}
use Rattle.proved_cases.specs.Holes.{HoleCases}
use Rattle.proved_cases.specs.Orders.{Orders}
use Rattle.proved_cases.specs.Rounds.{RoundCases}
use Rattle.proved_cases.specs.WrittenOut.{WrittenOut}

computed : WrittenOut × FrameCases × HoleCases × RoundCases × Orders × All cases
unfolding ones number_at with_number_at when◌then◌else◌ need◌or◌then◌ owner_of owned_or_0 owned_not_0 rank at_most is_vote_up_to placed request_row prepare_row promise_row propose_row vote_row table_row
    keeps_table message_of fields_of when_request when_prepare when_promise when_propose when_vote fields_in read_packet packet_with packet_of packet_write fields_read packet_read
    after_reading after_placing ruled rule_at act step acceptors_allowed instances_allowed allowed majority bit has_member with_member within reaches cells_from every
    set_fresh primary.primary_fresh acceptor_tables.acceptor_fresh backup_tables.backup_fresh learner_tables.learner_fresh
    primary_rule.possible primary_rule.take_request primary.is_allowed primary.primary primary.primary_step primary.primary_by_reference primary.primary_request
    acceptor_rule.possible acceptor_rule.order_of acceptor_rule.obeying acceptor_rule.obey acceptor_tables.tables_allowed acceptor_tables.is_allowed acceptor.acceptor acceptor.acceptor_step
    backup_cell.is_fresh backup_cell.phase_fits backup_cell.is_started backup_cell.possible backup_rule.next_round backup_rule.start backup_rule.counting backup_rule.chosen
    backup_rule.when_majority backup_rule.take_promise backup_tables.tables_allowed backup_tables.is_allowed backup.backup backup.backup_step backup.backup_start
    learner_cell.is_decided learner_cell.has_vote learner_cell.value_of learner_cell.is_fresh learner_cell.is_heard learner_cell.possible learner_rule.hold_or_decide learner_rule.add_voter learner_rule.count_vote
    learner_tables.is_allowed learner.place learner.rule learner.learner learner.learner_step learner.answer_of_cell learner.answer_at learner.answer_for learner.answered
    deliver holes.decided_end_from holes.is_hole holes.first_hole_from holes.find_hole holes.answered header marked same_settings
    cell_bytes cell_in cells_bytes rounds_of sets_of values_of saved_table save read_saved
    sum_onto ipv4_checksum sent_as udp_checksum carries_udp frame_check sealed frame_seal frame_of prepare_framed frame_prepare framed
    primary_frame acceptor_frame backup_frame learner_frame
    entries.fields_in entries.is_null entries.is_sale entries.is_boarding entries.entry_of entries.entry_in entries.field_bytes
    passes.holding passes.among passes.place_of passes.twice passes.is_full passes.is_sized passes.lawful passes.sound
    ledger_rule.sell ledger_rule.board_pass ledger_rule.boarded_at ledger_rule.board ledger_rule.rule enter
computed = (
  record {
    primary_made_fresh = refl;
    acceptor_made_fresh = refl;
    backup_made_fresh = refl;
    learner_made_fresh = refl;
    primary_not_fresh = refl;
    acceptor_not_fresh = refl;
    backup_not_fresh = refl;
    learner_not_fresh = refl;
    request_proposed = refl;
    start_prepares = refl;
    prepare_promised = refl;
    promise_held = refl;
    majority_proposes = refl;
    tie_keeps_the_first = refl;
    propose_voted = refl;
    vote_held = refl;
    vote_decides = refl;
    value_answered = refl;
    not_yet_answered = refl;
    hole_found = refl;
    voted_hole_found = refl;
    no_hole_found = refl;
    table_saved = refl;
    table_read = refl;
    fields_written = refl;
    fields_as_read = refl;
    null_not_written = refl;
    null_not_read = refl;
    null_refused = refl;
    best_refused = refl;
  },
  record {
    words_summed = refl;
    header_summed = refl;
    header_in_place = refl;
    a_framed = refl;
    a_passes = refl;
    b_passes = refl;
    b_voted = refl;
    c_passes = refl;
    c_voted = refl;
    d_passes = refl;
    d_refused = refl;
  },
  record {
    all_fresh = refl;
    one_vote_in_0 = refl;
    two_decided_and_one_vote = refl;
    untouched_below_a_vote = refl;
    untouched_below_a_decided_one = refl;
    untouched_before_a_vote = refl;
    untouched_and_vote_below_a_decided_one = refl;
    one_vote_in_the_last = refl;
    all_decided = refl;
    one_vote_of_one_cell = refl;
    one_cell_decided = refl;
    two_votes_of_five = refl;
    three_votes_of_five = refl;
    a_vote_for_null = refl;
  },
  refl,
  refl,
  (
    refl,
    (
      refl,
      (
        refl,
        (
          refl,
          (
            refl,
            (
              refl,
              (
                refl,
                (
                  refl,
                  (
                    refl,
                    (
                      refl,
                      (
                        refl,
                        (
                          refl,
                          (
                            refl,
                            (refl, (refl, (refl, (refl, (refl, (refl, (refl, (refl, (refl, (refl, (refl, (refl, tt)))))))))))),
                          ),
                        ),
                      ),
                    ),
                  ),
                ),
              ),
            ),
          ),
        ),
      ),
    ),
  ),
)

written_out : WrittenOut
written_out = computed.0

pub frame-cases : FrameCases
frame-cases = computed.1

pub hole-cases : HoleCases
hole-cases = computed.2

pub round-cases : RoundCases
round-cases = computed.3

orders : Orders
orders = computed.4

starred : All cases
starred = computed.5
