-- The example runs are runs: rows that may be played are calls, one after the other. So the theorem speaks of them.
-- Assumes nothing.
use Prim.Native.Nat.{ℕ}
use mathlib.Core.Path.{◌≡◌, refl, ap, ◌∙◌}
use mathlib.Core.Bool.{true, false, ◌&&◌, false≢true}
use mathlib.Core.List.{List, [], ◌∷◌}
use mathlib.Core.Logic.{⊎_elim}
use native.Mathlib.Omega.{arith}
use lib.Dec.{lit<}
use borrow.Author.Tests.{ltb-true}
use Rattle.basics.specs.declared.Value.{Value}
use Rattle.basics.specs.Rounds.{the_round}
use Rattle.basics.specs.Values.{null}
use Rattle.columns.proofs.Columns.{below-fresh}
use Rattle.basics.proofs.Ladder.{both_true, or_cases}
use Rattle.messages.specs.declared.Message.{Message}
use Rattle.messages.proofs.Eliminators.{request-elim}
use Rattle.wire.specs.Packet.{Reading, Read, Refused, packet_length, read_packet, packet_of}
use Rattle.wire.proofs.Laws.{packet-bytes}
use Rattle.quorum.specs.declared.Settings.{Settings}
use Rattle.quorum.specs.Voters.{Mem}
use Rattle.agreement.specs.Run.{by_start, Boxes, fresh_boxes, Handed, Call, Later, now, and_then, Run, Decided}
use Rattle.agreement.specs.Run as run
use Rattle.agreement.specs.Agreement.{Agreed}
use Rattle.agreement.specs.Examples.{Row, primary_gets, primary_gets_by_reference, acceptor_gets, backup_starts, backup_gets, learner_gets, zeros, after, answers, was_sent}
use Rattle.agreement.specs.Examples.{reads_request, may_hand, is_handed, played, plays, three, first, v, u, deciding, taking_over, early, taken, leaving_a_hole}
use Rattle.agreement.specs.Examples.{repairing, holed, repaired, splitting, split, five, seven, three_of_five, four_of_seven, of_five, of_seven}
use Rattle.agreement.specs.Examples.{evening, scanning, keeping_the_scan, giving_up_the_scan, scanned, scan_kept, scan_given_up}
use Rattle.agreement.proofs.Finding.{by-was_sent, two-votes}
use Rattle.agreement.proofs.Computed.{computed}
use Rattle.agreement.proofs.Agreement.{agreement}

-- ---- rows that may be played are a run

may-hand : (w : Boxes) (m : Message) → may_hand w (packet_of m) ≡ true → Handed w (packet_of m)
may-hand w m e =
    ⊎_elim (asks (read_packet (packet_of m)) refl)
    (λ copied. let found = by-was_sent (packet_of m) w.packets copied in run.Handed.copy found.by found.there)
    (or_cases (reads_request (read_packet (packet_of m))) (was_sent (packet_of m) w.packets) e)
  where
    asks : (r : Reading) → read_packet (packet_of m) ≡ r → reads_request r ≡ true → Handed w (packet_of m)
    asks (Refused number) reads = λ asked. absurd (false≢true asked)
    asks (Read n) reads =
        request-elim (λ b. b ≡ true → Handed w (packet_of m)) (λ switch value. true) false n
        (λ switch value is _. run.Handed.request (packet-bytes m) switch value (reads ∙ ap Read is)) (λ asked. absurd (false≢true asked))

row-calls : (s : Settings) (w : Boxes) (row : Row) → is_handed w row ≡ true → Call s w (after s w row)
row-calls s w (primary_gets m answer) e = run.Call.primary_steps (packet_of m) (may-hand w m e)
row-calls s w (primary_gets_by_reference m answer) e = run.Call.primary_requests (packet_of m) (may-hand w m e)
row-calls s w (acceptor_gets own m answer) e = run.Call.acceptor_steps own (packet_of m) (may-hand w m e)
row-calls s w (backup_starts own i floor v answer) e =
    let c = both_true _ _ e in
    let b = both_true _ _ c.0 in
    let a = both_true _ _ b.0 in
    run.Call.backup_starts own i floor v zeros (record {
      instance_fits = ltb-true _ _ a.0;
      floor_fits = ltb-true _ _ a.1;
      high_fits = ltb-true _ _ b.1;
      low_fits = ltb-true _ _ c.1;
      bytes = below-fresh 256 packet_length 0 (lit< tt);
    })
row-calls s w (backup_gets own m answer) e = run.Call.backup_steps own (packet_of m) (may-hand w m e)
row-calls s w (learner_gets which m answer) e = run.Call.learner_steps which (packet_of m) (may-hand w m e)

pub rows_run : {s : Settings} {w : Boxes} (x : Boxes) (rows : List Row) → Later (Call s) w x → plays s x rows ≡ true → Later (Call s) w (played s x rows)
unfolding plays played
rows_run x [] before e = before
rows_run {s} x (row ∷ rows) before e =
    let a = both_true (is_handed x row && answers s x row) (plays s (after s x row) rows) e in
    let b = both_true (is_handed x row) (answers s x row) a.0 in
    rows_run (after s x row) rows (and_then before (row-calls s x row b.0)) a.1

-- ---- and what the theorem says of them

early-run : Run (Call three) three early
early-run = rows_run (fresh_boxes 2) deciding now computed.deciding_plays

later-taken : Later (Call three) early taken
later-taken = rows_run early taking_over now computed.taking_over_plays

pub taken-run : Run (Call three) three taken
taken-run = rows_run early taking_over early-run computed.taking_over_plays

pub repaired-run : Run (Call three) three repaired
repaired-run = rows_run holed repairing (rows_run (fresh_boxes 2) leaving_a_hole now computed.leaving_a_hole_plays) computed.repairing_plays

-- Decided before the takeover, and so afterwards, whatever the backup had in mind.
pub v-decided-early : Decided three early first v
v-decided-early = two-votes early 0 1 (the_round 0) v refl computed.first_vote computed.second_vote

pub v-still-decided : Agreed three taken first v
v-still-decided = (agreement three).decided_once early-run later-taken first v v-decided-early

-- The null value is decided,
pub null-decided : Decided three repaired first null
null-decided = (agreement three).said_is_decided repaired-run 0 first null computed.null_said

-- and was named by a start.
pub null-started : (own : ℕ) × Mem (by_start own first null) repaired.wanted
null-started = (agreement three).null_was_started repaired-run first null-decided

-- The other value is decided where one acceptor voted for v, and so v is not.
pub split-run : Run (Call three) three split
split-run = rows_run (fresh_boxes 2) splitting now computed.splitting_plays

pub other_decided : Decided three split first u
other_decided = (agreement three).said_is_decided split-run 0 first u computed.the_other_said

pub one-vote-does-not-decide : Decided three split first v → ⊥
one-vote-does-not-decide d =
    let same : v ≡ u = ((agreement three).decided_once split-run now first u other_decided).alone v d in
    let low : ◌≡◌ {A = ℕ} 0x2a 0x2b = ap (λ (x : Value). x.low) same in
    omega arith

-- The last hole of the evening, repaired in either way: runs as any other.
pub scanned-run : Run (Call evening) evening scanned
scanned-run = rows_run (fresh_boxes 3) scanning now computed.scanning_plays

pub kept_run : Run (Call evening) evening scan_kept
kept_run = rows_run scanned keeping_the_scan scanned-run computed.keeping_plays

pub given-up-run : Run (Call evening) evening scan_given_up
given-up-run = rows_run scanned giving_up_the_scan scanned-run computed.giving_up_plays

-- A value is decided by three of five, and by four of seven.
pub five-decided : Decided five of_five first v
five-decided = (agreement five).said_is_decided (rows_run (fresh_boxes 1) three_of_five now computed.three_of_five_plays) 0 first v computed.five_said

pub seven-decided : Decided seven of_seven first u
seven-decided = (agreement seven).said_is_decided (rows_run (fresh_boxes 1) four_of_seven now computed.four_of_seven_plays) 0 first u computed.seven_said
