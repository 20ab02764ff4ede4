-- Of runs with a slip agreement is false, because one of its promises contradicts where the slip was computed to lead.
-- Assumes nothing.
use Prim.Native.Nat.{ℕ}
use mathlib.Core.Path.{◌≡◌, refl}
use mathlib.Core.Bool.{false}
use mathlib.Core.List.{List, []}
use native.Mathlib.Omega.{arith}
use lib.Dec.{eqb}
use Rattle.basics.specs.declared.Value.{Value}
use Rattle.agreement.specs.Run.{Boxes, fresh_boxes, Call, Later, now, and_then, Run}
use Rattle.agreement.specs.Run as run
use Rattle.agreement.specs.Examples.{Row, three, first}
use Rattle.agreement.specs.Slips.{Slip, set_fresh, after_slip, Slipping, rightly, wrongly, until_slip, slipped, Played, TwoDecided, SaysOther, NotWanted, TakesBack, NoAgreement}
use Rattle.agreement.specs.Slips.{vote_round_0, stale_vote, doubled_vote, doubled_promise, earlier_promise, made_up_value, NoneAgrees}
use Rattle.agreement.proofs.Runs.{joined-runs}
use Rattle.agreement.proofs.OtherRuns.{as-calls}
use Rattle.agreement.proofs.Computed.{apart, slips}
use Rattle.agreement.proofs.Examples.{rows_run}

module _ (slip : Slip) where
  -- right calls are calls of runs with the slip
  right : {w u : Boxes} → Later (Call three) w u → Later (Slipping slip) w u
  right = as-calls (λ w u call. and_then now (rightly call))

  until-slip : (before after : List Row) → Played slip before after → Run (Slipping slip) three (until_slip before)
  until-slip before after p = right (rows_run (fresh_boxes 2) before now p.before_plays)

  from-slip : (before after : List Row) → Played slip before after → Later (Slipping slip) (until_slip before) (slipped slip before after)
  from-slip before after p = joined-runs (and_then now (wrongly p.slip_plays)) (right (rows_run (after_slip slip (until_slip before)) after now p.after_plays))

  whole : (before after : List Row) → Played slip before after → Run (Slipping slip) three (slipped slip before after)
  whole before after p = joined-runs (until-slip before after p) (from-slip before after p)

  two-disagree : {before after : List Row} {one other : Value} → eqb one.low other.low ≡ false → TwoDecided slip before after one other → NoAgreement slip
  two-disagree {before} {after} {one} {other} differ two agreed =
      apart one other differ ((agreed.decided_once (whole before after two.are_played) now first other two.other_decided).alone one two.one_decided)

  saying-disagrees : {before after : List Row} {which : ℕ} {one other : Value} → eqb one.low other.low ≡ false → SaysOther slip before after which one other → NoAgreement slip
  saying-disagrees {before} {after} {which} {one} {other} differ other-said agreed =
      let run-so = whole before after other-said.are_played in
      let one_decided = agreed.said_is_decided run-so which first one other-said.one_said in
      apart one other differ ((agreed.decided_once run-so now first other other-said.other_decided).alone one one_decided)

  unwanted-disagrees : {before after : List Row} {x : Value} → NotWanted slip before after x → NoAgreement slip
  unwanted-disagrees {before} {after} {x} unwanted agreed =
      unwanted.not_wanted (agreed.decided_was_wanted (whole before after unwanted.are_played) first x unwanted.is_decided)

  taking-back-disagrees : {before : List Row} {which : ℕ} {x : Value} → TakesBack slip before which x → NoAgreement slip
  taking-back-disagrees {before} {which} {x} back agreed =
      let still = agreed.keeps_saying (until-slip before [] back.are_played) (from-slip before [] back.are_played) which first x back.was_said in
      let gone = back.no_more in
      let z : ◌≡◌ {A = ℕ} 0 1 = cc in omega arith

pub none-agrees : NoneAgrees
none-agrees = record {
  never_voted_is_round_0 = two-disagree vote_round_0 refl slips.never_voted_is_round_0;
  round_compared_only_on_prepare = two-disagree stale_vote refl slips.round_compared_only_on_prepare;
  vote_packets_counted = saying-disagrees doubled_vote refl slips.vote_packets_counted;
  promise_packets_counted = two-disagree doubled_promise refl slips.promise_packets_counted;
  promises_of_an_earlier_start_added = two-disagree earlier_promise refl slips.promises_of_an_earlier_start_added;
  value_made_up = unwanted-disagrees made_up_value slips.value_made_up;
  acceptor_set_fresh = two-disagree (set_fresh (run.Caller.acceptor 0)) refl slips.acceptor_set_fresh;
  primary_set_fresh = two-disagree (set_fresh run.Caller.the_primary) refl slips.primary_set_fresh;
  backup_set_fresh = two-disagree (set_fresh (run.Caller.backup 1)) refl slips.backup_set_fresh;
  learner_set_fresh = taking-back-disagrees (set_fresh (run.Caller.learner 0)) slips.learner_set_fresh;
}
