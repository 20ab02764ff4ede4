-- What is decided in the boxes is decided in the slot, and so it is one value; and a decided cell of a learner holds a decided value.
-- Assumes nothing.
use Prim.Native.Nat.{ℕ, ◌<◌}
use mathlib.Core.Path.{◌≡◌, sym, subst}
use mathlib.Core.Bool.{true}
use Rattle.basics.specs.declared.Instance.{Instance}
use Rattle.basics.specs.declared.Round.{Round}
use Rattle.basics.specs.declared.Value.{Value}
use Rattle.messages.specs.declared.Message.TheVariants as kind
use Rattle.wire.specs.Packet.{Read, read_packet}
use Rattle.basics.proofs.Places.{placed-index, placed-there}
use Rattle.quorum.specs.declared.Settings.{Settings}
use Rattle.quorum.specs.Voters.{Mem}
use Rattle.quorum.proofs.Laws.{quorums-share}
use Rattle.quorum.proofs.Voters.{listed, set-of, half-iff}
use Rattle.learner_cell.specs.Cell.{is_decided, value_of, possible}
use Rattle.learner_cell.proofs.Laws.{possible-inside}
use Rattle.learner_tables.specs.Tables.{cell_at}
use Rattle.agreement.specs.Run.{Caller, acceptor, Sent, sent, Boxes, Call, Later, VoteSent, Decided, WantedFor}
use Rattle.agreement.proofs.Slot.{Slot, vote, LearnerSound}
use Rattle.agreement.proofs.Slot.Decision.{DecidedIn, one-decision}
use Rattle.agreement.proofs.Representing.{Knows, a-vote, Represents}
use Rattle.agreement.proofs.Runs.{stays-sent}

-- the vote that a packet carries was sent by the acceptor that it names
pub named : {slots : ℕ → Slot} {by : Caller} {a : ℕ} {i : Instance} {r : Round} {v : Value} → Knows slots by (kind.Vote a i r v) → by ≡ acceptor a
named (a-vote there own) = own

in-slot : {slots : ℕ → Slot} {by : Caller} {a : ℕ} {i : Instance} {r : Round} {v : Value} → Knows slots by (kind.Vote a i r v) → Mem (vote a r v) (slots i.0).votes
in-slot (a-vote there own) = there

module _ {s : Settings} {w : Boxes} (h : Represents s w) where
  pub vote-named : (x : Sent) → Mem x w.packets → (a : ℕ) (i : Instance) (r : Round) (v : Value)
      → read_packet x.packet ≡ Read (kind.Vote a i r v) → Knows h.slots x.by (kind.Vote a i r v)
  vote-named x there a i r v reads =
      let k = h.told.known x there in
      let same : k.message ≡ kind.Vote a i r v = cc k.reads in
      subst (Knows h.slots x.by) same k.knows

  vote-there : {a : ℕ} {i : Instance} {r : Round} {v : Value} → VoteSent w.packets a i r v → Mem (vote a r v) (h.slots i.0).votes
  vote-there {a} {i} {r} {v} x =
      let knows = vote-named _ x.was_sent x.switch i r v x.reads in
      let own = named knows in
      let same : x.switch ≡ a = cc in
      subst (λ n. Mem (vote n r v) (h.slots i.0).votes) same (in-slot knows)

  decided-in : {i : Instance} {v : Value} (d : Decided s w i v) → DecidedIn s.acceptors (h.slots i.0) d.round v
  decided-in d =
      let q = set-of s.acceptors d.voters d.distinct d.are_acceptors in
      record { set = q.set; quorum = (half-iff q.names).0 d.more_than_half; voted = λ a m. vote-there (d.voted a ((q.names.members a).1 m)) }

  -- one of the votes that decided it
  one_vote : {i : Instance} {v : Value} (d : Decided s w i v) → (a : ℕ) × Mem (vote a d.round v) (h.slots i.0).votes
  one_vote d =
      let q = decided-in d in
      let a = quorums-share q.quorum q.quorum in
      (a.member, q.voted a.member a.in_first)

  pub decided-sent : {i : Instance} {v : Value} → Decided s w i v → (x : Sent) × Mem x w.packets
  decided-sent {i} d = let x = h.told.votes i _ (one_vote d).1 in (sent _ x.packet, x.was_sent)

  -- what is decided has a cell
  pub decided-inside : {i : Instance} {v : Value} → Decided s w i v → i.0 < s.instances
  decided-inside {i} d =
      let spot = h.has-place i.0 _ (one_vote d).1 in
      let at = placed-index s.instances i spot.0 spot.1 in
      rw (← at.0) at.1

  pub decided_once : {i : Instance} {v u : Value} → Decided s w i v → Decided s w i u → v ≡ u
  decided_once {i} {v} {u} d e = one-decision (h.sound i.0) d.round e.round v u (decided-in d) (decided-in e)

  -- what is decided was voted for, so proposed, and what is proposed was wanted
  pub decided-wanted : {i : Instance} {v : Value} → Decided s w i v → WantedFor w.wanted i v
  decided-wanted {i} d = h.wants.proposes i.0 _ ((h.sound i.0).vote-proposed _ (one_vote d).1)

  pub cell-decided : (which : ℕ) (i : Instance) → i.0 < s.instances → possible s.acceptors (cell_at (w.learner which) i.0) ≡ true
      → is_decided s.acceptors (cell_at (w.learner which) i.0) ≡ true → Decided s w i (value_of s.acceptors (cell_at (w.learner which) i.0))
  unfolding is_decided value_of
  cell-decided which i below fine decided =
      let c = cell_at (w.learner which) i.0 in
      let votes = subst (LearnerSound (h.slots i.0).votes) (sym (h.learners which i.0 i.0 (placed-there s.instances i below))) ((h.sound i.0).learners which) in
      let inside = possible-inside s.acceptors c fine in
      let q = listed s.acceptors c.set inside in
      record {
        round = c.round;
        voters = q.voters;
        distinct = q.names.distinct;
        are_acceptors = q.names.known;
        more_than_half = (half-iff q.names).1 (record { inside = inside; enough = decided });
        voted = λ a m. h.told.votes i _ (votes a ((q.names.members a).0 m));
      }

-- What is decided stays so.
pub stays-decided : {s : Settings} {w u : Boxes} {i : Instance} {v : Value} → Later (Call s) w u → Decided s w i v → Decided s u i v
stays-decided later d = record {
  round = d.round;
  voters = d.voters;
  distinct = d.distinct;
  are_acceptors = d.are_acceptors;
  more_than_half = d.more_than_half;
  voted = λ a m. let x = d.voted a m in record { packet = x.packet; switch = x.switch; reads = x.reads; was_sent = stays-sent _ later x.was_sent };
}
