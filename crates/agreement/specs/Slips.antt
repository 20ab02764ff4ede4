-- Slips: a box that goes wrong once between calls that are right, by a rule that slips or by tables set fresh in mid-run, and the run that it leads to. Two
-- values are decided for one instance, or a learner says another value than the decided one, or takes back what it said, or what is decided was not wanted.
-- So of runs with that slip agreement is false.
-- Assumes nothing.
use Rattle.std.specs.Prelude.{ℕ, ◌≡◌, Bool, true, List, [], ◌∷◌, ◌++◌}
use Rattle.basics.specs.declared.Value.{Value}
use Rattle.basics.specs.Ladder.{when◌then◌else◌, need◌or◌then◌}
use Rattle.basics.specs.Outcome.{Outcome, outcome, Lent, lent}
use Rattle.basics.specs.Rounds.{the_round, none, is_none}
use Rattle.basics.specs.Values.{null}
use Rattle.messages.specs.declared.Message.{Message}
use Rattle.messages.specs.declared.Message.TheVariants.{Request, Prepare, Promise, Propose, Vote}
use Rattle.messages.specs.Message.{when_promise, when_propose, when_vote}
use Rattle.wire.specs.Packet.{packet_of}
use Rattle.player.specs.Step.{Ruling, refused, Player, step}
use Rattle.quorum.specs.Quorum.{size}
use Rattle.primary.specs.Primary.{primary_fresh}
use Rattle.acceptor_rule.specs.declared.Cell as acceptor_cells
use Rattle.acceptor_rule.specs.Rule as acceptor_rule
use Rattle.acceptor_tables.specs.Tables as acceptor_tables
use Rattle.acceptor.specs.Acceptor as acceptors
use Rattle.backup_cell.specs.declared.Cell as backup_cells
use Rattle.backup_cell.specs.Cell as backup_cell
use Rattle.backup_tables.specs.Tables as backup_tables
use Rattle.backup.specs.Backup as backups
use Rattle.learner_cell.specs.declared.Cell as learner_cells
use Rattle.learner_tables.specs.Tables as learner_tables
use Rattle.learner.specs.Learner as learners
use Rattle.agreement.specs.Run.{Caller, the_primary, acceptor, backup, learner, Boxes, fresh_boxes, after_primary, after_acceptor, after_backup, after_learner}
use Rattle.agreement.specs.Run.{Call, Decided, WantedFor, not_yet, says, said}
use Rattle.agreement.specs.Agreement.{Agreement}
use Rattle.agreement.specs.Examples.{to_acceptors, to_leader, to_learners, hold, decided, Row, primary_gets, acceptor_gets, backup_starts, backup_gets, learner_gets}
use Rattle.agreement.specs.Examples.{may_hand, played, plays, three, first, v, u, deciding, splitting}

-- ---- runs with a slip

-- A box is handed a message and goes by another rule, or its tables are set fresh.
pub data Slip : Type 0 where
  acceptor_slips : (rule : acceptor_cells.Cell → Message → Ruling acceptor_cells.Cell) → (own : ℕ) → Message → Slip
  backup_slips : (rule : backup_cells.Cell → Message → Ruling backup_cells.Cell) → (own : ℕ) → Message → Slip
  learner_slips : (rule : learner_cells.Cell → Message → Ruling learner_cells.Cell) → (which : ℕ) → Message → Slip
  set_fresh : Caller → Slip

-- The players, but for the rule.
abbrev pub acceptor_by : (acceptor_cells.Cell → Message → Ruling acceptor_cells.Cell) → (own : ℕ) → Player acceptor_tables.Tables acceptor_cells.Cell
acceptor_by rule own = record {
  allowed = acceptor_tables.acceptor_allowed three own;
  place = acceptors.place 2;
  cell_at = acceptor_tables.cell_at;
  with_cell = acceptor_tables.with_cell;
  rule = rule;
}

abbrev pub backup_by : (backup_cells.Cell → Message → Ruling backup_cells.Cell) → (own : ℕ) → Player backup_tables.Tables backup_cells.Cell
backup_by rule own = record {
  allowed = backup_tables.backup_allowed three own;
  place = backups.place 2;
  cell_at = backup_tables.cell_at;
  with_cell = backup_tables.with_cell;
  rule = rule;
}

abbrev pub learner_by : (learner_cells.Cell → Message → Ruling learner_cells.Cell) → Player learner_tables.Tables learner_cells.Cell
learner_by rule = record {
  allowed = learner_tables.learner_allowed three;
  place = learners.place 2;
  cell_at = learner_tables.cell_at;
  with_cell = learner_tables.with_cell;
  rule = rule;
}

-- These tables are left, and nothing is sent.
abbrev pub leaving : {Tables : Type 0} → Tables → Outcome (Lent Tables)
leaving tables = outcome hold (lent [] tables)

-- One player's tables are those it had at the beginning: the call that set them fresh is made again.
abbrev pub fresh_again : Caller → Boxes → Boxes
fresh_again the_primary w = after_primary w [] (leaving (primary_fresh three w.primary).left)
fresh_again (acceptor own) w = after_acceptor w own (leaving (acceptor_tables.acceptor_fresh three (w.acceptor own)).left)
fresh_again (backup own) w = after_backup w own (leaving (backup_tables.backup_fresh three (w.backup own)).left)
fresh_again (learner which) w = after_learner w which (leaving (learner_tables.learner_fresh three (w.learner which)).left)

abbrev pub after_slip : Slip → Boxes → Boxes
after_slip (acceptor_slips rule own m) w = after_acceptor w own (step (acceptor_by rule own) (packet_of m) (w.acceptor own))
after_slip (backup_slips rule own m) w = after_backup w own (step (backup_by rule own) (packet_of m) (w.backup own))
after_slip (learner_slips rule which m) w = after_learner w which (step (learner_by rule) (packet_of m) (w.learner which))
after_slip (set_fresh who) w = fresh_again who w

-- Its packet may be handed over.
abbrev pub may_slip : Slip → Boxes → Bool
may_slip (acceptor_slips rule own m) w = may_hand w (packet_of m)
may_slip (backup_slips rule own m) w = may_hand w (packet_of m)
may_slip (learner_slips rule which m) w = may_hand w (packet_of m)
may_slip (set_fresh who) w = true

-- The players' own calls, and the slip beside them.
pub data Slipping (slip : Slip) (w : Boxes) : Boxes → Type 0 where
  rightly : {u : Boxes} → Call three w u → Slipping slip w u
  wrongly : may_slip slip w ≡ true → Slipping slip w (after_slip slip w)

-- Rows, the slip, and rows again.
abbrev pub until_slip : (before : List Row) → Boxes
until_slip before = played three (fresh_boxes 2) before

abbrev pub slipped : Slip → (before after : List Row) → Boxes
slipped slip before after = played three (after_slip slip (until_slip before)) after

-- Each row may be played and answers as it says, and the packet of the slip may be handed over.
pub record Played (slip : Slip) (before after : List Row) : Type 0 where
  pub before_plays : plays three (fresh_boxes 2) before ≡ true
  pub slip_plays : may_slip slip (until_slip before) ≡ true
  pub after_plays : plays three (after_slip slip (until_slip before)) after ≡ true

-- They can be played, and two values are decided after them.
pub record TwoDecided (slip : Slip) (before after : List Row) (one other : Value) : Type 0 where
  pub are_played : Played slip before after
  pub one_decided : Decided three (slipped slip before after) first one
  pub other_decided : Decided three (slipped slip before after) first other

-- ---- vote round 0 for never voted

-- A cell that never voted is taken for one that voted in round 0.
abbrev pub never_voted_is_round_0 : (own : ℕ) → acceptor_cells.Cell → Message → Ruling acceptor_cells.Cell
never_voted_is_round_0 own c =
    acceptors.rule own (acceptor_rule.cell c.round (when is_none c.vote_round then the_round 0 else c.vote_round) c.value)

-- v is decided, and acceptor 0, who voted for it, promises backup 1.
abbrev pub voting_then_promising : List Row
voting_then_promising =
    primary_gets (Request 9 v) to_acceptors
    ∷ acceptor_gets 0 (Propose first (the_round 0) v) to_learners
    ∷ acceptor_gets 2 (Propose first (the_round 0) v) to_learners
    ∷ backup_starts 1 first 0 u to_acceptors
    ∷ acceptor_gets 0 (Prepare first (the_round 1)) to_leader
    ∷ []

-- Acceptor 1, who never voted, tells a vote for null in round 0; it is counted before acceptor 0's true one, and the backup discards the chosen value.
abbrev pub discarding : List Row
discarding =
    backup_gets 1 (Promise 1 first (the_round 1) (the_round 0) null) hold
    ∷ backup_gets 1 (Promise 0 first (the_round 1) (the_round 0) v) to_acceptors
    ∷ acceptor_gets 0 (Propose first (the_round 1) null) to_learners
    ∷ acceptor_gets 1 (Propose first (the_round 1) null) to_learners
    ∷ []

-- ---- round compared only on prepare

-- A propose is voted for whatever its round.
abbrev pub compares_on_prepare_only : (own : ℕ) → acceptor_cells.Cell → Message → Ruling acceptor_cells.Cell
compares_on_prepare_only own c m =
    when_propose (λ instance round value. need acceptor_rule.possible c or refused 17 then acceptor_rule.voting own instance round value) (acceptors.rule own c m) m

-- Acceptors 0 and 1 promise backup 1, which proposes its own value, while the primary's propose still travels.
abbrev pub promising : List Row
promising =
    primary_gets (Request 9 v) to_acceptors
    ∷ backup_starts 1 first 0 u to_acceptors
    ∷ acceptor_gets 0 (Prepare first (the_round 1)) to_leader
    ∷ acceptor_gets 1 (Prepare first (the_round 1)) to_leader
    ∷ backup_gets 1 (Promise 0 first (the_round 1) none null) hold
    ∷ backup_gets 1 (Promise 1 first (the_round 1) none null) to_acceptors
    ∷ []

-- Acceptor 0 has voted for the old propose.
abbrev pub voting_for_both : List Row
voting_for_both =
    acceptor_gets 2 (Propose first (the_round 0) v) to_learners
    ∷ acceptor_gets 0 (Propose first (the_round 1) u) to_learners
    ∷ acceptor_gets 1 (Propose first (the_round 1) u) to_learners
    ∷ []

-- ---- packets counted instead of voters

-- Each vote packet counts as from the next acceptor: the set holds the numbers from 0 on.
abbrev pub counts_vote_packets : learner_cells.Cell → Message → Ruling learner_cells.Cell
counts_vote_packets c = when_vote (λ sender instance round value. learners.rule 3 c (Vote (size c.set) instance round value)) (refused 6)

-- Acceptor 0 alone voted for v, the others' u is decided; learner 1 has heard acceptor 0.
abbrev pub hearing_one : List Row
hearing_one = splitting ++ (learner_gets 1 (Vote 0 first (the_round 0) v) hold ∷ [])

-- One doubled vote decides: the learner says v.
pub record SaysOther (slip : Slip) (before after : List Row) (which : ℕ) (one other : Value) : Type 0 where
  pub are_played : Played slip before after
  pub one_said : said three (slipped slip before after) which first ≡ says one
  pub other_decided : Decided three (slipped slip before after) first other

-- Each promise packet likewise.
abbrev pub counts_promise_packets : (own : ℕ) → backup_cells.Cell → Message → Ruling backup_cells.Cell
counts_promise_packets own c =
    when_promise (λ sender instance round vote_round value. backups.rule 3 own c (Promise (size c.set) instance round vote_round value)) (refused 6)

-- v is decided by acceptors 1 and 2; acceptor 0, who did not vote, promises backup 1.
abbrev pub promised_by_one : List Row
promised_by_one =
    primary_gets (Request 9 v) to_acceptors
    ∷ acceptor_gets 1 (Propose first (the_round 0) v) to_learners
    ∷ acceptor_gets 2 (Propose first (the_round 0) v) to_learners
    ∷ backup_starts 1 first 0 u to_acceptors
    ∷ acceptor_gets 0 (Prepare first (the_round 1)) to_leader
    ∷ backup_gets 1 (Promise 0 first (the_round 1) none null) hold
    ∷ []

-- Acceptor 0's promise, doubled, made a majority, and the backup proposed its own value.
abbrev pub voting_for_own : List Row
voting_for_own =
    acceptor_gets 0 (Propose first (the_round 1) u) to_learners
    ∷ acceptor_gets 1 (Propose first (the_round 1) u) to_learners
    ∷ []

-- ---- promises of an earlier start added to the present one

-- A promise is taken for one of the cell's round.
abbrev pub adds_earlier_promises : (own : ℕ) → backup_cells.Cell → Message → Ruling backup_cells.Cell
adds_earlier_promises own c =
    when_promise (λ sender instance round vote_round value. backups.rule 3 own c (Promise sender instance c.round vote_round value)) (refused 6)

-- Acceptor 0 promised backup 1 in round 1; then v is decided in round 2, by backup 2; backup 1 is started again, in round 5, and acceptor 2 promises.
abbrev pub starting_twice : List Row
starting_twice =
    backup_starts 1 first 0 u to_acceptors
    ∷ acceptor_gets 0 (Prepare first (the_round 1)) to_leader
    ∷ backup_starts 2 first 0 v to_acceptors
    ∷ acceptor_gets 0 (Prepare first (the_round 2)) to_leader
    ∷ acceptor_gets 1 (Prepare first (the_round 2)) to_leader
    ∷ backup_gets 2 (Promise 0 first (the_round 2) none null) hold
    ∷ backup_gets 2 (Promise 1 first (the_round 2) none null) to_acceptors
    ∷ acceptor_gets 0 (Propose first (the_round 2) v) to_learners
    ∷ acceptor_gets 1 (Propose first (the_round 2) v) to_learners
    ∷ backup_starts 1 first 0 u to_acceptors
    ∷ acceptor_gets 2 (Prepare first (the_round 5)) to_leader
    ∷ backup_gets 1 (Promise 2 first (the_round 5) none null) hold
    ∷ []

-- Acceptor 0's old promise, from before its vote, made a majority.
abbrev pub voting_in_round_5 : List Row
voting_in_round_5 =
    acceptor_gets 0 (Propose first (the_round 5) u) to_learners
    ∷ acceptor_gets 2 (Propose first (the_round 5) u) to_learners
    ∷ []

-- ---- a value made up

-- A backup has v for its own value, whatever the start named.
abbrev pub makes_a_value_up : (own : ℕ) → backup_cells.Cell → Message → Ruling backup_cells.Cell
makes_a_value_up own c = backups.rule 3 own (backup_cell.cell c.round c.phase c.set c.best_vote_round c.best_value v)

-- Backup 1 is started with u, and nobody asked for v.
abbrev pub starting_with_u : List Row
starting_with_u =
    backup_starts 1 first 0 u to_acceptors
    ∷ acceptor_gets 0 (Prepare first (the_round 1)) to_leader
    ∷ acceptor_gets 1 (Prepare first (the_round 1)) to_leader
    ∷ backup_gets 1 (Promise 0 first (the_round 1) none null) hold
    ∷ []

abbrev pub voting_for_v : List Row
voting_for_v =
    acceptor_gets 0 (Propose first (the_round 1) v) to_learners
    ∷ acceptor_gets 1 (Propose first (the_round 1) v) to_learners
    ∷ []

pub record NotWanted (slip : Slip) (before after : List Row) (value : Value) : Type 0 where
  pub are_played : Played slip before after
  pub is_decided : Decided three (slipped slip before after) first value
  pub not_wanted : WantedFor (slipped slip before after).wanted first value → ⊥

-- ---- tables set fresh in mid-run

-- An acceptor has forgotten its promise when the old propose arrives.
abbrev pub voting_for_old : List Row
voting_for_old = acceptor_gets 0 (Propose first (the_round 0) v) to_learners ∷ voting_for_both

-- The primary has taken a request.
abbrev pub taking_one : List Row
taking_one = primary_gets (Request 9 v) to_acceptors ∷ []

-- It proposes two values in one round.
abbrev pub voting_twice : List Row
voting_twice =
    primary_gets (Request 9 u) to_acceptors
    ∷ acceptor_gets 0 (Propose first (the_round 0) v) to_learners
    ∷ acceptor_gets 1 (Propose first (the_round 0) v) to_learners
    ∷ acceptor_gets 1 (Propose first (the_round 0) u) to_learners
    ∷ acceptor_gets 2 (Propose first (the_round 0) u) to_learners
    ∷ []

-- A backup has proposed u in round 1, and acceptor 0 voted for it.
abbrev pub proposing_u : List Row
proposing_u = promising ++ (acceptor_gets 0 (Propose first (the_round 1) u) to_learners ∷ [])

-- It is started anew with v, two acceptors promise, and it proposes v in round 1, too.
abbrev pub proposing_v : List Row
proposing_v =
    backup_starts 1 first 0 v to_acceptors
    ∷ acceptor_gets 1 (Prepare first (the_round 1)) to_leader
    ∷ acceptor_gets 2 (Prepare first (the_round 1)) to_leader
    ∷ backup_gets 1 (Promise 1 first (the_round 1) none null) hold
    ∷ backup_gets 1 (Promise 2 first (the_round 1) none null) to_acceptors
    ∷ acceptor_gets 1 (Propose first (the_round 1) u) to_learners
    ∷ acceptor_gets 1 (Propose first (the_round 1) v) to_learners
    ∷ acceptor_gets 2 (Propose first (the_round 1) v) to_learners
    ∷ []

-- A learner has heard a majority.
abbrev pub hearing_both : List Row
hearing_both =
    deciding
    ++ (learner_gets 0 (Vote 0 first (the_round 0) v) hold
    ∷ learner_gets 0 (Vote 1 first (the_round 0) v) decided
    ∷ [])

-- It says a value, and then "not yet".
pub record TakesBack (slip : Slip) (before : List Row) (which : ℕ) (value : Value) : Type 0 where
  pub are_played : Played slip before []
  pub was_said : said three (until_slip before) which first ≡ says value
  pub no_more : said three (slipped slip before []) which first ≡ not_yet

-- ---- all of them

abbrev pub vote_round_0 : Slip
vote_round_0 = acceptor_slips (never_voted_is_round_0 1) 1 (Prepare first (the_round 1))

abbrev pub stale_vote : Slip
stale_vote = acceptor_slips (compares_on_prepare_only 0) 0 (Propose first (the_round 0) v)

abbrev pub doubled_vote : Slip
doubled_vote = learner_slips counts_vote_packets 1 (Vote 0 first (the_round 0) v)

abbrev pub doubled_promise : Slip
doubled_promise = backup_slips (counts_promise_packets 1) 1 (Promise 0 first (the_round 1) none null)

abbrev pub earlier_promise : Slip
earlier_promise = backup_slips (adds_earlier_promises 1) 1 (Promise 0 first (the_round 1) none null)

abbrev pub made_up_value : Slip
made_up_value = backup_slips (makes_a_value_up 1) 1 (Promise 1 first (the_round 1) none null)

-- What each leads to.
pub record Slips : Type 0 where
  pub never_voted_is_round_0 : TwoDecided vote_round_0 voting_then_promising discarding v null
  pub round_compared_only_on_prepare : TwoDecided stale_vote promising voting_for_both v u
  pub vote_packets_counted : SaysOther doubled_vote hearing_one [] 1 v u
  pub promise_packets_counted : TwoDecided doubled_promise promised_by_one voting_for_own v u
  pub promises_of_an_earlier_start_added : TwoDecided earlier_promise starting_twice voting_in_round_5 v u
  pub value_made_up : NotWanted made_up_value starting_with_u voting_for_v v
  pub acceptor_set_fresh : TwoDecided (set_fresh (acceptor 0)) promising voting_for_old v u
  pub primary_set_fresh : TwoDecided (set_fresh the_primary) taking_one voting_twice v u
  pub backup_set_fresh : TwoDecided (set_fresh (backup 1)) proposing_u proposing_v u v
  pub learner_set_fresh : TakesBack (set_fresh (learner 0)) hearing_both 0 v

-- So agreement is false of runs with the slip.
abbrev pub NoAgreement : Slip → Type 0
NoAgreement slip = Agreement (Slipping slip) three → ⊥

pub record NoneAgrees : Type 0 where
  pub never_voted_is_round_0 : NoAgreement vote_round_0
  pub round_compared_only_on_prepare : NoAgreement stale_vote
  pub vote_packets_counted : NoAgreement doubled_vote
  pub promise_packets_counted : NoAgreement doubled_promise
  pub promises_of_an_earlier_start_added : NoAgreement earlier_promise
  pub value_made_up : NoAgreement made_up_value
  pub acceptor_set_fresh : NoAgreement (set_fresh (acceptor 0))
  pub primary_set_fresh : NoAgreement (set_fresh the_primary)
  pub backup_set_fresh : NoAgreement (set_fresh (backup 1))
  pub learner_set_fresh : NoAgreement (set_fresh (learner 0))
