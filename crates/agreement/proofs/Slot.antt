-- One instance by itself, a slot: the cells that the players keep for it, all that was sent about it, and the invariant of a run. Every propose is the
-- only one of its round, and below its round a whole majority is past each round and voted there, if at all, for its value.
-- Assumes nothing.
pub mod Acceptor
pub mod Proposing
pub mod Backup
pub mod Learner
pub mod Decision
use Prim.Native.Nat.{ℕ, suc, ◌+◌, ◌≤◌, ◌<◌}
use mathlib.Core.Path.{◌≡◌}
use mathlib.Core.Bool.{false}
use mathlib.Core.List.{List, []}
use lib.Dec.{eqb}
use Rattle.basics.specs.declared.Round.{Round}
use Rattle.basics.specs.declared.Value.{Value}
use Rattle.basics.specs.Ladder.{when◌then◌else◌}
use Rattle.basics.specs.Rounds.{is_none, owner_of, rank}
use Rattle.quorum.specs.Quorum.{Member, Quorum}
use Rattle.quorum.specs.Voters.{Mem}
use Rattle.acceptor_rule.specs.declared.Cell as acceptors
use Rattle.acceptor_rule.specs.Rule as acceptor_rule
use Rattle.backup_cell.specs.declared.Cell as backups
use Rattle.backup_cell.specs.Cell as backup_cell
use Rattle.learner_cell.specs.declared.Cell as learners
use Rattle.learner_cell.specs.Cell as learner_cell

-- A promise that was sent: the acceptor, the round, and its vote round and value at that moment.
pub record Promise : Type 0 where
  pub sender : ℕ
  pub round : Round
  pub vote_round : Round
  pub value : Value

pub record Propose : Type 0 where
  pub round : Round
  pub value : Value

pub record Vote : Type 0 where
  pub sender : ℕ
  pub round : Round
  pub value : Value

abbrev pub promise : ℕ → (round vote_round : Round) → Value → Promise
promise sender round vote_round value = record { sender = sender; round = round; vote_round = vote_round; value = value }

abbrev pub propose : Round → Value → Propose
propose round value = record { round = round; value = value }

abbrev pub vote : ℕ → Round → Value → Vote
vote sender round value = record { sender = sender; round = round; value = value }

pub record Slot : Type 0 where
  pub acceptor : ℕ → acceptors.Cell
  pub backup : ℕ → backups.Cell
  pub learner : ℕ → learners.Cell
  pub promises : List Promise
  pub proposes : List Propose
  pub votes : List Vote

abbrev pub fresh_slot : Slot
fresh_slot = record { acceptor = λ _. acceptor_rule.fresh_cell; backup = λ _. backup_cell.fresh_cell; learner = λ _. learner_cell.fresh_cell; promises = []; proposes = []; votes = [] }

-- In rounds below this one the backup proposes nothing any more.
abbrev pub spent : backups.Cell → ℕ
spent c = c.round.0 + (when eqb c.phase backup_cell.proposed then 1 else 0)

-- A whole majority is past round r, and whoever of it voted in round r voted for v: nothing else was or will be decided there.
pub record Barred (M : ℕ) (acceptor : ℕ → acceptors.Cell) (votes : List Vote) (r : ℕ) (v : Value) : Type 0 where
  pub set : ℕ
  pub quorum : Quorum M set
  pub past : (a : ℕ) → Member a set → r < (acceptor a).round.0
  pub only : (x : Vote) → Mem x votes → Member x.sender set → x.round.0 ≡ r → x.value ≡ v

-- An acceptor's vote round is at most its round, and if it has voted, its value was proposed there.
pub record AcceptorSound (proposes : List Propose) (c : acceptors.Cell) : Type 0 where
  pub order : rank c.vote_round ≤ suc c.round.0
  pub proposed : is_none c.vote_round ≡ false → Mem (propose c.vote_round c.value) proposes

-- An acceptor in a backup's set sent a promise for its round, whose vote round the best is not below.
pub record Counted (promises : List Promise) (round best : Round) (a : ℕ) : Type 0 where
  pub vote_round : Round
  pub value : Value
  pub sent : Mem (promise a round vote_round value) promises
  pub bounded : rank vote_round ≤ rank best

-- The best, if there is one, was proposed.
pub record BackupSound (promises : List Promise) (proposes : List Propose) (c : backups.Cell) : Type 0 where
  pub counted : (a : ℕ) → Member a c.set → Counted promises c.round c.best_vote_round a
  pub proposed : is_none c.best_vote_round ≡ false → Mem (propose c.best_vote_round c.best_value) proposes

-- Each acceptor in a learner's set sent that vote.
abbrev pub LearnerSound : (votes : List Vote) → learners.Cell → Type 0
LearnerSound votes t = (a : ℕ) → Member a t.set → Mem (vote a t.round t.value) votes

pub record Sound (M : ℕ) (s : Slot) : Type 0 where
  -- votes come from proposes, and an acceptor's cell knows its latest
  pub vote-proposed : (x : Vote) → Mem x s.votes → Mem (propose x.round x.value) s.proposes
  pub vote-known : (x : Vote) → Mem x s.votes → x.round.0 < rank (s.acceptor x.sender).vote_round
  pub acceptors : (a : ℕ) → AcceptorSound s.proposes (s.acceptor a)
  -- a promise binds the acceptor, tells of every vote below it, and its value was proposed
  pub promise-kept : (x : Promise) → Mem x s.promises → x.round.0 ≤ (s.acceptor x.sender).round.0
  pub promise-tells : (x : Promise) → Mem x s.promises → (y : Vote) → Mem y s.votes → y.sender ≡ x.sender → y.round.0 < x.round.0
      → y.round.0 < rank x.vote_round
  pub promise-proposed : (x : Promise) → Mem x s.promises → is_none x.vote_round ≡ false → Mem (propose x.vote_round x.value) s.proposes
  -- a propose has a round that its backup is done with, if it is not the primary's; it is the only one of its round, and safe
  pub propose-some : (x : Propose) → Mem x s.proposes → is_none x.round ≡ false
  pub propose-spent : (x : Propose) → Mem x s.proposes → 0 < x.round.0 → x.round.0 < spent (s.backup (owner_of x.round))
  pub propose-once : (x : Propose) → Mem x s.proposes → (y : Propose) → Mem y s.proposes → x.round.0 ≡ y.round.0 → x.value ≡ y.value
  pub propose-safe : (x : Propose) → Mem x s.proposes → (r : ℕ) → r < x.round.0 → Barred M s.acceptor s.votes r x.value
  pub backups : (b : ℕ) → BackupSound s.promises s.proposes (s.backup b)
  pub learners : (l : ℕ) → LearnerSound s.votes (s.learner l)

-- Only the primary proposes in round 0, and it has not yet.
abbrev pub Unopened : Slot → Type 0
Unopened s = (x : Propose) → Mem x s.proposes → 0 < x.round.0
