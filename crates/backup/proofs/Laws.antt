-- Laws of the backup's calls for the crates above: what holds of every way out of its rule, its place and its start, and what its step and its start come to
-- where it obeys.
-- Assumes nothing.
use Prim.Native.Nat.{ℕ, ◌<◌, max}
use mathlib.Core.Path.{◌≡◌, refl, ◌∙◌}
use mathlib.Core.Bool.{true, false}
use mathlib.Core.List.{List}
use native.Mathlib.Omega.{arith}
use lib.ListN.{length}
use borrow.Author.Tests.{eq-eqb, lt-ltb}
use Rattle.basics.specs.declared.Instance.{Instance}
use Rattle.basics.specs.declared.Round.{Round}
use Rattle.basics.specs.declared.Value.{Value}
use Rattle.basics.specs.declared.Verdict.TheVariants.{ToAcceptors, Hold}
use Rattle.basics.specs.Ladder.{need◌or◌then◌}
use Rattle.basics.specs.Outcome.{Outcome, outcome, Lent, lent}
use Rattle.basics.specs.Places.{Place, At, Nowhere, placed}
use Rattle.basics.specs.Rounds.{the_round}
use Rattle.basics.specs.Verdict.{verdict_number}
use Rattle.basics.proofs.Ladder.{if-true, if-false, need-elim}
use Rattle.basics.proofs.Places.{PlacedBy, placed-index, placed_by, placed-there}
use Rattle.messages.specs.declared.Message.{Message}
use Rattle.messages.specs.declared.Message.TheVariants.{Prepare, Promise, Propose}
use Rattle.messages.specs.Message.{when_promise}
use Rattle.messages.proofs.Eliminators.{promise-elim}
use Rattle.wire.specs.Packet.{Read, packet_length, read_packet, packet_of}
use Rattle.player.specs.Step.{Ruling, refused, unchanged, sends, counts, after_placing, ruled, rule_at}
use Rattle.player.proofs.Steps.{step-rules}
use Rattle.quorum.specs.declared.Settings.{Settings}
use Rattle.quorum.specs.Quorum.{has_member, reaches_majority}
use Rattle.backup_cell.specs.declared.Cell.{Cell}
use Rattle.backup_cell.specs.Cell.{asking, possible}
use Rattle.backup_rule.specs.Rule.{next_round, started, start, counting, chosen, closed, when_majority, take_promise}
use Rattle.backup_rule.proofs.Laws.{take-promise-elim}
use Rattle.backup_tables.specs.Tables.{Tables, cell_at, with_cell, backup_allowed}
use Rattle.backup.specs.Backup.{place, rule, backup, backup_step, backup_start}

-- ---- the rule and the place

-- what holds of its refusals, and of what comes of a promise that is counted, holds of the rule
module _ (P : Ruling Cell → Type 0) (M own : ℕ) (c : Cell) (m : Message) (six : P (refused 6)) (nine : P (refused 9)) (seventeen : P (refused 17)) (eleven : P (refused 11))
    (fifteen : P (refused 15)) where
  pub rule-elim : ((s : ℕ) (i : Instance) (r b : Round) (v : Value) → m ≡ Promise s i r b v → s < M → possible M own c ≡ true → c.phase ≡ asking → r.0 ≡ c.round.0
      → has_member c.set s ≡ false → P (when_majority M i (counting c s b v))) → P (rule M own c m)
  rule-elim counted =
      promise-elim P _ _ m (λ s i r b v e. take-promise-elim P M own c s i r b v nine seventeen eleven fifteen (counted s i r b v e)) six

pub place-elim : (Such : ℕ → Type 0) (N : ℕ) (m : Message) → Such 6 → Such 8 → PlacedBy Such (place N m)
place-elim Such N m six eight = promise-elim (PlacedBy Such) _ _ m (λ _ i _ _ _ _. placed_by Such N i eight) six

-- the place of a promise is its instance's
pub promise-placed : (N sender : ℕ) (i : Instance) (r b : Round) (v : Value) → place N (Promise sender i r b v) ≡ placed N i
unfolding when_promise
promise-placed N sender i r b v = refl

-- a place that a message has is an instance's below N
pub placed_below : (N : ℕ) (m : Message) (index : ℕ) → place N m ≡ At index → index < N
placed_below N m =
    promise-elim (λ p. (index : ℕ) → p ≡ At index → index < N) _ _ m (λ _ i _ _ _ _ index e. (placed-index N i index e).1)
    (λ index e. let z : ◌≡◌ {A = ℕ} 0 1 = cc in absurd (omega arith))

-- ---- the start

-- what holds of its refusals before the rule, and of what the rule comes to at the instance's cell, holds of a start
module _ (s : Settings) (own : ℕ) (i : Instance) (floor : ℕ) (v : Value) (buffer : List ℕ) (t : Tables) where
  abbrev pub start-ruling : (index : ℕ) → Ruling Cell
  start-ruling index = start s.acceptors own (cell_at t index) i floor v

  pub start-elim : (Q : Outcome (Lent Tables) → Type 0) → Q (unchanged buffer t 7) → Q (unchanged buffer t 1) → Q (unchanged buffer t 8)
      → (backup_allowed s own t ≡ true → (index : ℕ) → placed s.instances i ≡ At index → Q (ruled buffer t (with_cell t index) (start-ruling index)))
      → Q (backup_start s own i floor v buffer t)
  unfolding backup_start rule_at after_placing
  start-elim Q seven one eight rules =
      need-elim Q _ _ _ seven λ allowed. need-elim Q _ _ _ one λ _. place allowed (placed s.instances i) refl (placed_by (λ n. Q (unchanged buffer t n)) s.instances i eight)
    where
      place : backup_allowed s own t ≡ true → (p : Place) → placed s.instances i ≡ p → PlacedBy (λ n. Q (unchanged buffer t n)) p
          → Q (after_placing buffer t p (λ index. ruled buffer t (with_cell t index) (start-ruling index)))
      place allowed (At index) stands told = rules allowed index stands
      place allowed (Nowhere number) stands told = told

-- ---- the start and the step where it obeys

module _ (s : Settings) (own : ℕ) (packet : List ℕ) (t : Tables) (allowed : backup_allowed s own t ≡ true) (i : Instance) (inside : i.0 < s.instances)
    (fine : possible s.acceptors own (cell_at t i.0) ≡ true) where
  -- a prepare is written
  pub backup-prepares : (floor : ℕ) (v : Value) (next : ℕ) → next ≡ next_round own (max (cell_at t i.0).round.0 floor) → length packet ≡ packet_length → next < 4294967295
      → backup_start s own i floor v packet t
      ≡ outcome (verdict_number ToAcceptors) (lent (packet_of (Prepare i (the_round next))) (with_cell t i.0 (started (the_round next) v)))
  unfolding backup_start start rule_at after_placing ruled need◌or◌then◌
  backup-prepares floor v next next-so long below =
      rw (allowed, eq-eqb (length packet) packet_length long, placed-there s.instances i inside, fine, ← next-so, lt-ltb next 4294967295 below)

  module _ (sender : ℕ) (r b : Round) (v : Value) (reads : read_packet packet ≡ Read (Promise sender i r b v)) (known : sender < s.acceptors)
      (asks : (cell_at t i.0).phase ≡ asking) (same : r.0 ≡ (cell_at t i.0).round.0) (absent : has_member (cell_at t i.0).set sender ≡ false) where
    abbrev next : Cell
    next = counting (cell_at t i.0) sender b v

    counts-it : rule s.acceptors own (cell_at t i.0) (Promise sender i r b v) ≡ when_majority s.acceptors i next
    unfolding when_promise take_promise need◌or◌then◌
    counts-it = rw (lt-ltb sender s.acceptors known, fine, eq-eqb _ _ asks, eq-eqb _ _ same, absent)

    -- a promise short of majority is held
    pub backup-holds : reaches_majority s.acceptors next.set ≡ false → backup_step s own packet t ≡ outcome (verdict_number Hold) (lent packet (with_cell t i.0 next))
    unfolding backup_step backup when_promise when_majority ruled
    backup-holds short =
        step-rules (backup s own) packet t (Promise sender i r b v) i.0 (counts Hold next) allowed reads (placed-there s.instances i inside) (counts-it ∙ if-false _ _ short)

    -- at majority the chosen value is proposed
    pub backup-proposes : reaches_majority s.acceptors next.set ≡ true
        → backup_step s own packet t
        ≡ outcome (verdict_number ToAcceptors) (lent (packet_of (Propose i next.round (chosen next))) (with_cell t i.0 (closed next)))
    unfolding backup_step backup when_promise when_majority ruled
    backup-proposes reached =
        step-rules (backup s own) packet t (Promise sender i r b v) i.0 (sends ToAcceptors (Propose i next.round (chosen next)) (closed next)) allowed reads
        (placed-there s.instances i inside) (counts-it ∙ if-true _ _ reached)
