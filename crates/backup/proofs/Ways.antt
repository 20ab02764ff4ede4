-- Each way out of the backup's start and of its step is what the definitions say, by the tests that led there.
-- Assumes nothing.
use Prim.Native.Nat.{ℕ}
use mathlib.Core.Path.{◌≡◌, refl, sym, ◌∙◌}
use mathlib.Core.Bool.{Bool, true, false}
use mathlib.Core.List.{List}
use lib.ListN.{length}
use borrow.Author.Tests.{eq-eqb, ne_eqb}
use Rattle.basics.specs.declared.Instance.{Instance}
use Rattle.basics.specs.declared.Round.{Round}
use Rattle.basics.specs.declared.Value.{Value}
use Rattle.basics.specs.declared.Verdict.TheVariants.{ToAcceptors, Hold}
use Rattle.basics.specs.Outcome.{outcome, lent}
use Rattle.basics.specs.Places.{Place, At, Nowhere, placed}
use Rattle.basics.specs.Verdict.{verdict_number}
use Rattle.basics.proofs.Ladder.{need-passed, need-failed}
use Rattle.messages.specs.declared.Message.{Message}
use Rattle.messages.specs.declared.Message.TheVariants.{Request, Prepare, Promise, Propose, Vote}
use Rattle.messages.specs.Message.{when_promise}
use Rattle.wire.specs.Packet.{Read, Refused, packet_length, read_packet, with_message}
use Rattle.player.specs.Step.{Ruling, unchanged, sends, counts, ruled, rule_at, act}
use Rattle.player.proofs.Steps as steps
use Rattle.quorum.specs.declared.Settings.{Settings}
use Rattle.backup_cell.specs.declared.Cell.{Cell}
use Rattle.backup_rule.specs.Rule.{start, take_promise}
use Rattle.backup_tables.specs.Tables.{Tables, cell_at, with_cell, backup_allowed}
use Rattle.backup_tables.proofs.Laws.{Allowed, allowed-tables}
use Rattle.backup.specs.Backup.{place, rule, backup, backup_step, backup_start}

-- ---- what a rule came to, stored and sent

module _ (packet : List ℕ) (t : Tables) (index : ℕ) (r : Ruling Cell) where
  pub carried-held : (c : Cell) (next : Tables) → r ≡ counts Hold c → next ≡ with_cell t index c
      → outcome (verdict_number Hold) (lent packet next) ≡ ruled packet t (with_cell t index) r
  carried-held c next r-so next-so = rw r-so (steps.counted packet t next (with_cell t index) Hold c next-so)

  pub carried-sent : (m : Message) (c : Cell) (left : List ℕ) (next : Tables) → r ≡ sends ToAcceptors m c → length packet ≡ packet_length
      → left ≡ with_message packet m → next ≡ with_cell t index c → outcome (verdict_number ToAcceptors) (lent left next) ≡ ruled packet t (with_cell t index) r
  carried-sent m c left next r-so long left_so next-so =
      rw r-so (steps.sent packet t next (with_cell t index) ToAcceptors c next-so left m long left_so)

-- ---- a start and a packet

abbrev NoPromise : Message → Type 0
NoPromise m = (sender : ℕ) (i : Instance) (round vote_round : Round) (v : Value) → m ≡ Promise sender i round vote_round v → ⊥

-- what is no promise has no place
placeless : (N : ℕ) (m : Message) → NoPromise m → Nowhere 6 ≡ place N m
unfolding when_promise
placeless N (Request sender v) other = refl
placeless N (Prepare i r) other = refl
placeless N (Promise sender i r b v) other = absurd (other sender i r b v refl)
placeless N (Propose i r v) other = refl
placeless N (Vote sender i r v) other = refl

module _ (s : Settings) (own : ℕ) (packet : List ℕ) (t : Tables) (fine : Bool) (fine-so : fine ≡ backup_allowed s own t) where
  pub start-7 : (i : Instance) (floor : ℕ) (v : Value) → fine ≡ false → unchanged packet t 7 ≡ backup_start s own i floor v packet t
  unfolding backup_start
  start-7 i floor v no_way = sym (need-failed _ _ (sym fine-so ∙ no_way))

  pub step-7 : fine ≡ false → unchanged packet t 7 ≡ backup_step s own packet t
  unfolding backup_step backup
  step-7 no_way = steps.refused-7 (backup s own) packet t fine fine-so no_way

  module _ (passed : fine ≡ true) where
    allowed : backup_allowed s own t ≡ true
    allowed = sym fine-so ∙ passed

    pub brings : Allowed s own t
    brings = allowed-tables s own t allowed

    -- ---- a start

    module _ (i : Instance) (floor : ℕ) (v : Value) where
      pub start-1 : (length packet ≡ packet_length → ⊥) → unchanged packet t 1 ≡ backup_start s own i floor v packet t
      unfolding backup_start
      start-1 other = sym (need-passed (unchanged packet t 7) _ allowed ∙ need-failed _ _ (ne_eqb (length packet) packet_length other))

      module _ (long : length packet ≡ packet_length) where
        past-1 : rule_at cell_at with_cell packet t (placed s.instances i) (λ c. start s.acceptors own c i floor v) ≡ backup_start s own i floor v packet t
        unfolding backup_start
        past-1 = sym (need-passed (unchanged packet t 7) _ allowed ∙ need-passed (unchanged packet t 1) _ (eq-eqb (length packet) packet_length long))

        pub start-nowhere : (number : ℕ) → Nowhere number ≡ placed s.instances i → unchanged packet t number ≡ backup_start s own i floor v packet t
        start-nowhere number no_place = steps.not-placed cell_at with_cell packet t (λ c. start s.acceptors own c i floor v) _ number no_place ∙ past-1

        pub start-there : (index : ℕ) (c : Cell) (r : Ruling Cell) → At index ≡ placed s.instances i → c ≡ cell_at t index
            → r ≡ start s.acceptors own c i floor v → ruled packet t (with_cell t index) r ≡ backup_start s own i floor v packet t
        start-there index c r stands c-so r-so =
            steps.placed_at cell_at with_cell packet t (λ d. start s.acceptors own d i floor v) _ index c r stands c-so r-so ∙ past-1

    -- ---- a packet

    pub malformed : (number : ℕ) → Refused number ≡ read_packet packet → unchanged packet t number ≡ backup_step s own packet t
    unfolding backup_step backup
    malformed number refuses = steps.malformed (backup s own) packet t fine fine-so passed number refuses

    module _ (m : Message) (reads : Read m ≡ read_packet packet) where
      acted : act (backup s own) packet t m ≡ backup_step s own packet t
      unfolding backup_step backup
      acted = steps.acted (backup s own) packet t fine fine-so passed m reads

      pub step-6 : NoPromise m → unchanged packet t 6 ≡ backup_step s own packet t
      unfolding backup act
      step-6 other = steps.not-placed cell_at with_cell packet t (λ c. rule s.acceptors own c m) _ 6 (placeless s.instances m other) ∙ acted

      module _ (sender : ℕ) (i : Instance) (round vote_round : Round) (v : Value) (promises : m ≡ Promise sender i round vote_round v) where
        its-place : (p : Place) → p ≡ placed s.instances i → p ≡ place s.instances m
        unfolding when_promise
        its-place p p-so = rw promises p-so

        pub step-nowhere : (number : ℕ) → Nowhere number ≡ placed s.instances i → unchanged packet t number ≡ backup_step s own packet t
        unfolding backup act
        step-nowhere number no_place =
            steps.not-placed cell_at with_cell packet t (λ c. rule s.acceptors own c m) _ number (its-place (Nowhere number) no_place) ∙ acted

        pub step-there : (index : ℕ) (c : Cell) (r : Ruling Cell) → At index ≡ placed s.instances i → c ≡ cell_at t index
            → r ≡ take_promise s.acceptors own c sender i round vote_round v → ruled packet t (with_cell t index) r ≡ backup_step s own packet t
        unfolding backup act when_promise
        step-there index c r stands c-so r-so =
            steps.placed_at cell_at with_cell packet t (λ d. rule s.acceptors own d m) _ index c r (its-place (At index) stands) c-so (rw promises r-so) ∙ acted
