-- In a run the boxes represent sound slots, what was sent stays sent, and a decided cell of a learner stays as it is.
-- Assumes nothing.
use Prim.Native.Nat.{ℕ}
use mathlib.Core.Path.{◌≡◌, refl, sym, ap, ◌∙◌, subst}
use mathlib.Core.Bool.{true, true≢false}
use mathlib.Core.List.{List}
use native.Mathlib.Omega.{arith}
use Rattle.basics.specs.Rounds.{the_instance, none}
use Rattle.basics.proofs.Places.{placed-index}
use Rattle.basics.specs.Verdict.{says_send}
use Rattle.basics.proofs.Ladder.{if-elim}
use Rattle.basics.proofs.Rounds.{rank-none}
use Rattle.basics.specs.Outcome.{Outcome, Lent}
use Rattle.quorum.specs.declared.Settings.{Settings}
use Rattle.quorum.specs.Voters.{Mem, older}
use Rattle.quorum.proofs.Laws.{empty-bit}
use Rattle.primary.specs.Primary.{primary_step, primary_request, as_slice}
use Rattle.acceptor.specs.Acceptor.{acceptor_step}
use Rattle.acceptor_tables.proofs.Laws as acceptor-tables
use Rattle.backup_cell.specs.Cell as backup_cell
use Rattle.backup_cell.specs.Cell.{asking}
use Rattle.backup.specs.Backup.{backup_step, backup_start}
use Rattle.backup_tables.proofs.Laws as backup-tables
use Rattle.learner_cell.specs.Cell.{is_decided}
use Rattle.learner_tables.specs.Tables.{cell_at}
use Rattle.learner_tables.proofs.Laws as learner-tables
use Rattle.learner.specs.Learner.{learner_step}
use Rattle.learner.proofs.Promises as learner
use Rattle.agreement.specs.Run.{Caller, the_primary, Sent, Boxes, fresh_boxes, primary_record, sending, after_primary, Call, Later, now, and_then, Run}
use Rattle.agreement.specs.Run as run
use Rattle.agreement.proofs.Families.{nowhere, put-elim}
use Rattle.agreement.proofs.Slot.{fresh_slot, Sound}
use Rattle.agreement.proofs.Representing.{Represents}
use Rattle.agreement.proofs.WellFormed.{WellFormed, request-is-step, run-well-formed}
use Rattle.agreement.proofs.Calls.Primary.{primary-represents}
use Rattle.agreement.proofs.Calls.Acceptor.{acceptor-represents}
use Rattle.agreement.proofs.Calls.Backup.{backup-represents, start-represents}
use Rattle.agreement.proofs.Calls.Learner.{learner-represents}
use Rattle.agreement.proofs.Calls.Reading.{reads-keep}

-- ---- sound slots

fresh-sound : (M : ℕ) → Sound M fresh_slot
fresh-sound M = record {
  vote-proposed = λ x. nowhere;
  vote-known = λ x. nowhere;
  acceptors = λ a. record { order = omega (arith, rank-none none refl); proposed = λ voted. absurd (true≢false voted) };
  promise-kept = λ x. nowhere;
  promise-tells = λ x. nowhere;
  promise-proposed = λ x. nowhere;
  propose-some = λ x. nowhere;
  propose-spent = λ x. nowhere;
  propose-once = λ x. nowhere;
  propose-safe = λ x. nowhere;
  backups = λ b. record { counted = λ a m. absurd (omega (arith, empty-bit a, m)); proposed = λ voted. absurd (true≢false voted) };
  learners = λ l a m. absurd (omega (arith, empty-bit a, m));
}

-- an idle backup does not ask
idle-asks : {A : Type 0} → (backup_cell.fresh_cell).phase ≡ asking → A
idle-asks e = let z : ◌≡◌ {A = ℕ} 0 1 = e in absurd (omega arith)

fresh-represents : (s : Settings) → Represents s (fresh_boxes s.instances)
fresh-represents s = record {
  slots = λ _. fresh_slot;
  acceptors = λ a i index at. acceptor-tables.fresh_cells s.instances index (placed-index s.instances (the_instance i) index at).1;
  backups = λ b i index at. backup-tables.fresh_cells s.instances index (placed-index s.instances (the_instance i) index at).1;
  learners = λ l i index at. learner-tables.fresh_cells s.instances index (placed-index s.instances (the_instance i) index at).1;
  told = record { known = λ x. nowhere; votes = λ i x. nowhere };
  wants = record { proposes = λ i x. nowhere; owns = λ i b. idle-asks };
  sound = λ i. fresh-sound s.acceptors;
  has-place = λ i x. nowhere;
  unopened = λ i _ x. nowhere;
}

call-represents : {s : Settings} {w u : Boxes} → WellFormed s w → Represents s w → Call s w u → Represents s u
call-represents formed h (run.Call.primary_steps p handed) = primary-represents formed h p handed
call-represents {s} {w} formed h (run.Call.primary_requests p handed) =
    subst (λ o. Represents s (after_primary w p o)) (request-is-step s w formed.primary p) (primary-represents formed h p handed)
call-represents formed h (run.Call.acceptor_steps own p handed) = acceptor-represents formed h own p handed
call-represents formed h (run.Call.backup_steps own p handed) = backup-represents formed h own p handed
call-represents formed h (run.Call.backup_starts own i floor v buffer given) = start-represents formed h own i floor v buffer given
call-represents formed h (run.Call.learner_steps which p handed) = learner-represents h which p handed
call-represents formed h (run.Call.only_reads reads) = subst (Represents _) (reads-keep reads) h

pub run-represents : {s : Settings} {w : Boxes} → Run (Call s) s w → Represents s w
run-represents {s} now = fresh-represents s
run-represents (and_then before call) = call-represents (run-well-formed before) (run-represents before) call

pub joined-runs : {Calls : Boxes → Boxes → Type 0} {w u x : Boxes} → Later Calls w u → Later Calls u x → Later Calls w x
joined-runs before now = before
joined-runs before (and_then more call) = and_then (joined-runs before more) call

-- ---- what was sent

still-sending : {Tables : Type 0} (by : Caller) (o : Outcome (Lent Tables)) (packets : List Sent) (x : Sent) → Mem x packets → Mem x (sending by o packets)
still-sending by o packets x there = if-elim (Mem x) (says_send o.answer) _ _ (λ _. older there) (λ _. there)

still-sent : {s : Settings} {w u : Boxes} (x : Sent) → Call s w u → Mem x w.packets → Mem x u.packets
still-sent {s} {w} x (run.Call.primary_steps p _) there = still-sending the_primary (primary_step s p w.primary) w.packets x there
still-sent {s} {w} x (run.Call.primary_requests p _) there = still-sending the_primary (as_slice (primary_request s p (primary_record w))) w.packets x there
still-sent {s} {w} x (run.Call.acceptor_steps own p _) there = still-sending (run.Caller.acceptor own) (acceptor_step s own p (w.acceptor own)) w.packets x there
still-sent {s} {w} x (run.Call.backup_steps own p _) there = still-sending (run.Caller.backup own) (backup_step s own p (w.backup own)) w.packets x there
still-sent {s} {w} x (run.Call.backup_starts own i floor v buffer _) there =
    still-sending (run.Caller.backup own) (backup_start s own i floor v buffer (w.backup own)) w.packets x there
still-sent {s} {w} x (run.Call.learner_steps which p _) there = still-sending (run.Caller.learner which) (learner_step s p (w.learner which)) w.packets x there
still-sent x (run.Call.only_reads reads) there = subst (λ (u : Boxes). Mem x u.packets) (reads-keep reads) there

pub stays-sent : {s : Settings} {w u : Boxes} (x : Sent) → Later (Call s) w u → Mem x w.packets → Mem x u.packets
stays-sent x now there = there
stays-sent x (and_then before call) there = still-sent x call (stays-sent x before there)

-- ---- a decided cell

module _ {s : Settings} (which i : ℕ) where
  frozen : {w u : Boxes} → is_decided s.acceptors (cell_at (w.learner which) i) ≡ true → Call s w u → cell_at (u.learner which) i ≡ cell_at (w.learner which) i
  frozen decided (run.Call.primary_steps p _) = refl
  frozen decided (run.Call.primary_requests p _) = refl
  frozen decided (run.Call.acceptor_steps own p _) = refl
  frozen decided (run.Call.backup_steps own p _) = refl
  frozen decided (run.Call.backup_starts own j floor v buffer _) = refl
  frozen {w} decided (run.Call.learner_steps other p _) =
      put-elim (λ l t. is_decided s.acceptors (cell_at (w.learner l) i) ≡ true → cell_at t i ≡ cell_at (w.learner l) i) (learner.learner-decided-stays s p (w.learner other) i)
      (λ _ _ _. refl) which decided
  frozen decided (run.Call.only_reads reads) = ap (λ (u : Boxes). cell_at (u.learner which) i) (sym (reads-keep reads))

  pub stays-frozen : {w u : Boxes} → is_decided s.acceptors (cell_at (w.learner which) i) ≡ true → Later (Call s) w u → cell_at (u.learner which) i ≡ cell_at (w.learner which) i
  stays-frozen decided now = refl
  stays-frozen decided (and_then before call) =
      let same = stays-frozen decided before in
      frozen (ap (is_decided s.acceptors) same ∙ decided) call ∙ same
