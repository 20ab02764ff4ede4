-- With settings that are not allowed every call is refused by 7, by its first test, so that nothing is ever sent.
-- Assumes nothing.
use Prim.Native.Nat.{ℕ}
use mathlib.Core.Path.{◌≡◌, refl, sym, ap, ◌∙◌, subst}
use mathlib.Core.Bool.{true, false}
use mathlib.Core.List.{List, []}
use Rattle.basics.specs.declared.Instance.{Instance}
use Rattle.basics.specs.declared.Value.{Value}
use Rattle.basics.specs.Ladder.{when◌then◌else◌}
use Rattle.basics.specs.Outcome.{Outcome, Lent}
use Rattle.basics.specs.Verdict.{says_send}
use Rattle.basics.proofs.Ladder.{by-test, need-failed}
use Rattle.player.specs.Step.{Player, step}
use Rattle.quorum.specs.declared.Settings.{Settings}
use Rattle.quorum.specs.Settings.{allowed}
use Rattle.quorum.specs.Voters.{Mem}
use Rattle.primary_rule.specs.declared.Cell as primary_cells
use Rattle.primary.specs.Primary as primary
use Rattle.acceptor_tables.specs.Tables as acceptor_tables
use Rattle.acceptor.specs.Acceptor as acceptor
use Rattle.backup_tables.specs.Tables as backup_tables
use Rattle.backup.specs.Backup as backup
use Rattle.learner_tables.specs.Tables as learner_tables
use Rattle.learner.specs.Learner as learner
use Rattle.learner_delivery.specs.Delivery.{deliver}
use Rattle.learner_holes.specs.Holes as holes
use Rattle.learner_holes.specs.Holes.{find_hole}
use Rattle.learner_saved.specs.Saved.{save}
use Rattle.agreement.specs.Run.{Sent, Boxes, more_when_sent, primary_record, Call, Run, now, and_then}
use Rattle.agreement.specs.Run as run
use Rattle.agreement.specs.Agreement.{AlwaysBy7}
use Rattle.agreement.proofs.Families.{nowhere}
use Rattle.agreement.proofs.Calls.Reading.{reads-keep}

step-by-7 : {Tables Cell : Type 0} (player : Player Tables Cell) (p : List ℕ) (t : Tables) → player.allowed t ≡ false → (step player p t).answer ≡ 7
unfolding step
step-by-7 player p t e = ap (λ (o : Outcome (Lent _)). o.answer) (need-failed _ _ e)

module _ (s : Settings) (never : allowed s ≡ false) where
  learner-never : (t : learner_tables.Tables) → learner_tables.learner_allowed s t ≡ false
  unfolding learner_tables.is_allowed
  learner-never t = rw never

  backup-never : (own : ℕ) (t : backup_tables.Tables) → backup_tables.backup_allowed s own t ≡ false
  unfolding backup_tables.tables_allowed backup_tables.is_allowed
  backup-never own t = rw never

  -- ---- every call

  primary-by-7 : (p next : List ℕ) → (primary.primary_step s p next).answer ≡ 7
  unfolding primary.primary_step primary.primary primary.is_allowed
  primary-by-7 p next = step-by-7 (primary.primary s) p next (rw never)

  request-by-7 : (p : List ℕ) (c : primary_cells.Cell) → (primary.primary_request s p c).answer ≡ 7
  unfolding primary.primary_request primary.primary_by_reference
  request-by-7 p c = step-by-7 (primary.primary_by_reference s) p c never

  acceptor-by-7 : (own : ℕ) (p : List ℕ) (t : acceptor_tables.Tables) → (acceptor.acceptor_step s own p t).answer ≡ 7
  unfolding acceptor.acceptor_step acceptor.acceptor acceptor_tables.tables_allowed acceptor_tables.is_allowed
  acceptor-by-7 own p t = step-by-7 (acceptor.acceptor s own) p t (rw never)

  backup-by-7 : (own : ℕ) (p : List ℕ) (t : backup_tables.Tables) → (backup.backup_step s own p t).answer ≡ 7
  unfolding backup.backup_step backup.backup
  backup-by-7 own p t = step-by-7 (backup.backup s own) p t (backup-never own t)

  start-by-7 : (own : ℕ) (i : Instance) (floor : ℕ) (v : Value) (buffer : List ℕ) (t : backup_tables.Tables) → (backup.backup_start s own i floor v buffer t).answer ≡ 7
  unfolding backup.backup_start
  start-by-7 own i floor v buffer t = ap (λ (o : Outcome (Lent backup_tables.Tables)). o.answer) (need-failed _ _ (backup-never own t))

  learner-by-7 : (p : List ℕ) (t : learner_tables.Tables) → (learner.learner_step s p t).answer ≡ 7
  unfolding learner.learner_step learner.learner
  learner-by-7 p t = step-by-7 (learner.learner s) p t (learner-never t)

  answer-by-7 : (i : Instance) (t : learner_tables.Tables) → learner.answer_for s i t ≡ learner.Refused 7
  unfolding learner.answer_for
  answer-by-7 i t = need-failed _ _ (learner-never t)

  deliver-by-7 : (t : learner_tables.Tables) (buffer : List ℕ) (count : ℕ) → (deliver s t buffer count).answer ≡ 7
  unfolding deliver
  deliver-by-7 t buffer count = ap (λ (o : Outcome (Lent ℕ)). o.answer) (need-failed _ _ (learner-never t))

  hole-by-7 : (t : learner_tables.Tables) → find_hole s t ≡ holes.Refused 7
  unfolding find_hole
  hole-by-7 t = need-failed _ _ (learner-never t)

  save-by-7 : (buffer : List ℕ) (t : learner_tables.Tables) → (save s buffer t).answer ≡ 7
  unfolding save
  save-by-7 buffer t = ap (λ (o : Outcome (Lent learner_tables.Tables)). o.answer) (need-failed _ _ (learner-never t))

  -- ---- nothing is sent

  no_more : {A : Type 0} {answer : ℕ} (new : A) (before : List A) → answer ≡ 7 → more_when_sent answer new before ≡ before
  unfolding says_send when◌then◌else◌
  no_more new before e = rw e

  call-quiet : {w u : Boxes} → Call s w u → u.packets ≡ w.packets
  call-quiet {w} (run.Call.primary_steps p _) = no_more _ w.packets (primary-by-7 p w.primary)
  call-quiet {w} (run.Call.primary_requests p _) = no_more _ w.packets (request-by-7 p (primary_record w))
  call-quiet {w} (run.Call.acceptor_steps own p _) = no_more _ w.packets (acceptor-by-7 own p (w.acceptor own))
  call-quiet {w} (run.Call.backup_steps own p _) = no_more _ w.packets (backup-by-7 own p (w.backup own))
  call-quiet {w} (run.Call.backup_starts own i floor v buffer _) = no_more _ w.packets (start-by-7 own i floor v buffer (w.backup own))
  call-quiet {w} (run.Call.learner_steps which p _) = no_more _ w.packets (learner-by-7 p (w.learner which))
  call-quiet (run.Call.only_reads reads) = ap (λ (x : Boxes). x.packets) (sym (reads-keep reads))

  nothing_sent : {w : Boxes} → Run (Call s) s w → w.packets ≡ []
  nothing_sent now = refl
  nothing_sent (and_then before call) = call-quiet call ∙ nothing_sent before

  pub always_by_7 : {w : Boxes} → Run (Call s) s w → AlwaysBy7 s w
  always_by_7 begun = record {
    primary = primary-by-7;
    requests = request-by-7;
    acceptors = acceptor-by-7;
    backups = backup-by-7;
    starts = start-by-7;
    learners = learner-by-7;
    answers = answer-by-7;
    deliveries = deliver-by-7;
    holes = hole-by-7;
    savings = save-by-7;
    nothing_sent = nothing_sent begun;
  }

-- so where something was sent the settings are allowed
pub sent-allowed : {s : Settings} {w : Boxes} → Run (Call s) s w → (x : Sent) → Mem x w.packets → allowed s ≡ true
sent-allowed {s} begun x there = by-test (allowed s) (λ e. e) (λ never. nowhere (subst (Mem x) (nothing_sent s never begun) there))
