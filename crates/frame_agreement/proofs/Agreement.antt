-- Agreement over frames: it is that of packets, since every run over frames is one of packets. The numbers 7 and 17 are a packet call's.
-- Assumes nothing.
use Prim.Native.Nat.{ℕ, ◌<◌}
use mathlib.Core.Path.{◌≡◌, ap}
use mathlib.Core.List.{List, []}
use native.Mathlib.Omega.{arith}
use Rattle.basics.specs.Outcome.{Outcome, Lent}
use Rattle.basics.proofs.Ladder.{by-test}
use Rattle.player.specs.Step.{Player, step}
use Rattle.quorum.specs.declared.Settings.{Settings}
use Rattle.primary.specs.Primary.{primary, primary_step}
use Rattle.acceptor.specs.Acceptor.{acceptor, acceptor_step}
use Rattle.backup.specs.Backup.{backup, backup_step}
use Rattle.learner.specs.Learner.{learner, learner_step}
use Rattle.port.specs.Framed.{framed}
use Rattle.primary_port.specs.Port.{primary_frame}
use Rattle.acceptor_port.specs.Port.{acceptor_frame}
use Rattle.backup_port.specs.Port.{backup_frame}
use Rattle.learner_port.specs.Port.{learner_frame}
use Rattle.port.proofs.Laws.{step-nothing, framed-7, framed-answers}
use Rattle.agreement.specs.Run.{Boxes, now}
use Rattle.agreement.specs.Agreement.{Neither7Nor17, NeverBy7Or17, AlwaysBy7}
use Rattle.agreement.proofs.Agreement.{agreement}
use Rattle.agreement.proofs.OtherRuns.{agree-too}
use Rattle.frame_agreement.specs.FrameAgreement.{Demand3OverFrames, FramesNeverBy7Or17, FramesAlwaysBy7, FrameRefusals}
use Rattle.frame_agreement.proofs.Calls.{frame-calls, frames-are-runs}

pub frame-agreement : Demand3OverFrames
frame-agreement s = agree-too (frame-calls s) (agreement s)

-- ---- 7 and 17

module _ {Tables Cell : Type 0} (player : Player Tables Cell) (port : ℕ) (f : List ℕ) (tables : Tables) where
  -- a player that refuses no packet by 7 or 17 refuses no frame so
  framed-neither : ((p : List ℕ) → Neither7Nor17 (step player p tables).answer) → Neither7Nor17 (framed player port f tables).answer
  framed-neither =
      let neither : (n : ℕ) → 17 < n → Neither7Nor17 n = λ n above. record { not_7 = λ e. omega arith; not_17 = λ e. omega arith } in
      framed-answers player port f tables Neither7Nor17 (neither 21 (omega arith)) (neither 22 (omega arith)) (neither 23 (omega arith))
      (neither 24 (omega arith)) (neither 25 (omega arith))

  -- one that refuses every packet by 7, no bytes at all too, refuses every frame so
  framed-by-7 : ((p : List ℕ) → (step player p tables).answer ≡ 7) → (framed player port f tables).answer ≡ 7
  framed-by-7 always =
      by-test (player.allowed tables)
      (λ allowed. let one : (step player [] tables).answer ≡ 1 = ap (λ (o : Outcome (Lent Tables)). o.answer) (step-nothing player tables allowed) in
      absurd (omega (arith, always [])))
      (λ never. ap (λ (o : Outcome (Lent Tables)). o.answer) (framed-7 player port f tables never))

module _ {s : Settings} where
  never : {w : Boxes} → NeverBy7Or17 s w → FramesNeverBy7Or17 s w
  unfolding primary_frame primary_step acceptor_frame acceptor_step backup_frame backup_step learner_frame learner_step
  never {w} packets = record {
    primary = λ port f. framed-neither (primary s) port f w.primary packets.primary;
    acceptors = λ own port f known. framed-neither (acceptor s own) port f (w.acceptor own) (λ p. packets.acceptors own p known);
    backups = λ own port f least most. framed-neither (backup s own) port f (w.backup own) (λ p. packets.backups own p least most);
    learners = λ which port f. framed-neither (learner s) port f (w.learner which) (packets.learners which);
  }

  always : {w : Boxes} → AlwaysBy7 s w → FramesAlwaysBy7 s
  unfolding primary_frame primary_step acceptor_frame acceptor_step backup_frame backup_step learner_frame learner_step
  always packets = record {
    primary = λ port f next. framed-by-7 (primary s) port f next (λ p. packets.primary p next);
    acceptors = λ own port f t. framed-by-7 (acceptor s own) port f t (λ p. packets.acceptors own p t);
    backups = λ own port f t. framed-by-7 (backup s own) port f t (λ p. packets.backups own p t);
    learners = λ port f t. framed-by-7 (learner s) port f t (λ p. packets.learners p t);
  }

pub frame-refusals : (s : Settings) → FrameRefusals s
frame-refusals s = record {
  never_by_7_or_17 = λ fine {w} begun. never ((agreement s).never_by_7_or_17 fine (frames-are-runs s w begun));
  always_by_7 = λ none. always ((agreement s).always_by_7 none now);
}
