-- Each call on a frame is one on a packet, with the same tables: on the 36 bytes of a frame that passes, and on no bytes at all, which are malformed, for a
-- frame that is refused. So every run over frames is a run of packets.
-- Assumes nothing.
use Prim.Native.Nat.{ℕ}
use mathlib.Core.Path.{◌≡◌, refl, sym, ap, ◌∙◌, subst}
use mathlib.Core.Bool.{false}
use mathlib.Core.List.{List, []}
use lib.Dec.{eqb}
use borrow.Author.Tests.{eqb-true, eqb-false}
use native.Mathlib.Omega.{arith}
use Rattle.basics.specs.declared.Verdict.TheVariants.{Done}
use Rattle.basics.specs.Ladder.{when◌then◌else◌, need◌or◌then◌}
use Rattle.basics.specs.Outcome.{Outcome, Lent}
use Rattle.basics.specs.Verdict.{verdict_number, says_send}
use Rattle.basics.proofs.Ladder.{by-test}
use Rattle.wire.specs.Packet.{read_packet}
use Rattle.player.specs.Step.{unchanged, Player, step}
use Rattle.frames.specs.Frame.{packet_in, frame_check, Passes}
use Rattle.quorum.specs.declared.Settings.{Settings}
use Rattle.primary.specs.Primary.{primary, primary_step}
use Rattle.acceptor.specs.Acceptor.{acceptor, acceptor_step}
use Rattle.backup.specs.Backup.{backup, backup_step}
use Rattle.learner.specs.Learner.{learner, learner_step}
use Rattle.port.specs.Framed.{framed}
use Rattle.primary_port.specs.Port.{primary_frame}
use Rattle.acceptor_port.specs.Port.{acceptor_frame}
use Rattle.backup_port.specs.Port.{backup_frame}
use Rattle.learner_port.specs.Port.{learner_frame}
use Rattle.port.specs.Promises.{out_of_frame}
use Rattle.port.proofs.Laws.{refused-quiet, refused-fails, step-7, step-nothing, framed-elim, framed_steps}
use Rattle.agreement.specs.Run.{Boxes, after_primary, after_acceptor, after_backup, after_learner, Handed, malformed, Call, Later, now, and_then}
use Rattle.agreement.specs.Run as run
use Rattle.agreement.proofs.OtherRuns.{as-calls}
use Rattle.frame_agreement.specs.FrameRun.{HandedFrame, carries, refused, FrameCall}
use Rattle.frame_agreement.specs.FrameRun as frames
use Rattle.frame_agreement.specs.FrameAgreement.{FramesAreRuns}

-- no bytes at all may be handed over
nothing-handed : (w : Boxes) → Handed w []
unfolding read_packet need◌or◌then◌
nothing-handed w = malformed (λ i. omega arith) (record { number = 1; refuses = refl })

-- the 36 bytes of a frame that was handed over and passes may be
carried : {w : Boxes} (port : ℕ) (f : List ℕ) → HandedFrame w port f → Passes port f → Handed w (packet_in f)
carried port f (carries bytes handed) passes = handed
carried port f (refused bytes refuses) passes = absurd (refused-fails port f refuses passes)

-- ---- a call of any player, by the boxes after it

module _ {s : Settings} {w : Boxes} {Tables Cell : Type 0} (player : Player Tables Cell) (tables : Tables)
    (after : (packet : List ℕ) → Outcome (Lent Tables) → Boxes)
    (calls : (p : List ℕ) → Handed w p → Call s w (after p (step player p tables)))
    (quiet : (p left : List ℕ) (number : ℕ) → says_send number ≡ false → after p (unchanged left tables number) ≡ after [] (unchanged [] tables 1)) where
  -- a call on no bytes at all leaves all as it was
  on-nothing : after [] (step player [] tables) ≡ after [] (unchanged [] tables 1)
  unfolding says_send
  on-nothing =
      by-test (player.allowed tables) (λ allowed. ap (after []) (step-nothing player tables allowed))
      (λ never. ap (after []) (step-7 player tables [] never) ∙ quiet [] [] 7 refl)

  -- and so does one on a frame that is refused
  on-refused : (port : ℕ) (f : List ℕ) → (Passes port f → ⊥) → after (packet_in f) (out_of_frame (framed player port f tables)) ≡ after [] (unchanged [] tables 1)
  unfolding says_send
  on-refused port f fails =
      framed-elim player port f tables (λ o. after (packet_in f) (out_of_frame o) ≡ after [] (unchanged [] tables 1)) (λ _. quiet (packet_in f) (packet_in f) 7 refl)
      (λ _. quiet (packet_in f) (packet_in f) (frame_check port f) (refused-quiet port f fails))
      (λ _ passes. absurd (fails passes))

  frame-call : (port : ℕ) (f : List ℕ) → HandedFrame w port f → Call s w (after (packet_in f) (out_of_frame (framed player port f tables)))
  frame-call port f handed =
      by-test (eqb (frame_check port f) (verdict_number Done))
      (λ e. let passes = eqb-true _ _ e in
      subst (λ o. Call s w (after (packet_in f) o)) (sym (framed_steps player port f tables passes)) (calls (packet_in f) (carried port f handed passes)))
      (λ e. subst (Call s w) (on-nothing ∙ sym (on-refused port f (eqb-false _ _ e))) (calls [] (nothing-handed w)))

-- ---- the calls of the four players

module _ {s : Settings} {w : Boxes} where
  primary-call : (port : ℕ) (f : List ℕ) → HandedFrame w port f → Call s w (after_primary w (packet_in f) (out_of_frame (primary_frame s port f w.primary)))
  unfolding primary_frame primary_step says_send when◌then◌else◌
  primary-call = frame-call (primary s) w.primary (after_primary w) run.Call.primary_steps (λ p left number quiet. rw quiet)

  acceptor-call : (own port : ℕ) (f : List ℕ) → HandedFrame w port f
      → Call s w (after_acceptor w own (out_of_frame (acceptor_frame s own port f (w.acceptor own))))
  unfolding acceptor_frame acceptor_step says_send when◌then◌else◌
  acceptor-call own =
      frame-call (acceptor s own) (w.acceptor own) (λ _. after_acceptor w own) (run.Call.acceptor_steps own) (λ p left number quiet. rw quiet)

  backup-call : (own port : ℕ) (f : List ℕ) → HandedFrame w port f → Call s w (after_backup w own (out_of_frame (backup_frame s own port f (w.backup own))))
  unfolding backup_frame backup_step says_send when◌then◌else◌
  backup-call own = frame-call (backup s own) (w.backup own) (λ _. after_backup w own) (run.Call.backup_steps own) (λ p left number quiet. rw quiet)

  learner-call : (which port : ℕ) (f : List ℕ) → HandedFrame w port f → Call s w (after_learner w which (out_of_frame (learner_frame s port f (w.learner which))))
  unfolding learner_frame learner_step says_send when◌then◌else◌
  learner-call which = frame-call (learner s) (w.learner which) (λ _. after_learner w which) (run.Call.learner_steps which) (λ p left number quiet. rw quiet)

packet-calls : {s : Settings} {w u : Boxes} → FrameCall s w u → Call s w u
packet-calls (frames.FrameCall.primary_gets_frame port f handed) = primary-call port f handed
packet-calls (frames.FrameCall.acceptor_gets_frame own port f handed) = acceptor-call own port f handed
packet-calls (frames.FrameCall.backup_gets_frame own port f handed) = backup-call own port f handed
packet-calls (frames.FrameCall.learner_gets_frame which port f handed) = learner-call which port f handed
packet-calls (frames.FrameCall.packet_call call) = call

-- ---- the runs

pub frame-calls : (s : Settings) (w u : Boxes) → FrameCall s w u → Later (Call s) w u
frame-calls s w u call = and_then now (packet-calls call)

pub frames-are-runs : FramesAreRuns
frames-are-runs s w = as-calls (frame-calls s)
