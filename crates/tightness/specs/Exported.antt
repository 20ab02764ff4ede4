-- What each exported call does: its promise is the definition that runs and agreement speak of (agreement/specs), with each argument in its place. So what is
-- shown of the definitions is shown of the calls. Primed names are what is lent as it stands at exit.
-- Assumes nothing.
use Rattle.std.specs.Prelude.{◌≡◌}
use seplogic.Ra.Ura.{Ura}
use base.Logic.{SProp}
use prog.Memory.{Memory}
use prog.Routine.{Routine}
use types.Logic.{Logic}
use contract.Lifetimes.{Lfts}
use contract.Monad.{Fun, fact}
use denote.Triple.Clauses.{AtExit}
use denote.Triple.Entry.{Args, Res}
use Rattle.basics.specs.Outcome.{outcome, lent}
use Rattle.basics.specs.Rounds.{the_instance}
use Rattle.basics.specs.Values.{the_value}
use Rattle.quorum.specs.Settings.{settings}
use Rattle.packets.specs.Packets.{numbered, packet_write, packet_read}
use Rattle.packets.proofs.myrthakel_packet_write.Reads as packet-write
use Rattle.packets.proofs.myrthakel_packet_read.Reads as packet-read
use Rattle.frames.specs.Frame.{frame_check, frame_seal}
use Rattle.frames.proofs.myrthakel_frame_check.Reads as frame-check
use Rattle.frames.proofs.myrthakel_frame_seal.Reads as frame-seal
use Rattle.framing.specs.Framing.{addressed, frame_prepare}
use Rattle.framing.proofs.myrthakel_frame_prepare.Reads as frame-prepare
use Rattle.primary.specs.Primary.{primary_fresh, primary_step}
use Rattle.primary.proofs.myrthakel_primary_fresh.Reads as primary_fresh
use Rattle.primary.proofs.myrthakel_primary_step.Reads as primary-step
use Rattle.primary.specs.contracts.myrthakel_primary_request as primary-request
use Rattle.primary_port.specs.Port.{primary_frame}
use Rattle.primary_port.proofs.myrthakel_primary_frame.Reads as primary-frame
use Rattle.acceptor_tables.specs.Tables as acceptors
use Rattle.acceptor_tables.specs.Tables.{acceptor_fresh}
use Rattle.acceptor_tables.proofs.myrthakel_acceptor_fresh.Reads as acceptor_fresh
use Rattle.acceptor.specs.Acceptor.{acceptor_step}
use Rattle.acceptor.proofs.myrthakel_acceptor_step.Reads as acceptor-step
use Rattle.acceptor_port.specs.Port.{acceptor_frame}
use Rattle.acceptor_port.proofs.myrthakel_acceptor_frame.Reads as acceptor-frame
use Rattle.backup_tables.specs.Tables as backups
use Rattle.backup_tables.specs.Tables.{backup_fresh}
use Rattle.backup_tables.proofs.myrthakel_backup_fresh.Reads as backup_fresh
use Rattle.backup.specs.Backup.{backup_start, backup_step}
use Rattle.backup.proofs.myrthakel_backup_start.Reads as backup-start
use Rattle.backup.proofs.myrthakel_backup_step.Reads as backup-step
use Rattle.backup_port.specs.Port.{backup_frame}
use Rattle.backup_port.proofs.myrthakel_backup_frame.Reads as backup-frame
use Rattle.learner_tables.specs.Tables as learners
use Rattle.learner_tables.specs.Tables.{learner_fresh}
use Rattle.learner_tables.proofs.myrthakel_learner_fresh.Reads as learner_fresh
use Rattle.learner.specs.Learner as learner
use Rattle.learner.specs.Learner.{learner_step, answer_for}
use Rattle.learner.proofs.myrthakel_learner_step.Reads as learner-step
use Rattle.learner.proofs.myrthakel_learner_answer.Reads as learner-answer
use Rattle.learner_port.specs.Port.{learner_frame}
use Rattle.learner_port.proofs.myrthakel_learner_frame.Reads as learner-frame
use Rattle.learner_delivery.specs.Delivery.{deliver}
use Rattle.learner_delivery.proofs.myrthakel_learner_deliver.Reads as learner-deliver
use Rattle.learner_holes.specs.Holes as holes
use Rattle.learner_holes.specs.Holes.{find_hole}
use Rattle.learner_holes.proofs.myrthakel_learner_first_hole.Reads as learner-first-hole
use Rattle.learner_saved.specs.Saved.{save, read_saved}
use Rattle.learner_saved.proofs.myrthakel_learner_save.Reads as learner-save
use Rattle.learner_saved.proofs.myrthakel_learner_read_saved.Reads as learner-read-saved
use Rattle.passes.specs.Passes as ledgers
use Rattle.ledger.specs.Ledger.{enter}
use Rattle.ledger.proofs.myrthakel_ledger_enter.Reads as ledger-enter
use Rattle.tightness.specs.Tightness.{requested}

-- Whatever keeps the promise keeps the equation: on all arguments, for every answer and all parameters at exit.
abbrev pub Does : {Lifetimes : Type 0} {Entry Answer Exit : Lifetimes → Type 0}
    → (promise equation : (κs : Lifetimes) → Entry κs → Answer κs → Exit κs → Type 0) → Type 0
Does {Lifetimes} {Entry} {Answer} {Exit} promise equation =
    (κs : Lifetimes) (entry : Entry κs) (answer : Answer κs) (exit : Exit κs) → promise κs entry answer exit → equation κs entry answer exit

pub record ExportedCalls : Type 2 where
  -- Runs have no host that writes or reads packets by call: what is promised of that stands in packets.
  pub of_packet_write : Does packet-write.Learnt
      λ _ (kind, (switch, (instance, (round, (vote_round, (high, (low, (packet, _)))))))) answer (_, (_, (_, (_, (_, (_, (_, (packet', _)))))))).
      outcome answer packet'.now
      ≡ packet_write (numbered kind switch instance round vote_round high low) packet.now
  pub of_packet_read : Does packet-read.Learnt
      λ _ (packet, (kind, (switch, (instance, (round, (vote_round, (high, (low, _))))))))
      answer (_, (kind', (switch', (instance', (round', (vote_round', (high', (low', _)))))))).
      outcome answer (numbered kind'.now switch'.now instance'.now round'.now vote_round'.now high'.now low'.now)
      ≡ packet_read packet.now (numbered kind.now switch.now instance.now round.now vote_round.now high.now low.now)
  -- Nor one that checks, seals or frames by call: what is promised of that stands in frames and framing.
  pub of_frame_check : Does frame-check.Learnt λ _ (port, (frame, _)) answer _. answer ≡ frame_check port frame.now
  pub of_frame_seal : Does frame-seal.Learnt λ _ (frame, _) answer (frame', _). outcome answer frame'.now ≡ frame_seal frame.now
  pub of_frame_prepare : Does frame-prepare.Learnt
      λ _ (packet, (to, (from, (ip_from, (ip_to, (port_from, (port_to, (frame, _)))))))) answer (_, (_, (_, (_, (_, (_, (_, (frame', _)))))))).
      outcome answer frame'.now
      ≡ frame_prepare (addressed to.now from.now ip_from ip_to port_from port_to) packet.now frame.now
  -- With these four a run begins (`RunBegins` of agreement).
  pub of_primary_fresh : Does primary_fresh.Learnt λ _ (M, (N, (next, _))) answer (_, (_, (next', _))).
      outcome answer next'.now
      ≡ primary_fresh (settings M N) next.now
  pub of_acceptor_fresh : Does acceptor_fresh.Learnt λ _ (M, (N, (rounds, (vote_rounds, (values, _))))) answer (_, (_, (rounds', (vote_rounds', (values', _))))).
      outcome answer (acceptors.tables rounds'.now vote_rounds'.now values'.now)
      ≡ acceptor_fresh (settings M N) (acceptors.tables rounds.now vote_rounds.now values.now)
  pub of_backup_fresh : Does backup_fresh.Learnt
      λ _ (M, (N, (rounds, (phases, (sets, (best_vote_rounds, (best_values, (own_values, _))))))))
      answer (_, (_, (rounds', (phases', (sets', (best_vote_rounds', (best_values', (own_values', _)))))))).
      outcome answer (backups.tables rounds'.now phases'.now sets'.now best_vote_rounds'.now best_values'.now own_values'.now)
      ≡ backup_fresh (settings M N) (backups.tables rounds.now phases.now sets.now best_vote_rounds.now best_values.now own_values.now)
  pub of_learner_fresh : Does learner_fresh.Learnt λ _ (M, (N, (rounds, (sets, (values, _))))) answer (_, (_, (rounds', (sets', (values', _))))).
      outcome answer (learners.tables rounds'.now sets'.now values'.now)
      ≡ learner_fresh (settings M N) (learners.tables rounds.now sets.now values.now)
  pub of_primary_step : Does primary-step.Learnt λ _ (M, (N, (packet, (next, _)))) answer (_, (_, (packet', (next', _)))).
      outcome answer (lent packet'.now next'.now)
      ≡ primary_step (settings M N) packet.now next.now
  -- The contract of the call on a record lent by reference states `requested`. It steps as the slice of one number does (`SliceIsTheRecord` of primary).
  pub of_primary_request : {M : Type 1} {𝓤 : Ura M} (𝓛 : Logic 𝓤) (mem : Memory → SProp 𝓤) (run : Routine → Fun 𝓤)
      (κs : Lfts 2) (entry : Args primary-request.signature κs) (answer : Res primary-request.signature κs) (exit : AtExit primary-request.ended κs)
      → (primary-request.clauses 𝓛 mem run κs entry).ensures tt answer exit ≡ fact 𝓤 (requested κs entry answer exit)
  -- Runs over frames (frame_agreement) speak of the calls on frames.
  pub of_primary_frame : Does primary-frame.Learnt λ _ (M, (N, (port, (frame, (next, _))))) answer (_, (_, (_, (frame', (next', _))))).
      outcome answer (lent frame'.now next'.now)
      ≡ primary_frame (settings M N) port frame.now next.now
  pub of_acceptor_step : Does acceptor-step.Learnt
      λ _ (M, (N, (own, (packet, (rounds, (vote_rounds, (values, _))))))) answer (_, (_, (_, (packet', (rounds', (vote_rounds', (values', _))))))).
      outcome answer (lent packet'.now (acceptors.tables rounds'.now vote_rounds'.now values'.now))
      ≡ acceptor_step (settings M N) own packet.now (acceptors.tables rounds.now vote_rounds.now values.now)
  pub of_acceptor_frame : Does acceptor-frame.Learnt
      λ _ (M, (N, (own, (port, (frame, (rounds, (vote_rounds, (values, _)))))))) answer (_, (_, (_, (_, (frame', (rounds', (vote_rounds', (values', _)))))))).
      outcome answer (lent frame'.now (acceptors.tables rounds'.now vote_rounds'.now values'.now))
      ≡ acceptor_frame (settings M N) own port frame.now (acceptors.tables rounds.now vote_rounds.now values.now)
  pub of_backup_start : Does backup-start.Learnt
      λ _ (M, (N, (own, (instance, (floor, (high, (low, (buffer, (rounds, (phases, (sets, (best_vote_rounds, (best_values, (own_values, _))))))))))))))
      answer (_, (_, (_, (_, (_, (_, (_, (buffer', (rounds', (phases', (sets', (best_vote_rounds', (best_values', (own_values', _)))))))))))))).
      outcome answer (lent buffer'.now (backups.tables rounds'.now phases'.now sets'.now best_vote_rounds'.now best_values'.now own_values'.now))
      ≡ backup_start (settings M N) own (the_instance instance) floor (the_value high low) buffer.now
      (backups.tables rounds.now phases.now sets.now best_vote_rounds.now best_values.now own_values.now)
  pub of_backup_step : Does backup-step.Learnt
      λ _ (M, (N, (own, (packet, (rounds, (phases, (sets, (best_vote_rounds, (best_values, (own_values, _))))))))))
      answer (_, (_, (_, (packet', (rounds', (phases', (sets', (best_vote_rounds', (best_values', (own_values', _)))))))))).
      outcome answer (lent packet'.now (backups.tables rounds'.now phases'.now sets'.now best_vote_rounds'.now best_values'.now own_values'.now))
      ≡ backup_step (settings M N) own packet.now (backups.tables rounds.now phases.now sets.now best_vote_rounds.now best_values.now own_values.now)
  pub of_backup_frame : Does backup-frame.Learnt
      λ _ (M, (N, (own, (port, (frame, (rounds, (phases, (sets, (best_vote_rounds, (best_values, (own_values, _)))))))))))
      answer (_, (_, (_, (_, (frame', (rounds', (phases', (sets', (best_vote_rounds', (best_values', (own_values', _))))))))))).
      outcome answer (lent frame'.now (backups.tables rounds'.now phases'.now sets'.now best_vote_rounds'.now best_values'.now own_values'.now))
      ≡ backup_frame (settings M N) own port frame.now
      (backups.tables rounds.now phases.now sets.now best_vote_rounds.now best_values.now own_values.now)
  pub of_learner_step : Does learner-step.Learnt
      λ _ (M, (N, (packet, (rounds, (sets, (values, _)))))) answer (_, (_, (_, (rounds', (sets', (values', _)))))).
      outcome answer (lent packet.now (learners.tables rounds'.now sets'.now values'.now))
      ≡ learner_step (settings M N) packet.now (learners.tables rounds.now sets.now values.now)
  pub of_learner_frame : Does learner-frame.Learnt
      λ _ (M, (N, (port, (frame, (rounds, (sets, (values, _))))))) answer (_, (_, (_, (_, (rounds', (sets', (values', _))))))).
      outcome answer (lent frame.now (learners.tables rounds'.now sets'.now values'.now))
      ≡ learner_frame (settings M N) port frame.now (learners.tables rounds.now sets.now values.now)
  pub of_learner_answer : Does learner-answer.Learnt
      λ _ (M, (N, (instance, (rounds, (sets, (values, (high, (low, _)))))))) answer (_, (_, (_, (_, (_, (_, (high', (low', _)))))))).
      outcome answer (the_value high'.now low'.now)
      ≡ learner.answered (the_value high.now low.now) (answer_for (settings M N) (the_instance instance) (learners.tables rounds.now sets.now values.now))
  pub of_learner_deliver : Does learner-deliver.Learnt
      λ _ (M, (N, (rounds, (sets, (values, (buffer, (count, _))))))) answer (_, (_, (_, (_, (_, (buffer', (count', _))))))).
      outcome answer (lent buffer'.now count'.now)
      ≡ deliver (settings M N) (learners.tables rounds.now sets.now values.now) buffer.now count.now
  pub of_learner_first_hole : Does learner-first-hole.Learnt
      λ _ (M, (N, (rounds, (sets, (values, (instance, _)))))) answer (_, (_, (_, (_, (_, (instance', _)))))).
      outcome answer instance'.now
      ≡ holes.answered instance.now (find_hole (settings M N) (learners.tables rounds.now sets.now values.now))
  pub of_learner_save : Does learner-save.Learnt
      λ _ (M, (N, (rounds, (sets, (values, (buffer, _)))))) answer (_, (_, (_, (_, (_, (buffer', _)))))).
      let before = learners.tables rounds.now sets.now values.now in
      outcome answer (lent buffer'.now before)
      ≡ save (settings M N) buffer.now before
  -- Runs have no reading back: what is promised of it stands in learner_saved.
  pub of_learner_read_saved : Does learner-read-saved.Learnt
      λ _ (M, (N, (saved, (rounds, (sets, (values, _)))))) answer (_, (_, (_, (rounds', (sets', (values', _)))))).
      outcome answer (lent saved.now (learners.tables rounds'.now sets'.now values'.now))
      ≡ read_saved (settings M N) saved.now (learners.tables rounds.now sets.now values.now)
  -- Runs have no ledger, which is fed by what a learner delivers: what is promised of it stands in ledger.
  pub of_ledger_enter : Does ledger-enter.Learnt
      λ _ (value, (passes, (rides_left, (last_days, (last_scans, (count, _)))))) answer (_, (passes', (rides_left', (last_days', (last_scans', (count', _)))))).
      outcome answer (ledgers.table (ledgers.columns passes'.now rides_left'.now last_days'.now last_scans'.now) count'.now)
      ≡ enter value.now (ledgers.table (ledgers.columns passes.now rides_left.now last_days.now last_scans.now) count.now)
