-- Each exported call does what its definition says: its contract is that equation, so what its promise tells is it.
-- Assumes nothing.
use mathlib.Core.Path.{refl}
use Rattle.tightness.specs.Exported.{ExportedCalls}

pub exported-calls : ExportedCalls
exported-calls = record {
  of_packet_write = λ _ _ _ _ told. told;
  of_packet_read = λ _ _ _ _ told. told;
  of_frame_check = λ _ _ _ _ told. told;
  of_frame_seal = λ _ _ _ _ told. told;
  of_frame_prepare = λ _ _ _ _ told. told;
  of_primary_fresh = λ _ _ _ _ told. told;
  of_acceptor_fresh = λ _ _ _ _ told. told;
  of_backup_fresh = λ _ _ _ _ told. told;
  of_learner_fresh = λ _ _ _ _ told. told;
  of_primary_step = λ _ _ _ _ told. told;
  of_primary_request = λ _ _ _ _ _ _ _. refl;
  of_primary_frame = λ _ _ _ _ told. told;
  of_acceptor_step = λ _ _ _ _ told. told;
  of_acceptor_frame = λ _ _ _ _ told. told;
  of_backup_start = λ _ _ _ _ told. told;
  of_backup_step = λ _ _ _ _ told. told;
  of_backup_frame = λ _ _ _ _ told. told;
  of_learner_step = λ _ _ _ _ told. told;
  of_learner_frame = λ _ _ _ _ told. told;
  of_learner_answer = λ _ _ _ _ told. told;
  of_learner_deliver = λ _ _ _ _ told. told;
  of_learner_first_hole = λ _ _ _ _ told. told;
  of_learner_save = λ _ _ _ _ told. told;
  of_learner_read_saved = λ _ _ _ _ told. told;
  of_ledger_enter = λ _ _ _ _ told. told;
}
