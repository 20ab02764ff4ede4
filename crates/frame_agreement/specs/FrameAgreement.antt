-- Demand 3 over frames: what is claimed of every run over frames, whatever its settings. It is the claim of runs of packets, made of another kind of run.
-- Assumes nothing.
use Rattle.std.specs.Prelude.{ℕ, ◌≤◌, ◌<◌, ◌≡◌, true, false, List}
use Rattle.quorum.specs.declared.Settings.{Settings}
use Rattle.quorum.specs.Settings.{allowed}
use Rattle.acceptor_tables.specs.Tables as acceptor_tables
use Rattle.backup_tables.specs.Tables as backup_tables
use Rattle.learner_tables.specs.Tables as learner_tables
use Rattle.primary_port.specs.Port.{primary_frame}
use Rattle.acceptor_port.specs.Port.{acceptor_frame}
use Rattle.backup_port.specs.Port.{backup_frame}
use Rattle.learner_port.specs.Port.{learner_frame}
use Rattle.agreement.specs.Run.{Boxes, Call, Run}
use Rattle.agreement.specs.Agreement.{Neither7Nor17, Agreement}
use Rattle.frame_agreement.specs.FrameRun.{FrameCall}

-- "Demands 1 to 3 then read frames": all that is claimed of runs of packets.
abbrev pub Demand3OverFrames : Type 0
Demand3OverFrames = (s : Settings) → Agreement (FrameCall s) s

-- For every run over frames is a run of packets, on the same tables, with the same packets sent.
abbrev pub FramesAreRuns : Type 0
FramesAreRuns = (s : Settings) (w : Boxes) → Run (FrameCall s) s w → Run (Call s) s w

-- No player refuses a frame by 7 or 17, whatever the port and the frame.
pub record FramesNeverBy7Or17 (s : Settings) (w : Boxes) : Type 0 where
  pub primary : (port : ℕ) (f : List ℕ) → Neither7Nor17 (primary_frame s port f w.primary).answer
  pub acceptors : (own port : ℕ) (f : List ℕ) → own < s.acceptors → Neither7Nor17 (acceptor_frame s own port f (w.acceptor own)).answer
  pub backups : (own port : ℕ) (f : List ℕ) → 1 ≤ own → own ≤ 3 → Neither7Nor17 (backup_frame s own port f (w.backup own)).answer
  pub learners : (which port : ℕ) (f : List ℕ) → Neither7Nor17 (learner_frame s port f (w.learner which)).answer

-- Every frame is refused by 7, whatever the port, the frame and the tables.
pub record FramesAlwaysBy7 (s : Settings) : Type 0 where
  pub primary : (port : ℕ) (f next : List ℕ) → (primary_frame s port f next).answer ≡ 7
  pub acceptors : (own port : ℕ) (f : List ℕ) (t : acceptor_tables.Tables) → (acceptor_frame s own port f t).answer ≡ 7
  pub backups : (own port : ℕ) (f : List ℕ) (t : backup_tables.Tables) → (backup_frame s own port f t).answer ≡ 7
  pub learners : (port : ℕ) (f : List ℕ) (t : learner_tables.Tables) → (learner_frame s port f t).answer ≡ 7

-- What agreement says of 7 and 17 for packets, for frames.
pub record FrameRefusals (s : Settings) : Type 0 where
  -- Where M and N are allowed, neither occurs in a run;
  pub never_by_7_or_17 : allowed s ≡ true → {w : Boxes} → Run (FrameCall s) s w → FramesNeverBy7Or17 s w
  -- where they are not, every call is refused by 7.
  pub always_by_7 : allowed s ≡ false → FramesAlwaysBy7 s
