-- What is promised of the backup's call on frames.
-- Assumes nothing.
use Rattle.std.specs.Prelude.{ℕ, [], ◌∷◌}
use Rattle.port.specs.Promises.{port_refusals, FramePromises}
use Rattle.quorum.specs.declared.Settings.{Settings}
use Rattle.backup.specs.Backup.{backup_step}
use Rattle.backup.specs.Promises.{verdicts}
use Rattle.backup_port.specs.Port.{backup_frame}

-- Order for a frame: 7, 21 to 25, 2 to 5, 6, 8, 9, 17, 11, 15. The verdicts are those for a packet.
abbrev pub PortPromises : Settings → Type 0
PortPromises s = (own : ℕ) → FramePromises (backup_frame s own) (backup_step s own) (port_refusals (8 ∷ 9 ∷ 17 ∷ 11 ∷ 15 ∷ [])) verdicts
