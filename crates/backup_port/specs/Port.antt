-- A backup at a switch port: frames in place of packets, with the destination port as one more setting.
-- Assumes nothing.
use Rattle.std.specs.Prelude.{ℕ, List}
use Rattle.basics.specs.Outcome.{Outcome, Lent}
use Rattle.port.specs.Framed.{framed}
use Rattle.quorum.specs.declared.Settings.{Settings}
use Rattle.backup_tables.specs.Tables.{Tables}
use Rattle.backup.specs.Backup.{backup}

unfoldable pub backup_frame : Settings → (own port : ℕ) → (frame : List ℕ) → Tables → Outcome (Lent Tables)
backup_frame s own = framed (backup s own)
