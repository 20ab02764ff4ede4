-- A learner at a switch port: frames in place of packets, with the destination port as one more setting.
-- Assumes nothing.
use Rattle.std.specs.Prelude.{ℕ, List}
use Rattle.basics.specs.Outcome.{Outcome, Lent}
use Rattle.port.specs.Framed.{framed}
use Rattle.quorum.specs.declared.Settings.{Settings}
use Rattle.learner_tables.specs.Tables.{Tables}
use Rattle.learner.specs.Learner.{learner}

unfoldable pub learner_frame : Settings → (port : ℕ) → (frame : List ℕ) → Tables → Outcome (Lent Tables)
learner_frame s = framed (learner s)
