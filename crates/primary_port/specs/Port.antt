-- The primary at a switch port: frames in place of packets, with the destination port as one more setting.
-- Assumes nothing.
use Rattle.std.specs.Prelude.{ℕ, List}
use Rattle.basics.specs.Outcome.{Outcome, Lent}
use Rattle.port.specs.Framed.{framed}
use Rattle.quorum.specs.declared.Settings.{Settings}
use Rattle.primary.specs.Primary.{primary}

unfoldable pub primary_frame : Settings → (port : ℕ) → (frame next : List ℕ) → Outcome (Lent (List ℕ))
primary_frame s = framed (primary s)
