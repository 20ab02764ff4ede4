-- An acceptor at a switch port: frames in place of packets, with the destination port as one more setting.
-- Assumes nothing.
use Rattle.std.specs.Prelude.{ℕ, List}
use Rattle.basics.specs.Outcome.{Outcome, Lent}
use Rattle.port.specs.Framed.{framed}
use Rattle.quorum.specs.declared.Settings.{Settings}
use Rattle.acceptor_tables.specs.Tables.{Tables}
use Rattle.acceptor.specs.Acceptor.{acceptor}

unfoldable pub acceptor_frame : Settings → (own port : ℕ) → (frame : List ℕ) → Tables → Outcome (Lent Tables)
acceptor_frame s own = framed (acceptor s own)
