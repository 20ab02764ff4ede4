-- Runs over frames: a player is handed whole frames, with any headers, and each call may have another port. What was sent is 36 bytes, never a frame, and so is
-- what is noted of a request. The calls that check, seal and frame touch no table and are none of a run.
-- Assumes nothing.
use Rattle.std.specs.Prelude.{ℕ, List}
use Rattle.numbers.specs.BigEndian.{Bytes}
use Rattle.frames.specs.Frame.{packet_in}
use Rattle.frames.specs.Promises.{Refused}
use Rattle.quorum.specs.declared.Settings.{Settings}
use Rattle.primary_port.specs.Port.{primary_frame}
use Rattle.acceptor_port.specs.Port.{acceptor_frame}
use Rattle.backup_port.specs.Port.{backup_frame}
use Rattle.learner_port.specs.Port.{learner_frame}
use Rattle.port.specs.Promises.{out_of_frame}
use Rattle.agreement.specs.Run.{Boxes, after_primary, after_acceptor, after_backup, after_learner, Handed, Call}

-- A frame that may be handed over, to any player, by a call with that port. "A copy is one of the 36 bytes, in whatever frame, and a frame refused by 21 to 25
-- counts as malformed."
pub data HandedFrame (w : Boxes) (port : ℕ) (f : List ℕ) : Type 0 where
  carries : Bytes f → Handed w (packet_in f) → HandedFrame w port f
  refused : Bytes f → Refused port f → HandedFrame w port f

-- One call: a player's on a frame, or any of a run of packets, so that a run may mix both.
pub data FrameCall (s : Settings) (w : Boxes) : Boxes → Type 0 where
  primary_gets_frame : (port : ℕ) (f : List ℕ) → HandedFrame w port f
      → FrameCall s w (after_primary w (packet_in f) (out_of_frame (primary_frame s port f w.primary)))
  acceptor_gets_frame : (own port : ℕ) (f : List ℕ) → HandedFrame w port f
      → FrameCall s w (after_acceptor w own (out_of_frame (acceptor_frame s own port f (w.acceptor own))))
  backup_gets_frame : (own port : ℕ) (f : List ℕ) → HandedFrame w port f
      → FrameCall s w (after_backup w own (out_of_frame (backup_frame s own port f (w.backup own))))
  learner_gets_frame : (which port : ℕ) (f : List ℕ) → HandedFrame w port f
      → FrameCall s w (after_learner w which (out_of_frame (learner_frame s port f (w.learner which))))
  packet_call : {u : Boxes} → Call s w u → FrameCall s w u
