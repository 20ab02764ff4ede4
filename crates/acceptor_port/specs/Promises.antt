-- What is promised of the acceptor's call on frames.
-- Assumes nothing.
use Rattle.std.specs.Prelude.{ℕ, [], ◌∷◌}
use Rattle.port.specs.Promises.{port_refusals, FramePromises}
use Rattle.quorum.specs.declared.Settings.{Settings}
use Rattle.acceptor.specs.Acceptor.{acceptor_step}
use Rattle.acceptor.specs.Promises.{verdicts}
use Rattle.acceptor_port.specs.Port.{acceptor_frame}

-- Order for a frame: 7, 21 to 25, 2 to 5, 6, 8, 17, 10. The verdicts are those for a packet.
abbrev pub PortPromises : Settings → Type 0
PortPromises s = (own : ℕ) → FramePromises (acceptor_frame s own) (acceptor_step s own) (port_refusals (8 ∷ 17 ∷ 10 ∷ [])) verdicts
