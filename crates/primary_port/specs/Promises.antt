-- What is promised of the primary's call on frames.
-- Assumes nothing.
use Rattle.std.specs.Prelude.{[], ◌∷◌}
use Rattle.port.specs.Promises.{port_refusals, FramePromises}
use Rattle.quorum.specs.declared.Settings.{Settings}
use Rattle.primary.specs.Primary.{primary_step}
use Rattle.primary.specs.Promises.{verdicts}
use Rattle.primary_port.specs.Port.{primary_frame}

-- Order for a frame: 7, 21 to 25, 2 to 5, 6, 17, 12. The verdicts are those for a packet.
abbrev pub PortPromises : Settings → Type 0
PortPromises s = FramePromises (primary_frame s) (primary_step s) (port_refusals (17 ∷ 12 ∷ [])) verdicts
