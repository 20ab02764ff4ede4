-- What is promised of the learner's call on frames.
-- Assumes nothing.
use Rattle.std.specs.Prelude.{ℕ, ◌≡◌, List, [], ◌∷◌}
use Rattle.numbers.specs.BigEndian.{Bytes}
use Rattle.port.specs.Promises.{port_refusals, FramePromises}
use Rattle.quorum.specs.declared.Settings.{Settings}
use Rattle.learner_tables.specs.Tables.{Tables}
use Rattle.learner.specs.Learner.{learner_step}
use Rattle.learner.specs.Promises.{verdicts}
use Rattle.learner_port.specs.Port.{learner_frame}

-- Order for a frame: 7, 21 to 25, 2 to 5, 6, 8, 9, 17, 14, 10, 13, 15. The verdicts are those for a packet.
abbrev pub PortPromises : Settings → Type 0
PortPromises s = FramePromises (learner_frame s) (learner_step s) (port_refusals (8 ∷ 9 ∷ 17 ∷ 14 ∷ 10 ∷ 13 ∷ 15 ∷ [])) verdicts

-- The call leaves every frame as it came: it is lent to be read.
abbrev pub FrameStays : Settings → Type 0
FrameStays s = (port : ℕ) (frame : List ℕ) (t : Tables) → Bytes frame → (learner_frame s port frame t).left.packet ≡ frame
