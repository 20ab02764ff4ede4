-- The promises of the primary's call on frames: those of any player's, from the facts that its place and its rule never refuse by 1 and that its rule says to
-- send where it sends.
-- Assumes nothing.
use mathlib.Core.Path.{refl}
use mathlib.Core.List.{[], ◌∷◌}
use Rattle.basics.specs.Verdict.{says_send}
use Rattle.port.proofs.Promises.{NotBy1, SaysSo, frame-promises}
use Rattle.quorum.specs.declared.Settings.{Settings}
use Rattle.primary.specs.Primary.{primary, primary_step}
use Rattle.primary.specs.Promises.{verdicts}
use Rattle.primary.proofs.Laws.{place-elim, rule-elim}
use Rattle.primary.proofs.Promises.{primary-numbers}
use Rattle.primary_port.specs.Port.{primary_frame}
use Rattle.primary_port.specs.Promises.{PortPromises}

pub port-promises : (s : Settings) → PortPromises s
unfolding primary_frame primary_step primary says_send
port-promises s =
    frame-promises (primary s) (λ m. place-elim NotBy1 m refl) (λ c m. rule-elim SaysSo s.instances c m refl refl refl (λ _ _ _ _. refl))
    (17 ∷ 12 ∷ []) verdicts (primary-numbers s)
