-- The promises of the acceptor's call on frames: those of any player's, from the facts that its place and its rule never refuse by 1 and that its rule says to
-- send where it sends.
-- Assumes nothing.
use mathlib.Core.Path.{refl}
use mathlib.Core.List.{[], ◌∷◌}
use Rattle.basics.specs.Verdict.{says_send}
use Rattle.port.proofs.Promises.{NotBy1, SaysSo, frame-promises}
use Rattle.quorum.specs.declared.Settings.{Settings}
use Rattle.acceptor.specs.Acceptor.{acceptor, acceptor_step}
use Rattle.acceptor.specs.Promises.{verdicts}
use Rattle.acceptor.proofs.Laws.{place-elim, rule-elim}
use Rattle.acceptor.proofs.Promises.{acceptor-numbers}
use Rattle.acceptor_port.specs.Port.{acceptor_frame}
use Rattle.acceptor_port.specs.Promises.{PortPromises}

pub port-promises : (s : Settings) → PortPromises s
unfolding acceptor_frame acceptor_step acceptor says_send
port-promises s own =
    frame-promises (acceptor s own) (λ m. place-elim NotBy1 s.instances m refl refl)
    (λ c m. rule-elim SaysSo own c m refl refl refl (λ _ _ _ _ _. refl) (λ _ _ _ _ _ _. refl)) (8 ∷ 17 ∷ 10 ∷ []) verdicts (acceptor-numbers s own)
