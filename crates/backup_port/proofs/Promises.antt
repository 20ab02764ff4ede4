-- The promises of the backup's call on frames: those of any player's, from the facts that its place and its rule never refuse by 1 and that its rule says to
-- send where it sends.
-- Assumes nothing.
use mathlib.Core.Path.{refl}
use mathlib.Core.List.{[], ◌∷◌}
use Rattle.basics.specs.Verdict.{says_send}
use Rattle.basics.proofs.Ladder.{if-elim}
use Rattle.port.proofs.Promises.{NotBy1, SaysSo, frame-promises}
use Rattle.quorum.specs.declared.Settings.{Settings}
use Rattle.backup_rule.specs.Rule.{when_majority}
use Rattle.backup.specs.Backup.{backup, backup_step}
use Rattle.backup.specs.Promises.{verdicts}
use Rattle.backup.proofs.Laws.{place-elim, rule-elim}
use Rattle.backup.proofs.Promises.{backup-numbers}
use Rattle.backup_port.specs.Port.{backup_frame}
use Rattle.backup_port.specs.Promises.{PortPromises}

pub port-promises : (s : Settings) → PortPromises s
unfolding backup_frame backup_step backup when_majority says_send
port-promises s own =
    frame-promises (backup s own) (λ m. place-elim NotBy1 s.instances m refl refl)
    (λ c m. rule-elim SaysSo s.acceptors own c m refl refl refl refl refl
    (λ _ _ _ _ _ _ _ _ _ _ _. if-elim SaysSo _ _ _ (λ _. refl) (λ _. refl)))
    (8 ∷ 9 ∷ 17 ∷ 11 ∷ 15 ∷ []) verdicts (backup-numbers s own)
