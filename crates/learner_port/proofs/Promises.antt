-- The promises of the learner's call on frames: those of any player's, from the facts that its place and its rule never refuse by 1 and that nothing is sent. A
-- learner's packet stays, and so does its frame.
-- Assumes nothing.
use Prim.Native.Nat.{ℕ}
use mathlib.Core.Path.{◌≡◌, refl}
use mathlib.Core.List.{[], ◌∷◌}
use Rattle.basics.specs.Verdict.{says_send}
use Rattle.basics.proofs.Ladder.{if-elim}
use Rattle.frames.specs.Frame.{packet_in}
use Rattle.port.proofs.Laws.{frame_back, framed-elim}
use Rattle.port.proofs.Promises.{NotBy1, SaysSo, frame-promises}
use Rattle.quorum.specs.declared.Settings.{Settings}
use Rattle.learner_cell.specs.declared.Cell.{Cell}
use Rattle.learner_rule.specs.Rule.{hold_or_decide}
use Rattle.learner_rule.proofs.Laws.{counting-elim}
use Rattle.learner.specs.Learner.{learner, learner_step}
use Rattle.learner.specs.Promises.{verdicts}
use Rattle.learner.proofs.Laws.{place-elim, rule-elim}
use Rattle.learner.proofs.Promises.{learner-numbers, learner-packet-stays}
use Rattle.learner_port.specs.Port.{learner_frame}
use Rattle.learner_port.specs.Promises.{PortPromises, FrameStays}

-- a vote is counted, and nothing is sent
held-or-decided : (M : ℕ) (c : Cell) → SaysSo (hold_or_decide M c)
unfolding hold_or_decide
held-or-decided M c = if-elim SaysSo _ _ _ (λ _. refl) (λ _. refl)

pub port-promises : (s : Settings) → PortPromises s
unfolding learner_frame learner_step learner says_send
port-promises s =
    let M = s.acceptors in
    frame-promises (learner s) (λ m. place-elim NotBy1 s.instances m refl refl)
    (λ c m. rule-elim SaysSo M c m
    (λ a _ r v _. counting-elim SaysSo M c a r v refl refl refl refl refl refl (λ _ _ _ _ _. held-or-decided M _) (λ _ _ _ _ _ _. held-or-decided M _)) refl)
    (8 ∷ 9 ∷ 17 ∷ 14 ∷ 10 ∷ 13 ∷ 15 ∷ []) verdicts (learner-numbers s)

pub frame-stays : (s : Settings) → FrameStays s
unfolding learner_frame learner_step
frame-stays s port frame t bytes =
    framed-elim (learner s) port frame t (λ o. o.left.packet ≡ frame) (λ _. refl) (λ _. refl)
    (λ _ passes. frame_back port frame bytes passes (learner-packet-stays s (packet_in frame) t))
