-- Each way out of the learner's step and of its answer is what the definitions say, by the tests that led there.
-- Assumes nothing.
use Prim.Native.Nat.{ℕ}
use mathlib.Core.Path.{◌≡◌, ◌∙◌}
use mathlib.Core.Bool.{Bool, true, false}
use mathlib.Core.List.{List, [], ◌∷◌}
use denote.Enum.Declared.{tag_of}
use types.Run.{OneOf}
use Rattle.basics.specs.declared.Instance.{Instance}
use Rattle.basics.specs.declared.Round.{Round}
use Rattle.basics.specs.declared.Value.{Value}
use Rattle.basics.specs.Places.{At, Nowhere, placed}
use Rattle.basics.specs.Ladder.{when◌then◌else◌, need◌or◌then◌}
use Rattle.messages.specs.declared.Message.{Message}
use Rattle.messages.specs.declared.Message.TheVariants.{Vote}
use Rattle.messages.specs.Message.{when_vote}
use Rattle.messages.proofs.Eliminators.{no-vote}
use Rattle.messages.specs.contracts.Message.{the_type}
use Rattle.wire.specs.Packet.{Read, Refused, read_packet}
use Rattle.player.specs.Step.{Ruling, unchanged, ruled, act}
use Rattle.player.proofs.Steps as steps
use Rattle.quorum.specs.declared.Settings.{Settings}
use Rattle.learner_cell.specs.declared.Cell.{Cell}
use Rattle.learner_rule.specs.Rule.{count_vote}
use Rattle.learner_cell.specs.Cell.{is_decided, value_of, possible}
use Rattle.learner_tables.specs.Tables.{Tables, cell_at, with_cell, learner_allowed}
use Rattle.learner.specs.Learner as answers
use Rattle.learner.specs.Learner.{Answer, place, rule, learner, learner_step, answer_of_cell, answer_at, answer_for}

-- ---- the step

module _ (s : Settings) (packet : List ℕ) (t : Tables) (fine : Bool) (fine-so : fine ≡ learner_allowed s t) where
  pub refused-7 : fine ≡ false → unchanged packet t 7 ≡ learner_step s packet t
  unfolding learner_step learner
  refused-7 no_way = steps.refused-7 (learner s) packet t fine fine-so no_way

  module _ (passed : fine ≡ true) where
    pub malformed : (number : ℕ) → Refused number ≡ read_packet packet → unchanged packet t number ≡ learner_step s packet t
    unfolding learner_step learner
    malformed number refuses = steps.malformed (learner s) packet t fine fine-so passed number refuses

    module _ (m : Message) (reads : Read m ≡ read_packet packet) where
      acted : act (learner s) packet t m ≡ learner_step s packet t
      unfolding learner_step learner
      acted = steps.acted (learner s) packet t fine fine-so passed m reads

      pub refused-6 : OneOf (0 ∷ 1 ∷ 2 ∷ 3 ∷ []) (tag_of the_type m) → unchanged packet t 6 ≡ learner_step s packet t
      unfolding learner act place
      refused-6 tag = steps.not-placed cell_at with_cell packet t (λ c. rule s.acceptors c m) _ 6 (no-vote _ _ m tag) ∙ acted

      module _ (sender : ℕ) (instance : Instance) (round : Round) (value : Value) (votes : m ≡ Vote sender instance round value) where
        vote-placed : placed s.instances instance ≡ place s.instances m
        unfolding place when_vote
        vote-placed = rw votes

        pub nowhere : (number : ℕ) → Nowhere number ≡ placed s.instances instance → unchanged packet t number ≡ learner_step s packet t
        unfolding learner act
        nowhere number no_place =
            steps.not-placed cell_at with_cell packet t (λ c. rule s.acceptors c m) _ number (no_place ∙ vote-placed) ∙ acted

        pub there : (index : ℕ) (c : Cell) (r : Ruling Cell) → At index ≡ placed s.instances instance → c ≡ cell_at t index
            → r ≡ count_vote s.acceptors c sender round value → ruled packet t (with_cell t index) r ≡ learner_step s packet t
        unfolding learner act rule when_vote
        there index c r stands c-so r-so =
            steps.placed_at cell_at with_cell packet t (λ d. rule s.acceptors d m) _ index c r (stands ∙ vote-placed) c-so (rw votes r-so) ∙ acted

-- ---- the answer for an instance

module _ (M : ℕ) (c : Cell) (sound : Bool) (sound-so : sound ≡ possible M c) where
  pub cell-17 : sound ≡ false → answers.Refused 17 ≡ answer_of_cell M c
  unfolding answer_of_cell need◌or◌then◌
  cell-17 impossible = rw (← sound-so, impossible)

  module _ (fine : sound ≡ true) (decided : Bool) (decided-so : decided ≡ is_decided M c) where
    pub cell-decided : decided ≡ true → (value : Value) → value ≡ value_of M c → answers.Decided value ≡ answer_of_cell M c
    unfolding answer_of_cell need◌or◌then◌ when◌then◌else◌
    cell-decided over value value-so = rw (← sound-so, fine, ← decided-so, over, value-so)

    pub cell-not-yet : decided ≡ false → answers.NotYet ≡ answer_of_cell M c
    unfolding answer_of_cell need◌or◌then◌ when◌then◌else◌
    cell-not-yet open-still = rw (← sound-so, fine, ← decided-so, open-still)

module _ (s : Settings) (instance : Instance) (t : Tables) (fine : Bool) (fine-so : fine ≡ learner_allowed s t) where
  pub answer-7 : fine ≡ false → answers.Refused 7 ≡ answer_for s instance t
  unfolding answer_for need◌or◌then◌
  answer-7 no_way = rw (← fine-so, no_way)

  module _ (passed : fine ≡ true) where
    pub answer-nowhere : (number : ℕ) → Nowhere number ≡ placed s.instances instance → answers.Refused number ≡ answer_for s instance t
    unfolding answer_for answer_at need◌or◌then◌
    answer-nowhere number no_place = rw (← fine-so, passed, ← no_place)

    pub answer-there : (index : ℕ) (c : Cell) (a : Answer) → At index ≡ placed s.instances instance → c ≡ cell_at t index → a ≡ answer_of_cell s.acceptors c
        → a ≡ answer_for s instance t
    unfolding answer_for answer_at need◌or◌then◌
    answer-there index c a stands c-so a-so = rw (← fine-so, passed, ← stands, a-so, c-so)
