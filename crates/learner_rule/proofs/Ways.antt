-- Each way out of counting a vote, as the code goes through it over plain values, is what the definition says.
-- Assumes nothing.
use Prim.Native.Nat.{ℕ, ◌≤◌, ◌<◌}
use mathlib.Core.Path.{◌≡◌, sym, ◌∙◌}
use mathlib.Core.Bool.{Bool, true, false}
use borrow.Author.Tests.{lt-ltb, le-ltb}
use Rattle.basics.specs.declared.Round.{Round}
use Rattle.basics.specs.declared.Value.{Value}
use Rattle.basics.specs.Ladder.{when◌then◌else◌, need◌or◌then◌}
use Rattle.basics.proofs.Ladder.{if-true, if-false}
use Rattle.basics.specs.Rounds.{same_round, at_most}
use Rattle.basics.specs.Values.{same_value}
use Rattle.player.specs.Step.{Ruling, refused}
use Rattle.quorum.specs.Quorum.{has_member}
use Rattle.learner_cell.specs.declared.Cell.{Cell}
use Rattle.learner_cell.specs.Cell.{is_decided, possible, with_voter}
use Rattle.learner_rule.specs.Rule.{hold_or_decide, add_voter, count_vote}

module _ (M : ℕ) (c : Cell) (sender : ℕ) (round : Round) (value : Value) where
  abbrev counted : Ruling Cell
  counted = count_vote M c sender round value

  pub vote-9 : M ≤ sender → refused 9 ≡ counted
  unfolding count_vote need◌or◌then◌
  vote-9 past = rw (le-ltb sender M past)

  module _ (known : sender < M) (sound : Bool) (sound-so : sound ≡ possible M c) where
    pub vote-17 : sound ≡ false → refused 17 ≡ counted
    unfolding count_vote need◌or◌then◌
    vote-17 impossible = rw (lt-ltb sender M known, ← sound-so, impossible)

    module _ (fine : sound ≡ true) (decided : Bool) (decided-so : decided ≡ is_decided M c) where
      pub vote-14 : decided ≡ true → refused 14 ≡ counted
      unfolding count_vote need◌or◌then◌
      vote-14 over = rw (lt-ltb sender M known, ← sound-so, fine, ← decided-so, over)

      module _ (undecided : decided ≡ false) (low : Bool) (low-so : low ≡ at_most c.round round) where
        pub vote-10 : low ≡ false → refused 10 ≡ counted
        unfolding count_vote need◌or◌then◌
        vote-10 below = rw (lt-ltb sender M known, ← sound-so, fine, ← decided-so, undecided, ← low-so, below)

        module _ (at_least_lem : low ≡ true) (same : Bool) (same-so : same ≡ same_round round c.round) where
          -- past 10, a vote of a higher round replaces and one of the same round is added
          past-10 : (when same then add_voter M c sender round value else hold_or_decide M (with_voter 0 sender round value)) ≡ counted
          unfolding count_vote need◌or◌then◌
          past-10 = rw (lt-ltb sender M known, ← sound-so, fine, ← decided-so, undecided, ← low-so, at_least_lem, same-so)

          pub vote-higher : same ≡ false → hold_or_decide M (with_voter 0 sender round value) ≡ counted
          vote-higher higher = sym (if-false _ _ higher) ∙ past-10

          pub vote-added : (r : Ruling Cell) → same ≡ true → r ≡ add_voter M c sender round value → r ≡ counted
          vote-added r equal r-so = r-so ∙ sym (if-true _ _ equal) ∙ past-10

module _ (M : ℕ) (c : Cell) (sender : ℕ) (round : Round) (value : Value) (agrees : Bool) (agrees-so : agrees ≡ same_value value c.value) where
  pub added-13 : agrees ≡ false → refused 13 ≡ add_voter M c sender round value
  unfolding add_voter need◌or◌then◌
  added-13 other = rw (← agrees-so, other)

  module _ (agreed : agrees ≡ true) (present : Bool) (present-so : present ≡ has_member c.set sender) where
    pub added-15 : present ≡ true → refused 15 ≡ add_voter M c sender round value
    unfolding add_voter need◌or◌then◌
    added-15 doubled = rw (← agrees-so, agreed, ← present-so, doubled)

    pub added-counted : present ≡ false → hold_or_decide M (with_voter c.set sender round value) ≡ add_voter M c sender round value
    unfolding add_voter need◌or◌then◌
    added-counted absent = rw (← agrees-so, agreed, ← present-so, absent)
