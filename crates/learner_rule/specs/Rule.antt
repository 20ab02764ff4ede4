-- How a vote is counted at a learner's cell, in the paper's order of refusals: 9, 17, 14, 10, 13, 15.
-- Assumes nothing.
use Rattle.std.specs.Prelude.{ℕ, not, ltb, Result, Ok, Err}
use Rattle.basics.specs.declared.Refusal.{Refusal}
use Rattle.basics.specs.declared.Round.{Round}
use Rattle.basics.specs.declared.Value.{Value}
use Rattle.basics.specs.declared.Verdict.TheVariants.{Hold, Decided}
use Rattle.basics.specs.Ladder.{when◌then◌else◌, need◌or◌then◌}
use Rattle.basics.specs.Refusal.{refusal_number}
use Rattle.basics.specs.Rounds.{same_round, at_most}
use Rattle.basics.specs.Values.{same_value}
use Rattle.player.specs.Step.{Ruling, refused, counts}
use Rattle.quorum.specs.Quorum.{has_member}
use Rattle.learner_cell.specs.declared.Cell.{Cell}
use Rattle.learner_cell.specs.Cell.{is_decided, possible, with_voter}
use Rattle.learner_rule.specs.declared.Counted.{Counted}

-- Hold, or decided on the vote that reaches majority.
unfoldable pub hold_or_decide : (M : ℕ) → Cell → Ruling Cell
hold_or_decide M c = when is_decided M c then counts Decided c else counts Hold c

-- One of the same round and value adds its voter. 13, 15.
unfoldable pub add_voter : (M : ℕ) → Cell → (sender : ℕ) → Round → Value → Ruling Cell
add_voter M c sender round value =
    need same_value value c.value or refused 13 then
    need not (has_member c.set sender) or refused 15 then
    hold_or_decide M (with_voter c.set sender round value)

-- A vote with a higher round (any beats none) replaces all three. 9, 17, 14, 10.
unfoldable pub count_vote : (M : ℕ) → Cell → (sender : ℕ) → Round → Value → Ruling Cell
count_vote M c sender round value =
    need ltb sender M or refused 9 then
    need possible M c or refused 17 then
    need not (is_decided M c) or refused 14 then
    need at_most c.round round or refused 10 then
    when same_round round c.round then add_voter M c sender round value else hold_or_decide M (with_voter 0 sender round value)

-- What each answer of the code comes to.
abbrev pub ruling_of : Result Counted Refusal → Ruling Cell
ruling_of (Ok counted) = counts counted.verdict counted.cell
ruling_of (Err refusal) = refused (refusal_number refusal)
