-- A backup's rules at one cell: the start, and the promises that it gathers.
-- Assumes nothing.
use Rattle.std.specs.Prelude.{ℕ, ◌+◌, ◌-◌, ◌%◌, max, not, ◌&&◌, eqb, ltb, Result, Ok, Err}
use Rattle.basics.specs.declared.Instance.{Instance}
use Rattle.basics.specs.declared.Refusal.{Refusal}
use Rattle.basics.specs.declared.Round.{Round}
use Rattle.basics.specs.declared.Value.{Value}
use Rattle.basics.specs.declared.Verdict.TheVariants.{ToAcceptors, Hold}
use Rattle.basics.specs.Ladder.{when◌then◌else◌, need◌or◌then◌}
use Rattle.basics.specs.Refusal.{refusal_number}
use Rattle.basics.specs.Rounds.{the_round, none, is_none, at_most, same_round}
use Rattle.basics.specs.Values.{null}
use Rattle.messages.specs.declared.Message.TheVariants.{Prepare, Propose}
use Rattle.player.specs.Step.{Ruling, refused, sends, counts}
use Rattle.quorum.specs.Quorum.{has_member, with_member, reaches_majority}
use Rattle.backup_cell.specs.declared.Cell.{Cell}
use Rattle.backup_cell.specs.Cell.{asking, proposed, cell, possible}
use Rattle.backup_rule.specs.declared.Taken.{Taken}
use Rattle.backup_rule.specs.declared.Taken.TheVariants.{Sent, Held}

-- ---- start

-- The smallest number above the given one whose remainder by 4 is this backup's. Numbers and no rounds: the floor is any number, and what comes out may pass the last round.
unfoldable pub next_round : (own above : ℕ) → ℕ
next_round own above = above + 1 + (own + 4 - (above + 1) % 4) % 4

-- The phase becomes asking, the set and best empty, the own value the one named.
abbrev pub started : Round → Value → Cell
started round value = cell round asking 0 none null value

-- The cell's round becomes the smallest round that this backup owns above both the cell's round and the floor; a prepare is written. 17, then 16.
unfoldable pub start : (M own : ℕ) → Cell → Instance → (floor : ℕ) → Value → Ruling Cell
start M own c instance floor value =
    let next = next_round own (max c.round.0 floor) in
    need possible M own c or refused 17 then
    need ltb next none.0 or refused 16 then
    sends ToAcceptors (Prepare instance (the_round next)) (started (the_round next) value)

-- ---- promises

-- A promise is added. If it carries a vote round above the best so far (any beats none), that and its value become the best.
unfoldable pub counting : Cell → (sender : ℕ) → (vote_round : Round) → Value → Cell
counting c sender vote_round value =
    when at_most vote_round c.best_vote_round
    then cell c.round c.phase (with_member c.set sender) c.best_vote_round c.best_value c.own_value
    else cell c.round c.phase (with_member c.set sender) vote_round value c.own_value

-- The best value, or the own value where best is none.
unfoldable pub chosen : Cell → Value
chosen c = when is_none c.best_vote_round then c.own_value else c.best_value

abbrev pub closed : Cell → Cell
closed c = cell c.round proposed c.set c.best_vote_round c.best_value c.own_value

-- When the set reaches majority, phase becomes proposed and the packet becomes a propose.
unfoldable pub when_majority : (M : ℕ) → Instance → Cell → Ruling Cell
when_majority M instance c =
    when reaches_majority M c.set then sends ToAcceptors (Propose instance c.round (chosen c)) (closed c) else counts Hold c

-- A promise for the current round while asking is added: 9, 17, 11, 15.
unfoldable pub take_promise : (M own : ℕ) → Cell → (sender : ℕ) → Instance → (round vote_round : Round) → Value → Ruling Cell
take_promise M own c sender instance round vote_round value =
    need ltb sender M or refused 9 then
    need possible M own c or refused 17 then
    need eqb c.phase asking && same_round round c.round or refused 11 then
    need not (has_member c.set sender) or refused 15 then
    when_majority M instance (counting c sender vote_round value)

-- What each answer of the code comes to.
abbrev pub ruling_of : Result Taken Refusal → Ruling Cell
ruling_of (Ok (Sent c m)) = sends ToAcceptors m c
ruling_of (Ok (Held c)) = counts Hold c
ruling_of (Err refusal) = refused (refusal_number refusal)
