-- The change request's cases of holes as one table, cell by cell. M = 3 and N = 8 unless said; votes are of round 0, for a value ending in 2a unless said.
-- 9 is lent for the number: 106 is done, with the hole in its place, and 108 no hole.
-- Assumes nothing.
use Rattle.std.specs.Prelude.{ℕ, ◌≡◌, List, [], ◌∷◌, length}
use Rattle.basics.specs.Outcome.{Outcome, outcome}
use Rattle.basics.specs.Rounds.{the_round}
use Rattle.basics.specs.Values.{the_value, null}
use Rattle.quorum.specs.Settings.{settings}
use Rattle.learner_cell.specs.declared.Cell.{Cell}
use Rattle.learner_cell.specs.Cell.{cell, fresh_cell}
use Rattle.learner_holes.specs.Holes.{find_hole, answered}
use Rattle.learner_file.specs.File.{tables_of}

-- A cell without a vote, and cells with one, two and three. Two of three decide.
abbrev none : Cell
none = fresh_cell

abbrev one : Cell
one = cell (the_round 0) 0b001 (the_value 0 0x2a)

abbrev two : Cell
two = cell (the_round 0) 0b011 (the_value 0 0x2a)

abbrev three : Cell
three = cell (the_round 0) 0b111 (the_value 0 0x2a)

abbrev for_null : Cell
for_null = cell (the_round 0) 0b001 null

abbrev first : (M : ℕ) → List Cell → Outcome ℕ
first M cs = answered 9 (find_hole (settings M (length cs)) (tables_of cs))

abbrev hole : ℕ → Outcome ℕ
hole number = outcome 106 number

abbrev no_hole : Outcome ℕ
no_hole = outcome 108 9

pub record HoleCases : Type 0 where
  pub all_fresh : first 3 (none ∷ none ∷ none ∷ none ∷ none ∷ none ∷ none ∷ none ∷ []) ≡ no_hole
  pub one_vote_in_0 : first 3 (one ∷ none ∷ none ∷ none ∷ none ∷ none ∷ none ∷ none ∷ []) ≡ hole 0
  pub two_decided_and_one_vote : first 3 (two ∷ two ∷ one ∷ none ∷ none ∷ none ∷ none ∷ none ∷ []) ≡ hole 2
  -- 5 becomes a hole when 6 is decided
  pub untouched_below_a_vote : first 3 (none ∷ none ∷ none ∷ none ∷ none ∷ none ∷ one ∷ none ∷ []) ≡ hole 6
  pub untouched_below_a_decided_one : first 3 (two ∷ two ∷ two ∷ two ∷ two ∷ none ∷ two ∷ none ∷ []) ≡ hole 5
  pub untouched_before_a_vote : first 3 (two ∷ none ∷ two ∷ one ∷ none ∷ none ∷ none ∷ none ∷ []) ≡ hole 1
  pub untouched_and_vote_below_a_decided_one : first 3 (none ∷ one ∷ none ∷ two ∷ none ∷ none ∷ none ∷ none ∷ []) ≡ hole 0
  pub one_vote_in_the_last : first 3 (two ∷ two ∷ two ∷ two ∷ two ∷ two ∷ two ∷ one ∷ []) ≡ hole 7
  pub all_decided : first 3 (two ∷ two ∷ two ∷ two ∷ two ∷ two ∷ two ∷ two ∷ []) ≡ no_hole
  -- N = 1
  pub one_vote_of_one_cell : first 3 (one ∷ []) ≡ hole 0
  pub one_cell_decided : first 3 (two ∷ []) ≡ no_hole
  -- M = 5
  pub two_votes_of_five : first 5 (two ∷ none ∷ none ∷ none ∷ none ∷ none ∷ none ∷ none ∷ []) ≡ hole 0
  pub three_votes_of_five : first 5 (three ∷ none ∷ none ∷ none ∷ none ∷ none ∷ none ∷ none ∷ []) ≡ no_hole
  -- a vote for null counts: it is the set that is looked at, not the value
  pub a_vote_for_null : first 3 (for_null ∷ none ∷ none ∷ none ∷ none ∷ none ∷ none ∷ none ∷ []) ≡ hole 0
