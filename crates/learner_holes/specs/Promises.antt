-- What is promised of holes: the answer is the smallest one, "none" is said where there is none, and the call tells just that. An operator who is told "none"
-- has every instance decided that has a vote.
-- Assumes nothing.
use Rattle.std.specs.Prelude.{ℕ, ◌≤◌, ◌<◌, ◌≡◌, true, false, ◌||◌, List, [], ◌∷◌, ◌↔◌, ◌⊎◌}
use Rattle.basics.specs.declared.Verdict.TheVariants.{Done, NoHole}
use Rattle.basics.specs.Rounds.{the_instance}
use Rattle.basics.specs.Verdict.{verdict_number}
use Rattle.player.specs.Promises.{OneOf}
use Rattle.quorum.specs.declared.Settings.{Settings}
use Rattle.learner_cell.specs.Cell.{is_decided, has_vote}
use Rattle.learner_tables.specs.Tables.{Tables, cell_at, first_cells}
use Rattle.learner_holes.specs.Holes as holes
use Rattle.learner_holes.specs.Holes.{Hole, decided_end, is_hole, first_hole, find_hole, answered}

-- Below a decided instance, and so below the highest.
pub record BelowDecided (M N : ℕ) (t : Tables) (number : ℕ) : Type 0 where
  pub above : ℕ
  pub inside : above < N
  pub below : number < above
  pub decided : is_decided M (cell_at t above) ≡ true

-- A hole in the request's words: an undecided instance below the highest decided one or with a vote in its set.
pub record HoleAt (M N : ℕ) (t : Tables) (number : ℕ) : Type 0 where
  pub inside : number < N
  pub undecided : is_decided M (cell_at t number) ≡ false
  pub because : BelowDecided M N t number ⊎ (has_vote (cell_at t number) ≡ true)

-- The walk's test is that sentence.
abbrev pub HoleIff : Type 0
HoleIff = (M N : ℕ) (t : Tables) (number : ℕ) → number < N → (is_hole M (decided_end M (first_cells N t)) number (cell_at t number) ≡ true) ↔ HoleAt M N t number

-- What the first hole says: a number, that it is the smallest hole; "none", that there is none.
abbrev pub Least : (M N : ℕ) → Tables → Hole → Type 0
Least M N t (holes.Found instance) = HoleAt M N t instance.0 × ((other : ℕ) → HoleAt M N t other → instance.0 ≤ other)
Least M N t holes.NoHole = (other : ℕ) → HoleAt M N t other → ⊥
Least M N t (holes.Refused number) = ⊥

-- And it says so of all tables.
abbrev pub LeastHole : Type 0
LeastHole = (M N : ℕ) (t : Tables) → Least M N t (first_hole M (first_cells N t))

-- A gap: an undecided instance below a decided one. The paper called no other instance a hole.
abbrev pub Gap : (M N : ℕ) (t : Tables) (number : ℕ) → Type 0
Gap M N t number = (is_decided M (cell_at t number) ≡ false) × BelowDecided M N t number

-- The answer is the smallest gap.
pub record SmallestGap (M N : ℕ) (t : Tables) : Type 0 where
  pub found : ℕ
  pub is_answer : first_hole M (first_cells N t) ≡ holes.Found (the_instance found)
  pub is_gap : Gap M N t found
  pub smallest : (other : ℕ) → Gap M N t other → found ≤ other

-- The request changes "none" alone: where there is a gap, the answer is the smallest one, as before.
abbrev pub OnlyNoneChanges : Type 0
OnlyNoneChanges = (M N : ℕ) (t : Tables) (number : ℕ) → Gap M N t number → SmallestGap M N t

-- Every instance below N that is decided or has a vote is decided itself, and so are all instances before it.
abbrev pub AllDecided : (M N : ℕ) → Tables → Type 0
AllDecided M N t =
    (number : ℕ) → number < N → is_decided M (cell_at t number) || has_vote (cell_at t number) ≡ true → (earlier : ℕ) → earlier ≤ number
    → is_decided M (cell_at t earlier) ≡ true

-- "None" is the answer exactly then.
abbrev pub NoneExactly : Type 0
NoneExactly = (M N : ℕ) (t : Tables) → (first_hole M (first_cells N t) ≡ holes.NoHole) ↔ AllDecided M N t

-- ---- the call

-- Holes: 7, 17; a hole, or none.
abbrev pub numbers : List ℕ
numbers = 7 ∷ 17 ∷ verdict_number Done ∷ verdict_number NoHole ∷ []

-- Of the call on tables, and on a number lent for the hole.
pub record HolePromises (s : Settings) (t : Tables) (before : ℕ) : Type 0 where
  -- It answers one of the numbers.
  pub numbers_are : OneOf (answered before (find_hole s t)).answer numbers
  -- Unless a hole is found, the number lent stays.
  pub keeps : ((answered before (find_hole s t)).answer ≡ verdict_number Done → ⊥) → (answered before (find_hole s t)).left ≡ before
  -- Who is answered "done" has the hole that was found,
  pub done_tells : (answered before (find_hole s t)).answer ≡ verdict_number Done → find_hole s t ≡ holes.Found (the_instance (answered before (find_hole s t)).left)
  -- and who is answered "no hole" knows that there was none.
  pub no_hole_tells : (answered before (find_hole s t)).answer ≡ verdict_number NoHole → find_hole s t ≡ holes.NoHole
