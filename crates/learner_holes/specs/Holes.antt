-- Holes: undecided instances below the highest decided one or with a vote in their sets.
-- Assumes nothing.
use Rattle.std.specs.Prelude.{ℕ, ◌+◌, Bool, not, ◌&&◌, ◌||◌, List, [], ◌∷◌, ltb, Option, Some, None, Result, Ok, Err}
use Rattle.basics.specs.declared.Instance.{Instance}
use Rattle.basics.specs.declared.Refusal.{Refusal}
use Rattle.basics.specs.declared.Verdict.TheVariants as verdicts
use Rattle.basics.specs.Ladder.{when◌then◌else◌, need◌or◌then◌}
use Rattle.basics.specs.Outcome.{Outcome, outcome}
use Rattle.basics.specs.Refusal.{refusal_number}
use Rattle.basics.specs.Rounds.{the_instance}
use Rattle.basics.specs.Verdict.{verdict_number}
use Rattle.quorum.specs.declared.Settings.{Settings}
use Rattle.learner_cell.specs.declared.Cell.{Cell}
use Rattle.learner_cell.specs.Cell.{is_decided, has_vote}
use Rattle.learner_tables.specs.Tables.{Tables, learner_allowed, cells, all_possible}

-- One past the highest decided instance of cells that begin with this number; `end` where none of them is decided.
unfoldable pub decided_end_from : (M number end : ℕ) → List Cell → ℕ
decided_end_from M number end [] = end
decided_end_from M number end (c ∷ cs) = decided_end_from M (number + 1) (when is_decided M c then number + 1 else end) cs

-- One past the highest decided instance; 0 where none is decided.
abbrev pub decided_end : (M : ℕ) → List Cell → ℕ
decided_end M cs = decided_end_from M 0 0 cs

-- A hole is an undecided instance below the highest decided one, whose end this is, or with a vote in its set.
unfoldable pub is_hole : (M end number : ℕ) → Cell → Bool
is_hole M end number c = not (is_decided M c) && (ltb number end || has_vote c)

-- The first hole.
pub data Hole : Type 0 where
  Found : Instance → Hole
  NoHole : Hole
  Refused : (number : ℕ) → Hole

-- The walk over instances stops at the first hole, answered as its number, or "none".
unfoldable pub first_hole_from : (M end number : ℕ) → List Cell → Hole
first_hole_from M end number [] = NoHole
first_hole_from M end number (c ∷ cs) = when is_hole M end number c then Found (the_instance number) else first_hole_from M end (number + 1) cs

abbrev pub first_hole : (M : ℕ) → List Cell → Hole
first_hole M cs = first_hole_from M (decided_end M cs) 0 cs

-- Holes look at every cell: 7, 17.
unfoldable pub find_hole : Settings → Tables → Hole
find_hole s t =
    need learner_allowed s t or Refused 7 then
    need all_possible s.acceptors (cells s t) or Refused 17 then
    first_hole s.acceptors (cells s t)

-- What the call answers, and what it leaves of the instance that was lent to be overwritten: only a hole that is found is written.
unfoldable pub answered : (before : ℕ) → Hole → Outcome ℕ
answered before (Found instance) = outcome (verdict_number verdicts.Done) instance.0
answered before NoHole = outcome (verdict_number verdicts.NoHole) before
answered before (Refused number) = outcome number before

-- What each answer of the code comes to.
abbrev pub hole_of : Result (Option Instance) Refusal → Hole
hole_of (Ok (Some instance)) = Found instance
hole_of (Ok None) = NoHole
hole_of (Err refusal) = Refused (refusal_number refusal)
