-- What an operator has who asked a learner for holes until there was none, and so may go home: every instance that the learner has a vote for is in the
-- delivered list. Of a learner in a run that list is `delivered_by`.
-- Assumes nothing.
use Rattle.std.specs.Prelude.{ℕ, ◌≤◌, ◌<◌, ◌≡◌, true, List, length, get_or}
use Rattle.basics.specs.declared.Value.{Value}
use Rattle.basics.specs.Values.{null}
use Rattle.quorum.specs.declared.Settings.{Settings}
use Rattle.learner_cell.specs.Cell.{fresh_cell, has_vote, value_of}
use Rattle.learner_tables.specs.Tables.{Tables, cell_at, cells}
use Rattle.learner_delivery.specs.Delivery.{delivered}
use Rattle.learner_holes.specs.Holes as holes
use Rattle.learner_holes.specs.Holes.{find_hole}

-- A list of values, of these tables.
pub record NothingMissed (s : Settings) (t : Tables) (values : List Value) : Type 0 where
  -- It has every instance with a vote in its set,
  pub inside : (number : ℕ) → number < s.instances → has_vote (cell_at t number) ≡ true → number < length values
  pub each : (number : ℕ) → number < s.instances → has_vote (cell_at t number) ≡ true → get_or values number null ≡ value_of s.acceptors (cell_at t number)
  -- and the cells past it are fresh.
  pub fresh_past : (number : ℕ) → length values ≤ number → number < s.instances → cell_at t number ≡ fresh_cell

-- Where the answer is "none", that is the delivered list.
abbrev pub NoneMissesNothing : Type 0
NoneMissesNothing = (s : Settings) (t : Tables) → find_hole s t ≡ holes.NoHole → NothingMissed s t (delivered s.acceptors (cells s t))
