-- A learner's cell, the votes of one round: round (fresh none), set of voters (fresh empty), value (fresh null).
-- Assumes nothing.
use Rattle.std.specs.Prelude.{ℕ, Bool, not, ◌&&◌, ◌||◌, eqb, leb}
use Rattle.basics.specs.declared.Round.{Round}
use Rattle.basics.specs.declared.Value.{Value}
use Rattle.basics.specs.Rounds.{none, is_none, owned_or_0}
use Rattle.basics.specs.Values.{null, is_null}
use Rattle.quorum.specs.Quorum.{majority, with_member, within, size, reaches_majority}
use Rattle.learner_cell.specs.declared.Cell.{Cell}

abbrev pub cell : Round → (set : ℕ) → Value → Cell
cell round set value = record { round = round; set = set; value = value }

abbrev pub fresh_cell : Cell
fresh_cell = cell none 0 null

-- An instance is decided when its set has at least majority bits set.
unfoldable pub is_decided : (M : ℕ) → Cell → Bool
is_decided M c = reaches_majority M c.set

-- With a vote in its set, whatever that is for.
unfoldable pub has_vote : Cell → Bool
has_vote c = not (eqb c.set 0)

-- The value of a decided cell.
unfoldable pub value_of : (M : ℕ) → Cell → Value
value_of M c = c.value

-- Fresh in every field.
unfoldable pub is_fresh : Cell → Bool
is_fresh c = is_none c.round && eqb c.set 0 && is_null c.value

-- Round owned (or 0), set within M, not empty, at most majority bits.
unfoldable pub is_heard : (M : ℕ) → Cell → Bool
is_heard M c = owned_or_0 c.round && within M c.set && not (eqb c.set 0) && leb (size c.set) (majority M)

-- Possible: fresh; or heard.
unfoldable pub possible : (M : ℕ) → Cell → Bool
possible M c = is_fresh c || is_heard M c

-- The cell of a round and value with one more voter, whose set was this before.
abbrev pub with_voter : (before sender : ℕ) → Round → Value → Cell
with_voter before sender round value = cell round (with_member before sender) value
