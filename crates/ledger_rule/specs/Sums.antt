-- What entries and passes come to: the rides of sales, the boardings, and the rides left, of all and of one pass.
-- Assumes nothing.
use Rattle.std.specs.Prelude.{ℕ, ◌+◌, Bool, false, ◌||◌, List, [], ◌∷◌, eqb}
use Rattle.basics.specs.Ladder.{when◌then◌else◌}
use Rattle.entries.specs.Entry.{Entry, Null, Malformed, Sale, Boarding}
use Rattle.passes.specs.declared.Pass.{Pass}
use Rattle.ledger_rule.specs.Rule.{sold, boarded}

-- An entry is accepted where it is answered by sold or boarded.
abbrev pub is_accepted : (answer : ℕ) → Bool
is_accepted answer = eqb answer sold || eqb answer boarded

-- ---- of entries

-- The rides that an entry sells: those of a sale.
unfoldable pub rides_of : Entry → ℕ
rides_of (Sale number rides last_day) = rides
rides_of (Boarding number day scan) = 0
rides_of Null = 0
rides_of Malformed = 0

-- The boardings that an entry is.
unfoldable pub boardings_of : Entry → ℕ
boardings_of (Boarding number day scan) = 1
boardings_of (Sale number rides last_day) = 0
boardings_of Null = 0
boardings_of Malformed = 0

-- An entry speaks of this pass.
unfoldable pub is_of : (number : ℕ) → Entry → Bool
is_of number (Sale pass rides last_day) = eqb pass number
is_of number (Boarding pass day scan) = eqb pass number
is_of number Null = false
is_of number Malformed = false

abbrev pub rides_sold : List Entry → ℕ
rides_sold [] = 0
rides_sold (e ∷ es) = rides_of e + rides_sold es

abbrev pub boardings : List Entry → ℕ
boardings [] = 0
boardings (e ∷ es) = boardings_of e + boardings es

-- The entries that speak of a pass.
unfoldable pub of_pass : (number : ℕ) → List Entry → List Entry
of_pass number [] = []
of_pass number (e ∷ es) = when is_of number e then e ∷ of_pass number es else of_pass number es

-- ---- of passes

-- On all of them together.
abbrev pub all_left : List Pass → ℕ
all_left [] = 0
all_left (p ∷ ps) = p.rides_left + all_left ps

-- On the pass with this number; 0 where it is not known.
unfoldable pub left_on : (number : ℕ) → List Pass → ℕ
left_on number [] = 0
left_on number (p ∷ ps) = when eqb p.number number then p.rides_left else left_on number ps
