-- What is promised of the rule, of any passes and any entry: no ride is made or lost, on any one pass and on all together.
-- Assumes nothing.
use Rattle.std.specs.Prelude.{ℕ, ◌+◌, ◌≡◌, List, [], ◌∷◌}
use Rattle.basics.specs.Ladder.{when◌then◌else◌}
use Rattle.entries.specs.Entry.{Entry}
use Rattle.passes.specs.declared.Pass.{Pass}
use Rattle.ledger_rule.specs.Rule.{rule}
use Rattle.ledger_rule.specs.Sums.{is_accepted, rides_sold, boardings, of_pass, all_left, left_on}

-- The entry, where it is accepted.
abbrev pub accepted_of : List Pass → Entry → List Entry
accepted_of ps e = when is_accepted (rule ps e).answer then e ∷ [] else []

-- Rides left before and rides sold are boardings and rides left after: for each pass,
abbrev pub RuleConservesEach : Type 0
RuleConservesEach =
    (number : ℕ) (ps : List Pass) (e : Entry)
    → let its = of_pass number (accepted_of ps e) in
    left_on number ps + rides_sold its ≡ boardings its + left_on number (rule ps e).left

-- and for all together.
abbrev pub RuleConservesAll : Type 0
RuleConservesAll =
    (ps : List Pass) (e : Entry) → all_left ps + rides_sold (accepted_of ps e) ≡ boardings (accepted_of ps e) + all_left (rule ps e).left
