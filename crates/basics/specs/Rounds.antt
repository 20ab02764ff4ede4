-- Instances and rounds are counted apart, and a round has an owner. Rounds are compared by `at_most` and `same_round` alone.
-- Assumes nothing.
use Rattle.std.specs.Prelude.{ℕ, ◌+◌, ◌%◌, Bool, ◌&&◌, ◌==◌, nat_le}
use Rattle.basics.specs.declared.Instance.{Instance}
use Rattle.basics.specs.declared.Round.{Round}
use Rattle.basics.specs.Ladder.{when◌then◌else◌}

abbrev pub the_instance : ℕ → Instance
the_instance number = record { 0 = number }

abbrev pub the_round : ℕ → Round
the_round number = record { 0 = number }

-- Rounds: 0 to 4,294,967,294. The number 4,294,967,295 is the mark "none".
abbrev pub none : Round
none = the_round 4294967295

abbrev pub is_none : Round → Bool
is_none r = r.0 == 4294967295

-- The owners' numbers are 0 to 3; a round that belongs to nobody has the number above them.
abbrev pub nobody : ℕ
nobody = 4

-- Round 0 belongs to the primary (number 0). A round whose remainder by 4 is 1, 2 or 3 belongs to that backup. Other rounds belong to nobody.
unfoldable pub owner_of : Round → ℕ
owner_of r =
    when r.0 == 0 then 0 else
    when is_none r then nobody else
    when r.0 % 4 == 0 then nobody else
    r.0 % 4

-- "owned, or 0": the primary or a backup owns it
unfoldable pub owned_or_0 : Round → Bool
owned_or_0 r = nat_le (owner_of r) 3

-- "owned, not 0": a backup owns it
unfoldable pub owned_not_0 : Round → Bool
owned_not_0 r = nat_le 1 (owner_of r) && nat_le (owner_of r) 3

-- "any beats none": the place of a round in the order, none first, then 0, 1, ..
unfoldable pub rank : Round → ℕ
rank r = when is_none r then 0 else r.0 + 1

unfoldable pub at_most : Round → Round → Bool
at_most a b = nat_le (rank a) (rank b)

abbrev pub same_round : Round → Round → Bool
same_round a b = a.0 == b.0
