-- The ledger's lent table: a count of the passes in use and four columns of 256. It is looked at in two ways: as columns, and as the list of the passes in
-- use, in order of sale. Places past the count are not looked at, and a sale alone writes the first of them.
-- Assumes nothing.
use Rattle.std.specs.Prelude.{ℕ, ◌+◌, ◌-◌, ◌≡◌, Bool, true, false, not, ◌&&◌, ◌||◌, Option, Some, None, List, [], ◌∷◌, map, eqb, leb, length, get_or, set}
use Rattle.numbers.specs.Fronts.{with_front}
use Rattle.basics.specs.Ladder.{when◌then◌else◌}
use Rattle.columns.specs.Walks.{cells_from, every}
use Rattle.entries.specs.Entry.{most_rides}
use Rattle.passes.specs.declared.Pass.{Pass}

-- "256 passes."
abbrev pub most_passes : ℕ
most_passes = 256

abbrev pub pass : (number rides_left last_day last_scan : ℕ) → Pass
pass number rides_left last_day last_scan = record { number = number; rides_left = rides_left; last_day = last_day; last_scan = last_scan }

pub record Columns : Type 0 where
  pub passes : List ℕ
  pub rides_left : List ℕ
  pub last_days : List ℕ
  pub last_scans : List ℕ

abbrev pub columns : (passes rides_left last_days last_scans : List ℕ) → Columns
columns passes rides_left last_days last_scans = record { passes = passes; rides_left = rides_left; last_days = last_days; last_scans = last_scans }

pub record Table : Type 0 where
  pub columns : Columns
  pub count : ℕ

abbrev pub table : Columns → (count : ℕ) → Table
table c count = record { columns = c; count = count }

-- ---- as columns

abbrev pub number_in : (column : List ℕ) → (place : ℕ) → ℕ
number_in column place = get_or column place 0

abbrev pub pass_at : Columns → (place : ℕ) → Pass
pass_at c place = pass (number_in c.passes place) (number_in c.rides_left place) (number_in c.last_days place) (number_in c.last_scans place)

abbrev pub with_pass : Columns → (place : ℕ) → Pass → Columns
with_pass c place p =
    columns (set c.passes place p.number) (set c.rides_left place p.rides_left) (set c.last_days place p.last_day)
    (set c.last_scans place p.last_scan)

-- ---- as a list of passes

-- The passes in use, in order of sale.
abbrev pub in_use : Table → List Pass
in_use t = cells_from (pass_at t.columns) 0 t.count

-- The table with these passes in use: each column has its part of them at its front, and its rest stays.
unfoldable pub holding : Columns → List Pass → Table
holding c ps =
    table
    (columns (with_front c.passes (map (λ p. p.number) ps)) (with_front c.rides_left (map (λ p. p.rides_left) ps))
    (with_front c.last_days (map (λ p. p.last_day) ps)) (with_front c.last_scans (map (λ p. p.last_scan) ps)))
    (length ps)

abbrev pub numbers_of : List Pass → List ℕ
numbers_of ps = map (λ p. p.number) ps

-- ---- numbers of passes

-- A number is among these.
unfoldable pub among : (number : ℕ) → (numbers : List ℕ) → Bool
among number [] = false
among number (n ∷ ns) = eqb n number || among number ns

-- The first place of a number; their count where it is not among them.
unfoldable pub place_of : (number : ℕ) → (numbers : List ℕ) → ℕ
place_of number [] = 0
place_of number (n ∷ ns) = when eqb n number then 0 else place_of number ns + 1

-- Where a pass in use has a number first, from a place on; none where no such pass has it.
unfoldable pub find : Table → (from number : ℕ) → Option ℕ
find t from number =
    let numbers = cells_from (number_in t.columns.passes) from (t.count - from) in
    when among number numbers then Some (from + place_of number numbers) else None

-- "a pass twice"
unfoldable pub twice : (numbers : List ℕ) → Bool
twice [] = false
twice (n ∷ ns) = among n ns || twice ns

-- ---- 30, and 33

-- "table full": so many passes are in use.
unfoldable pub is_full : (count : ℕ) → Bool
is_full count = leb most_passes count

-- Each column has 256 places.
unfoldable pub is_sized : (passes rides_left last_days last_scans : ℕ) → Bool
is_sized passes rides_left last_days last_scans =
    eqb passes most_passes && eqb rides_left most_passes && eqb last_days most_passes && eqb last_scans most_passes

abbrev pub sized : Columns → Bool
sized c = is_sized (length c.passes) (length c.rides_left) (length c.last_days) (length c.last_scans)

-- Not "rides left above 40".
abbrev pub rides_fit : (rides_left : ℕ) → Bool
rides_fit rides_left = leb rides_left most_rides

-- No pass stands twice, and none has more rides left than a sale can bring.
unfoldable pub lawful : List Pass → Bool
lawful ps = not (twice (numbers_of ps)) && every rides_fit (map (λ p. p.rides_left) ps)

-- "30 ledger table of wrong size, with a pass twice, or with rides left above 40": a sound table is none of these.
unfoldable pub sound : Table → Bool
sound t = sized t.columns && leb t.count most_passes && lawful (in_use t)

-- "fresh": no pass is in use, whatever the columns hold.
pub record Fresh (t : Table) : Type 0 where
  pub of_256 : sized t.columns ≡ true
  pub none_in_use : t.count ≡ 0
