-- Laws of the ledger's table: its two views, as columns and as the list of passes in use, agree; what is stored shows in both; and what a sound table brings.
-- A column is a front of as many numbers as there are passes, and a rest that stays, so each law is one about fronts, said once for any column.
-- Assumes nothing.
use Prim.Native.Nat.{ℕ, zero, suc, ◌+◌, ◌-◌, ◌≤◌, ◌<◌}
use mathlib.Core.Path.{◌≡◌, refl, sym, ap, ◌∙◌}
use mathlib.Core.Bool.{Bool, true, false, not, ◌&&◌, ◌||◌, true≢false}
use mathlib.Core.List.{List, [], ◌∷◌, ◌++◌, map, map-append}
use native.Mathlib.Omega.{arith}
use lib.Dec.{eqb, leb}
use lib.ListN.{length, get_or, set, take, drop, length-append, length-set, length-map, take-append-drop, get_or-append, get_or-map}
use lib.Seq.{length-take-le, drop-cons, set-append_left}
use borrow.Author.Tests.{eqb-true, eq-eqb, leb-true, le-leb}
use Rattle.numbers.specs.Fronts.{with_front}
use Rattle.numbers.proofs.Fronts.{length_front, front-next}
use Rattle.std.specs.Prelude.{Option, Some, None}
use Rattle.std.specs.Option.{is_some}
use Rattle.basics.specs.Ladder.{when◌then◌else◌}
use Rattle.basics.proofs.Ladder.{by-test, if-true, if-false, both_true, and-true}
use Rattle.columns.specs.Walks.{cells_from, every}
use Rattle.columns.proofs.Walks.{length-cells, cell-of}
use Rattle.passes.specs.declared.Pass.{Pass}
use Rattle.passes.specs.Passes.{pass, Columns, columns, Table, table, number_in, pass_at, with_pass, in_use, holding, most_passes, numbers_of, among}
use Rattle.passes.specs.Passes.{place_of, find, twice, rides_fit, lawful, is_sized, sized, sound, Fresh}

-- ---- tests

pub or-false : (a b : Bool) → a || b ≡ false → (a ≡ false) × (b ≡ false)
or-false true b e = absurd (true≢false e)
or-false false b e = (refl, e)

pub not_so : (b : Bool) → not b ≡ true → b ≡ false
not_so true e = sym e
not_so false e = refl

-- ---- walks

module _ {Cell : Type 0} where
  map-cells : (part : Cell → ℕ) (at : ℕ → Cell) (place count : ℕ) → map part (cells_from at place count) ≡ cells_from (λ k. part (at k)) place count
  unfolding cells_from
  map-cells part at place zero = refl
  map-cells part at place (suc count) = ap (λ rest. part (at place) ∷ rest) (map-cells part at (suc place) count)

  -- a walk over the elements of a list is the list
  cells-of-list : (at : ℕ → Cell) (none : Cell) (from : ℕ) (cs : List Cell) → ((place : ℕ) → place < length cs → at (from + place) ≡ get_or cs place none)
      → cells_from at from (length cs) ≡ cs
  unfolding cells_from
  cells-of-list at none from [] same = refl
  cells-of-list at none from (c ∷ cs) same =
      let first : at from ≡ c = ap at {x = from} {y = from + 0} (omega arith) ∙ same 0 (omega arith) in
      let others = cells-of-list at none (suc from) cs λ place low. ap at {x = suc from + place} {y = from + suc place} (omega arith)
      ∙ same (suc place) (omega arith) in
      λ i. first i ∷ others i

-- ---- numbers

module _ (number n : ℕ) (ns : List ℕ) where
  pub place_here : eqb n number ≡ true → place_of number (n ∷ ns) ≡ 0
  unfolding place_of
  place_here same = if-true 0 (place_of number ns + 1) same

  pub place-later : eqb n number ≡ false → place_of number (n ∷ ns) ≡ place_of number ns + 1
  unfolding place_of
  place-later other = if-false 0 (place_of number ns + 1) other

-- a number that is among these stands at a place of them
place-below : (number : ℕ) (numbers : List ℕ) → among number numbers ≡ true → place_of number numbers < length numbers
unfolding among
place-below number [] known = absurd (true≢false (sym known))
place-below number (n ∷ ns) known =
    by-test (eqb n number) (λ same. omega (arith, place_here number n ns same)) λ other.
    omega (arith, place-later number n ns other, place-below number ns (sym (ap (λ b. b || among number ns) other) ∙ known))

-- ---- one column

module _ (column : List ℕ) where
  -- its front as it stands
  column-stays : (from count : ℕ) → from + count ≤ length column → cells_from (number_in column) from count ≡ take count (drop from column)
  unfolding cells_from
  column-stays from zero fits = refl
  column-stays from (suc count) fits =
      ap (λ rest. number_in column from ∷ rest) (column-stays (suc from) count (omega arith))
      ∙ ap (take (suc count)) (sym (drop-cons column from 0 (omega arith)))

  front-as-it-stands : (count : ℕ) → count ≤ length column → with_front column (cells_from (number_in column) 0 count) ≡ column
  front-as-it-stands count fits =
      ap (with_front column) (column-stays 0 count (omega arith)) ∙ ap (λ n. take count column ++ drop n column) (length-take-le count column fits)
      ∙ take-append-drop count column

  module _ (ps : List Pass) (part : Pass → ℕ) where
    abbrev front : List ℕ
    front = map part ps

    -- one pass more
    front-longer : (p : Pass) → length ps < length column → with_front column (map part (ps ++ p ∷ [])) ≡ set (with_front column front) (length ps) (part p)
    front-longer p room =
        ap (with_front column) (map-append part ps (p ∷ []))
        ∙ sym (front-next column front (part p ∷ []) (omega (arith, length-map ps part)))
        ∙ ap (λ n. set (with_front column front) n (part p)) (length-map ps part)

    -- another pass at a place
    front-set : (place : ℕ) (p : Pass) → place < length ps → with_front column (map part (set ps place p)) ≡ set (with_front column front) place (part p)
    front-set place p low =
        ap (with_front column) (map-set ps place)
        ∙ ap (λ n. set front place (part p) ++ drop n column) (length-set front place (part p))
        ∙ sym (set-append_left front (drop (length front) column) place (part p) (omega (arith, length-map ps part)))
      where
        map-set : (qs : List Pass) (k : ℕ) → map part (set qs k p) ≡ set (map part qs) k (part p)
        map-set [] k = refl
        map-set (q ∷ qs) zero = refl
        map-set (q ∷ qs) (suc k) = ap (λ rest. part q ∷ rest) (map-set qs k)

    -- what is read of the front
    front_reads : (place : ℕ) → place < length ps → part (pass 0 0 0 0) ≡ 0 → number_in (with_front column front) place ≡ part (get_or ps place (pass 0 0 0 0))
    front_reads place low zeros =
        get_or-append front (drop (length front) column) 0 place (omega (arith, length-map ps part))
        ∙ ap (get_or front place) (sym zeros) ∙ get_or-map part ps place (pass 0 0 0 0)

    front_length : length ps ≤ length column → length (with_front column front) ≡ length column
    front_length fits = length_front column front (omega (arith, length-map ps part))

-- ---- the table

-- each column has 256 places
pub record Sized (c : Columns) : Type 0 where
  pub of_passes : length c.passes ≡ most_passes
  pub of_rides_left : length c.rides_left ≡ most_passes
  pub of_last_days : length c.last_days ≡ most_passes
  pub of_last_scans : length c.last_scans ≡ most_passes

sized-brings : (c : Columns) → sized c ≡ true → Sized c
unfolding is_sized
sized-brings c so =
    let a = both_true (eqb (length c.passes) most_passes && eqb (length c.rides_left) most_passes && eqb (length c.last_days) most_passes)
    (eqb (length c.last_scans) most_passes) so in
    let b = both_true (eqb (length c.passes) most_passes && eqb (length c.rides_left) most_passes) (eqb (length c.last_days) most_passes) a.0 in
    let d = both_true (eqb (length c.passes) most_passes) (eqb (length c.rides_left) most_passes) b.0 in
    record {
      of_passes = eqb-true _ _ d.0;
      of_rides_left = eqb-true _ _ d.1;
      of_last_days = eqb-true _ _ b.1;
      of_last_scans = eqb-true _ _ a.1;
    }

sized-so : (c : Columns) → Sized c → sized c ≡ true
unfolding is_sized
sized-so c s =
    and-true (and-true (and-true (eq-eqb _ _ s.of_passes) (eq-eqb _ _ s.of_rides_left)) (eq-eqb _ _ s.of_last_days)) (eq-eqb _ _ s.of_last_scans)

-- what a sound table brings
pub record Sound (t : Table) : Type 0 where
  pub long : Sized t.columns
  pub few : t.count ≤ most_passes
  pub in_order : lawful (in_use t) ≡ true

pub sound-brings : (t : Table) → sound t ≡ true → Sound t
unfolding sound
sound-brings t so =
    let a = both_true (sized t.columns && leb t.count most_passes) (lawful (in_use t)) so in
    let b = both_true (sized t.columns) (leb t.count most_passes) a.0 in
    record { long = sized-brings t.columns b.0; few = leb-true _ _ b.1; in_order = a.1 }

pub sound-so : (t : Table) → Sound t → sound t ≡ true
unfolding sound
sound-so t s = and-true (and-true (sized-so t.columns s.long) (le-leb _ _ s.few)) s.in_order

pub in-use-length : (t : Table) → length (in_use t) ≡ t.count
in-use-length t = length-cells (pass_at t.columns) 0 t.count

-- judged by the columns alone
numbers-in-use : (c : Columns) (count : ℕ) → numbers_of (in_use (table c count)) ≡ cells_from (number_in c.passes) 0 count
numbers-in-use c count = map-cells (λ p. p.number) (pass_at c) 0 count

pub lawful-columns : (c : Columns) (count : ℕ)
    → lawful (in_use (table c count)) ≡ not (twice (cells_from (number_in c.passes) 0 count)) && every rides_fit (cells_from (number_in c.rides_left) 0 count)
unfolding lawful
lawful-columns c count = λ i.
    not (twice (numbers-in-use c count i)) && every rides_fit (map-cells (λ p. p.rides_left) (pass_at c) 0 count i)

-- the pass at a place, in both views
pub pass-in-use : (c : Columns) (count place : ℕ) → place < count → pass_at c place ≡ get_or (in_use (table c count)) place (pass 0 0 0 0)
pass-in-use c count place low = ap (pass_at c) (omega arith) ∙ sym (cell-of (pass_at c) (pass 0 0 0 0) 0 count place low)

-- ---- what is found

some-if : (b : Bool) (place : ℕ) → is_some (when b then Some place else None) ≡ b
unfolding when◌then◌else◌
some-if true place = refl
some-if false place = refl

pub some-where-among : (t : Table) (from number : ℕ)
    → is_some (find t from number) ≡ among number (cells_from (number_in t.columns.passes) from (t.count - from))
unfolding find
some-where-among t from number = some-if _ _

-- a pass that is in use at a place, the first with its number
pub record Known (t : Table) (number place : ℕ) : Type 0 where
  pub known : among number (numbers_of (in_use t)) ≡ true
  pub first : place ≡ place_of number (numbers_of (in_use t))
  pub low : place < t.count

module _ (t : Table) (number : ℕ) where
  abbrev its-numbers : List ℕ
  its-numbers = numbers_of (in_use t)

  abbrev place_or_0 : Option ℕ → ℕ
  place_or_0 None = 0
  place_or_0 (Some place) = place

  -- found from the first place on is found in the list
  found-in-use : find t 0 number ≡ (when among number its-numbers then Some (0 + place_of number its-numbers) else None)
  unfolding find
  found-in-use =
      let all : t.count - 0 ≡ t.count = omega arith in
      let same = ap (cells_from (number_in t.columns.passes) 0) all ∙ sym (numbers-in-use t.columns t.count) in
      ap (λ ns. when among number ns then Some (0 + place_of number ns) else None) same

  pub known-where-found : among number its-numbers ≡ is_some (find t 0 number)
  known-where-found = sym (ap is_some found-in-use ∙ some-if _ _)

  pub found-none : find t 0 number ≡ None → among number its-numbers ≡ false
  found-none nowhere = known-where-found ∙ ap is_some nowhere

  pub found-some : (place : ℕ) → find t 0 number ≡ Some place → Known t number place
  found-some place there =
      let known = known-where-found ∙ ap is_some there in
      let first : place ≡ 0 + place_of number its-numbers =
      ap place_or_0 (sym there ∙ found-in-use) ∙ ap place_or_0 (if-true (Some (0 + place_of number its-numbers)) None known) in
      let long = length-map (in_use t) (λ p. p.number) in
      record {
        known = known;
        first = omega (arith, first);
        low = omega (arith, first, place-below number its-numbers known, long, in-use-length t);
      }

module _ (c : Columns) (long : Sized c) where
  -- with the passes that are in use a table is as it was
  pub holding-in-use : (count : ℕ) → count ≤ most_passes → holding c (in_use (table c count)) ≡ table c count
  unfolding holding
  holding-in-use count few =
      let stays : (column : List ℕ) (part : Pass → ℕ) → ((k : ℕ) → part (pass_at c k) ≡ number_in column k) → length column ≡ most_passes
      → with_front column (map part (in_use (table c count))) ≡ column =
      λ column part reads full. ap (with_front column) (map-cells part (pass_at c) 0 count ∙ ap (λ at. cells_from at 0 count) (λ i k. reads k i))
      ∙ front-as-it-stands column count (omega (arith, full)) in
      λ i. table
      (columns (stays c.passes (λ p. p.number) (λ k. refl) long.of_passes i)
      (stays c.rides_left (λ p. p.rides_left) (λ k. refl) long.of_rides_left i)
      (stays c.last_days (λ p. p.last_day) (λ k. refl) long.of_last_days i)
      (stays c.last_scans (λ p. p.last_scan) (λ k. refl) long.of_last_scans i))
      (in-use-length (table c count) i)

  module _ (ps : List Pass) where
    pub holding-longer : (p : Pass) → length ps < most_passes → holding c (ps ++ p ∷ []) ≡ table (with_pass (holding c ps).columns (length ps) p) (length ps + 1)
    unfolding holding
    holding-longer p room = λ i. table
        (columns (front-longer c.passes ps (λ q. q.number) p (omega (arith, long.of_passes)) i)
        (front-longer c.rides_left ps (λ q. q.rides_left) p (omega (arith, long.of_rides_left)) i)
        (front-longer c.last_days ps (λ q. q.last_day) p (omega (arith, long.of_last_days)) i)
        (front-longer c.last_scans ps (λ q. q.last_scan) p (omega (arith, long.of_last_scans)) i))
        (length-append ps (p ∷ []) i)

    pub holding-set : (place : ℕ) (p : Pass) → place < length ps → holding c (set ps place p) ≡ table (with_pass (holding c ps).columns place p) (length ps)
    unfolding holding
    holding-set place p low = λ i. table
        (columns (front-set c.passes ps (λ q. q.number) place p low i) (front-set c.rides_left ps (λ q. q.rides_left) place p low i)
        (front-set c.last_days ps (λ q. q.last_day) place p low i) (front-set c.last_scans ps (λ q. q.last_scan) place p low i))
        (length-set ps place p i)

    -- and its passes in use are those that it holds
    pub in-use-holding : length ps ≤ most_passes → in_use (holding c ps) ≡ ps
    unfolding holding
    in-use-holding few =
        cells-of-list (pass_at (holding c ps).columns) (pass 0 0 0 0) 0 ps λ place low.
        ap (pass_at (holding c ps).columns) (omega arith)
        ∙ λ i. pass (front_reads c.passes ps (λ q. q.number) place low refl i) (front_reads c.rides_left ps (λ q. q.rides_left) place low refl i)
        (front_reads c.last_days ps (λ q. q.last_day) place low refl i) (front_reads c.last_scans ps (λ q. q.last_scan) place low refl i)

    holding-sized : length ps ≤ most_passes → Sized (holding c ps).columns
    unfolding holding
    holding-sized few = record {
      of_passes = front_length c.passes ps (λ q. q.number) (omega (arith, long.of_passes)) ∙ long.of_passes;
      of_rides_left = front_length c.rides_left ps (λ q. q.rides_left) (omega (arith, long.of_rides_left)) ∙ long.of_rides_left;
      of_last_days = front_length c.last_days ps (λ q. q.last_day) (omega (arith, long.of_last_days)) ∙ long.of_last_days;
      of_last_scans = front_length c.last_scans ps (λ q. q.last_scan) (omega (arith, long.of_last_scans)) ∙ long.of_last_scans;
    }

    -- it is sound where they are lawful
    pub holding-sound : length ps ≤ most_passes → lawful ps ≡ true → Sound (holding c ps)
    unfolding holding
    holding-sound few in_order = record { long = holding-sized few; few = few; in_order = ap lawful (in-use-holding few) ∙ in_order }

pub fresh-sound : (t : Table) → Fresh t → Sound t
unfolding lawful cells_from twice every
fresh-sound t fresh = record {
  long = sized-brings t.columns fresh.of_256;
  few = omega (arith, fresh.none_in_use);
  in_order = ap (λ n. lawful (cells_from (pass_at t.columns) 0 n)) fresh.none_in_use;
}
