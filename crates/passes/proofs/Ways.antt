-- The walks over the numbers of passes, a place at a time, and the ways out of judging a table.
-- Assumes nothing.
use Prim.Native.Nat.{ℕ, ◌+◌, ◌≤◌, ◌<◌}
use mathlib.Core.Path.{◌≡◌, sym, ap, ◌∙◌}
use mathlib.Core.Bool.{Bool, true, false, ◌||◌}
use mathlib.Core.List.{List}
use native.Mathlib.Omega.{arith}
use borrow.Author.Tests.{eq-eqb, ne_eqb, le-leb, lt-leb}
use Rattle.std.specs.Prelude.{Option, Some, None}
use Rattle.std.specs.Option.{is_some}
use Rattle.basics.specs.Ladder.{when◌then◌else◌}
use Rattle.columns.specs.Walks.{cells_from, every}
use Rattle.columns.proofs.Walks.{cells_left, cells-next, cells-end}
use Rattle.passes.specs.Passes.{Columns, Table, table, number_in, most_passes, among, place_of, find, twice, rides_fit, sized, sound}
use Rattle.passes.proofs.Laws.{lawful-columns, some-where-among}

module _ (t : Table) where
  abbrev its-numbers : (place : ℕ) → ℕ
  its-numbers = number_in t.columns.passes

  module _ (number place : ℕ) where
    module _ (inside : place < t.count) (n : ℕ) (n-so : n ≡ its-numbers place) where
      pub found_here : n ≡ number → Some place ≡ find t place number
      unfolding find among place_of when◌then◌else◌
      found_here same =
          let here : find t place number ≡ Some (place + 0) = rw (cells-next its-numbers place t.count inside, ← n-so, eq-eqb n number same) in
          ap Some (omega arith) ∙ sym here

      pub found-later : (n ≡ number → ⊥) → find t place number ≡ find t (place + 1) number
      unfolding find among place_of when◌then◌else◌
      found-later other =
          let behind = cells_left its-numbers (place + 1) t.count in
          let next : find t place number ≡ (when among number behind then Some (place + (place_of number behind + 1)) else None) =
          rw (cells-next its-numbers place t.count inside, ← n-so, ne_eqb n number other) in
          let on : place + (place_of number behind + 1) ≡ (place + 1) + place_of number behind = omega arith in
          next ∙ λ i. when among number behind then Some (on i) else None

    pub found_nowhere : t.count ≤ place → None ≡ find t place number
    unfolding find among when◌then◌else◌
    found_nowhere past = rw (cells-end its-numbers place t.count past)

  module _ (place : ℕ) where
    module _ (inside : place < t.count) (number : ℕ) (number-so : number ≡ its-numbers place)
        (found : Option ℕ) (found-so : found ≡ find t (place + 1) number) (again : Bool) (again-so : again ≡ is_some found)
      where
        abbrev behind : List ℕ
        behind = cells_left its-numbers (place + 1) t.count

        again-among : again ≡ among number behind
        again-among = again-so ∙ ap is_some found-so ∙ some-where-among t (place + 1) number

        twice-next : twice (cells_left its-numbers place t.count) ≡ again || twice behind
        unfolding twice
        twice-next = rw (cells-next its-numbers place t.count inside, ← number-so, ← again-among)

        pub twice-here : again ≡ true → true ≡ twice (cells_left its-numbers place t.count)
        twice-here so = sym (twice-next ∙ ap (λ b. b || twice behind) so)

        pub twice-later : again ≡ false → twice (cells_left its-numbers place t.count) ≡ twice behind
        twice-later so = twice-next ∙ ap (λ b. b || twice behind) so

    pub twice-nowhere : t.count ≤ place → false ≡ twice (cells_left its-numbers place t.count)
    unfolding twice
    twice-nowhere past = rw (cells-end its-numbers place t.count past)

-- ---- the ways out of judging a table

module _ (c : Columns) (count : ℕ) (long : Bool) (long-so : long ≡ sized c) where
  pub wrong_size : long ≡ false → false ≡ sound (table c count)
  unfolding sound
  wrong_size other = rw (← long-so, other)

  module _ (right : long ≡ true) where
    pub too_many : most_passes < count → false ≡ sound (table c count)
    unfolding sound
    too_many many = rw (← long-so, right, lt-leb count most_passes many)

    module _ (few : count ≤ most_passes) (double : Bool) (double-so : double ≡ twice (cells_from (number_in c.passes) 0 count)) where
      pub one-twice : double ≡ true → false ≡ sound (table c count)
      unfolding sound
      one-twice so = rw (← long-so, right, le-leb count most_passes few, lawful-columns c count, ← double-so, so)

      pub judged-by-rides : double ≡ false → (fit : Bool) → fit ≡ every rides_fit (cells_from (number_in c.rides_left) 0 count)
          → fit ≡ sound (table c count)
      unfolding sound
      judged-by-rides none fit fit-so = fit-so ∙ rw (← long-so, right, le-leb count most_passes few, lawful-columns c count, ← double-so, none)
