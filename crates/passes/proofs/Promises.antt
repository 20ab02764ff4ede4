-- A table is sound exactly if no place of it has what refusal 30 names: a number stands twice just where two places have it, by induction on the places.
-- Assumes nothing.
use Prim.Native.Nat.{ℕ, zero, suc, ◌+◌, ◌≤◌, ◌<◌}
use mathlib.Core.Path.{◌≡◌, refl, sym, ap, ◌∙◌}
use mathlib.Core.Bool.{true, false, not}
use native.Mathlib.Omega.{arith}
use lib.Dec.{eqb}
use borrow.Author.Tests.{eqb-false, ne_eqb, leb-true, le-leb}
use Rattle.basics.proofs.Ladder.{both_true, and-true}
use Rattle.columns.specs.Walks.{cells_from, every}
use Rattle.columns.proofs.Walks.{here-or-elsewhere, every-passes, every-brings}
use Rattle.passes.specs.Passes.{Table, number_in, among, twice, rides_fit, sound}
use Rattle.passes.specs.Promises.{SoundTable, SoundExactly}
use Rattle.passes.proofs.Laws.{or-false, not_so, sound-brings, sound-so, lawful-columns}

module _ (at : (place : ℕ) → ℕ) where
  -- a number that is not among those from a place on stands at none of these places
  missing-there : (number from count : ℕ) → among number (cells_from at from count) ≡ false → (place : ℕ) → from ≤ place → place < from + count
      → at place ≡ number → ⊥
  unfolding among cells_from
  missing-there number from zero missing place least low = λ same. omega arith
  missing-there number from (suc count) missing place least low =
      let parts = or-false (eqb (at from) number) (among number (cells_from at (suc from) count)) missing in
      here-or-elsewhere (λ k. at k ≡ number → ⊥) from place (eqb-false (at from) number parts.0) λ other.
      missing-there number (suc from) count parts.1 place (omega (arith, other)) (omega arith)

  missing-so : (number from count : ℕ) → ((place : ℕ) → from ≤ place → place < from + count → at place ≡ number → ⊥)
      → among number (cells_from at from count) ≡ false
  unfolding among cells_from
  missing-so number from zero nowhere = refl
  missing-so number from (suc count) nowhere =
      rw (
        ne_eqb (at from) number (nowhere from (omega arith) (omega arith)),
        missing-so number (suc from) count
            λ place least low. nowhere place (omega arith) (omega arith),
      )

  -- no two places have the same number
  abbrev Distinct : (from count : ℕ) → Type 0
  Distinct from count = (first second : ℕ) → from ≤ first → first < second → second < from + count → at first ≡ at second → ⊥

  once-there : (from count : ℕ) → twice (cells_from at from count) ≡ false → Distinct from count
  unfolding twice cells_from
  once-there from zero once first second least order low = λ same. omega arith
  once-there from (suc count) once first second least order low =
      let parts = or-false (among (at from) (cells_from at (suc from) count)) (twice (cells_from at (suc from) count)) once in
      here-or-elsewhere (λ k. k < second → at k ≡ at second → ⊥) from first
      (λ below same. missing-there (at from) (suc from) count parts.0 second (omega arith) (omega arith) (sym same))
      (λ other below. once-there (suc from) count parts.1 first second (omega (arith, other)) below (omega arith)) order

  once-so : (from count : ℕ) → Distinct from count → twice (cells_from at from count) ≡ false
  unfolding twice cells_from
  once-so from zero distinct = refl
  once-so from (suc count) distinct =
      rw (
        missing-so (at from) (suc from) count λ place least low same. distinct from place (omega arith) (omega arith) (omega arith) (sym same),
        once-so (suc from) count λ first second least order low. distinct first second (omega arith) order (omega arith),
      )

sound-forth : (t : Table) → sound t ≡ true → SoundTable t
sound-forth t so =
    let fine = sound-brings t so in
    let numbers = number_in t.columns.passes in
    let rides = number_in t.columns.rides_left in
    let parts = both_true (not (twice (cells_from numbers 0 t.count))) (every rides_fit (cells_from rides 0 t.count))
    (sym (lawful-columns t.columns t.count) ∙ fine.in_order) in
    record {
      of_passes = fine.long.of_passes;
      of_rides_left = fine.long.of_rides_left;
      of_last_days = fine.long.of_last_days;
      of_last_scans = fine.long.of_last_scans;
      few = fine.few;
      none_twice = λ first second order low. once-there numbers 0 t.count (not_so (twice (cells_from numbers 0 t.count)) parts.0) first second
          (omega arith) order (omega arith);
      rides_fit = λ place low. leb-true _ _ (every-brings rides rides_fit 0 t.count parts.1 place (omega arith) (omega arith));
    }

sound_back : (t : Table) → SoundTable t → sound t ≡ true
sound_back t s =
    let numbers = number_in t.columns.passes in
    let rides = number_in t.columns.rides_left in
    let once = once-so numbers 0 t.count λ first second _ order low. s.none_twice first second order (omega arith) in
    let fit = every-passes rides rides_fit 0 t.count λ place low. le-leb _ _ (s.rides_fit place (omega arith)) in
    sound-so t (record {
      long = record { of_passes = s.of_passes; of_rides_left = s.of_rides_left; of_last_days = s.of_last_days; of_last_scans = s.of_last_scans };
      few = s.few;
      in_order = lawful-columns t.columns t.count ∙ and-true (ap not once) fit;
    })

pub sound-exactly : SoundExactly
sound-exactly t = (sound-forth t, sound_back t)
