-- Laws of a learner's tables: what allowed settings bring, what is read where a cell was stored and where it was not, fresh tables, and that sizes and widths stay.
-- Assumes nothing.
use Prim.Native.Nat.{ℕ, ◌+◌, ◌*◌, ◌^◌, ◌<◌}
use mathlib.Core.Path.{◌≡◌, ap, ◌∙◌}
use mathlib.Core.Bool.{true, ◌&&◌}
use native.Mathlib.Omega.{arith}
use lib.Dec.{eqb, lit<}
use lib.ListN.{length, length-set, length-replicate}
use borrow.Author.Tests.{eqb-true, eq-eqb}
use Rattle.basics.specs.Rounds.{the_round, none}
use Rattle.columns.proofs.Columns.{number-there, number-apart, round-there, round-apart, value_there, value-apart, fresh-number, fresh-value, below_set, below-value, below-fresh}
use Rattle.basics.proofs.Ladder.{both_true, and-true}
use Rattle.columns.proofs.Fresh.{sets-fresh}
use Rattle.quorum.specs.declared.Settings.{Settings}
use Rattle.quorum.specs.Settings.{allowed}
use Rattle.quorum.proofs.Laws as quorums
use Rattle.quorum.proofs.Laws.{allowed-brings}
use Rattle.learner_cell.specs.declared.Cell.{Cell}
use Rattle.learner_cell.proofs.Laws.{same-cell, CellFits}
use Rattle.learner_tables.specs.Tables.{Tables, fresh_tables, cell_at, with_cell, is_allowed, learner_allowed, learner_fresh, Sized, Within, Fitting}
use Rattle.learner_tables.specs.Promises.{FreshCells, FreshPromises}

-- ---- settings

-- what allowed settings bring
pub record Allowed (s : Settings) (t : Tables) : Type 0 where
  pub few : quorums.Allowed s
  pub sized : Sized s.instances t

pub allowed-tables : (s : Settings) (t : Tables) → learner_allowed s t ≡ true → Allowed s t
unfolding is_allowed
allowed-tables s t e =
    let n = s.instances in
    let a = both_true (allowed s && eqb (length t.rounds) n && eqb (length t.sets) n) (eqb (length t.values) (2 * n)) e in
    let b = both_true (allowed s && eqb (length t.rounds) n) (eqb (length t.sets) n) a.0 in
    let c = both_true (allowed s) (eqb (length t.rounds) n) b.0 in
    record {
      few = allowed-brings s c.0;
      sized = record { of_rounds = eqb-true _ _ c.1; of_sets = eqb-true _ _ b.1; of_values = eqb-true _ _ a.1 };
    }

-- tables of their sizes are allowed
pub sized-allowed : (s : Settings) (t : Tables) → allowed s ≡ true → Sized s.instances t → learner_allowed s t ≡ true
unfolding is_allowed
sized-allowed s t ok sized = and-true (and-true (and-true ok (eq-eqb _ _ sized.of_rounds)) (eq-eqb _ _ sized.of_sets)) (eq-eqb _ _ sized.of_values)

pub index-within : {n : ℕ} (t : Tables) (index : ℕ) → Sized n t → index < n → Within t index
index-within t index sized low =
    record { in_rounds = omega (arith, sized.of_rounds); in_sets = omega (arith, sized.of_sets); in_values = omega (arith, sized.of_values) }

-- ---- cells and tables

pub cell-there : (t : Tables) (index : ℕ) (c : Cell) → Within t index → cell_at (with_cell t index c) index ≡ c
cell-there t index c w =
    same-cell (round-there t.rounds index c.round w.in_rounds) (number-there t.sets index c.set w.in_sets)
    (value_there t.values index c.value w.in_values)

pub cell_apart : (t : Tables) (index other : ℕ) (c : Cell) → (index ≡ other → ⊥) → cell_at (with_cell t index c) other ≡ cell_at t other
cell_apart t index other c differ =
    same-cell (round-apart t.rounds index other c.round differ) (number-apart t.sets index other c.set differ)
    (value-apart t.values index c.value other differ)

pub fresh_cells : FreshCells
fresh_cells N index inside =
    same-cell (ap the_round (fresh-number N none.0 index inside)) (fresh-number N 0 index inside) (fresh-value N index inside)

pub fresh-sized : (N : ℕ) → Sized N (fresh_tables N)
fresh-sized N = record { of_rounds = length-replicate N none.0; of_sets = length-replicate N 0; of_values = length-replicate (2 * N) 0 }

pub fresh-fitting : (N : ℕ) → Fitting (fresh_tables N)
fresh-fitting N = record {
  fitting_rounds = below-fresh (2 ^ 32) N none.0 (lit< tt);
  fitting_sets = below-fresh (2 ^ 8) N 0 (lit< tt);
  fitting_values = below-fresh (2 ^ 64) (2 * N) 0 (lit< tt);
}

pub fresh-promises : (s : Settings) → FreshPromises s
unfolding learner_fresh
fresh-promises s = sets-fresh (learner_allowed s) (fresh_tables s.instances)

pub fitting-at : (t : Tables) (index : ℕ) → Fitting t → CellFits (cell_at t index)
fitting-at t index fits = record {
  round_fits = fits.fitting_rounds index;
  set-fits = fits.fitting_sets index;
  value-fits = record { high_fits = fits.fitting_values (2 * index); low_fits = fits.fitting_values (2 * index + 1) };
}

pub fitting-with : (t : Tables) (index : ℕ) (c : Cell) → Fitting t → CellFits c → Fitting (with_cell t index c)
fitting-with t index c fits cell-fits = record {
  fitting_rounds = below_set (2 ^ 32) t.rounds index c.round.0 fits.fitting_rounds cell-fits.round_fits;
  fitting_sets = below_set (2 ^ 8) t.sets index c.set fits.fitting_sets cell-fits.set-fits;
  fitting_values = below-value t.values index c.value fits.fitting_values cell-fits.value-fits.high_fits cell-fits.value-fits.low_fits;
}

pub sized-with : {n : ℕ} (t : Tables) (index : ℕ) (c : Cell) → Sized n t → Sized n (with_cell t index c)
sized-with t index c sized = record {
  of_rounds = length-set t.rounds index c.round.0 ∙ sized.of_rounds;
  of_sets = length-set t.sets index c.set ∙ sized.of_sets;
  of_values = simp length-set sized.of_values;
}
