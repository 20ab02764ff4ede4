-- Laws of a backup's tables: what allowed settings bring, what is read where a cell was stored and where it was not, fresh tables, and that sizes and
-- widths stay.
-- Assumes nothing.
use Prim.Native.Nat.{ℕ, ◌+◌, ◌*◌, ◌^◌, ◌≤◌, ◌<◌}
use mathlib.Core.Path.{◌≡◌, ap, ◌∙◌}
use mathlib.Core.Bool.{true, ◌&&◌}
use native.Mathlib.Omega.{arith}
use lib.Dec.{eqb, leb, lit<}
use lib.ListN.{length, length-set, length-replicate}
use borrow.Author.Tests.{eqb-true, eq-eqb, leb-true, le-leb}
use Rattle.basics.specs.Rounds.{the_round, none}
use Rattle.basics.proofs.Ladder.{both_true, and-true}
use Rattle.columns.proofs.Columns.{number-there, number-apart, round-there, round-apart, value_there, value-apart, fresh-number, fresh-value, below_set, below-value, below-fresh}
use Rattle.columns.proofs.Fresh.{sets-fresh}
use Rattle.quorum.specs.declared.Settings.{Settings}
use Rattle.quorum.specs.Settings.{allowed}
use Rattle.quorum.proofs.Laws as quorums
use Rattle.quorum.proofs.Laws.{allowed-brings}
use Rattle.backup_cell.specs.declared.Cell.{Cell}
use Rattle.backup_cell.specs.Cell.{idle}
use Rattle.backup_cell.proofs.Laws.{same-cell, CellFits}
use Rattle.backup_tables.specs.Tables.{Tables, tables, fresh_tables, cell_at, with_cell, tables_allowed, is_allowed, backup_allowed, fresh_allowed, backup_fresh, Sized, Within, Fitting}
use Rattle.backup_tables.specs.Promises.{FreshCells, FreshPromises}

-- ---- settings

-- what allowed settings bring
pub record Allowed (s : Settings) (own : ℕ) (t : Tables) : Type 0 where
  pub few : quorums.Allowed s
  pub own-least : 1 ≤ own
  pub own-most : own ≤ 3
  pub sized : Sized s.instances t

-- what settings and sizes bring that are allowed
pub allowed-sizes : (s : Settings) (t : Tables) → fresh_allowed s t ≡ true → (allowed s ≡ true) × Sized s.instances t
unfolding tables_allowed
allowed-sizes s t e =
    let n = s.instances in
    let r = eqb (length t.rounds) n in
    let p = eqb (length t.phases) n in
    let m = eqb (length t.sets) n in
    let b = eqb (length t.best_vote_rounds) n in
    let v = eqb (length t.best_values) (2 * n) in
    let e6 = both_true (allowed s && r && p && m && b && v) (eqb (length t.own_values) (2 * n)) e in
    let e5 = both_true (allowed s && r && p && m && b) v e6.0 in
    let e4 = both_true (allowed s && r && p && m) b e5.0 in
    let e3 = both_true (allowed s && r && p) m e4.0 in
    let e2 = both_true (allowed s && r) p e3.0 in
    let e1 = both_true (allowed s) r e2.0 in (
      e1.0,
      record {
        of_rounds = eqb-true _ _ e1.1;
        of_phases = eqb-true _ _ e2.1;
        of_sets = eqb-true _ _ e3.1;
        of_best_vote_rounds = eqb-true _ _ e4.1;
        of_best_values = eqb-true _ _ e5.1;
        of_own_values = eqb-true _ _ e6.1;
      },
    )

pub allowed-tables : (s : Settings) (own : ℕ) (t : Tables) → backup_allowed s own t ≡ true → Allowed s own t
unfolding is_allowed
allowed-tables s own t e =
    let most = both_true (fresh_allowed s t && leb 1 own) (leb own 3) e in
    let least = both_true (fresh_allowed s t) (leb 1 own) most.0 in
    let fine = allowed-sizes s t least.0 in
    record { few = allowed-brings s fine.0; own-least = leb-true 1 own least.1; own-most = leb-true own 3 most.1; sized = fine.1 }

-- tables of their sizes are allowed
pub sized-allowed : (s : Settings) (own : ℕ) (t : Tables) → allowed s ≡ true → 1 ≤ own → own ≤ 3 → Sized s.instances t → backup_allowed s own t ≡ true
unfolding tables_allowed is_allowed
sized-allowed s own t ok least most sized =
    let rounds-so = and-true ok (eq-eqb _ _ sized.of_rounds) in
    let phases-so = and-true rounds-so (eq-eqb _ _ sized.of_phases) in
    let sets-so = and-true phases-so (eq-eqb _ _ sized.of_sets) in
    let best-so = and-true sets-so (eq-eqb _ _ sized.of_best_vote_rounds) in
    let values-so = and-true (and-true best-so (eq-eqb _ _ sized.of_best_values)) (eq-eqb _ _ sized.of_own_values) in
    and-true (and-true values-so (le-leb 1 own least)) (le-leb own 3 most)

pub index-within : {n : ℕ} (t : Tables) (index : ℕ) → Sized n t → index < n → Within t index
index-within t index sized low = record {
  in_rounds = omega (arith, sized.of_rounds);
  in_phases = omega (arith, sized.of_phases);
  in_sets = omega (arith, sized.of_sets);
  in_best_vote_rounds = omega (arith, sized.of_best_vote_rounds);
  in_best_values = omega (arith, sized.of_best_values);
  in_own_values = omega (arith, sized.of_own_values);
}

-- ---- cells and tables

pub same_tables : {t u : Tables} → t.rounds ≡ u.rounds → t.phases ≡ u.phases → t.sets ≡ u.sets → t.best_vote_rounds ≡ u.best_vote_rounds → t.best_values ≡ u.best_values
    → t.own_values ≡ u.own_values → t ≡ u
same_tables r p s b v o = λ i. tables (r i) (p i) (s i) (b i) (v i) (o i)

pub cell-there : (t : Tables) (index : ℕ) (c : Cell) → Within t index → cell_at (with_cell t index c) index ≡ c
cell-there t index c w =
    same-cell (round-there t.rounds index c.round w.in_rounds) (number-there t.phases index c.phase w.in_phases)
    (number-there t.sets index c.set w.in_sets) (round-there t.best_vote_rounds index c.best_vote_round w.in_best_vote_rounds)
    (value_there t.best_values index c.best_value w.in_best_values) (value_there t.own_values index c.own_value w.in_own_values)

pub cell_apart : (t : Tables) (index other : ℕ) (c : Cell) → (index ≡ other → ⊥) → cell_at (with_cell t index c) other ≡ cell_at t other
cell_apart t index other c differ =
    same-cell (round-apart t.rounds index other c.round differ) (number-apart t.phases index other c.phase differ)
    (number-apart t.sets index other c.set differ) (round-apart t.best_vote_rounds index other c.best_vote_round differ)
    (value-apart t.best_values index c.best_value other differ) (value-apart t.own_values index c.own_value other differ)

pub fresh_cells : FreshCells
fresh_cells N index inside =
    same-cell (ap the_round (fresh-number N 0 index inside)) (fresh-number N idle index inside) (fresh-number N 0 index inside)
    (ap the_round (fresh-number N none.0 index inside)) (fresh-value N index inside) (fresh-value N index inside)

pub fresh-sized : (N : ℕ) → Sized N (fresh_tables N)
fresh-sized N = record {
  of_rounds = length-replicate N 0;
  of_phases = length-replicate N 0;
  of_sets = length-replicate N 0;
  of_best_vote_rounds = length-replicate N none.0;
  of_best_values = length-replicate (2 * N) 0;
  of_own_values = length-replicate (2 * N) 0;
}

pub fresh-fitting : (N : ℕ) → Fitting (fresh_tables N)
fresh-fitting N = record {
  fitting_rounds = below-fresh (2 ^ 32) N 0 (lit< tt);
  fitting_phases = below-fresh (2 ^ 8) N 0 (lit< tt);
  fitting_sets = below-fresh (2 ^ 8) N 0 (lit< tt);
  fitting_best_vote_rounds = below-fresh (2 ^ 32) N none.0 (lit< tt);
  fitting_best_values = below-fresh (2 ^ 64) (2 * N) 0 (lit< tt);
  fitting_own_values = below-fresh (2 ^ 64) (2 * N) 0 (lit< tt);
}

pub fresh-promises : (s : Settings) → FreshPromises s
unfolding backup_fresh
fresh-promises s = sets-fresh (fresh_allowed s) (fresh_tables s.instances)

pub fitting-at : (t : Tables) (index : ℕ) → Fitting t → CellFits (cell_at t index)
fitting-at t index fits = record {
  round_fits = fits.fitting_rounds index;
  phase-fits = fits.fitting_phases index;
  set-fits = fits.fitting_sets index;
  best-vote-round-fits = fits.fitting_best_vote_rounds index;
  best-value-fits = record { high_fits = fits.fitting_best_values (2 * index); low_fits = fits.fitting_best_values (2 * index + 1) };
  own-value-fits = record { high_fits = fits.fitting_own_values (2 * index); low_fits = fits.fitting_own_values (2 * index + 1) };
}

pub fitting-with : (t : Tables) (index : ℕ) (c : Cell) → Fitting t → CellFits c → Fitting (with_cell t index c)
fitting-with t index c fits cell-fits = record {
  fitting_rounds = below_set (2 ^ 32) t.rounds index c.round.0 fits.fitting_rounds cell-fits.round_fits;
  fitting_phases = below_set (2 ^ 8) t.phases index c.phase fits.fitting_phases cell-fits.phase-fits;
  fitting_sets = below_set (2 ^ 8) t.sets index c.set fits.fitting_sets cell-fits.set-fits;
  fitting_best_vote_rounds = below_set (2 ^ 32) t.best_vote_rounds index c.best_vote_round.0 fits.fitting_best_vote_rounds cell-fits.best-vote-round-fits;
  fitting_best_values =
      below-value t.best_values index c.best_value fits.fitting_best_values cell-fits.best-value-fits.high_fits cell-fits.best-value-fits.low_fits;
  fitting_own_values =
      below-value t.own_values index c.own_value fits.fitting_own_values cell-fits.own-value-fits.high_fits cell-fits.own-value-fits.low_fits;
}

pub sized-with : {n : ℕ} (t : Tables) (index : ℕ) (c : Cell) → Sized n t → Sized n (with_cell t index c)
sized-with t index c sized = record {
  of_rounds = length-set t.rounds index c.round.0 ∙ sized.of_rounds;
  of_phases = length-set t.phases index c.phase ∙ sized.of_phases;
  of_sets = length-set t.sets index c.set ∙ sized.of_sets;
  of_best_vote_rounds = length-set t.best_vote_rounds index c.best_vote_round.0 ∙ sized.of_best_vote_rounds;
  of_best_values = simp length-set sized.of_best_values;
  of_own_values = simp length-set sized.of_own_values;
}
