-- Laws of an acceptor's tables: what allowed settings bring, what is read where a cell was stored and where it was not, fresh tables, and that sizes and
-- widths stay.
-- Assumes nothing.
use Prim.Native.Nat.{ℕ, ◌+◌, ◌*◌, ◌^◌, ◌≤◌, ◌<◌}
use mathlib.Core.Path.{◌≡◌, ap, ◌∙◌}
use mathlib.Core.Bool.{true, ◌&&◌}
use native.Mathlib.Omega.{arith}
use lib.Dec.{eqb, ltb, lit<}
use lib.ListN.{length, length-set, length-replicate}
use borrow.Author.Tests.{eqb-true, eq-eqb, ltb-true, lt-ltb}
use Rattle.basics.specs.Rounds.{the_round, none}
use Rattle.basics.proofs.Ladder.{both_true, and-true}
use Rattle.columns.proofs.Columns.{round-there, round-apart, value_there, value-apart, fresh-number, fresh-value, below_set, below-value, below-fresh}
use Rattle.columns.proofs.Fresh.{sets-fresh}
use Rattle.quorum.specs.declared.Settings.{Settings}
use Rattle.quorum.specs.Settings.{allowed}
use Rattle.quorum.proofs.Laws.{allowed-brings}
use Rattle.acceptor_rule.specs.declared.Cell.{Cell}
use Rattle.acceptor_rule.proofs.Laws.{same-cell, CellFits}
use Rattle.acceptor_tables.specs.Tables.{Tables, fresh_tables, cell_at, with_cell, tables_allowed, is_allowed, acceptor_allowed, fresh_allowed, acceptor_fresh, Sized, Within, Fitting}
use Rattle.acceptor_tables.specs.Promises.{FreshCells, FreshPromises}

-- ---- settings

-- what allowed settings bring
pub record Allowed (s : Settings) (own : ℕ) (t : Tables) : Type 0 where
  pub own-few : own ≤ 6
  pub sized : Sized s.instances t

-- what settings and sizes bring that are allowed
pub allowed-sizes : (s : Settings) (t : Tables) → fresh_allowed s t ≡ true → (allowed s ≡ true) × Sized s.instances t
unfolding tables_allowed
allowed-sizes s t e =
    let n = s.instances in
    let a = both_true (allowed s && eqb (length t.rounds) n && eqb (length t.vote_rounds) n) (eqb (length t.values) (2 * n)) e in
    let b = both_true (allowed s && eqb (length t.rounds) n) (eqb (length t.vote_rounds) n) a.0 in
    let c = both_true (allowed s) (eqb (length t.rounds) n) b.0 in
    (c.0, record { of_rounds = eqb-true _ _ c.1; of_vote_rounds = eqb-true _ _ b.1; of_values = eqb-true _ _ a.1 })

pub allowed-tables : (s : Settings) (own : ℕ) (t : Tables) → acceptor_allowed s own t ≡ true → Allowed s own t
unfolding is_allowed
allowed-tables s own t e =
    let both = both_true (fresh_allowed s t) (ltb own s.acceptors) e in
    let fine = allowed-sizes s t both.0 in
    let below = ltb-true own s.acceptors both.1 in
    let few = allowed-brings s fine.0 in
    record { own-few = omega (arith, few.acceptors-most); sized = fine.1 }

-- tables of their sizes are allowed
pub sized-allowed : (s : Settings) (own : ℕ) (t : Tables) → allowed s ≡ true → own < s.acceptors → Sized s.instances t → acceptor_allowed s own t ≡ true
unfolding tables_allowed is_allowed
sized-allowed s own t ok known sized =
    and-true (and-true (and-true (and-true ok (eq-eqb _ _ sized.of_rounds)) (eq-eqb _ _ sized.of_vote_rounds)) (eq-eqb _ _ sized.of_values))
    (lt-ltb own s.acceptors known)

pub index-within : {n : ℕ} (t : Tables) (index : ℕ) → Sized n t → index < n → Within t index
index-within t index sized low = record {
  in_rounds = omega (arith, sized.of_rounds);
  in_vote_rounds = omega (arith, sized.of_vote_rounds);
  in_values = omega (arith, sized.of_values);
}

-- ---- cells and tables

pub cell-there : (t : Tables) (index : ℕ) (c : Cell) → Within t index → cell_at (with_cell t index c) index ≡ c
cell-there t index c w =
    same-cell (round-there t.rounds index c.round w.in_rounds) (round-there t.vote_rounds index c.vote_round w.in_vote_rounds)
    (value_there t.values index c.value w.in_values)

pub cell_apart : (t : Tables) (index other : ℕ) (c : Cell) → (index ≡ other → ⊥) → cell_at (with_cell t index c) other ≡ cell_at t other
cell_apart t index other c differ =
    same-cell (round-apart t.rounds index other c.round differ) (round-apart t.vote_rounds index other c.vote_round differ)
    (value-apart t.values index c.value other differ)

pub fresh_cells : FreshCells
fresh_cells N index inside =
    same-cell (ap the_round (fresh-number N 0 index inside)) (ap the_round (fresh-number N none.0 index inside)) (fresh-value N index inside)

pub fresh-sized : (N : ℕ) → Sized N (fresh_tables N)
fresh-sized N = record { of_rounds = length-replicate N 0; of_vote_rounds = length-replicate N none.0; of_values = length-replicate (2 * N) 0 }

pub fresh-fitting : (N : ℕ) → Fitting (fresh_tables N)
fresh-fitting N = record {
  fitting_rounds = below-fresh (2 ^ 32) N 0 (lit< tt);
  fitting_vote_rounds = below-fresh (2 ^ 32) N none.0 (lit< tt);
  fitting_values = below-fresh (2 ^ 64) (2 * N) 0 (lit< tt);
}

pub fresh-promises : (s : Settings) → FreshPromises s
unfolding acceptor_fresh
fresh-promises s = sets-fresh (fresh_allowed s) (fresh_tables s.instances)

pub fitting-at : (t : Tables) (index : ℕ) → Fitting t → CellFits (cell_at t index)
fitting-at t index fits = record {
  round_fits = fits.fitting_rounds index;
  vote_round_fits = fits.fitting_vote_rounds index;
  value-fits = record { high_fits = fits.fitting_values (2 * index); low_fits = fits.fitting_values (2 * index + 1) };
}

pub fitting-with : (t : Tables) (index : ℕ) (c : Cell) → Fitting t → CellFits c → Fitting (with_cell t index c)
fitting-with t index c fits cell-fits = record {
  fitting_rounds = below_set (2 ^ 32) t.rounds index c.round.0 fits.fitting_rounds cell-fits.round_fits;
  fitting_vote_rounds = below_set (2 ^ 32) t.vote_rounds index c.vote_round.0 fits.fitting_vote_rounds cell-fits.vote_round_fits;
  fitting_values = below-value t.values index c.value fits.fitting_values cell-fits.value-fits.high_fits cell-fits.value-fits.low_fits;
}

pub sized-with : {n : ℕ} (t : Tables) (index : ℕ) (c : Cell) → Sized n t → Sized n (with_cell t index c)
sized-with t index c sized = record {
  of_rounds = length-set t.rounds index c.round.0 ∙ sized.of_rounds;
  of_vote_rounds = length-set t.vote_rounds index c.vote_round.0 ∙ sized.of_vote_rounds;
  of_values = simp length-set sized.of_values;
}
