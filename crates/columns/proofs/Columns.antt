-- Laws of tables lent as slices of numbers: what is read where a cell was stored and where it was not, and that numbers stay below their bound.
-- Assumes nothing.
use Prim.Native.Nat.{ℕ, ◌+◌, ◌*◌, ◌^◌, ◌<◌}
use mathlib.Core.Path.{◌≡◌, sym, ap, ◌∙◌}
use mathlib.Core.List.{List}
use native.Mathlib.Decide.{ℕ_discrete, dec_lt}
use native.Mathlib.Omega.{arith}
use lib.ListN.{length, get_or, set, replicate, length-set, length-replicate, get_or-replicate, get_or-eq_default}
use lib.Seq.{get_or-set_same, get_or-set_other}
use Rattle.basics.specs.declared.Round.{Round}
use Rattle.basics.specs.declared.Value.{Value}
use Rattle.basics.specs.Rounds.{the_round}
use Rattle.basics.specs.Values.{null}
use Rattle.columns.specs.Columns.{round_at, with_round, value_at, with_value, Below}

-- ---- where a cell was stored, and apart from it

pub number-there : (numbers : List ℕ) (index number : ℕ) → index < length numbers → get_or (set numbers index number) index 0 ≡ number
number-there numbers index number inside = get_or-set_same numbers index number 0 inside

pub number-apart : (numbers : List ℕ) (index other number : ℕ) → (index ≡ other → ⊥) → get_or (set numbers index number) other 0 ≡ get_or numbers other 0
number-apart numbers index other number differ = get_or-set_other numbers index other number 0 (λ same. differ (sym same))

pub round-there : (rounds : List ℕ) (index : ℕ) (round : Round) → index < length rounds → round_at (with_round rounds index round) index ≡ round
round-there rounds index round inside = ap the_round (number-there rounds index round.0 inside)

pub round-apart : (rounds : List ℕ) (index other : ℕ) (round : Round) → (index ≡ other → ⊥) → round_at (with_round rounds index round) other ≡ round_at rounds other
round-apart rounds index other round differ = ap the_round (number-apart rounds index other round.0 differ)

same-halves : {v w : Value} → v.high ≡ w.high → v.low ≡ w.low → v ≡ w
same-halves high low = λ i. record { high = high i; low = low i }

module _ (values : List ℕ) (index : ℕ) (value : Value) where
  -- with the high half stored
  abbrev half : List ℕ
  half = set values (2 * index) value.high

  pub value_there : 2 * index + 1 < length values → value_at (with_value values index value) index ≡ value
  value_there inside =
      let long = length-set values (2 * index) value.high in
      same-halves
      (get_or-set_other half (2 * index + 1) (2 * index) value.low 0 (λ same. omega arith) ∙ get_or-set_same values (2 * index) value.high 0 (omega arith))
      (get_or-set_same half (2 * index + 1) value.low 0 (omega arith))

  pub value-apart : (other : ℕ) → (index ≡ other → ⊥) → value_at (with_value values index value) other ≡ value_at values other
  value-apart other differ =
      let untouched : (place : ℕ) → (place ≡ 2 * index → ⊥) → (place ≡ 2 * index + 1 → ⊥) → get_or (with_value values index value) place 0 ≡ get_or values place 0 =
      λ place high low. get_or-set_other half (2 * index + 1) place value.low 0 low ∙ get_or-set_other values (2 * index) place value.high 0 high in
      same-halves (untouched (2 * other) (λ same. differ (omega arith)) (λ same. omega arith))
      (untouched (2 * other + 1) (λ same. omega arith) (λ same. differ (omega arith)))

-- ---- fresh tables

pub fresh-number : (N number index : ℕ) → index < N → get_or (replicate N number) index 0 ≡ number
fresh-number N number index inside = get_or-replicate N index number 0 inside

pub fresh-value : (N index : ℕ) → index < N → value_at (replicate (2 * N) 0) index ≡ null
fresh-value N index inside =
    same-halves (fresh-number (2 * N) 0 (2 * index) (omega arith)) (fresh-number (2 * N) 0 (2 * index + 1) (omega arith))

-- ---- bounds

-- past the end a slice reads as 0
past_end : (numbers : List ℕ) (index : ℕ) → (index < length numbers → ⊥) → get_or numbers index 0 ≡ 0
past_end numbers index past = get_or-eq_default numbers 0 {n = index} (omega arith)

pub below_set : (bound : ℕ) (numbers : List ℕ) (index number : ℕ) → Below bound numbers → number < bound → Below bound (set numbers index number)
below_set bound numbers index number small fits place = go (ℕ_discrete place index) (dec_lt place (length numbers))
  where
    go : Dec (place ≡ index) → Dec (place < length numbers) → get_or (set numbers index number) place 0 < bound
    go (no differ) d = rw (get_or-set_other numbers index place number 0 differ) (small place)
    go (yes same) (yes inside) = rw (same, get_or-set_same numbers index number 0 (omega arith)) fits
    go (yes same) (no past) = rw (past_end (set numbers index number) place (λ inside. past (omega (arith, length-set numbers index number)))) (omega arith)

pub below-value : (values : List ℕ) (index : ℕ) (value : Value) → Below (2 ^ 64) values → value.high < 2 ^ 64 → value.low < 2 ^ 64
    → Below (2 ^ 64) (with_value values index value)
below-value values index value small high low =
    below_set (2 ^ 64) (set values (2 * index) value.high) (2 * index + 1) value.low
    (below_set (2 ^ 64) values (2 * index) value.high small high) low

pub below-fresh : (bound N number : ℕ) → number < bound → Below bound (replicate N number)
below-fresh bound N number fits index = go (dec_lt index N)
  where
    go : Dec (index < N) → get_or (replicate N number) index 0 < bound
    go (yes inside) = rw (fresh-number N number index inside) fits
    go (no past) = rw (past_end (replicate N number) index (λ inside. past (omega (arith, length-replicate N number)))) (omega arith)
