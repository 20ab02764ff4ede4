-- Past its end a column reads as 0 and is not written. A value stands at twice its index and behind it, so that half of the length bounds the index.
-- Assumes nothing.
use Prim.Native.Nat.{ℕ, ◌*◌, ◌+◌, ◌/◌, ◌≤◌, ◌<◌}
use mathlib.Core.Path.{◌≡◌, sym, ◌∙◌}
use mathlib.Core.List.{List}
use native.Mathlib.Omega.{arith}
use lib.ListN.{length, get_or, set, length-set, get_or-eq_default}
use lib.Seq.{set_out}
use Rattle.basics.specs.declared.Value.{Value}
use Rattle.basics.specs.Values.{the_value, null}
use Rattle.columns.specs.Columns.{value_at, with_value}

pub reads-0 : (numbers : List ℕ) (index : ℕ) → length numbers ≤ index → 0 ≡ get_or numbers index 0
reads-0 numbers index past = sym (get_or-eq_default numbers 0 {n = index} past)

pub not_written : (numbers : List ℕ) (index number : ℕ) → length numbers ≤ index → numbers ≡ set numbers index number
not_written numbers index number past = sym (set_out numbers index number past)

module _ (values : List ℕ) (index : ℕ) where
  pub low-inside : (high : ℕ) → index < length values / 2 → 2 * index + 1 < length (set values (2 * index) high)
  low-inside high inside = simp length-set (omega arith)

  pub reads-null : length values / 2 < index → null ≡ value_at values index
  reads-null past = rw (sym (reads-0 values (2 * index) (omega arith)), sym (reads-0 values (2 * index + 1) (omega arith)))

  -- a column that ends within a value has its high half alone
  pub reads-high : (high : ℕ) → length values / 2 ≤ index → high ≡ get_or values (2 * index) 0 → the_value high 0 ≡ value_at values index
  reads-high high last high-so = rw (high-so, sym (reads-0 values (2 * index + 1) (omega arith)))

  module _ (value : Value) where
    pub value-not-written : length values / 2 < index → values ≡ with_value values index value
    value-not-written past =
        let high = not_written values (2 * index) value.high (omega arith) in
        rw (sym high, sym (not_written values (2 * index + 1) value.low (omega arith)))

    pub high-written : (left : List ℕ) → length values / 2 ≤ index → left ≡ set values (2 * index) value.high → left ≡ with_value values index value
    high-written left last left_so =
        let half = set values (2 * index) value.high in
        left_so ∙ not_written half (2 * index + 1) value.low (simp length-set (omega arith))
