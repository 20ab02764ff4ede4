-- The turns of the loop that sums word by word: what is left, summed onto the sum so far, is the whole sum.
-- Assumes nothing.
use Prim.Native.Nat.{ℕ, ◌+◌, ◌-◌, ◌*◌, ◌≤◌, ◌<◌}
use mathlib.Core.Path.{◌≡◌, refl, ap, ◌∙◌}
use mathlib.Core.List.{List, [], ◌∷◌}
use native.Mathlib.Omega.{arith}
use lib.ListN.{length, get_or, take, drop}
use lib.Seq.{take_all}
use Rattle.checksum.specs.Sum.{carry_round, sum_onto}

pub word-next : (sum next : ℕ) (left : List ℕ) → 2 ≤ length left → next ≡ carry_round (sum + (get_or left 0 0 * 256 + get_or left 1 0))
    → sum_onto next (take (length left - 2) (drop 2 left)) ≡ sum_onto sum left
unfolding sum_onto
word-next sum next [] two next-so = absurd (omega arith)
word-next sum next (high ∷ []) two next-so = absurd (omega arith)
word-next sum next (high ∷ low ∷ rest) two next-so = rw (next-so, take_all (length (high ∷ low ∷ rest) - 2) rest (omega arith))

pub odd-ends : (sum whole : ℕ) (left : List ℕ) → 1 ≤ length left → length left < 2 → whole ≡ carry_round (sum + (get_or left 0 0 * 256 + 0)) → whole ≡ sum_onto sum left
unfolding sum_onto
odd-ends sum whole [] some few whole-so = absurd (omega arith)
odd-ends sum whole (last ∷ []) some few whole-so = whole-so ∙ ap (λ word. carry_round (sum + word)) (omega arith)
odd-ends sum whole (high ∷ low ∷ rest) some few whole-so = absurd (omega arith)

pub even-ends : (sum : ℕ) (left : List ℕ) → length left < 1 → sum ≡ sum_onto sum left
unfolding sum_onto
even-ends sum [] none = refl
even-ends sum (byte ∷ rest) none = absurd (omega arith)
