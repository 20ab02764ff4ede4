-- A column filled from its front with one item, a cell a turn. Said once for items of every type.
-- Assumes nothing.
use Prim.Native.Nat.{ℕ, zero, suc, ◌+◌, ◌≤◌, ◌<◌}
use mathlib.Core.Path.{◌≡◌, refl, ap, ◌∙◌}
use mathlib.Core.List.{List, [], ◌∷◌, ◌++◌}
use native.Mathlib.Numerals.{add-one}
use native.Mathlib.Omega.{arith}
use lib.ListN.{length, set, drop, replicate}

-- so many cells hold the item, and the others are as they came
pub record Filled {Item : Type 0} (before : List Item) (item : Item) (count : ℕ) (held : List Item) : Type 0 where
  pub within : count ≤ length before
  pub content : held ≡ replicate count item ++ drop count before

one_more : {Item : Type 0} (item : Item) (count : ℕ) (rest : List Item) → count < length rest
    → set (replicate count item ++ drop count rest) count item ≡ replicate (suc count) item ++ drop (suc count) rest
one_more item count [] low = absurd (omega arith)
one_more item zero (i ∷ is) low = refl
one_more item (suc count) (i ∷ is) low = ap (λ others. item ∷ others) (one_more item count is (omega arith))

pub fill-next : {Item : Type 0} {before : List Item} {item : Item} {count : ℕ} {held after : List Item}
    → Filled before item count held → count < length before → after ≡ set held count item → Filled before item (count + 1) after
fill-next {before = before} {item = item} {count = count} so_far inside after-so = record {
  within = omega arith;
  content = after-so ∙ ap (λ items. set items count item) so_far.content ∙ rw add-one (one_more item count before inside);
}
