-- `quorum::is_within` meets its contract. From 8 acceptors on every u8 is below 2 ^ M; below 8, what is left of the set above bit M is 0
-- exactly where the set is below 2 ^ M.
-- Assumes nothing.
use mathlib.Core.Path.{◌≡◌, sym, ◌∙◌}
use Prim.Native.Nat.{ℕ, ◌/◌, ◌^◌, ◌≤◌, ◌<◌}
use native.Mathlib.Nat.{div-eq_of_lt, le-div_iff_mul-le, lt_of_lt_of_le}
use native.Mathlib.Decide.{dec_lt}
use native.Mathlib.Omega.{arith}
use lib.Dec.{eqb, ltb}
use lib.Pow.{pow_mono, pow_pos}
use borrow.Author.Tests.{eq-eqb, ne_eqb, le-leb, le-ltb, lt-ltb}
use Rattle.quorum.specs.Quorum.{within}
use Rattle.quorum.proofs.Laws.{within-iff}
use Rattle.quorum.proofs.is_within.Goals as goal

nothing_above : (acceptors set : ℕ) → eqb (set / 2 ^ acceptors) 0 ≡ within acceptors set
unfolding within
nothing_above acceptors set = go (dec_lt set (2 ^ acceptors))
  where
    go : Dec (set < 2 ^ acceptors) → eqb (set / 2 ^ acceptors) 0 ≡ ltb set (2 ^ acceptors)
    go (yes small) = eq-eqb (set / 2 ^ acceptors) 0 (div-eq_of_lt small) ∙ sym (lt-ltb set (2 ^ acceptors) small)
    go (no large) =
        let one : 1 ≤ set / 2 ^ acceptors = (le-div_iff_mul-le (pow_pos acceptors)).1 (omega arith) in
        ne_eqb (set / 2 ^ acceptors) 0 (λ none. omega arith) ∙ sym (le-ltb set (2 ^ acceptors) (omega arith))

pub returns-then-acceptors-ge8 : goal.returns-then-acceptors-ge8
returns-then-acceptors-ge8 c =
    let set = c.args.set in
    let acceptors = c.args.acceptors in
    let many : 8 ≤ acceptors = omega arith in
    le-leb 8 acceptors many ∙ sym ((within-iff acceptors set).1 (lt_of_lt_of_le c.ranges.set.fits (pow_mono many)))

pub returns-else-acceptors-ge8 : goal.returns-else-acceptors-ge8
returns-else-acceptors-ge8 c = nothing_above c.args.acceptors c.args.set
