-- The next round is the smallest that the backup owns above both the cell's round and the floor, and where the formula passes the last round there is none.
-- It is also the one of the four numbers above both that has the backup's low two bits, which are the remainder by 4.
-- Assumes nothing.
use Prim.Native.Nat.{ℕ, ◌+◌, ◌-◌, ◌%◌, ◌≤◌, ◌<◌, max}
use mathlib.Core.Path.{◌≡◌, sym, ap, ◌∙◌}
use lib.Bits.{bit_and}
use native.Mathlib.Omega.{arith}
use Rattle.basics.specs.Rounds.{the_round}
use Rattle.basics.proofs.Rounds.{owner-is, owner-remainder}
use Rattle.basics.proofs.Bits.{low_bits}
use Rattle.backup_rule.specs.Rule.{next_round}
use Rattle.backup_rule.specs.Promises.{NextSmallest, NoneLeft, NextByBits}

module _ (own above : ℕ) where
  next-above : above < next_round own above
  unfolding next_round
  next-above = omega arith

  next-remainder : own ≤ 3 → next_round own above % 4 ≡ own
  unfolding next_round
  next-remainder most = omega arith

  next-least : own ≤ 3 → (number : ℕ) → above < number → number % 4 ≡ own → next_round own above ≤ number
  unfolding next_round
  next-least most number higher remainder = omega arith

pub next-smallest : NextSmallest
next-smallest own held floor least most below =
    let higher = next-above own (max held floor) in
    record {
      owned = owner-is (the_round (next_round own (max held floor))) own least below (next-remainder own (max held floor) most);
      above_held = omega (arith, higher);
      above_floor = omega (arith, higher);
      least = λ other mine past-held past-floor. next-least own (max held floor) most other.0 (omega arith) (owner-remainder other own least most mine).0;
    }

pub none_left : NoneLeft
none_left own held floor least most past r fits mine past-held past-floor =
    let owned = owner-remainder r own least most mine in
    let low = next-least own (max held floor) most r.0 (omega arith) owned.0 in
    owned.1 (omega arith)

-- ---- by bits

pub next-by-bits : NextByBits
unfolding next_round
next-by-bits own above =
    let step = 1 + (own + 4 - (above + 1) % 4) % 4 in
    record {
      step = step;
      from_1 = omega arith;
      to_4 = omega arith;
      sum = omega arith;
      own_bits = omega (arith, low_bits (above + step), low_bits own);
      no_other = λ other from_1 to_4 same. omega (arith, same, low_bits (above + other), low_bits own);
    }

module _ (own above : ℕ) where
  abbrev Has : (step : ℕ) → Type 0
  Has step = bit_and (above + step) 3 ≡ bit_and own 3

  -- whichever of the four has the bits is the next round
  pub next-is : (step : ℕ) → 1 ≤ step → step ≤ 4 → Has step → above + step ≡ next_round own above
  next-is step from_1 to_4 has = let next = next-by-bits own above in ap (λ (s : ℕ). above + s) (next.no_other step from_1 to_4 has) ∙ sym next.sum

  -- where the first three have not, the fourth has
  pub fourth-is : (Has 1 → ⊥) → (Has 2 → ⊥) → (Has 3 → ⊥) → above + 4 ≡ next_round own above
  fourth-is not-1 not-2 not-3 =
      next-is 4 (omega arith) (omega arith)
      (omega (arith, not-1, not-2, not-3, low_bits (above + 1), low_bits (above + 2), low_bits (above + 3), low_bits (above + 4), low_bits own))
