-- The turns of the loop that takes two words at a time: what is left, with the sum so far, has the residue of all.
-- Assumes nothing.
use Prim.Native.Nat.{ℕ, suc, ◌+◌, ◌-◌, ◌*◌, ◌/◌, ◌%◌, ◌≤◌, ◌<◌}
use mathlib.Core.Path.{◌≡◌, refl, sym, ap, ◌∙◌}
use mathlib.Core.List.{List, ◌∷◌}
use native.Mathlib.Nat.{add-mul-mod_self_left}
use native.Mathlib.Omega.{arith}
use lib.ListN.{length, get_or, take, drop}
use lib.Seq.{take_all}
use Rattle.numbers.specs.BigEndian.{Bytes}
use Rattle.checksum.specs.Sum.{sum_onto}
use Rattle.checksum.specs.Promises.{plain_sum, residue}
use Rattle.checksum.proofs.Laws.{same-residue, residue-beside, residue-at-most, sum-is-residue}

pub record Paired (carried : ℕ) (part : List ℕ) (sum : ℕ) (left : List ℕ) : Type 0 where
  pub low : sum ≤ 4294967296
  pub bytes : Bytes left
  pub same : residue (sum + plain_sum left) ≡ residue (carried + plain_sum part)

pub begins : (carried : ℕ) (part : List ℕ) → carried < 65536 → Bytes part → Paired carried part carried part
begins carried part low bytes = record { low = omega arith; bytes = bytes; same = refl }

-- multiples of 65,535 beside numbers do not move their remainders
beside-multiples : (m n x y : ℕ) → m + 65535 * x ≡ n + 65535 * y → m % 65535 ≡ n % 65535
beside-multiples m n x y same = sym (add-mul-mod_self_left m 65535 x) ∙ ap (λ k. k % 65535) same ∙ add-mul-mod_self_left n 65535 y

module _ {carried : ℕ} {part : List ℕ} {sum : ℕ} where
  pub pair-next : (left : List ℕ) → Paired carried part sum left → (pair next : ℕ) → 4 ≤ length left
      → pair ≡ get_or left 0 0 * 16777216 + get_or left 1 0 * 65536 + get_or left 2 0 * 256 + get_or left 3 0
      → next ≡ (sum + pair) % 4294967296 + (sum + pair) / 4294967296 → pair < 4294967296 → Paired carried part next (take (length left - 4) (drop 4 left))
  unfolding plain_sum
  pair-next (first ∷ second ∷ third ∷ fourth ∷ rest) so_far pair next more pair-so next-so fits =
      let low = so_far.low in
      let words = first * 256 + second + (third * 256 + fourth + plain_sum rest) in
      rw (take_all (length (first ∷ second ∷ third ∷ fourth ∷ rest) - 4) rest (omega arith)) record {
        low = omega arith;
        bytes = λ i. so_far.bytes (suc (suc (suc (suc i))));
        same = same-residue (next + plain_sum rest) (sum + words)
            (beside-multiples (next + plain_sum rest) (sum + words) (65537 * ((sum + pair) / 4294967296)) (first * 256 + second) (omega arith))
            (λ none. omega arith) (λ none. omega arith)
            ∙ so_far.same;
      }
  pair-next _ so_far pair next more pair-so next-so fits = absurd (omega arith)

  pub ends : (left : List ℕ) → Paired carried part sum left → carried < 65536 → Bytes part → (folded whole : ℕ) → folded ≡ residue sum
      → whole ≡ sum_onto folded left → whole ≡ sum_onto carried part
  ends left so_far low bytes folded whole folded-so whole-so =
      whole-so ∙ ap (λ n. sum_onto n left) folded-so ∙ sum-is-residue (residue sum) left (omega (arith, residue-at-most sum)) so_far.bytes
      ∙ residue-beside sum (plain_sum left) ∙ so_far.same ∙ sym (sum-is-residue carried part low bytes)
