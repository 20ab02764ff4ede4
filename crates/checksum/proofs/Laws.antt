-- The promises of one's complement sums, by induction over the words, two bytes at a time; and what they come to for a field that is the complement of a sum:
-- field and words together are a multiple of 65,535, and no one byte can change and leave them one.
-- Assumes nothing.
use Prim.Native.Nat.{ℕ, zero, suc, ◌+◌, ◌-◌, ◌*◌, ◌/◌, ◌%◌, ◌≤◌, ◌<◌}
use mathlib.Core.Path.{◌≡◌, refl, sym, ap, ◌∙◌}
use mathlib.Core.List.{List, [], ◌∷◌, ◌++◌}
use native.Mathlib.Nat.{add-zero, zero-add}
use native.Mathlib.Omega.{arith}
use lib.ListN.{length, get_or, set}
use Rattle.basics.specs.Ladder.{when◌then◌else◌}
use Rattle.checksum.specs.Sum.{carry_round, sum_onto, complement}
use Rattle.checksum.specs.Promises.{plain_sum, residue, SumIsResidue, PartsAdd, weight, ByteMoves}

-- ---- residues

pub residue-of : (n : ℕ) → 0 < n → residue n ≡ (n - 1) % 65535 + 1
unfolding residue
residue-of zero some = absurd (omega arith)
residue-of (suc n) some = ap (λ m. m % 65535 + 1) (omega arith)

residue-suc : (n : ℕ) → residue (suc n) ≡ n % 65535 + 1
unfolding residue
residue-suc n = refl

residue-low : (n : ℕ) → n < 65536 → residue n ≡ n
unfolding residue
residue-low zero low = refl
residue-low (suc n) low = omega arith

pub residue-at-most : (n : ℕ) → residue n ≤ 65535
unfolding residue
residue-at-most zero = omega arith
residue-at-most (suc n) = omega arith

-- what differs by a multiple of 65,535 has one residue, unless it is 0
pub same-residue : (m n : ℕ) → m % 65535 ≡ n % 65535 → (m ≡ 0 → n ≡ 0) → (n ≡ 0 → m ≡ 0) → residue m ≡ residue n
unfolding residue
same-residue zero zero same forth back = refl
same-residue zero (suc n) same forth back = absurd (omega (arith, forth refl))
same-residue (suc m) zero same forth back = absurd (omega (arith, back refl))
same-residue (suc m) (suc n) same forth back = omega arith

pub residue-beside : (m n : ℕ) → residue (residue m + n) ≡ residue (m + n)
unfolding residue
residue-beside zero n = refl
residue-beside (suc m) n = same-residue (m % 65535 + 1 + n) (suc m + n) (omega arith) (λ none. absurd (omega arith)) (λ none. absurd (omega arith))

-- bringing the carry of two words round keeps the residue, whatever is summed beside
carried-residue : (sum rest : ℕ) → sum < 131071 → residue (carry_round sum + rest) ≡ residue (sum + rest)
carried-residue sum rest low = go (sum / 65536) refl
  where
    go : (carry : ℕ) → sum / 65536 ≡ carry → residue (carry_round sum + rest) ≡ residue (sum + rest)
    go zero none = ap residue (omega arith)
    go (suc zero) one = residue-of (carry_round sum + rest) (omega arith) ∙ omega arith ∙ sym (residue-of (sum + rest) (omega arith))
    go (suc (suc carry)) more = absurd (omega arith)

carried-low : (sum : ℕ) → sum < 131071 → carry_round sum < 65536
carried-low sum low = omega arith

-- ---- the promises

pub sum-is-residue : SumIsResidue
unfolding sum_onto plain_sum
sum-is-residue carried [] low bytes = sym (residue-low carried low) ∙ ap residue (sym (add-zero carried))
sum-is-residue carried (high ∷ []) low bytes =
    let plain : carried + high * 256 < 131071 = omega (arith, bytes 0) in
    sym (residue-low (carry_round (carried + high * 256)) (carried-low (carried + high * 256) plain))
    ∙ ap residue (sym (add-zero (carry_round (carried + high * 256)))) ∙ carried-residue (carried + high * 256) 0 plain ∙ ap residue (add-zero (carried + high * 256))
sum-is-residue carried (high ∷ second ∷ rest) low bytes =
    let sum = carried + (high * 256 + second) in
    let plain : sum < 131071 = omega (arith, bytes 0, bytes 1) in
    sum-is-residue (carry_round sum) rest (carried-low sum plain) (λ i. bytes (suc (suc i))) ∙ carried-residue sum (plain_sum rest) plain ∙ ap residue (omega arith)

pub parts_add : PartsAdd
unfolding sum_onto
parts_add carried [] back even = refl
parts_add carried (high ∷ []) back even = absurd (omega arith)
parts_add carried (high ∷ low ∷ rest) back even = parts_add (carry_round (carried + (high * 256 + low))) rest back (omega arith)

pub byte-moves : ByteMoves
unfolding plain_sum weight when◌then◌else◌
byte-moves [] index new inside = absurd (omega arith)
byte-moves (high ∷ []) zero new inside = omega arith
byte-moves (high ∷ []) (suc index) new inside = absurd (omega arith)
byte-moves (high ∷ low ∷ rest) zero new inside = omega arith
byte-moves (high ∷ low ∷ rest) (suc zero) new inside = omega arith
byte-moves (high ∷ low ∷ rest) (suc (suc index)) new inside =
    let moved : plain_sum (set rest index new) + weight index * get_or rest index 0 ≡ plain_sum rest + weight index * new = byte-moves rest index new (omega arith) in
    let same : weight (suc (suc index)) ≡ weight index =
    let parity : suc (suc index) % 2 ≡ index % 2 = omega arith in rw parity in
    rw same (omega arith)

-- ---- for callers

pub plain-append : (front back : List ℕ) → length front % 2 ≡ 0 → plain_sum (front ++ back) ≡ plain_sum front + plain_sum back
unfolding plain_sum
plain-append [] back even = sym (zero-add (plain_sum back))
plain-append (high ∷ []) back even = absurd (omega arith)
plain-append (high ∷ low ∷ rest) back even = let others : plain_sum (rest ++ back) ≡ plain_sum rest + plain_sum back = plain-append rest back (omega arith) in omega arith

-- a word and its complement together are all ones, so that a sum with its complement is a multiple of 65,535
pub complement-closes : (plain : ℕ) → (plain + complement (residue plain)) % 65535 ≡ 0
unfolding residue
complement-closes zero = refl
complement-closes (suc n) = let so : residue (suc n) ≡ n % 65535 + 1 = residue-suc n in omega arith

-- where words and what stands beside them are a multiple of 65,535, they are none once one byte is another
pub one-byte-tells : (bytes : List ℕ) (index new beside : ℕ) → index < length bytes → get_or bytes index 0 < 256 → new < 256 → (new ≡ get_or bytes index 0 → ⊥)
    → (plain_sum bytes + beside) % 65535 ≡ 0 → (plain_sum (set bytes index new) + beside) % 65535 ≡ 0 → ⊥
unfolding weight when◌then◌else◌
one-byte-tells bytes index new beside inside old-fits new-fits other before after = go (index % 2) refl
  where
    moves : plain_sum (set bytes index new) + weight index * get_or bytes index 0 ≡ plain_sum bytes + weight index * new
    moves = byte-moves bytes index new inside

    go : (parity : ℕ) → index % 2 ≡ parity → ⊥
    go zero even =
        let moved : plain_sum (set bytes index new) + 256 * get_or bytes index 0 ≡ plain_sum bytes + 256 * new = rw even at moves in
        let still : plain_sum (set bytes index new) ≡ plain_sum bytes = omega arith in
        other (omega arith)
    go (suc zero) odd = let moved : plain_sum (set bytes index new) + 1 * get_or bytes index 0 ≡ plain_sum bytes + 1 * new = rw odd at moves in other (omega arith)
    go (suc (suc parity)) more = omega arith
