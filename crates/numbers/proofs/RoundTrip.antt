-- A number in bytes is read back as it was written, and written back as it was read: the bytes at its place are just its own, and those of another number none.
-- Assumes nothing.
use Prim.Native.Nat.{ℕ, zero, suc, ◌+◌, ◌≤◌}
use mathlib.Core.Path.{◌≡◌, refl, sym, ap, ◌∙◌}
use mathlib.Core.List.{List, ◌++◌, append_assoc}
use mathlib.Core.Bool.{Bool, true, false, cond}
use native.Mathlib.Numerals.{add-one}
use native.Mathlib.Omega.{arith}
use lib.Dec.{leb}
use lib.ListN.{length, take, drop}
use lib.Seq.{sets, sets-eq, length-sets, length-take-le, take_at, drop_at, set-get_or}
use borrow.Author.Tests.{leb-true}
use Rattle.numbers.specs.BigEndian.{big_endian, to_bytes, bytes_at, number_at, with_number_at}
use Rattle.numbers.specs.Promises.{WriteThenRead, ReadThenWrite}
use Rattle.numbers.proofs.Bytes.{number-within, stored-within, length-to_bytes, bytes_at-part, big_endian-to_bytes, to_bytes-number_at}

-- bytes that were stored at a place stand there
pub stored-stand : (p : List ℕ) (at : ℕ) (bytes : List ℕ) → at + length bytes ≤ length p → bytes_at (sets p at bytes) at (length bytes) ≡ bytes
stored-stand p at bytes inside =
    let after = drop (at + length bytes) p in
    let long = length-sets p at bytes in
    bytes_at-part (sets p at bytes) at (length bytes) (omega (arith, long))
    ∙ ap (λ (q : List ℕ). take (length bytes) (drop at q)) (sets-eq bytes p at inside ∙ append_assoc (take at p) bytes after)
    ∙ ap (take (length bytes)) (drop_at (take at p) (bytes ++ after) at (length-take-le at p (omega arith)))
    ∙ take_at bytes after (length bytes) refl

pub write-then-read : WriteThenRead
write-then-read p at w n inside fits =
    let bytes = to_bytes w n in
    let wide = length-to_bytes w n in
    let long = length-sets p at bytes in
    ap (λ q. number_at q at w) (stored-within p at w n inside) ∙ number-within (sets p at bytes) at w (omega (arith, long))
    ∙ ap (λ k. big_endian (bytes_at (sets p at bytes) at k)) (sym wide) ∙ ap big_endian (stored-stand p at bytes (omega (arith, wide))) ∙ big_endian-to_bytes w n fits

-- storing what stands at a place changes nothing
pub stands-stored : (p : List ℕ) (at w : ℕ) → sets p at (bytes_at p at w) ≡ p
stands-stored p at zero = refl
stands-stored p at (suc w) =
    ap (λ q. sets q (suc at) (bytes_at p (at + 1) w)) (set-get_or p at 0) ∙ ap (λ k. sets p (suc at) (bytes_at p k w)) (add-one at) ∙ stands-stored p (suc at) w

pub read-then-write : ReadThenWrite
unfolding with_number_at
read-then-write p bytes at w = either_way (leb (at + w) (length p)) refl
  where
    either_way : (b : Bool) → leb (at + w) (length p) ≡ b → cond b (sets p at (to_bytes w (number_at p at w))) p ≡ p
    either_way true inside = ap (sets p at) (to_bytes-number_at p bytes at w (leb-true _ _ inside)) ∙ stands-stored p at w
    either_way false _ = refl
