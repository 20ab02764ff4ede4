-- `quorum::with_member` meets its contract. The test that it branches on is the definition's; where that fails, the member has a bit in a u8
-- that is not in the set, and the sum with that bit fits.
-- Assumes nothing.
use mathlib.Core.Path.{◌≡◌, refl, sym, ◌∙◌}
use mathlib.Core.Bool.{Bool, true, false, ◌||◌, true≢false}
use Prim.Native.Nat.{ℕ, ◌+◌, ◌^◌, ◌<◌}
use native.Mathlib.Omega.{arith}
use lib.Dec.{leb}
use borrow.Author.Tests.{leb-false}
use Rattle.quorum.specs.Quorum.{has_member, with_member}
use Rattle.quorum.proofs.Bits.{added}
use Rattle.quorum.proofs.Laws.{absent-iff, with-member-absent}
use Rattle.quorum.proofs.with_member.Goals as goal

neither : (first second : Bool) → (first || second) ≡ false → (first ≡ false) × (second ≡ false)
neither true second test = absurd (true≢false test)
neither false second test = (refl, test)

module _ (set member : ℕ) (present : Bool) (present-so : present ≡ has_member set member) (fails : (leb 8 member || present) ≡ false) where
  small : member < 8
  small = leb-false 8 member (neither (leb 8 member) present fails).0

  absent : has_member set member ≡ false
  absent = sym present-so ∙ (neither (leb 8 member) present fails).1

  fits : set < 2 ^ 8 → set + 2 ^ member < 2 ^ 8
  fits byte = (added member set ((absent-iff set member).0 absent)).below 8 small byte

pub returns-then-member-has_member : goal.returns-then-member-has_member
unfolding with_member
returns-then-member-has_member c = rw (← c.has_member.ensures, c.if-member-has_member.true)

pub overflow_cast-result : goal.overflow_cast-result
overflow_cast-result c = omega (arith, small _ _ _ c.has_member.ensures c.if-member-has_member.false)

pub overflow_shl-result : goal.overflow_shl-result
overflow_shl-result c = small _ _ _ c.has_member.ensures c.if-member-has_member.false

pub overflow_add-result : goal.overflow_add-result
overflow_add-result c = omega (arith, fits _ _ _ c.has_member.ensures c.if-member-has_member.false c.ranges.set.fits)

pub returns : goal.returns
returns c =
    rw (with-member-absent c.args.set c.args.member (small _ _ _ c.has_member.ensures c.if-member-has_member.false) (absent _ _ _ c.has_member.ensures c.if-member-has_member.false))
    (omega (arith, fits _ _ _ c.has_member.ensures c.if-member-has_member.false c.ranges.set.fits))
