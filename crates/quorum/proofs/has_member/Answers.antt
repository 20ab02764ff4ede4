-- `quorum::has_member` meets its contract. Below 8 its body is the definition; from 8 on no u8 has the bit.
-- Assumes nothing.
use mathlib.Core.Path.{refl, sym, ◌∙◌}
use Prim.Native.Nat.{◌≤◌}
use native.Mathlib.Omega.{arith}
use borrow.Author.Tests.{le-ltb}
use Rattle.quorum.specs.Quorum.{bit, has_member}
use Rattle.quorum.proofs.Bits.{bit-above}
use Rattle.quorum.proofs.Laws.{absent-iff}
use Rattle.quorum.proofs.has_member.Goals as goal

pub returns-then-member-lt8 : goal.returns-then-member-lt8
unfolding bit has_member
returns-then-member-lt8 c = refl

pub returns-else-member-lt8 : goal.returns-else-member-lt8
returns-else-member-lt8 c =
    let set = c.args.set in
    let member = c.args.member in
    let bitless : 8 ≤ member = omega arith in
    le-ltb member 8 bitless ∙ sym ((absent-iff set member).1 (bit-above 8 member set bitless c.ranges.set.fits))
