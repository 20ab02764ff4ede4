-- `frames::udp_checksum` meets its contract: the sum is that of the definition, in another order, and its complement is sent as all ones where it is zero.
-- Assumes nothing.
use Prim.Native.Nat.{ℕ}
use mathlib.Core.Path.{◌≡◌, ap, ◌∙◌}
use mathlib.Core.List.{List}
use lib.ListN.{length, take, drop}
use Rattle.std.proofs.Common.{arith, rules}
use Rattle.numbers.specs.BigEndian.{Bytes}
use Rattle.checksum.specs.Sum.{sum_onto, complement}
use Rattle.frames.specs.Frame.{frame_length, udp_checksum, sent_as}
use Rattle.frames.proofs.Sums.{udp-summed, sent-zero, sent-other}
use Rattle.frames.proofs.udp_checksum.Goals as goal

-- what is computed, as it is sent
module _ (f : List ℕ) (bytes : Bytes f) (long : length f ≡ frame_length) where
  summed : (before whole computed : ℕ) → before ≡ sum_onto 61 (take 14 (drop 26 f)) → whole ≡ sum_onto before (take 36 (drop 42 f)) → computed ≡ complement whole
      → sent_as computed ≡ udp_checksum f
  summed before whole computed before-so whole-so computed-so = ap sent_as computed-so ∙ udp-summed f bytes long before whole before-so whole-so

pub returns-then-computed-eq0 : goal.returns-then-computed-eq0
returns-then-computed-eq0 c =
    sent-zero _ c.if-computed-eq0.true
    ∙ summed c.args.frame.now (λ i. search (arith, rules)) c.requires _ _ _ c.sum_onto-before.ensures c.sum_onto.ensures c.complement-computed.ensures

pub returns : goal.returns
returns c =
    sent-other _ c.if-computed-eq0.false
    ∙ summed c.args.frame.now (λ i. search (arith, rules)) c.requires _ _ _ c.sum_onto-before.ensures c.sum_onto.ensures c.complement-computed.ensures
