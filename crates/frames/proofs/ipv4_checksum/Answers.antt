-- `frames::ipv4_checksum` meets its contract: the two parts around the field, summed one after the other.
-- Assumes nothing.
use mathlib.Core.Path.{◌∙◌}
use Rattle.std.proofs.Common.{arith, rules}
use Rattle.frames.proofs.Sums.{ipv4-summed}
use Rattle.frames.proofs.ipv4_checksum.Goals as goal

pub returns : goal.returns
returns c =
    c.complement.ensures
    ∙ ipv4-summed c.args.frame.now (λ i. search (arith, rules)) c.requires _ _ c.sum_onto-before.ensures
    c.sum_onto.ensures
