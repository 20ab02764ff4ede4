-- `checksum::words_onto` meets its contract. The invariant: the words that are left, summed onto the sum so far, come to the whole sum.
-- Assumes nothing.
use Prim.Native.Nat.{◌+◌}
use mathlib.Core.Path.{ap, ◌∙◌}
use Rattle.checksum.specs.Sum.{carry_round}
use Rattle.checksum.proofs.Turns.{word-next, odd-ends, even-ends}
use Rattle.checksum.proofs.words_onto.Goals as goal

pub loop-left-preserved : goal.loop-left-preserved
loop-left-preserved c =
    word-next _ _ _ c.in-len2-up.len_at_least (c.with_word-sum.ensures ∙ ap (λ word. carry_round (c.loop-left.sum + word)) c.word.ensures) ∙ c.loop-left.invariant

pub returns-in-empty : goal.returns-in-empty
returns-in-empty c = even-ends _ _ c.in-empty.len_below ∙ c.loop-left.invariant

pub returns-in-len1-up : goal.returns-in-len1-up
returns-in-len1-up c =
    odd-ends _ _ _ c.in-len1-up.len_at_least c.in_default.len_below
    (c.with_word.ensures ∙ ap (λ word. carry_round (c.loop-left.sum + word)) c.word-in-len1-up.ensures)
    ∙ c.loop-left.invariant
