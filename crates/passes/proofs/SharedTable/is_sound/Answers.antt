-- `passes::SharedTable::is_sound` meets its contract: each return is a way out of judging the table.
-- Assumes nothing.
use Rattle.passes.proofs.Ways.{wrong_size, too_many, one-twice, judged-by-rides}
use Rattle.passes.proofs.SharedTable.is_sound.Goals as goal

pub returns-then-not-is_sized : goal.returns-then-not-is_sized
returns-then-not-is_sized c = wrong_size _ _ _ c.is_sized.ensures c.if-not-is_sized.true

pub returns-then-self-gt-MOST_PASSES : goal.returns-then-self-gt-MOST_PASSES
returns-then-self-gt-MOST_PASSES c = too_many _ _ _ c.is_sized.ensures c.if-not-is_sized.false c.if-self-gt-MOST_PASSES.true

pub returns-then-has_twice : goal.returns-then-has_twice
returns-then-has_twice c =
    one-twice _ _ _ c.is_sized.ensures c.if-not-is_sized.false c.if-self-gt-MOST_PASSES.false _ c.has_twice.ensures c.if-has_twice.true

pub returns : goal.returns
returns c =
    judged-by-rides _ _ _ c.is_sized.ensures c.if-not-is_sized.false c.if-self-gt-MOST_PASSES.false _ c.has_twice.ensures
    c.if-has_twice.false
    _ c.rides_fit.ensures
