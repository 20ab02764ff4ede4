-- `learner_file::put_cell` meets its contract: its stores stand one behind the other.
-- Assumes nothing.
use Prim.Native.Nat.{◌+◌}
use native.Mathlib.Omega.{arith}
use lib.ListN.{length-set}
use Rattle.learner_file.proofs.Ways.{cell-not-put, cell-put}
use Rattle.learner_file.proofs.put_cell.Goals as goal

pub returns-then-buffer-at : goal.returns-then-buffer-at
returns-then-buffer-at c = cell-not-put _ _ _ _ c.saved_length-at.ensures c.if-buffer-at.true

pub shape_of-buffer : goal.shape_of-buffer
shape_of-buffer c =
    omega (arith, length-set c.write.new.bytes (c.saved_length-at.result + 4) c.args.cell.set)

pub returns : goal.returns
returns c =
    let start = c.args in
    rw (c.write-3.ensures, c.write-2.ensures, c.write.ensures)
    (cell-put start.cell start.buffer.now _ _ c.saved_length-at.ensures c.if-buffer-at.false)
