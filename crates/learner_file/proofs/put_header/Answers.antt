-- `learner_file::put_header` meets its contract: its stores stand one behind the other.
-- Assumes nothing.
use native.Mathlib.Omega.{arith}
use lib.ListN.{length-set}
use lib.Seq.{length-sets}
use Rattle.learner_file.specs.File.{mark}
use Rattle.learner_file.proofs.Ways.{header-not-put, header-put}
use Rattle.learner_file.proofs.put_header.Goals as goal

pub returns-then-buffer-lt-HEADER_LENGTH : goal.returns-then-buffer-lt-HEADER_LENGTH
returns-then-buffer-lt-HEADER_LENGTH c = header-not-put _ _ _ _ c.if-buffer-lt-HEADER_LENGTH.true

pub bounds-buffer-1 : goal.bounds-buffer-1
bounds-buffer-1 c = simp length-set (omega arith)

pub bounds-buffer-2 : goal.bounds-buffer-2
bounds-buffer-2 c = simp length-set (omega arith)

pub bounds-buffer-5 : goal.bounds-buffer-5
bounds-buffer-5 c = omega (arith, length-sets c.args.buffer.now 0 mark)

pub shape_of-buffer : goal.shape_of-buffer
shape_of-buffer c =
    omega (arith, length-sets c.args.buffer.now 0 mark, length-set c.write.new.bytes 5 c.args.acceptors)

pub returns : goal.returns
returns c =
    let start = c.args in
    rw (c.write-2.ensures, c.write.ensures)
    (header-put start.version start.acceptors start.instances start.buffer.now c.if-buffer-lt-HEADER_LENGTH.false)
