-- `bench::Input::next_line` is safe and ends. The invariant: no more of a line is kept than there is room for.
-- Assumes nothing.
use Rattle.std.proofs.Common.{◌≤◌}
use Rattle.bench.proofs.Input.next_line.Given as goal

abbrev pub invariant-loop : goal.invariant-loop
invariant-loop g l = l.length ≤ 128
