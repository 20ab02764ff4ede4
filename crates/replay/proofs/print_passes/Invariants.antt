-- `replay::print_passes` is safe and ends. The invariant: on each pass that was passed are at most 255 rides, so that their sum does not overflow.
-- Assumes nothing.
use Rattle.std.proofs.Common.{◌*◌, ◌≤◌}
use Rattle.replay.proofs.print_passes.Given as goal

abbrev pub invariant-loop-place : goal.invariant-loop-place
invariant-loop-place g l = l.left ≤ 255 * l.place
