-- `replay::main` is safe and ends. The invariant: at most 255 more are in each sum for each turn that was taken, so that no sum overflows in as many.
-- Assumes nothing.
use Rattle.std.proofs.Common.{◌*◌, ◌≤◌}
use Rattle.replay.proofs.main.Given as goal

abbrev pub invariant-loop : goal.invariant-loop
invariant-loop l = (l.sold ≤ 255 * l.counter) × (l.boarded ≤ 255 * l.counter)
