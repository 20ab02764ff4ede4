-- `bench_lines::number_within` meets its contract: a byte that is no digit has the number 16, which is none of these.
-- Assumes nothing.
use mathlib.Core.Path.{◌∙◌}
use Rattle.bench_lines.proofs.Names.{within-none, within-some}
use Rattle.bench_lines.proofs.number_within.Goals as goal

pub returns-in_err-digit : goal.returns-in_err-digit
returns-in_err-digit c = c.from_residual.ensures ∙ within-none c.args.first c.args.last c.args.byte c.requires c.in_err-digit.ensures

pub returns : goal.returns
returns c = c.then_some.ensures ∙ rw c.from-number.ensures (within-some c.args.first c.args.last c.args.byte _ c.in_ok-digit.ensures)
