-- `bench_lines::player_of` meets its contract: a name's length and letter say which of the definition's tests it passes.
-- Assumes nothing.
use native.Mathlib.Omega.{arith}
use mathlib.Core.Path.{◌∙◌}
use Rattle.bench_lines.proofs.Names.{names-primary, names-learner, names-acceptor, names-no-acceptor, names-backup, names-no-backup, names-none}
use Rattle.bench_lines.proofs.player_of.Goals as goal

pub returns-in-112 : goal.returns-in-112
returns-in-112 c = names-primary c.args.name.now (omega arith) (omega arith)

pub returns-in-108 : goal.returns-in-108
returns-in-108 c = names-learner c.args.name.now (omega arith) (omega arith)

pub returns-in_ok-number_within-in-97 : goal.returns-in_ok-number_within-in-97
returns-in_ok-number_within-in-97 c = names-acceptor c.args.name.now (omega arith) (omega arith) _ c.in_ok-number_within-in-97.ensures

pub returns-in_err-number_within-in-97 : goal.returns-in_err-number_within-in-97
returns-in_err-number_within-in-97 c =
    c.from_residual.ensures ∙ names-no-acceptor c.args.name.now (omega arith) (omega arith) c.in_err-number_within-in-97.ensures

pub returns-in_ok-number_within-in-98 : goal.returns-in_ok-number_within-in-98
returns-in_ok-number_within-in-98 c = names-backup c.args.name.now (omega arith) (omega arith) _ c.in_ok-number_within-in-98.ensures

pub returns-in_err-number_within-in-98 : goal.returns-in_err-number_within-in-98
returns-in_err-number_within-in-98 c =
    c.from_residual-in_err-number_within-in-98.ensures ∙ names-no-backup c.args.name.now (omega arith) (omega arith) c.in_err-number_within-in-98.ensures

pub returns-in_default : goal.returns-in_default
returns-in_default c = names-none c.args.name.now (λ one. (λ p. omega arith, λ l. omega arith)) (λ two. (λ a. omega arith, λ b. omega arith))

pub returns-in_default-2 : goal.returns-in_default-2
returns-in_default-2 c = names-none c.args.name.now (λ one. (λ p. omega arith, λ l. omega arith)) (λ two. (λ a. omega arith, λ b. omega arith))

pub returns-in_default-3 : goal.returns-in_default-3
returns-in_default-3 c = names-none c.args.name.now (λ one. (λ p. omega arith, λ l. omega arith)) (λ two. (λ a. omega arith, λ b. omega arith))

pub returns-in_default-4 : goal.returns-in_default-4
returns-in_default-4 c = names-none c.args.name.now (λ one. (λ p. omega arith, λ l. omega arith)) (λ two. (λ a. omega arith, λ b. omega arith))
