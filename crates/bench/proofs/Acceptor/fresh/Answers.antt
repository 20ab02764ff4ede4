-- The vote rounds are fresh by the call that makes them, and the other columns by computation.
use Rattle.std.proofs.Common.{ap}
use Rattle.bench.specs.Bench.{tables_of_acceptor, fresh_acceptor}
use Rattle.bench.proofs.Acceptor.fresh.Goals as goal

-- src/main.rt:55:5
pub returns : goal.returns
returns c = ap (λ vote_rounds. tables_of_acceptor fresh_acceptor.rounds vote_rounds fresh_acceptor.values) c.fresh_vote_rounds.ensures
