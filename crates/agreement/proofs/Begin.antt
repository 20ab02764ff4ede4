-- The calls that set tables fresh leave the boxes with which a run begins, table by table: each is left fresh where its call is done.
-- Assumes nothing.
use mathlib.Core.List.{[]}
use Rattle.primary.proofs.Laws as primary
use Rattle.acceptor_tables.proofs.Laws as acceptors
use Rattle.backup_tables.proofs.Laws as backups
use Rattle.learner_tables.proofs.Laws as learners
use Rattle.agreement.specs.Begin.{RunBegins}

pub run-begins : RunBegins
run-begins s lent done = λ i. record {
  primary = (primary.fresh-promises s).done_leaves_fresh lent.primary done.primary i;
  acceptor = λ own. (acceptors.fresh-promises s).done_leaves_fresh (lent.acceptor own) (done.acceptors own) i;
  backup = λ own. (backups.fresh-promises s).done_leaves_fresh (lent.backup own) (done.backups own) i;
  learner = λ which. (learners.fresh-promises s).done_leaves_fresh (lent.learner which) (done.learners which) i;
  packets = [];
  wanted = [];
}
