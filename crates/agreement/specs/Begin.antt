-- How a run begins: each player's tables are set fresh by its own call, whatever they held. The calls are for that alone: in mid-run the same is a slip, after which
-- two values can be decided (agreement/specs/Slips.antt).
-- Assumes nothing.
use Rattle.std.specs.Prelude.{ℕ, ◌≡◌, []}
use Rattle.basics.specs.declared.Verdict.TheVariants.{Done}
use Rattle.basics.specs.Verdict.{verdict_number}
use Rattle.quorum.specs.declared.Settings.{Settings}
use Rattle.primary.specs.Primary.{primary_fresh}
use Rattle.acceptor_tables.specs.Tables.{acceptor_fresh}
use Rattle.backup_tables.specs.Tables.{backup_fresh}
use Rattle.learner_tables.specs.Tables.{learner_fresh}
use Rattle.agreement.specs.Run.{Boxes, fresh_boxes}

-- What the calls leave of the tables that were lent, before anything is sent or wanted.
abbrev pub begun : Settings → (lent : Boxes) → Boxes
begun s lent = record {
  primary = (primary_fresh s lent.primary).left;
  acceptor = λ own. (acceptor_fresh s (lent.acceptor own)).left;
  backup = λ own. (backup_fresh s (lent.backup own)).left;
  learner = λ which. (learner_fresh s (lent.learner which)).left;
  packets = [];
  wanted = [];
}

-- Each of them answered done.
pub record AllDone (s : Settings) (lent : Boxes) : Type 0 where
  pub primary : (primary_fresh s lent.primary).answer ≡ verdict_number Done
  pub acceptors : (own : ℕ) → (acceptor_fresh s (lent.acceptor own)).answer ≡ verdict_number Done
  pub backups : (own : ℕ) → (backup_fresh s (lent.backup own)).answer ≡ verdict_number Done
  pub learners : (which : ℕ) → (learner_fresh s (lent.learner which)).answer ≡ verdict_number Done

-- Then they left the boxes with which every run begins.
abbrev pub RunBegins : Type 0
RunBegins = (s : Settings) (lent : Boxes) → AllDone s lent → begun s lent ≡ fresh_boxes s.instances
