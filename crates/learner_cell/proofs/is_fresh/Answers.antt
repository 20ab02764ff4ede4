-- `learner_cell::is_fresh` meets its contract: the cell is compared, field by field, with the fresh one.
-- Assumes nothing.
use Rattle.std.proofs.Common.{sym, ap, ◌∙◌}
use Rattle.std.proofs.Math.Bool.{and_assoc}
use Rattle.std.specs.Prelude.{◌&&◌, eqb}
use Rattle.basics.specs.Rounds.{is_none, same_round}
use Rattle.basics.specs.Values.{is_null, same_value}
use Rattle.learner_cell.specs.declared.Cell.{Cell}
use Rattle.learner_cell.specs.Cell.{is_fresh}
use Rattle.learner_cell.proofs.is_fresh.Goals as goal

pub returns : goal.returns
unfolding is_fresh
returns c =
    let cell = c.args.cell in
    let same = λ (other : Cell). same_round cell.round other.round && (eqb cell.set other.set && same_value cell.value other.value) in
    c.eq.ensures ∙ ap same c.fresh_cell.ensures ∙ sym (and_assoc (is_none cell.round) (eqb cell.set 0) (is_null cell.value))
