-- A cell is the fresh one exactly if each field is, in whichever order they are compared.
-- Assumes nothing.
use mathlib.Core.Path.{◌≡◌, refl}
use mathlib.Core.Bool.{Bool, true, false, ◌&&◌}
use lib.Dec.{eqb}
use Rattle.basics.specs.Rounds.{the_round, is_none, same_round}
use Rattle.basics.specs.Values.{is_null}
use Rattle.backup_cell.specs.declared.Cell.{Cell}
use Rattle.backup_cell.specs.Cell.{idle, is_fresh}

in-order : (r p s b v o : Bool) → (r && (p && (s && (b && (v && o))))) ≡ (p && r && s && b && v && o)
in-order false false s b v o = refl
in-order false true s b v o = refl
in-order true false s b v o = refl
in-order true true false b v o = refl
in-order true true true false v o = refl
in-order true true true true v o = refl

pub field-by-field : (c : Cell)
    → (same_round c.round (the_round 0) && (eqb c.phase idle && (eqb c.set 0 && (is_none c.best_vote_round && (is_null c.best_value && is_null c.own_value)))))
    ≡ is_fresh c
unfolding is_fresh
field-by-field c =
    in-order (same_round c.round (the_round 0)) (eqb c.phase idle) (eqb c.set 0) (is_none c.best_vote_round) (is_null c.best_value) (is_null c.own_value)
