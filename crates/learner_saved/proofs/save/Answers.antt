-- `learner_saved::save` meets its contract: each return is a way out of `save`.
-- Assumes nothing.
use native.Mathlib.Omega.{arith}
use Rattle.learner_tables.specs.Lent.{tables_shared}
use Rattle.learner_saved.proofs.Ways.{brings, save-7, save-1, save-17, saves}
use Rattle.learner_saved.proofs.save.Goals as goal

pub returns-then-not-are_allowed : goal.returns-then-not-are_allowed
returns-then-not-are_allowed c = save-7 _ _ _ _ c.are_allowed.ensures c.if-not-are_allowed.true

pub returns-then-buffer-saved_length : goal.returns-then-buffer-saved_length
returns-then-buffer-saved_length c =
    save-1 _ _ _ _ c.are_allowed.ensures c.if-not-are_allowed.false _ c.saved_length.ensures c.if-buffer-saved_length.true

pub returns-then-not-all_possible : goal.returns-then-not-all_possible
returns-then-not-all_possible c =
    save-17 _ _ _ _ c.are_allowed.ensures c.if-not-are_allowed.false
    _ c.saved_length.ensures c.if-buffer-saved_length.false _ c.all_possible.ensures c.if-not-all_possible.true

pub overflow_cast-settings : goal.overflow_cast-settings
overflow_cast-settings c =
    omega (arith, (brings c.args.settings (tables_shared c.args.tables.now) _ c.are_allowed.ensures c.if-not-are_allowed.false).few.acceptors-most)

pub overflow_cast-settings-2 : goal.overflow_cast-settings-2
overflow_cast-settings-2 c =
    omega (arith, (brings c.args.settings (tables_shared c.args.tables.now) _ c.are_allowed.ensures c.if-not-are_allowed.false).few.instances-most)

pub returns : goal.returns
returns c =
    saves _ _ _ _ c.are_allowed.ensures c.if-not-are_allowed.false
    _ c.saved_length.ensures c.if-buffer-saved_length.false _ c.all_possible.ensures c.if-not-all_possible.false
    _ _ c.put_header.ensures c.put_cells.ensures
