-- Each way out of the call that sets a learner's tables fresh is what the definition says: where they are allowed, each column has its length for N, so that
-- filled with its fresh number it is the fresh column.
-- Assumes nothing.
use Prim.Native.Nat.{ℕ}
use mathlib.Core.Path.{◌≡◌, sym, ◌∙◌}
use mathlib.Core.Bool.{Bool, true, false}
use Rattle.basics.specs.declared.Verdict.TheVariants.{Done}
use Rattle.basics.specs.Outcome.{outcome}
use Rattle.basics.specs.Verdict.{verdict_number}
use Rattle.columns.proofs.Fresh.{fresh-refused, fresh-done}
use Rattle.quorum.specs.declared.Settings.{Settings}
use Rattle.learner_tables.specs.Tables.{Tables, fresh_tables, learner_allowed, filled_fresh, learner_fresh}
use Rattle.learner_tables.proofs.Laws.{allowed-tables}

module _ (s : Settings) (t : Tables) (fine : Bool) (fine-so : fine ≡ learner_allowed s t) where
  pub refused-7 : fine ≡ false → outcome 7 t ≡ learner_fresh s t
  unfolding learner_fresh
  refused-7 no_way = fresh-refused t (fresh_tables s.instances) fine-so no_way

  pub filled : fine ≡ true → (answer : ℕ) (after : Tables) → answer ≡ verdict_number Done → after ≡ filled_fresh t → outcome answer after ≡ learner_fresh s t
  unfolding learner_fresh
  filled passed answer after answer-so after-so =
      let sized = (allowed-tables s t (sym fine-so ∙ passed)).sized in
      fresh-done t (fresh_tables s.instances) fine-so passed answer-so (after-so ∙ rw (sized.of_rounds, sized.of_sets, sized.of_values))
