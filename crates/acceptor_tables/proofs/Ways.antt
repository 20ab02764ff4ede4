-- Each way out of the call that sets an acceptor's tables fresh is what the definition says: where they are allowed, each column has its length for N, so that
-- filled with its fresh number it is the fresh column.
-- Assumes nothing.
use Prim.Native.Nat.{ℕ}
use mathlib.Core.Path.{◌≡◌, sym, ◌∙◌}
use mathlib.Core.Bool.{Bool, true, false}
use Rattle.basics.specs.declared.Verdict.TheVariants.{Done}
use Rattle.basics.specs.Outcome.{outcome}
use Rattle.basics.specs.Verdict.{verdict_number}
use Rattle.columns.proofs.Fresh.{fresh-refused, fresh-done}
use Rattle.quorum.specs.declared.Settings.{Settings}
use Rattle.acceptor_tables.specs.Tables.{Tables, fresh_tables, fresh_allowed, filled_fresh, acceptor_fresh}
use Rattle.acceptor_tables.proofs.Laws.{allowed-sizes}

module _ (s : Settings) (t : Tables) (fine : Bool) (fine-so : fine ≡ fresh_allowed s t) where
  pub refused-7 : fine ≡ false → outcome 7 t ≡ acceptor_fresh s t
  unfolding acceptor_fresh
  refused-7 no_way = fresh-refused t (fresh_tables s.instances) fine-so no_way

  pub filled : fine ≡ true → (answer : ℕ) (after : Tables) → answer ≡ verdict_number Done → after ≡ filled_fresh t
      → outcome answer after ≡ acceptor_fresh s t
  unfolding acceptor_fresh
  filled passed answer after answer-so after-so =
      let sized = (allowed-sizes s t (sym fine-so ∙ passed)).1 in
      fresh-done t (fresh_tables s.instances) fine-so passed answer-so
      (after-so ∙ rw (sized.of_rounds, sized.of_vote_rounds, sized.of_values))
