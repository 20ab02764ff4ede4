-- Each way out of the call that sets a backup's tables fresh is what the definition says: where they are allowed, each column has its length for N, so that
-- filled with its fresh number it is the fresh column.
-- Assumes nothing.
use Prim.Native.Nat.{ℕ}
use mathlib.Core.Path.{◌≡◌, sym, ap, ◌∙◌}
use mathlib.Core.Bool.{Bool, true, false}
use lib.ListN.{replicate}
use Rattle.basics.specs.declared.Verdict.TheVariants.{Done}
use Rattle.basics.specs.Outcome.{outcome}
use Rattle.basics.specs.Rounds.{none}
use Rattle.basics.specs.Verdict.{verdict_number}
use Rattle.columns.proofs.Fresh.{fresh-refused, fresh-done}
use Rattle.quorum.specs.declared.Settings.{Settings}
use Rattle.backup_cell.specs.Cell.{idle}
use Rattle.backup_tables.specs.Tables.{Tables, fresh_tables, fresh_allowed, filled_fresh, backup_fresh}
use Rattle.backup_tables.proofs.Laws.{allowed-sizes, same_tables}

-- as many numbers as a column has are as many as it is sized for
for-all : (number : ℕ) {count n : ℕ} → count ≡ n → replicate count number ≡ replicate n number
for-all number long = ap (λ k. replicate k number) long

module _ (s : Settings) (t : Tables) (fine : Bool) (fine-so : fine ≡ fresh_allowed s t) where
  pub refused-7 : fine ≡ false → outcome 7 t ≡ backup_fresh s t
  unfolding backup_fresh
  refused-7 no_way = fresh-refused t (fresh_tables s.instances) fine-so no_way

  pub filled : fine ≡ true → (answer : ℕ) (after : Tables) → answer ≡ verdict_number Done → after ≡ filled_fresh t → outcome answer after ≡ backup_fresh s t
  unfolding backup_fresh
  filled passed answer after answer-so after-so =
      let sized = (allowed-sizes s t (sym fine-so ∙ passed)).1 in
      fresh-done t (fresh_tables s.instances) fine-so passed answer-so
      (after-so
      ∙ same_tables (for-all 0 sized.of_rounds) (for-all idle sized.of_phases) (for-all 0 sized.of_sets) (for-all none.0 sized.of_best_vote_rounds)
      (for-all 0 sized.of_best_values) (for-all 0 sized.of_own_values))
