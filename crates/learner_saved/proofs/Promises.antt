-- What is saved is 8 + 21N bytes. The promises of every call, for saving and reading: each acts or refuses by its numbers, a refusal keeps all, and each acts exactly when its tests pass.
-- Saving changes no table. Reading leaves tables of N cells that are all possible, and whose numbers fit their widths.
-- Assumes nothing.
use Prim.Native.Nat.{ℕ}
use mathlib.Core.Path.{◌≡◌, refl, sym, ap, ◌∙◌}
use mathlib.Core.Bool.{true, false, false≢true}
use mathlib.Core.List.{List, [], ◌∷◌}
use native.Mathlib.Omega.{arith}
use lib.ListN.{length}
use borrow.Author.Tests.{eqb-true, leb-true, eq-eqb, le-leb}
use Rattle.basics.specs.declared.Verdict.TheVariants.{Done}
use Rattle.basics.specs.Ladder.{need◌or◌then◌}
use Rattle.basics.specs.Outcome.{Outcome, outcome, Lent, lent}
use Rattle.basics.specs.Verdict.{verdict_number, is_verdict}
use Rattle.basics.proofs.Ladder.{need-elim}
use Rattle.player.specs.Promises.{OneOf, first, NumbersAre, RefusalKeepsAll, FittingStays, ActsOrRefuses, refuses, acts}
use Rattle.player.specs.Step.{unchanged}
use Rattle.player.proofs.Numbers.{one_of}
use Rattle.quorum.specs.declared.Settings.{Settings}
use Rattle.learner_tables.specs.Tables.{Tables, cell_at, cells, all_possible, Sized, Fitting}
use Rattle.learner_file.specs.File.{header_length, saved_length, version_in, tables_of}
use Rattle.columns.proofs.Walks.{length-cells}
use Rattle.learner_file.proofs.Laws.{length-file, saved-sized, cells-saved, saved-fitting}
use Rattle.learner_saved.specs.Saved.{version, saved_table, saved_cells, save, read_saved}
use Rattle.learner_saved.specs.Promises.{LengthSaved, save_refusals, read_refusals, Savable, Readable, SavePromises, ReadPromises}

pub length-saved : LengthSaved
unfolding saved_table
length-saved s t = omega (arith, length-file version s (cells s t), length-cells (cell_at t) 0 s.instances)

-- ---- the ways out, and what the last of them brings

module _ (s : Settings) (bytes : List ℕ) (t : Tables) (P : Outcome (Lent Tables) → Type 0) where
  -- what holds of every refusal, and of the outcome once the tests have passed, holds of the call
  save-elim : ((number : ℕ) → OneOf number save_refusals → is_verdict number ≡ false → P (unchanged bytes t number))
      → (Savable s bytes t → P (outcome (verdict_number Done) (lent (saved_table s t) t))) → P (save s bytes t)
  unfolding save is_verdict
  save-elim refused saves =
      need-elim P _ _ _ (refused 7 (one_of 7 save_refusals refl) refl) λ fine.
      need-elim P _ _ _ (refused 1 (one_of 1 save_refusals refl) refl) λ whole.
      need-elim P _ _ _ (refused 17 (one_of 17 save_refusals refl) refl) λ possible.
      saves (record { fine = fine; whole = eqb-true _ _ whole; possible = possible })

  read-elim : ((number : ℕ) → OneOf number read_refusals → is_verdict number ≡ false → P (unchanged bytes t number))
      → (Readable s bytes t → P (outcome (verdict_number Done) (lent bytes (tables_of (saved_cells s bytes))))) → P (read_saved s bytes t)
  unfolding read_saved is_verdict
  read-elim refused reads =
      need-elim P _ _ _ (refused 7 (one_of 7 read_refusals refl) refl) λ fine.
      need-elim P _ _ _ (refused 1 (one_of 1 read_refusals refl) refl) λ holds.
      need-elim P _ _ _ (refused 2 (one_of 2 read_refusals refl) refl) λ mark.
      need-elim P _ _ _ (refused 3 (one_of 3 read_refusals refl) refl) λ versioned.
      need-elim P _ _ _ (refused 7 (one_of 7 read_refusals refl) refl) λ like.
      need-elim P _ _ _ (refused 1 (one_of 1 read_refusals refl) refl) λ whole.
      need-elim P _ _ _ (refused 17 (one_of 17 read_refusals refl) refl) λ possible.
      reads
      (record {
        fine = fine;
        holds = leb-true _ _ holds;
        mark = mark;
        versioned = eqb-true _ _ versioned;
        like = like;
        whole = eqb-true _ _ whole;
        possible = possible;
      })

-- "done" is no refusal
not_done : (number : ℕ) → is_verdict number ≡ false → number ≡ verdict_number Done → ⊥
unfolding is_verdict
not_done number refusal same = false≢true (sym refusal ∙ ap is_verdict same)

module _ (s : Settings) where
  -- ---- numbers and refusals

  pub save-numbers : NumbersAre (save s) save_refusals (verdict_number Done ∷ [])
  save-numbers buffer t = save-elim s buffer t (ActsOrRefuses save_refusals (verdict_number Done ∷ []) buffer t) (λ number one _. refuses one) (λ _. acts first)

  pub read_numbers : NumbersAre (read_saved s) read_refusals (verdict_number Done ∷ [])
  read_numbers saved t = read-elim s saved t (ActsOrRefuses read_refusals (verdict_number Done ∷ []) saved t) (λ number one _. refuses one) (λ _. acts first)

  pub save-refusal-keeps-all : RefusalKeepsAll (save s)
  unfolding is_verdict
  save-refusal-keeps-all buffer t =
      save-elim s buffer t (λ o. is_verdict o.answer ≡ false → o ≡ unchanged buffer t o.answer) (λ number _ _ _. refl) (λ _ refusal. absurd (false≢true (sym refusal)))

  pub read-refusal-keeps-all : RefusalKeepsAll (read_saved s)
  unfolding is_verdict
  read-refusal-keeps-all saved t =
      read-elim s saved t (λ o. is_verdict o.answer ≡ false → o ≡ unchanged saved t o.answer) (λ number _ _ _. refl) (λ _ refusal. absurd (false≢true (sym refusal)))

  -- ---- when a call acts, and what it then leaves

  pub savable-saves : (buffer : List ℕ) (t : Tables) → Savable s buffer t → save s buffer t ≡ outcome (verdict_number Done) (lent (saved_table s t) t)
  unfolding save need◌or◌then◌
  savable-saves buffer t tests = rw (tests.fine, eq-eqb (length buffer) (saved_length s.instances) tests.whole, tests.possible)

  pub saved-savable : (buffer : List ℕ) (t : Tables) → (save s buffer t).answer ≡ verdict_number Done → Savable s buffer t
  saved-savable buffer t =
      save-elim s buffer t (λ o. o.answer ≡ verdict_number Done → Savable s buffer t) (λ number _ refusal same. absurd (not_done number refusal same)) (λ tests _. tests)

  pub readable-reads : (saved : List ℕ) (t : Tables) → Readable s saved t → read_saved s saved t ≡ outcome (verdict_number Done) (lent saved (tables_of (saved_cells s saved)))
  unfolding read_saved need◌or◌then◌
  readable-reads saved t tests =
      rw (
        tests.fine,
        le-leb header_length (length saved) tests.holds,
        tests.mark,
        eq-eqb (version_in saved) version tests.versioned,
        tests.like,
        eq-eqb (length saved) (saved_length s.instances) tests.whole,
        tests.possible,
      )

  pub read-readable : (saved : List ℕ) (t : Tables) → (read_saved s saved t).answer ≡ verdict_number Done → Readable s saved t
  read-readable saved t =
      read-elim s saved t (λ o. o.answer ≡ verdict_number Done → Readable s saved t) (λ number _ refusal same. absurd (not_done number refusal same)) (λ tests _. tests)

  -- ---- tables

  pub save-keeps-tables : (buffer : List ℕ) (t : Tables) → (save s buffer t).left.tables ≡ t
  save-keeps-tables buffer t = save-elim s buffer t (λ o. o.left.tables ≡ t) (λ number _ _. refl) (λ _. refl)

  pub read-keeps-bytes : (saved : List ℕ) (t : Tables) → (read_saved s saved t).left.packet ≡ saved
  read-keeps-bytes saved t = read-elim s saved t (λ o. o.left.packet ≡ saved) (λ number _ _. refl) (λ _. refl)

module _ (s : Settings) where
  pub read-sized : (saved : List ℕ) (t : Tables) → Sized s.instances t → Sized s.instances (read_saved s saved t).left.tables
  read-sized saved t sized = read-elim s saved t (λ o. Sized s.instances o.left.tables) (λ number _ _. sized) (λ _. saved-sized saved s.instances)

  pub read-possible : (saved : List ℕ) (t : Tables) → (read_saved s saved t).answer ≡ verdict_number Done
      → all_possible s.acceptors (cells s (read_saved s saved t).left.tables) ≡ true
  read-possible saved t =
      read-elim s saved t (λ o. o.answer ≡ verdict_number Done → all_possible s.acceptors (cells s o.left.tables) ≡ true)
      (λ number _ refusal same. absurd (not_done number refusal same)) (λ tests _. ap (all_possible s.acceptors) (cells-saved saved s.instances) ∙ tests.possible)

  pub read-fitting : FittingStays (read_saved s) Fitting
  read-fitting saved t bytes fits =
      read-elim s saved t (λ o. Fitting o.left.tables) (λ number _ _. fits) (λ _. saved-fitting saved bytes s.instances)

pub save-promises : (s : Settings) → SavePromises s
save-promises s = record {
  numbers_are = save-numbers s;
  refusal_keeps_all = save-refusal-keeps-all s;
  acts = savable-saves s;
  only_then = saved-savable s;
  keeps_tables = save-keeps-tables s;
}

pub read-promises : (s : Settings) → ReadPromises s
read-promises s = record {
  numbers_are = read_numbers s;
  refusal_keeps_all = read-refusal-keeps-all s;
  acts = readable-reads s;
  only_then = read-readable s;
  keeps_bytes = read-keeps-bytes s;
  sized_stays = read-sized s;
  all_possible = read-possible s;
  fitting_stays = read-fitting s;
}
