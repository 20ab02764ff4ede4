-- Each way out of the two calls is what the definitions say, by the tests that led there. What is stored whole, in a buffer or in tables, is what the definitions write out.
-- Assumes nothing.
use Prim.Native.Nat.{ℕ, ◌≤◌, ◌<◌}
use mathlib.Core.Path.{◌≡◌, sym, ap, ◌∙◌}
use mathlib.Core.Bool.{Bool, true, false}
use mathlib.Core.List.{List, ◌++◌}
use lib.Dec.{eqb, leb}
use lib.ListN.{length}
use borrow.Author.Tests.{eq-eqb, ne_eqb, le-leb, lt-leb}
use Rattle.basics.specs.declared.Verdict.TheVariants.{Done}
use Rattle.basics.specs.Ladder.{need◌or◌then◌}
use Rattle.basics.specs.Outcome.{outcome, lent}
use Rattle.basics.specs.Verdict.{verdict_number}
use Rattle.player.specs.Step.{unchanged}
use Rattle.quorum.specs.declared.Settings.{Settings}
use Rattle.learner_tables.specs.Tables.{Tables, cell_at, with_cell, cells, all_possible, learner_allowed}
use Rattle.learner_tables.proofs.Laws.{Allowed, allowed-tables}
use Rattle.learner_file.specs.File.{header_length, saved_length, header, marked, version_in, same_settings, saved_cell, cells_bytes, with_bytes, with_cell_bytes, stored_from, tables_of}
use Rattle.columns.proofs.Walks.{length-cells}
use Rattle.learner_file.proofs.Laws.{file-stored, tables-stored}
use Rattle.learner_saved.specs.Saved.{version, saved_table, saved_cells, save, read_saved}

-- what settings and tables bring that the code finds allowed
pub brings : (s : Settings) (t : Tables) (fine : Bool) → fine ≡ learner_allowed s t → fine ≡ true → Allowed s t
brings s t fine fine-so passes = allowed-tables s t (sym fine-so ∙ passes)

module _ (s : Settings) (bytes : List ℕ) (t : Tables) (fine : Bool) (fine-so : fine ≡ learner_allowed s t) where
  pub save-7 : fine ≡ false → unchanged bytes t 7 ≡ save s bytes t
  unfolding save need◌or◌then◌
  save-7 fails = rw (← fine-so, fails)

  pub read-7 : fine ≡ false → unchanged bytes t 7 ≡ read_saved s bytes t
  unfolding read_saved need◌or◌then◌
  read-7 fails = rw (← fine-so, fails)

  module _ (passes : fine ≡ true) where
    fine-is : learner_allowed s t ≡ true
    fine-is = sym fine-so ∙ passes

    -- ---- saving

    module _ (long : ℕ) (long-so : long ≡ saved_length s.instances) where
      pub save-1 : (length bytes ≡ long → ⊥) → unchanged bytes t 1 ≡ save s bytes t
      unfolding save need◌or◌then◌
      save-1 other = rw (fine-is, ne_eqb (length bytes) (saved_length s.instances) (λ same. other (same ∙ sym long-so)))

      module _ (whole : length bytes ≡ long) (possible : Bool) (possible-so : possible ≡ all_possible s.acceptors (cells s t)) where
        whole_is : eqb (length bytes) (saved_length s.instances) ≡ true
        whole_is = eq-eqb (length bytes) (saved_length s.instances) (whole ∙ long-so)

        pub save-17 : possible ≡ false → unchanged bytes t 17 ≡ save s bytes t
        unfolding save need◌or◌then◌
        save-17 fails = rw (fine-is, whole_is, ← possible-so, fails)

        pub saves : possible ≡ true → (headed left : List ℕ) → headed ≡ with_bytes bytes 0 (header version s)
            → left ≡ stored_from with_cell_bytes headed 0 (cells s t) → outcome (verdict_number Done) (lent left t) ≡ save s bytes t
        unfolding save need◌or◌then◌ saved_table
        saves judged headed left headed-so left_so =
            let many = length-cells (cell_at t) 0 s.instances in
            let saved : left ≡ header version s ++ cells_bytes (cells s t) =
            left_so ∙ ap (λ b. stored_from with_cell_bytes b 0 (cells s t)) headed-so ∙ file-stored version s bytes s.instances (whole ∙ long-so) (cells s t) many in
            rw (fine-is, whole_is, ← possible-so, judged, saved)

    -- ---- reading

    pub read_short : length bytes < header_length → unchanged bytes t 1 ≡ read_saved s bytes t
    unfolding read_saved need◌or◌then◌
    read_short short = rw (fine-is, lt-leb header_length (length bytes) short)

    module _ (holds : header_length ≤ length bytes) (mark : Bool) (mark-so : mark ≡ marked bytes) where
      holds-is : leb header_length (length bytes) ≡ true
      holds-is = le-leb header_length (length bytes) holds

      pub read-2 : mark ≡ false → unchanged bytes t 2 ≡ read_saved s bytes t
      unfolding read_saved need◌or◌then◌
      read-2 wrong = rw (fine-is, holds-is, ← mark-so, wrong)

      module _ (right : mark ≡ true) (given : ℕ) (given_so : given ≡ version_in bytes) where
        mark-is : marked bytes ≡ true
        mark-is = sym mark-so ∙ right

        pub read-3 : (given ≡ version → ⊥) → unchanged bytes t 3 ≡ read_saved s bytes t
        unfolding read_saved need◌or◌then◌
        read-3 other = rw (fine-is, holds-is, mark-is, ← given_so, ne_eqb given version other)

        module _ (same : given ≡ version) (like : Bool) (like-so : like ≡ same_settings s bytes) where
          version-is : eqb (version_in bytes) version ≡ true
          version-is = eq-eqb (version_in bytes) version (sym given_so ∙ same)

          pub read-unlike : like ≡ false → unchanged bytes t 7 ≡ read_saved s bytes t
          unfolding read_saved need◌or◌then◌
          read-unlike fails = rw (fine-is, holds-is, mark-is, version-is, ← like-so, fails)

          module _ (alike : like ≡ true) (long : ℕ) (long-so : long ≡ saved_length s.instances) where
            like_is : same_settings s bytes ≡ true
            like_is = sym like-so ∙ alike

            pub read-1 : (length bytes ≡ long → ⊥) → unchanged bytes t 1 ≡ read_saved s bytes t
            unfolding read_saved need◌or◌then◌
            read-1 other =
                rw (fine-is, holds-is, mark-is, version-is, like_is, ne_eqb (length bytes) (saved_length s.instances) (λ equal. other (equal ∙ sym long-so)))

            module _ (whole : length bytes ≡ long) (possible : Bool) (possible-so : possible ≡ all_possible s.acceptors (saved_cells s bytes)) where
              all-is : eqb (length bytes) (saved_length s.instances) ≡ true
              all-is = eq-eqb (length bytes) (saved_length s.instances) (whole ∙ long-so)

              pub read-17 : possible ≡ false → unchanged bytes t 17 ≡ read_saved s bytes t
              unfolding read_saved need◌or◌then◌
              read-17 fails = rw (fine-is, holds-is, mark-is, version-is, like_is, all-is, ← possible-so, fails)

              pub reads : possible ≡ true → (left : Tables) → left ≡ stored_from with_cell t 0 (saved_cells s bytes)
                  → outcome (verdict_number Done) (lent bytes left) ≡ read_saved s bytes t
              unfolding read_saved need◌or◌then◌
              reads judged left left_so =
                  let many = length-cells (saved_cell bytes) 0 s.instances in
                  let replaced : left ≡ tables_of (saved_cells s bytes) =
                  left_so ∙ tables-stored s.instances t (allowed-tables s t fine-is).sized (saved_cells s bytes) many in
                  rw (fine-is, holds-is, mark-is, version-is, like_is, all-is, ← possible-so, judged, replaced)
