-- Saving and then reading gives the table; reading and then saving gives the bytes: a table's cells and its file match one to one.
-- Assumes nothing.
use Prim.Native.Nat.{ℕ, ◌+◌, ◌*◌, ◌≤◌}
use mathlib.Core.Path.{◌≡◌, sym, ap, ◌∙◌}
use mathlib.Core.Bool.{true}
use mathlib.Core.List.{List, ◌++◌}
use native.Mathlib.Omega.{arith}
use lib.Dec.{lit<}
use lib.ListN.{length, get_or}
use Rattle.numbers.specs.BigEndian.{Bytes}
use Rattle.numbers.proofs.Bytes.{bytes_at-add, written_out}
use Rattle.basics.specs.declared.Verdict.TheVariants.{Done}
use Rattle.basics.specs.Outcome.{outcome, lent}
use Rattle.basics.specs.Verdict.{verdict_number}
use Rattle.quorum.specs.declared.Settings.{Settings}
use Rattle.learner_cell.specs.Cell.{fresh_cell}
use Rattle.learner_tables.specs.Tables.{Tables, cell_at, cells, all_possible, is_allowed, learner_allowed, Fitting}
use Rattle.learner_tables.proofs.Laws.{allowed-tables, fitting-at}
use Rattle.learner_file.specs.File.{header_length, cell_length, saved_length, header, cell_in, saved_cell, cells_bytes, tables_of}
use Rattle.columns.proofs.Walks.{cell-of}
use Rattle.learner_file.proofs.Laws.{length-header, tables-of-cells, saved-sized, cells-saved}
use Rattle.learner_file.proofs.RoundTrip.{header-marked, header-version, header-settings, header_back, cells-back, cells-bytes-back}
use Rattle.learner_saved.specs.Saved.{version, saved_table, saved_cells}
use Rattle.learner_saved.specs.Promises.{SaveThenRead, ReadThenSave, SavedCellStands, SetBits, Savable, Readable}
use Rattle.learner_saved.proofs.Promises.{length-saved, savable-saves, saved-savable, readable-reads, read-readable}

-- the saved cells of a saved table are its cells
pub saved-cells-back : (s : Settings) (t : Tables) → Fitting t → saved_cells s (saved_table s t) ≡ cells s t
unfolding saved_table
saved-cells-back s t fits = cells-back (cell_at t) (λ index. fitting-at t index fits) (header version s) 0 s.instances (length-header version s)

pub saved-cell-stands : SavedCellStands
saved-cell-stands s t fits index inside =
    let place : 0 + index ≡ index = omega arith in
    ap (saved_cell (saved_table s t)) (sym place) ∙ sym (cell-of (saved_cell (saved_table s t)) fresh_cell 0 s.instances index inside)
    ∙ ap (λ cs. get_or cs index fresh_cell) (saved-cells-back s t fits) ∙ cell-of (cell_at t) fresh_cell 0 s.instances index inside ∙ ap (cell_at t) place

pub set-bits : SetBits
unfolding cell_in
set-bits s t fits index acceptor inside =
    let same : get_or (saved_table s t) (saved_length index + 4) 0 ≡ (cell_at t index).set = ap (λ c. c.set) (saved-cell-stands s t fits index inside) in
    ((λ member. rw same at member), (λ member. rw (sym same) at member))

-- a saved table passes the tests of reading, whatever stands in the lent one
saved-readable : (s : Settings) (t other : Tables) (buffer : List ℕ) → Fitting t → learner_allowed s other ≡ true → Savable s buffer t → Readable s (saved_table s t) other
unfolding saved_table
saved-readable s t other buffer fits fine tests =
    let few = (allowed-tables s t tests.fine).few in
    let rest = cells_bytes (cells s t) in
    record {
      fine = fine;
      holds = omega (arith, length-saved s t);
      mark = header-marked version s rest;
      versioned = header-version version s rest (lit< tt);
      like = header-settings version s rest (omega (arith, few.instances-most));
      whole = length-saved s t;
      possible = ap (all_possible s.acceptors) (saved-cells-back s t fits) ∙ tests.possible;
    }

pub save-then-read : SaveThenRead
save-then-read s buffer t other fits fine saved =
    let tests = saved-savable s buffer t saved in
    let given : tables_of (saved_cells s (saved_table s t)) ≡ t =
    ap tables_of (saved-cells-back s t fits) ∙ tables-of-cells t s.instances (allowed-tables s t tests.fine).sized in
    rw (savable-saves s buffer t tests)
    (readable-reads s (saved_table s t) other (saved-readable s t other buffer fits fine tests)
    ∙ ap (λ u. outcome (verdict_number Done) (lent (saved_table s t) u)) given)

-- a saved table that is read is what the tables that it gives are saved as
pub read-bytes-back : (s : Settings) (saved : List ℕ) (other : Tables) → Bytes saved → Readable s saved other → saved_table s (tables_of (saved_cells s saved)) ≡ saved
unfolding saved_table
read-bytes-back s saved other bytes tests =
    let n = s.instances in
    let inside : saved_length (0 + n) ≤ length saved = omega (arith, tests.whole) in
    let headed = header_back version s saved bytes tests.holds tests.mark tests.versioned tests.like in
    ap (λ cs. header version s ++ cells_bytes cs) (cells-saved saved n) ∙ (λ i. headed i ++ cells-bytes-back saved bytes 0 n inside i)
    ∙ sym (bytes_at-add saved 0 header_length (cell_length * n)) ∙ written_out (saved_length n) saved tests.whole

pub read-then-save : ReadThenSave
read-then-save s saved buffer other bytes long read =
    let tests = read-readable s saved other read in
    let t = tables_of (saved_cells s saved) in
    rw (readable-reads s saved other tests)
    (savable-saves s buffer t (savable tests) ∙ ap (λ b. outcome (verdict_number Done) (lent b t)) (read-bytes-back s saved other bytes tests))
  where
    savable : Readable s saved other → Savable s buffer (tables_of (saved_cells s saved))
    savable tests =
        let there = (allowed-tables s other tests.fine).sized in
        let here = saved-sized saved s.instances in
        record {
          fine =
              (λ i. is_allowed s ((here.of_rounds ∙ sym there.of_rounds) i) ((here.of_sets ∙ sym there.of_sets) i) ((here.of_values ∙ sym there.of_values) i))
              ∙ tests.fine;
          whole = long ∙ tests.whole;
          possible = rw (cells-saved saved s.instances) tests.possible;
        }
