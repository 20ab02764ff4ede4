-- Laws of a learner's file: how many bytes it is, what a file that is stored whole is, and tables as lists of cells. A table's cells are the list that it is made of,
-- and a table is made of the list of its cells.
-- Assumes nothing.
use Prim.Native.Nat.{ℕ, zero, suc, ◌+◌, ◌*◌, ◌^◌, ◌≤◌, ◌<◌}
use mathlib.Core.Path.{◌≡◌, refl, sym, ap, ◌∙◌}
use mathlib.Core.List.{List, [], ◌∷◌, ◌++◌, append_assoc, append-nil}
use native.Mathlib.Omega.{arith}
use native.Mathlib.Numerals.{add-one}
use lib.Dec.{lit<}
use lib.ListN.{length, get_or, length-append}
use lib.Seq.{sets}
use borrow.Author.Tests.{le-leb}
use Rattle.numbers.specs.BigEndian.{bytes_at, number_at, Bytes}
use Rattle.numbers.specs.Fronts.{with_front}
use Rattle.numbers.proofs.Bytes.{written_out, number_at-lt}
use Rattle.numbers.proofs.Fronts.{length_front, front-next, front-whole}
use Rattle.basics.specs.Rounds.{the_round}
use Rattle.basics.specs.Values.{the_value}
use Rattle.columns.specs.Columns.{Below}
use Rattle.columns.specs.Walks.{cells_from}
use Rattle.columns.proofs.Walks.{length-cells}
use Rattle.quorum.specs.declared.Settings.{Settings}
use Rattle.learner_cell.specs.declared.Cell.{Cell}
use Rattle.learner_cell.specs.Cell.{cell}
use Rattle.learner_tables.specs.Tables.{Tables, tables, cell_at, with_cell, first_cells, Sized, Fitting}
use Rattle.learner_file.specs.File.{header_length, cell_length, saved_length, header, cell_bytes, cell_in, cells_bytes}
use Rattle.learner_file.specs.File.{saved_from, rounds_of, sets_of, values_of, tables_of, with_bytes, with_cell_bytes, stored_from}

-- ---- lengths

pub length-header : (version : ℕ) (s : Settings) → length (header version s) ≡ header_length
unfolding header
length-header version s = refl

pub length-cell : (c : Cell) → length (cell_bytes c) ≡ cell_length
unfolding cell_bytes
length-cell c = refl

pub length-cells-bytes : (cs : List Cell) → length (cells_bytes cs) ≡ cell_length * length cs
unfolding cells_bytes
length-cells-bytes [] = refl
length-cells-bytes (c ∷ cs) = omega (arith, length-append (cell_bytes c) (cells_bytes cs), length-cell c, length-cells-bytes cs)

pub length-rounds-of : (cs : List Cell) → length (rounds_of cs) ≡ length cs
unfolding rounds_of
length-rounds-of [] = refl
length-rounds-of (c ∷ cs) = ap suc (length-rounds-of cs)

pub length-sets-of : (cs : List Cell) → length (sets_of cs) ≡ length cs
unfolding sets_of
length-sets-of [] = refl
length-sets-of (c ∷ cs) = ap suc (length-sets-of cs)

pub length_values_of : (cs : List Cell) → length (values_of cs) ≡ 2 * length cs
unfolding values_of
length_values_of [] = refl
length_values_of (c ∷ cs) = omega (arith, length_values_of cs)

-- ---- cells stored one behind the other, from the first on: what holds after each cell holds after all

module _ {Holder : Type 0} (store : Holder → ℕ → Cell → Holder) (done : List Cell → Holder) (count : ℕ)
    (next : (cs : List Cell) (c : Cell) → length cs < count → store (done cs) (length cs) c ≡ done (cs ++ (c ∷ []))) where
  stored-behind : (cs others : List Cell) → length cs + length others ≤ count → stored_from store (done cs) (length cs) others ≡ done (cs ++ others)
  unfolding stored_from
  stored-behind cs [] fits = ap done (sym (append-nil cs))
  stored-behind cs (c ∷ others) fits =
      let long : length (cs ++ (c ∷ [])) ≡ suc (length cs) = omega (arith, length-append cs (c ∷ [])) in
      ap (λ held. stored_from store held (suc (length cs)) others) (next cs c (omega arith))
      ∙ ap (λ k. stored_from store (done (cs ++ (c ∷ []))) k others) (sym long)
      ∙ stored-behind (cs ++ (c ∷ [])) others (omega (arith, long)) ∙ ap done (append_assoc cs (c ∷ []) others)

-- ---- a file that is stored whole

pub stored_bytes : (buffer : List ℕ) (at : ℕ) (bytes : List ℕ) → at + length bytes ≤ length buffer → with_bytes buffer at bytes ≡ sets buffer at bytes
unfolding with_bytes
stored_bytes buffer at bytes inside = rw (le-leb (at + length bytes) (length buffer) inside)

last-bytes : (cs : List Cell) (c : Cell) → cells_bytes (cs ++ (c ∷ [])) ≡ cells_bytes cs ++ cell_bytes c
unfolding cells_bytes
last-bytes [] c = append-nil (cell_bytes c)
last-bytes (first ∷ cs) c =
    ap (λ others. cell_bytes first ++ others) (last-bytes cs c) ∙ sym (append_assoc (cell_bytes first) (cells_bytes cs) (cell_bytes c))

module _ (version : ℕ) (s : Settings) where
  -- the header and so many cells, which are the front of a buffer while it is written
  abbrev front : List Cell → List ℕ
  front cs = header version s ++ cells_bytes cs

  pub length-file : (cs : List Cell) → length (front cs) ≡ saved_length (length cs)
  length-file cs = omega (arith, length-append (header version s) (cells_bytes cs), length-header version s, length-cells-bytes cs)

  module _ (buffer : List ℕ) (count : ℕ) (long : length buffer ≡ saved_length count) where
    header-first : with_bytes buffer 0 (header version s) ≡ with_front buffer (front [])
    unfolding cells_bytes
    header-first =
        let wide = length-header version s in
        stored_bytes buffer 0 (header version s) (omega (arith, wide)) ∙ front-next buffer [] (header version s) (omega (arith, wide))
        ∙ ap (with_front buffer) (sym (append-nil (header version s)))

    cell-next : (cs : List Cell) (c : Cell) → length cs < count → with_cell_bytes (with_front buffer (front cs)) (length cs) c ≡ with_front buffer (front (cs ++ (c ∷ [])))
    cell-next cs c inside =
        let behind = length-file cs in
        let kept = length_front buffer (front cs) (omega (arith, behind)) in
        stored_bytes (with_front buffer (front cs)) (saved_length (length cs)) (cell_bytes c) (omega (arith, kept, length-cell c))
        ∙ ap (λ k. sets (with_front buffer (front cs)) k (cell_bytes c)) (sym behind)
        ∙ front-next buffer (front cs) (cell_bytes c) (omega (arith, behind, length-cell c))
        ∙ ap (with_front buffer) (append_assoc (header version s) (cells_bytes cs) (cell_bytes c) ∙ ap (λ bytes. header version s ++ bytes) (sym (last-bytes cs c)))

    -- the header and so many cells, stored in a buffer of their length, are the buffer
    pub file-stored : (cs : List Cell) → length cs ≡ count → stored_from with_cell_bytes (with_bytes buffer 0 (header version s)) 0 cs ≡ header version s ++ cells_bytes cs
    file-stored cs all =
        ap (λ b. stored_from with_cell_bytes b 0 cs) header-first
        ∙ stored-behind with_cell_bytes (λ done. with_front buffer (front done)) count cell-next [] cs (omega arith)
        ∙ front-whole buffer (front cs) (omega (arith, length-file cs))

-- ---- tables made of a list

-- behind the first cell stand the cells of the others
cell-behind : (c : Cell) (cs : List Cell) (index : ℕ) → cell_at (tables_of (c ∷ cs)) (suc index) ≡ cell_at (tables_of cs) index
unfolding rounds_of sets_of values_of
cell-behind c cs index =
    let high : 2 * suc index ≡ suc (suc (2 * index)) = omega arith in
    let low : 2 * suc index + 1 ≡ suc (suc (2 * index + 1)) = omega arith in
    let values = c.value.high ∷ c.value.low ∷ values_of cs in
    λ i. cell (the_round (get_or (rounds_of cs) index 0)) (get_or (sets_of cs) index 0) (the_value (get_or values (high i) 0) (get_or values (low i) 0))

cells-behind : (c : Cell) (cs : List Cell) (index count : ℕ) → cells_from (cell_at (tables_of (c ∷ cs))) (suc index) count ≡ cells_from (cell_at (tables_of cs)) index count
unfolding cells_from
cells-behind c cs index zero = refl
cells-behind c cs index (suc count) = λ i. cell-behind c cs index i ∷ cells-behind c cs (suc index) count i

-- the cells of the tables are the list
pub cells-of-tables : (cs : List Cell) → first_cells (length cs) (tables_of cs) ≡ cs
unfolding cells_from rounds_of sets_of values_of
cells-of-tables [] = refl
cells-of-tables (c ∷ cs) = ap (λ others. c ∷ others) (cells-behind c cs 0 (length cs) ∙ cells-of-tables cs)

-- tables are made of the list of their cells: `bytes_at` lists what stands in a column as it lists what stands in bytes
module _ (t : Tables) where
  rounds-of-cells : (index count : ℕ) → rounds_of (cells_from (cell_at t) index count) ≡ bytes_at t.rounds index count
  unfolding cells_from rounds_of
  rounds-of-cells index zero = refl
  rounds-of-cells index (suc count) =
      ap (λ others. get_or t.rounds index 0 ∷ others) (rounds-of-cells (suc index) count ∙ ap (λ k. bytes_at t.rounds k count) (sym (add-one index)))

  sets-of-cells : (index count : ℕ) → sets_of (cells_from (cell_at t) index count) ≡ bytes_at t.sets index count
  unfolding cells_from sets_of
  sets-of-cells index zero = refl
  sets-of-cells index (suc count) =
      ap (λ others. get_or t.sets index 0 ∷ others) (sets-of-cells (suc index) count ∙ ap (λ k. bytes_at t.sets k count) (sym (add-one index)))

  values-of-cells : (index count : ℕ) → values_of (cells_from (cell_at t) index count) ≡ bytes_at t.values (2 * index) (2 * count)
  unfolding cells_from values_of
  values-of-cells index zero = refl
  values-of-cells index (suc count) =
      let twice : suc (suc (2 * count)) ≡ 2 * suc count = omega arith in
      let place : 2 * suc index ≡ 2 * index + 1 + 1 = omega arith in
      ap (λ others. get_or t.values (2 * index) 0 ∷ get_or t.values (2 * index + 1) 0 ∷ others)
      (values-of-cells (suc index) count ∙ ap (λ k. bytes_at t.values k (2 * count)) place)
      ∙ ap (bytes_at t.values (2 * index)) twice

  pub tables-of-cells : (n : ℕ) → Sized n t → tables_of (first_cells n t) ≡ t
  tables-of-cells n sized = λ i.
      tables ((rounds-of-cells 0 n ∙ written_out n t.rounds sized.of_rounds) i) ((sets-of-cells 0 n ∙ written_out n t.sets sized.of_sets) i)
      ((values-of-cells 0 n ∙ written_out (2 * n) t.values sized.of_values) i)

-- ---- tables whose cells are all replaced

last-round : (cs : List Cell) (c : Cell) → rounds_of (cs ++ (c ∷ [])) ≡ rounds_of cs ++ (c.round.0 ∷ [])
unfolding rounds_of
last-round [] c = refl
last-round (first ∷ cs) c = ap (λ others. first.round.0 ∷ others) (last-round cs c)

last_set : (cs : List Cell) (c : Cell) → sets_of (cs ++ (c ∷ [])) ≡ sets_of cs ++ (c.set ∷ [])
unfolding sets_of
last_set [] c = refl
last_set (first ∷ cs) c = ap (λ others. first.set ∷ others) (last_set cs c)

last-value : (cs : List Cell) (c : Cell) → values_of (cs ++ (c ∷ [])) ≡ values_of cs ++ (c.value.high ∷ c.value.low ∷ [])
unfolding values_of
last-value [] c = refl
last-value (first ∷ cs) c = ap (λ others. first.value.high ∷ first.value.low ∷ others) (last-value cs c)

-- the tables with their first cells replaced by these
abbrev replaced : Tables → List Cell → Tables
replaced t cs = tables (with_front t.rounds (rounds_of cs)) (with_front t.sets (sets_of cs)) (with_front t.values (values_of cs))

module _ (n : ℕ) (t : Tables) (sized : Sized n t) where
  replaced-none : t ≡ replaced t []
  unfolding rounds_of sets_of values_of
  replaced-none = refl

  replaced-next : (cs : List Cell) (c : Cell) → length cs < n → with_cell (replaced t cs) (length cs) c ≡ replaced t (cs ++ (c ∷ []))
  replaced-next cs c inside =
      let rounds-done = length-rounds-of cs in
      let sets-done = length-sets-of cs in
      let values-done = length_values_of cs in
      let rounds-next = front-next t.rounds (rounds_of cs) (c.round.0 ∷ []) (omega (arith, sized.of_rounds)) in
      let sets-next = front-next t.sets (sets_of cs) (c.set ∷ []) (omega (arith, sized.of_sets)) in
      let values-next = front-next t.values (values_of cs) (c.value.high ∷ c.value.low ∷ []) (omega (arith, sized.of_values)) in
      rw (last-round cs c, last_set cs c, last-value cs c, ← rounds-next, ← sets-next, ← values-next, rounds-done, sets-done, values-done, add-one)

  -- so many cells, stored in tables of their size, are the tables
  pub tables-stored : (cs : List Cell) → length cs ≡ n → stored_from with_cell t 0 cs ≡ tables_of cs
  tables-stored cs all =
      ap (λ u. stored_from with_cell u 0 cs) replaced-none ∙ stored-behind with_cell (replaced t) n replaced-next [] cs (omega arith)
      ∙ (λ i.
      tables (front-whole t.rounds (rounds_of cs) (omega (arith, sized.of_rounds, length-rounds-of cs)) i)
      (front-whole t.sets (sets_of cs) (omega (arith, sized.of_sets, length-sets-of cs)) i)
      (front-whole t.values (values_of cs) (omega (arith, sized.of_values, length_values_of cs)) i))

-- ---- the tables made of saved cells

module _ (saved : List ℕ) where
  -- have so many cells
  pub saved-sized : (n : ℕ) → Sized n (tables_of (saved_from saved 0 n))
  saved-sized n =
      let cs = saved_from saved 0 n in
      let many : length cs ≡ n = length-cells _ 0 n in
      record { of_rounds = length-rounds-of cs ∙ many; of_sets = length-sets-of cs ∙ many; of_values = length_values_of cs ∙ ap (λ k. 2 * k) many }

  -- which are the saved ones
  pub cells-saved : (n : ℕ) → first_cells n (tables_of (saved_from saved 0 n)) ≡ saved_from saved 0 n
  cells-saved n =
      let cs = saved_from saved 0 n in
      let many : length cs ≡ n = length-cells _ 0 n in
      ap (λ k. first_cells k (tables_of cs)) (sym many) ∙ cells-of-tables cs

below-first : (bound number : ℕ) (numbers : List ℕ) → number < bound → Below bound numbers → Below bound (number ∷ numbers)
below-first bound number numbers fits others zero = fits
below-first bound number numbers fits others (suc index) = others index

module _ (saved : List ℕ) (bytes : Bytes saved) where
  rounds-fit : (start count : ℕ) → Below (2 ^ 32) (rounds_of (saved_from saved start count))
  unfolding cells_from rounds_of cell_in
  rounds-fit start zero = λ index. lit< tt
  rounds-fit start (suc count) =
      below-first (2 ^ 32) _ (rounds_of (saved_from saved (suc start) count)) (number_at-lt saved bytes (saved_length start) 4) (rounds-fit (suc start) count)

  sets-fit : (start count : ℕ) → Below (2 ^ 8) (sets_of (saved_from saved start count))
  unfolding cells_from sets_of cell_in
  sets-fit start zero = λ index. lit< tt
  sets-fit start (suc count) = below-first (2 ^ 8) _ (sets_of (saved_from saved (suc start) count)) (bytes (saved_length start + 4)) (sets-fit (suc start) count)

  values-fit : (start count : ℕ) → Below (2 ^ 64) (values_of (saved_from saved start count))
  unfolding cells_from values_of cell_in
  values-fit start zero = λ index. lit< tt
  values-fit start (suc count) =
      let others = values_of (saved_from saved (suc start) count) in
      let low = number_at saved (saved_length start + 13) 8 in
      below-first (2 ^ 64) _ (low ∷ others) (number_at-lt saved bytes (saved_length start + 5) 8)
      (below-first (2 ^ 64) low others (number_at-lt saved bytes (saved_length start + 13) 8) (values-fit (suc start) count))

  -- their numbers fit their widths
  pub saved-fitting : (n : ℕ) → Fitting (tables_of (saved_from saved 0 n))
  saved-fitting n = record { fitting_rounds = rounds-fit 0 n; fitting_sets = sets-fit 0 n; fitting_values = values-fit 0 n }
