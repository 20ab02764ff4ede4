-- A header and its 8 bytes, a cell and its 21 bytes, and so, cell by cell, a body and its cells match one to one: what is written is read again, and what is read is
-- written again.
-- Assumes nothing.
use Prim.Native.Nat.{ℕ, zero, suc, ◌+◌, ◌*◌, ◌^◌, ◌≤◌, ◌<◌}
use mathlib.Core.Path.{◌≡◌, refl, sym, ap, ◌∙◌}
use mathlib.Core.Bool.{true, ◌&&◌}
use mathlib.Core.List.{List, [], ◌∷◌, ◌++◌, append_assoc}
use native.Mathlib.Omega.{arith}
use lib.Dec.{eqb}
use lib.ListN.{length, get_or, take, replicate, length-append}
use lib.Seq.{take_at, drop-append_seam, get_or-append-add}
use borrow.Author.Tests.{eqb-true, eq-eqb}
use Rattle.numbers.specs.BigEndian.{big_endian, to_bytes, bytes_at, number_at, Bytes}
use Rattle.numbers.proofs.Bytes.{number-within, length-to_bytes, bytes_at-part, bytes_at-add, big_endian-to_bytes, to_bytes-number_at}
use Rattle.basics.specs.Rounds.{the_round}
use Rattle.basics.specs.Values.{the_value}
use Rattle.basics.proofs.Ladder.{both_true, and-true}
use Rattle.columns.specs.Walks.{cells_from}
use Rattle.quorum.specs.declared.Settings.{Settings}
use Rattle.learner_cell.specs.declared.Cell.{Cell}
use Rattle.learner_cell.specs.Cell.{cell, fresh_cell}
use Rattle.learner_cell.proofs.Laws.{CellFits}
use Rattle.learner_file.specs.File.{mark, header_length, cell_length, saved_length, header, marked, version_in, same_settings, cell_bytes, cell_in, cells_bytes, saved_from}
use Rattle.learner_file.proofs.Laws.{length-cell}

-- ---- a number that stands among bytes

number_in : (front back : List ℕ) (width number : ℕ) → number < 256 ^ width → number_at (front ++ (to_bytes width number ++ back)) (length front) width ≡ number
number_in front back width number fits =
    let digits = to_bytes width number in
    let bytes = front ++ (digits ++ back) in
    let wide = length-to_bytes width number in
    let inside : length front + width ≤ length bytes = omega (arith, length-append front (digits ++ back), length-append digits back, wide) in
    number-within bytes (length front) width inside
    ∙ ap big_endian
    (bytes_at-part bytes (length front) width inside ∙ ap (take width) (drop-append_seam front (digits ++ back)) ∙ take_at digits back width wide)
    ∙ big_endian-to_bytes width number fits

-- behind more bytes
number_behind : (front before back : List ℕ) (place width number : ℕ) → place ≡ length front + length before → number < 256 ^ width
    → number_at (front ++ (before ++ (to_bytes width number ++ back))) place width ≡ number
number_behind front before back place width number place-so fits =
    let rest = to_bytes width number ++ back in
    ap (λ bytes. number_at bytes place width) (sym (append_assoc front before rest))
    ∙ ap (λ k. number_at (front ++ before ++ rest) k width) (place-so ∙ sym (length-append front before)) ∙ number_in (front ++ before) back width number fits

-- ---- the header

module _ (version : ℕ) (s : Settings) (rest : List ℕ) where
  pub header-marked : marked (header version s ++ rest) ≡ true
  unfolding header marked
  header-marked = refl

  pub header-version : version < 2 ^ 16 → version_in (header version s ++ rest) ≡ version
  unfolding header
  header-version fits = number_in mark (s.acceptors ∷ to_bytes 2 s.instances ++ rest) 2 version fits

  pub header-settings : s.instances < 2 ^ 16 → same_settings s (header version s ++ rest) ≡ true
  unfolding header same_settings
  header-settings fits =
      and-true (eq-eqb s.acceptors s.acceptors refl)
      (eq-eqb _ s.instances (number_in (mark ++ to_bytes 2 version ++ (s.acceptors ∷ [])) rest 2 s.instances fits))

-- and 8 bytes that were read as a header are what it is written as
pub header_back : (version : ℕ) (s : Settings) (saved : List ℕ) → Bytes saved → header_length ≤ length saved
    → marked saved ≡ true → version_in saved ≡ version → same_settings s saved ≡ true → header version s ≡ bytes_at saved 0 header_length
unfolding header marked same_settings
header_back version s saved bytes holds marks versioned like =
    let d = both_true (eqb (get_or saved 0 0) 82 && eqb (get_or saved 1 0) 68) (eqb (get_or saved 2 0) 84) marks in
    let e = both_true (eqb (get_or saved 0 0) 82) (eqb (get_or saved 1 0) 68) d.0 in
    let f = both_true (eqb (get_or saved 5 0) s.acceptors) (eqb (number_at saved 6 2) s.instances) like in
    let marked-so : mark ≡ bytes_at saved 0 3 =
    λ i. sym (eqb-true (get_or saved 0 0) 82 e.0) i ∷ sym (eqb-true (get_or saved 1 0) 68 e.1) i ∷ sym (eqb-true (get_or saved 2 0) 84 d.1) i ∷ [] in
    let version-so : to_bytes 2 version ≡ bytes_at saved 3 2 = ap (to_bytes 2) (sym versioned) ∙ to_bytes-number_at saved bytes 3 2 (omega arith) in
    let instances-so : to_bytes 2 s.instances ≡ bytes_at saved 6 2 =
    ap (to_bytes 2) (sym (eqb-true (number_at saved 6 2) s.instances f.1)) ∙ to_bytes-number_at saved bytes 6 2 (omega arith) in
    λ i. marked-so i ++ version-so i ++ (sym (eqb-true (get_or saved 5 0) s.acceptors f.0) i ∷ []) ++ instances-so i

-- ---- one cell

-- a cell that is written among bytes is read there
pub cell-back : (front back : List ℕ) (c : Cell) → CellFits c → cell_in (front ++ (cell_bytes c ++ back)) (length front) ≡ c
unfolding cell_in cell_bytes
cell-back front back c fits =
    let round = to_bytes 4 c.round.0 in
    let voted = round ++ (c.set ∷ []) in
    let high = to_bytes 8 c.value.high in
    let low = to_bytes 8 c.value.low in
    λ i.
    cell (the_round (number_in front ((c.set ∷ []) ++ high ++ low ++ back) 4 c.round.0 fits.round_fits i))
    (get_or-append-add front (voted ++ high ++ low ++ back) 4 0 i)
    (the_value (number_behind front voted (low ++ back) (length front + 5) 8 c.value.high refl fits.value-fits.high_fits i)
    (number_behind front (voted ++ high) back (length front + 13) 8 c.value.low refl fits.value-fits.low_fits i))

-- and 21 bytes that were read as a cell are what it is written as
pub cell-bytes-back : (saved : List ℕ) → Bytes saved → (at : ℕ) → at + cell_length ≤ length saved → cell_bytes (cell_in saved at) ≡ bytes_at saved at cell_length
unfolding cell_in cell_bytes
cell-bytes-back saved bytes at inside =
    let field : (place width : ℕ) → place + width ≤ length saved → to_bytes width (number_at saved place width) ≡ bytes_at saved place width =
    λ place width within. to_bytes-number_at saved bytes place width within in
    (λ i. field at 4 (omega arith) i ++ bytes_at saved (at + 4) 1 ++ field (at + 5) 8 (omega arith) i ++ field (at + 13) 8 (omega arith) i)
    ∙ ap (λ b. b ++ bytes_at saved (at + 5) 8 ++ bytes_at saved (at + 13) 8) (sym (bytes_at-add saved at 4 1))
    ∙ ap (λ b. b ++ bytes_at saved (at + 13) 8) (sym (bytes_at-add saved at 5 8)) ∙ sym (bytes_at-add saved at 13 8)

-- A fresh cell is written as ffffffff, 00 and 16 zero bytes.
pub fresh-bytes : cell_bytes fresh_cell ≡ replicate 4 255 ++ replicate 17 0
unfolding cell_bytes
fresh-bytes = refl

-- ---- all cells

pub cells-back : (cell_at : ℕ → Cell) → ((index : ℕ) → CellFits (cell_at index)) → (front : List ℕ) (index count : ℕ) → length front ≡ saved_length index
    → saved_from (front ++ cells_bytes (cells_from cell_at index count)) index count ≡ cells_from cell_at index count
unfolding cells_bytes cells_from
cells-back cell_at fits front index zero behind = refl
cells-back cell_at fits front index (suc count) behind =
    let c = cell_at index in
    let others = cells_bytes (cells_from cell_at (suc index) count) in
    let long : length (front ++ cell_bytes c) ≡ saved_length (suc index) = omega (arith, length-append front (cell_bytes c), length-cell c) in
    λ i.
    (ap (cell_in (front ++ (cell_bytes c ++ others))) (sym behind) ∙ cell-back front others c (fits index)) i
    ∷ (ap (λ bytes. saved_from bytes (suc index) count) (sym (append_assoc front (cell_bytes c) others))
    ∙ cells-back cell_at fits (front ++ cell_bytes c) (suc index) count long) i

pub cells-bytes-back : (saved : List ℕ) → Bytes saved → (index count : ℕ) → saved_length (index + count) ≤ length saved
    → cells_bytes (saved_from saved index count) ≡ bytes_at saved (saved_length index) (cell_length * count)
unfolding cells_bytes cells_from
cells-bytes-back saved bytes index zero inside = refl
cells-bytes-back saved bytes index (suc count) inside =
    let first = cell-bytes-back saved bytes (saved_length index) (omega arith) in
    let others = cells-bytes-back saved bytes (suc index) count (omega arith) in
    let place : saved_length (suc index) ≡ saved_length index + cell_length = omega arith in
    let wide : cell_length + cell_length * count ≡ cell_length * suc count = omega arith in
    (λ i. first i ++ (others ∙ ap (λ k. bytes_at saved k (cell_length * count)) place) i)
    ∙ sym (bytes_at-add saved (saved_length index) cell_length (cell_length * count)) ∙ ap (bytes_at saved (saved_length index)) wide
