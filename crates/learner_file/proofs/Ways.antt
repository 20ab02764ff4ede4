-- What the stores of the code leave, each just behind the one before, and the turns of the walks that store cells: what is left to be stored goes on from the next index.
-- Assumes nothing.
use Prim.Native.Nat.{ℕ, ◌+◌, ◌≤◌, ◌<◌}
use mathlib.Core.Path.{◌≡◌, refl, sym, ap, ◌∙◌}
use mathlib.Core.List.{List, [], ◌∷◌, ◌++◌}
use native.Mathlib.Omega.{arith}
use native.Mathlib.Numerals.{add-one}
use lib.ListN.{length, set}
use lib.Seq.{sets, length-sets}
use borrow.Author.Tests.{lt-leb}
use Rattle.numbers.specs.BigEndian.{to_bytes, with_number_at}
use Rattle.numbers.proofs.Bytes.{stored-within, sets-append}
use Rattle.columns.specs.Walks.{cells_from}
use Rattle.columns.proofs.Walks.{cells_left, cells-next, cells-end, cells-all}
use Rattle.quorum.specs.Settings.{settings}
use Rattle.learner_cell.specs.declared.Cell.{Cell}
use Rattle.learner_file.specs.File.{mark, header_length, cell_length, saved_length, header, cell_bytes, with_bytes, with_cell_bytes, stored_from}
use Rattle.learner_file.proofs.Laws.{length-header, length-cell, stored_bytes}

-- ---- stores one behind the other

module _ (buffer : List ℕ) (at : ℕ) (before : List ℕ) where
  number_behind : (place width number : ℕ) → place ≡ at + length before → place + width ≤ length buffer
      → with_number_at (sets buffer at before) place width number ≡ sets buffer at (before ++ to_bytes width number)
  number_behind place width number place-so inside =
      stored-within (sets buffer at before) place width number (omega (arith, length-sets buffer at before))
      ∙ ap (λ k. sets (sets buffer at before) k (to_bytes width number)) place-so ∙ sym (sets-append buffer at before (to_bytes width number))

  byte-behind : (place byte : ℕ) → place ≡ at + length before → set (sets buffer at before) place byte ≡ sets buffer at (before ++ (byte ∷ []))
  byte-behind place byte place-so = ap (λ k. set (sets buffer at before) k byte) place-so ∙ sym (sets-append buffer at before (byte ∷ []))

-- what does not lie within the buffer is not written
not_written : (buffer : List ℕ) (at : ℕ) (bytes : List ℕ) → length buffer < at + length bytes → buffer ≡ with_bytes buffer at bytes
unfolding with_bytes
not_written buffer at bytes short = rw (lt-leb (at + length bytes) (length buffer) short)

module _ (version acceptors instances : ℕ) (buffer : List ℕ) where
  pub header-not-put : length buffer < header_length → buffer ≡ with_bytes buffer 0 (header version (settings acceptors instances))
  header-not-put short =
      let bytes = header version (settings acceptors instances) in
      not_written buffer 0 bytes (omega (arith, length-header version (settings acceptors instances)))

  pub header-put : header_length ≤ length buffer
      → with_number_at (set (with_number_at (sets buffer 0 mark) 3 2 version) 5 acceptors) 6 2 instances ≡ with_bytes buffer 0 (header version (settings acceptors instances))
  unfolding header
  header-put long =
      let versioned = mark ++ to_bytes 2 version in
      let first = number_behind buffer 0 mark 3 2 version refl (omega arith) in
      let second = byte-behind buffer 0 versioned 5 acceptors refl in
      let third = number_behind buffer 0 (versioned ++ (acceptors ∷ [])) 6 2 instances refl (omega arith) in
      ap (λ b. with_number_at (set b 5 acceptors) 6 2 instances) first ∙ ap (λ b. with_number_at b 6 2 instances) second ∙ third
      ∙ sym (stored_bytes buffer 0 (versioned ++ (acceptors ∷ []) ++ to_bytes 2 instances) long)

-- ---- one cell

module _ (c : Cell) (buffer : List ℕ) (index at : ℕ) (at-so : at ≡ saved_length index) where
  pub cell-not-put : length buffer < at + cell_length → buffer ≡ with_cell_bytes buffer index c
  cell-not-put short = not_written buffer (saved_length index) (cell_bytes c) (omega (arith, length-cell c))

  pub cell-put : at + cell_length ≤ length buffer
      → with_number_at (with_number_at (set (with_number_at buffer at 4 c.round.0) (at + 4) c.set) (at + 5) 8 c.value.high) (at + 13) 8 c.value.low
      ≡ with_cell_bytes buffer index c
  unfolding cell_bytes
  cell-put inside =
      let round = to_bytes 4 c.round.0 in
      let voted = round ++ (c.set ∷ []) in
      let high = to_bytes 8 c.value.high in
      let first = stored-within buffer at 4 c.round.0 (omega arith) in
      let second = byte-behind buffer at round (at + 4) c.set refl in
      let third = number_behind buffer at voted (at + 5) 8 c.value.high refl (omega arith) in
      let fourth = number_behind buffer at (voted ++ high) (at + 13) 8 c.value.low refl (omega arith) in
      ap (λ b. with_number_at (with_number_at (set b (at + 4) c.set) (at + 5) 8 c.value.high) (at + 13) 8 c.value.low) first
      ∙ ap (λ b. with_number_at (with_number_at b (at + 5) 8 c.value.high) (at + 13) 8 c.value.low) second
      ∙ ap (λ b. with_number_at b (at + 13) 8 c.value.low) third ∙ fourth
      ∙ sym (stored_bytes buffer at (voted ++ high ++ to_bytes 8 c.value.low) inside) ∙ ap (λ k. with_bytes buffer k (cell_bytes c)) at-so

-- ---- the walks that store

module _ {Holder : Type 0} (store : Holder → ℕ → Cell → Holder) (cell_at : ℕ → Cell) (held : Holder) where
  pub store-first : (count : ℕ) → stored_from store held 0 (cells_from cell_at 0 count) ≡ stored_from store held 0 (cells_left cell_at 0 count)
  store-first count = ap (stored_from store held 0) (cells-all cell_at count)

  module _ (index count : ℕ) where
    pub store-next : index < count → (c : Cell) → c ≡ cell_at index → (next : Holder) → next ≡ store held index c
        → stored_from store held index (cells_left cell_at index count) ≡ stored_from store next (index + 1) (cells_left cell_at (index + 1) count)
    unfolding stored_from
    store-next inside c c-so next next-so =
        let left = cells_left cell_at (index + 1) count in
        ap (stored_from store held index) (cells-next cell_at index count inside)
        ∙ ap (λ k. stored_from store (store held index (cell_at index)) k left) (sym (add-one index))
        ∙ ap (λ h. stored_from store h (index + 1) left) (sym (next-so ∙ ap (store held index) c-so))

    pub store-ends : count ≤ index → stored_from store held index (cells_left cell_at index count) ≡ held
    unfolding stored_from
    store-ends past = ap (stored_from store held index) (cells-end cell_at index count past)
