-- The bytes of a file that holds a learner's table: "Mark "RDT", version 1 (2 bytes), M (1), N (2), then N cells of 21 bytes: round 4, set 1 (bit i for acceptor i), value 16."
-- The version is a parameter. Numbers of more than one byte are big-endian, as in the packet.
-- Assumes nothing.
use Rattle.std.specs.Prelude.{ℕ, suc, ◌+◌, ◌*◌, Bool, ◌&&◌, cond, List, [], ◌∷◌, ◌++◌, eqb, leb, length, get_or}
use Rattle.std.proofs.lemmas.List.Edits.{sets}
use Rattle.numbers.specs.BigEndian.{number_at, to_bytes}
use Rattle.basics.specs.Rounds.{the_round}
use Rattle.basics.specs.Values.{the_value}
use Rattle.columns.specs.Walks.{cells_from}
use Rattle.quorum.specs.declared.Settings.{Settings}
use Rattle.learner_cell.specs.declared.Cell.{Cell}
use Rattle.learner_cell.specs.Cell.{cell}
use Rattle.learner_tables.specs.Tables.{Tables, tables}

-- "RDT"
abbrev pub mark : List ℕ
mark = 82 ∷ 68 ∷ 84 ∷ []

abbrev pub header_length : ℕ
header_length = 8

abbrev pub cell_length : ℕ
cell_length = 21

-- Length 8 + 21N. The cell at an index begins where a file of so many cells ends.
abbrev pub saved_length : (N : ℕ) → ℕ
saved_length N = header_length + cell_length * N

-- ---- the header: mark in bytes 0 to 2, version in 3 and 4, M in 5, N in 6 and 7

-- Mark "RDT", version (2 bytes), M (1), N (2).
unfoldable pub header : (version : ℕ) → Settings → List ℕ
header version s = mark ++ to_bytes 2 version ++ (s.acceptors ∷ []) ++ to_bytes 2 s.instances

-- The mark is right.
unfoldable pub marked : (saved : List ℕ) → Bool
marked saved = eqb (get_or saved 0 0) (get_or mark 0 0) && eqb (get_or saved 1 0) (get_or mark 1 0) && eqb (get_or saved 2 0) (get_or mark 2 0)

abbrev pub version_in : (saved : List ℕ) → ℕ
version_in saved = number_at saved 3 2

-- The saved table's M and N are the lent one's.
unfoldable pub same_settings : Settings → (saved : List ℕ) → Bool
same_settings s saved = eqb (get_or saved 5 0) s.acceptors && eqb (number_at saved 6 2) s.instances

-- ---- a cell: its value is two halves of 8

-- Round 4, set 1 (bit i for acceptor i), value 16.
unfoldable pub cell_bytes : Cell → List ℕ
cell_bytes c = to_bytes 4 c.round.0 ++ (c.set ∷ []) ++ to_bytes 8 c.value.high ++ to_bytes 8 c.value.low

-- The cell whose bytes begin at a place.
unfoldable pub cell_in : (saved : List ℕ) → (at : ℕ) → Cell
cell_in saved at =
    cell (the_round (number_at saved at 4)) (get_or saved (at + 4) 0) (the_value (number_at saved (at + 5) 8) (number_at saved (at + 13) 8))

-- The saved cell of an index.
abbrev pub saved_cell : (saved : List ℕ) → (index : ℕ) → Cell
saved_cell saved index = cell_in saved (saved_length index)

-- ---- the body: so many cells behind the header

unfoldable pub cells_bytes : List Cell → List ℕ
cells_bytes [] = []
cells_bytes (c ∷ cs) = cell_bytes c ++ cells_bytes cs

-- The saved cells from an index on, so many of them.
abbrev pub saved_from : (saved : List ℕ) → (index count : ℕ) → List Cell
saved_from saved index count = cells_from (saved_cell saved) index count

-- The tables whose cells are these.
unfoldable pub rounds_of : List Cell → List ℕ
rounds_of [] = []
rounds_of (c ∷ cs) = c.round.0 ∷ rounds_of cs

unfoldable pub sets_of : List Cell → List ℕ
sets_of [] = []
sets_of (c ∷ cs) = c.set ∷ sets_of cs

unfoldable pub values_of : List Cell → List ℕ
values_of [] = []
values_of (c ∷ cs) = c.value.high ∷ c.value.low ∷ values_of cs

abbrev pub tables_of : List Cell → Tables
tables_of cs = tables (rounds_of cs) (sets_of cs) (values_of cs)

-- ---- storing

-- The buffer with bytes stored at a place; as it was where they do not lie within it.
unfoldable pub with_bytes : (buffer : List ℕ) → (at : ℕ) → (bytes : List ℕ) → List ℕ
with_bytes buffer at bytes = cond (leb (at + length bytes) (length buffer)) (sets buffer at bytes) buffer

-- With the bytes of the cell of an index.
abbrev pub with_cell_bytes : (buffer : List ℕ) → (index : ℕ) → Cell → List ℕ
with_cell_bytes buffer index c = with_bytes buffer (saved_length index) (cell_bytes c)

-- Cells stored one after the other from an index on, in a buffer or in tables.
unfoldable pub stored_from : {Holder : Type 0} → (store : Holder → (index : ℕ) → Cell → Holder) → Holder → (index : ℕ) → List Cell → Holder
stored_from store held index [] = held
stored_from store held index (c ∷ cs) = stored_from store (store held index c) (suc index) cs
