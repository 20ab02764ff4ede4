-- The saved learner table: "Mark "RDT", version 1 (2 bytes), M (1), N (2), then N cells of 21 bytes", and the two calls, which save a table and read one.
-- Assumes nothing.
use Rattle.std.specs.Prelude.{ℕ, List, ◌++◌, eqb, leb, length}
use Rattle.basics.specs.declared.Verdict.TheVariants.{Done}
use Rattle.basics.specs.Ladder.{need◌or◌then◌}
use Rattle.basics.specs.Outcome.{Outcome, outcome, Lent, lent}
use Rattle.basics.specs.Verdict.{verdict_number}
use Rattle.player.specs.Step.{unchanged}
use Rattle.quorum.specs.declared.Settings.{Settings}
use Rattle.learner_cell.specs.declared.Cell.{Cell}
use Rattle.learner_tables.specs.Tables.{Tables, cells, all_possible, learner_allowed}
use Rattle.learner_file.specs.File.{header_length, saved_length, header, marked, version_in, same_settings, cells_bytes, saved_from, tables_of}

abbrev pub version : ℕ
version = 1

-- The header, then N cells.
unfoldable pub saved_table : Settings → Tables → List ℕ
saved_table s t = header version s ++ cells_bytes (cells s t)

-- The saved cells of all instances, 0 to N-1.
abbrev pub saved_cells : Settings → (saved : List ℕ) → List Cell
saved_cells s saved = saved_from saved 0 s.instances

-- Saving: 7, 1 (buffer not that length), 17.
unfoldable pub save : Settings → (buffer : List ℕ) → Tables → Outcome (Lent Tables)
save s buffer t =
    need learner_allowed s t or unchanged buffer t 7 then
    need eqb (length buffer) (saved_length s.instances) or unchanged buffer t 1 then
    need all_possible s.acceptors (cells s t) or unchanged buffer t 17 then
    outcome (verdict_number Done) (lent (saved_table s t) t)

-- Reading: 7 for the lent table, 1 if under 8 bytes, 2, 3, 7, 1 for the whole length, 17 for a saved cell; the lent cells are replaced unjudged.
unfoldable pub read_saved : Settings → (saved : List ℕ) → Tables → Outcome (Lent Tables)
read_saved s saved t =
    need learner_allowed s t or unchanged saved t 7 then
    need leb header_length (length saved) or unchanged saved t 1 then
    need marked saved or unchanged saved t 2 then
    need eqb (version_in saved) version or unchanged saved t 3 then
    need same_settings s saved or unchanged saved t 7 then
    need eqb (length saved) (saved_length s.instances) or unchanged saved t 1 then
    need all_possible s.acceptors (saved_cells s saved) or unchanged saved t 17 then
    outcome (verdict_number Done) (lent saved (tables_of (saved_cells s saved)))
