-- The ledger's table as its code holds it: a reference to each column, and the count or one to it.
-- Assumes nothing.
use Rattle.std.specs.Prelude.{◌≡◌}
use Rattle.passes.specs.declared.SharedTable as shared
use Rattle.passes.specs.declared.Table as lent
use Rattle.passes.specs.Passes.{columns, Table, table}

-- What the references lead to.
abbrev pub table_shared : shared.SharedTable → Table
table_shared t = table (columns t.passes.now t.rides_left.now t.last_days.now t.last_scans.now) t.count

abbrev pub table_behind : lent.Table → Table
table_behind t = table (columns t.passes.now t.rides_left.now t.last_days.now t.last_scans.now) t.count.now

-- Each column and the count are behind the reference that they were behind: where these end, what was lent holds what the table then holds.
abbrev pub SameReferences : (before after : lent.Table) → Type 0
SameReferences before after =
    (after.passes.ghost_name ≡ before.passes.ghost_name) × (after.rides_left.ghost_name ≡ before.rides_left.ghost_name)
    × (after.last_days.ghost_name ≡ before.last_days.ghost_name) × (after.last_scans.ghost_name ≡ before.last_scans.ghost_name)
    × (after.count.ghost_name ≡ before.count.ghost_name)
