-- `messages::keeps_table` meets its contract: each arm is the row of its type, and no type above 4 has one.
-- Assumes nothing.
use borrow.Author.Tests.{ne_eqb}
use Rattle.basics.specs.Ladder.{when◌then◌else◌}
use Rattle.messages.specs.Table.{prepare_row, propose_row, vote_row, table_row, keeps_table}
use mathlib.Core.Bool.{Bool, true, false, ◌&&◌}
use mathlib.Core.Path.{◌≡◌, refl, sym, ◌∙◌}
use borrow.Author.Rules.{rules}
use Rattle.messages.proofs.keeps_table.Goals as goal

and-false : (a : Bool) → a && false ≡ false
and-false true = refl
and-false false = refl

pub all_kept-requires-then-owned_or_0-2 : goal.all_kept-requires-then-owned_or_0-2
all_kept-requires-then-owned_or_0-2 c = search rules

-- a round that its row does not allow breaks the row

pub returns-in-0 : goal.returns-in-0
unfolding keeps_table table_row when◌then◌else◌
returns-in-0 c = rw (c.all_kept.ensures, c.request_row.ensures, c.in-0.is)

pub returns-then-owned_not_0 : goal.returns-then-owned_not_0
unfolding keeps_table table_row when◌then◌else◌
returns-then-owned_not_0 c = rw (c.all_kept-then-owned_not_0.ensures, c.prepare_row.ensures, c.in-1.is)

pub returns-else-owned_not_0 : goal.returns-else-owned_not_0
unfolding keeps_table table_row prepare_row when◌then◌else◌
returns-else-owned_not_0 c = c.if-owned_not_0.false ∙ rw (c.in-1.is, sym c.owned_not_0.ensures ∙ c.if-owned_not_0.false, and-false)

pub returns-in-2 : goal.returns-in-2
unfolding keeps_table table_row when◌then◌else◌
returns-in-2 c = rw (c.all_kept-in-2.ensures, c.promise_row.ensures, c.in-2.is)

pub returns-then-owned_or_0 : goal.returns-then-owned_or_0
unfolding keeps_table table_row when◌then◌else◌
returns-then-owned_or_0 c = rw (c.all_kept-then-owned_or_0.ensures, c.propose_row.ensures, c.in-3.is)

pub returns-else-owned_or_0 : goal.returns-else-owned_or_0
unfolding keeps_table table_row propose_row when◌then◌else◌
returns-else-owned_or_0 c = c.if-owned_or_0.false ∙ rw (c.in-3.is, sym c.owned_or_0.ensures ∙ c.if-owned_or_0.false, and-false)

pub returns-then-owned_or_0-2 : goal.returns-then-owned_or_0-2
unfolding keeps_table table_row when◌then◌else◌
returns-then-owned_or_0-2 c = rw (c.all_kept-then-owned_or_0-2.ensures, c.vote_row.ensures, c.in-4.is)

pub returns-else-owned_or_0-2 : goal.returns-else-owned_or_0-2
unfolding keeps_table table_row vote_row when◌then◌else◌
returns-else-owned_or_0-2 c = c.if-owned_or_0-2.false ∙ rw (c.in-4.is, sym c.owned_or_0-in-4.ensures ∙ c.if-owned_or_0-2.false, and-false)

pub returns-in_default : goal.returns-in_default
unfolding keeps_table table_row when◌then◌else◌
returns-in_default c =
    let other = c.in_default.in_default-own.rest in
    simp (ne_eqb _ _ other.0.0.0.0.1, ne_eqb _ _ other.0.0.0.1, ne_eqb _ _ other.0.0.1, ne_eqb _ _ other.0.1, ne_eqb _ _ other.1)
