-- The packet table, a row for each type, its columns in byte order. A row says of each column whether the fields keep it.
-- Assumes nothing.
use Rattle.std.specs.Prelude.{Bool, true, false, not, ◌&&◌, ◌||◌, eqb, leb}
use Rattle.basics.specs.Ladder.{when◌then◌else◌}
use Rattle.basics.specs.Rounds.{the_round, is_none, nobody, owner_of, owned_or_0, owned_not_0, at_most, same_round}
use Rattle.basics.specs.Values.{is_null}
use Rattle.messages.specs.declared.Fields.{Fields}
use Rattle.messages.specs.declared.Row.{Row}

abbrev pub row : (switch instance round vote_round value : Bool) → Row
row s i r b v = record { switch = s; instance = i; round = r; vote_round = b; value = v }

abbrev pub any : Bool
any = true

-- "round's owner"; where the round belongs to nobody it is the round's column that fails, and not this one
abbrev pub by_owner : Fields → Bool
by_owner f = eqb (owner_of f.round) nobody || eqb f.switch (owner_of f.round)

-- "0 to 6"
abbrev pub by_acceptor : Fields → Bool
by_acceptor f = leb f.switch 6

-- | Type | switch number | instance | round | vote round | value |

-- | 0 request | any | 0 | 0 | none | not null |
unfoldable pub request_row : Fields → Row
request_row f = row any (eqb f.instance.0 0) (same_round f.round (the_round 0)) (is_none f.vote_round) (not (is_null f.value))

-- | 1 prepare (1A) | round's owner | any | owned, not 0 | none | null |
unfoldable pub prepare_row : Fields → Row
prepare_row f = row (by_owner f) any (owned_not_0 f.round) (is_none f.vote_round) (is_null f.value)

-- | 2 promise (1B) | 0 to 6 | any | owned, not 0 | none with null value; or owned or 0, at most the round, with any value | see left |
unfoldable pub promise_row : Fields → Row
promise_row f =
    let never = is_none f.vote_round in
    let before = owned_or_0 f.vote_round && at_most f.vote_round f.round in
    row (by_acceptor f) any (owned_not_0 f.round) (never || before) (not never || is_null f.value)

-- | 3 propose (2A) | round's owner | any | owned, or 0 | none | any |
unfoldable pub propose_row : Fields → Row
propose_row f = row (by_owner f) any (owned_or_0 f.round) (is_none f.vote_round) any

-- | 4 vote (2B) | 0 to 6 | any | owned, or 0 | equal to round | any |
unfoldable pub vote_row : Fields → Row
vote_row f = row (by_acceptor f) any (owned_or_0 f.round) (same_round f.vote_round f.round) any

-- The row of the type. No row has a type above 4.
unfoldable pub table_row : Fields → Row
table_row f =
    when eqb f.kind 0 then request_row f else
    when eqb f.kind 1 then prepare_row f else
    when eqb f.kind 2 then promise_row f else
    when eqb f.kind 3 then propose_row f else
    when eqb f.kind 4 then vote_row f else
    row false false false false false

abbrev pub all_kept : Row → Bool
all_kept r = r.switch && r.instance && r.round && r.vote_round && r.value

unfoldable pub keeps_table : Fields → Bool
keeps_table f = all_kept (table_row f)
