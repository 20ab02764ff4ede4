-- The change request's cases of the ride ledger as one table, entry after entry from a fresh table: the 32 digits of an entry, what it is, and its answer. Then
-- what is left at the end, and what a full ledger answers.
-- Assumes nothing.
use Rattle.std.specs.Prelude.{ℕ, ◌-◌, ◌≡◌, List, [], ◌∷◌, ◌++◌, map, replicate}
use Rattle.numbers.specs.BigEndian.{to_bytes}
use Rattle.basics.specs.Outcome.{outcome}
use Rattle.columns.specs.Walks.{cells_from}
use Rattle.entries.specs.Entry.{fields, entry_in, field_bytes}
use Rattle.passes.specs.declared.Pass.{Pass}
use Rattle.passes.specs.Passes.{Table, pass, columns, table, in_use}
use Rattle.ledger_rule.specs.Rule.{rule}
use Rattle.ledger_rule.specs.Sums.{rides_sold, boardings, all_left}
use Rattle.ledger.specs.Ledger.{enter, replay, answers, accepted}

-- The answers that are no refusals.
abbrev sold : ℕ
sold = 109

abbrev boarded : ℕ
boarded = 110

abbrev skipped : ℕ
skipped = 111

-- ---- the list

-- A row: an entry, two digits to a byte, and the answer.
pub record Row : Type 0 where
  pub value : List ℕ
  pub answer : ℕ

infix 80 ◌gives◌
abbrev ◌gives◌ : (digits answer : ℕ) → Row
digits gives answer = record { value = to_bytes 16 digits; answer = answer }

abbrev rows : List Row
rows =
    -- sale, pass 1001, 1 ride, last day 300
    0x0101000003e9012c0000000000000000 gives sold
    -- boarding on day 300, scan 1
    ∷ 0x0200000003e9012c0000000100000000 gives boarded
    -- the same again
    ∷ 0x0200000003e9012c0000000100000000 gives 36
    -- a second pupil, scan 2
    ∷ 0x0200000003e9012c0000000200000000 gives 37
    -- day 301, old scan, no ride
    ∷ 0x0200000003e9012d0000000100000000 gives 35
    -- null
    ∷ 0x00000000000000000000000000000000 gives skipped
    -- sold again, 40 rides
    ∷ 0x0128000003e901900000000000000000 gives 32
    -- pass 1002, never sold
    ∷ 0x0200000003ea00010000000100000000 gives 34
    -- a sale of 41 rides
    ∷ 0x0129000003ea012c0000000000000000 gives 31
    -- a sale of 0 rides
    ∷ 0x0100000003ea012c0000000000000000 gives 31
    -- a sale with scan 1
    ∷ 0x0128000003ea012c0000000100000000 gives 31
    -- sale, pass 1002, 40 rides
    ∷ 0x0128000003ea012c0000000000000000 gives sold
    -- boarding with scan 0
    ∷ 0x0200000003ea00000000000000000000 gives 36
    -- a boarding with rides 1
    ∷ 0x0201000003ea00000000000100000000 gives 31
    -- a boarding with last byte 1
    ∷ 0x0200000003ea00000000000100000001 gives 31
    -- kind 3
    ∷ 0x0300000003ea00000000000500000000 gives 31
    -- kind 0, not null
    ∷ 0x00000000000000000000000000000001 gives 31
    -- boarding on day 0, the last scan number
    ∷ 0x0200000003ea0000ffffffff00000000 gives boarded
    -- again the last scan number
    ∷ 0x0200000003ea0000ffffffff00000000 gives 36
    -- sale, pass 4294967295, last day 65535
    ∷ 0x0102ffffffffffff0000000000000000 gives sold
    -- its boarding on day 65535
    ∷ 0x0200ffffffffffff0000000700000000 gives boarded
    -- sale, pass 0, 3 rides, last day 0
    ∷ 0x01030000000000000000000000000000 gives sold
    ∷ []

abbrev list : List (List ℕ)
list = map (λ row. row.value) rows

-- A column with this front, and so many places behind it that hold 238: there stands one pass again and again, with 238 rides left.
abbrev column : (front : List ℕ) → (behind : ℕ) → List ℕ
column front behind = front ++ replicate behind 238

abbrev fresh : Table
fresh = table (columns (column [] 256) (column [] 256) (column [] 256) (column [] 256)) 0

-- ---- a full ledger

-- A sale of one ride, with last day 300.
abbrev sale : (number : ℕ) → List ℕ
sale number = field_bytes (fields 1 1 number 300 0 0)

-- So many such passes are sold: 0, 1, ..
abbrev with_sold : (count : ℕ) → Table
with_sold count =
    let behind = 256 - count in
    table
    (columns (column (cells_from (λ number. number) 0 count) behind) (column (replicate count 1) behind) (column (replicate count 300) behind)
    (column (replicate count 0) behind))
    count

-- The rule, entry after entry: what is answered, and the passes that are left. The call would judge the table each time, which takes long to compute for 256.
abbrev answers_by_rule : List Pass → (values : List (List ℕ)) → List ℕ
answers_by_rule ps [] = []
answers_by_rule ps (v ∷ vs) = (rule ps (entry_in v)).answer ∷ answers_by_rule (rule ps (entry_in v)).left vs

abbrev left_by_rule : List Pass → (values : List (List ℕ)) → List Pass
left_by_rule ps [] = ps
left_by_rule ps (v ∷ vs) = left_by_rule (rule ps (entry_in v)).left vs

-- 256 sales taken, the 257th 33, a sale of a known pass 32.
pub record FullLedger : Type 0 where
  -- by the rule,
  pub sales_answered : answers_by_rule [] (cells_from sale 0 257 ++ sale 0 ∷ []) ≡ replicate 256 sold ++ 33 ∷ 32 ∷ []
  pub passes_sold : left_by_rule [] (cells_from sale 0 256) ≡ in_use (with_sold 256)
  -- and by the call, with 0, 255 and 256 passes in use
  pub first_sale : enter (sale 0) fresh ≡ outcome sold (with_sold 1)
  pub last_sale : enter (sale 255) (with_sold 255) ≡ outcome sold (with_sold 256)
  pub sale_too_many : enter (sale 256) (with_sold 256) ≡ outcome 33 (with_sold 256)
  pub known_sold_again : enter (sale 0) (with_sold 256) ≡ outcome 32 (with_sold 256)

-- ---- all of them

pub record LedgerCases : Type 0 where
  -- the digits of the first entry, as bytes
  pub digits_are_bytes :
      to_bytes 16 0x0101000003e9012c0000000000000000
      ≡ 0x01 ∷ 0x01 ∷ 0x00 ∷ 0x00 ∷ 0x03 ∷ 0xe9 ∷ 0x01 ∷ 0x2c ∷ 0x00 ∷ 0x00 ∷ 0x00 ∷ 0x00 ∷ 0x00 ∷ 0x00 ∷ 0x00 ∷ 0x00 ∷ []
  pub list_answered : answers fresh list ≡ map (λ row. row.answer) rows
  -- at the end, of each pass: number, rides left, last day, last scan
  pub passes_left :
      in_use (replay fresh list)
      ≡ pass 1001 0 300 1
      ∷ pass 1002 39 300 4_294_967_295
      ∷ pass 4_294_967_295 1 65535 7
      ∷ pass 0 3 0 0
      ∷ []
  -- the same as columns: the places behind stay
  pub columns_left :
      replay fresh list
      ≡ table
      (columns (column (1001 ∷ 1002 ∷ 4_294_967_295 ∷ 0 ∷ []) 252) (column (0 ∷ 39 ∷ 1 ∷ 3 ∷ []) 252) (column (300 ∷ 300 ∷ 65535 ∷ 0 ∷ []) 252)
      (column (1 ∷ 4_294_967_295 ∷ 7 ∷ 0 ∷ []) 252))
      4
  -- sold 46 = 3 boarded + 43 left
  pub sold_46 : rides_sold (accepted fresh list) ≡ 46
  pub boarded_3 : boardings (accepted fresh list) ≡ 3
  pub left_43 : all_left (in_use (replay fresh list)) ≡ 43
  pub when_full : FullLedger
