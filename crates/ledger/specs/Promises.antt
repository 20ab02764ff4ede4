-- What is promised of the ledger: no ride is made or lost, and none is taken from another pupil's pass; a pass is sold once, and boarded no more often than
-- it was sold for; and what the call answers and leaves.
-- Assumes nothing.
use Rattle.std.specs.Prelude.{ℕ, ◌+◌, ◌≤◌, ◌<◌, ◌≡◌, true, false, List, [], ◌∷◌, ◌++◌, ◌↔◌, length, take}
use Rattle.entries.specs.Entry.{Entry, Sale, Boarding, entry_in}
use Rattle.passes.specs.Passes.{Table, most_passes, numbers_of, in_use, among, sound, Fresh}
use Rattle.ledger_rule.specs.Rule.{rule_numbers}
use Rattle.ledger_rule.specs.Sums.{is_accepted, rides_sold, boardings, of_pass, all_left, left_on}
use Rattle.ledger.specs.Ledger.{enter, replay, answers, accepted}

-- ---- conservation

-- For each pass, from any sound table over any list: its rides left before and those of its accepted sales are its accepted boardings and its rides left after.
abbrev pub ConservedForEach : Type 0
ConservedForEach =
    (number : ℕ) (t : Table) (values : List (List ℕ)) → sound t ≡ true
    → let its = of_pass number (accepted t values) in
    left_on number (in_use t) + rides_sold its ≡ boardings its + left_on number (in_use (replay t values))

-- The same for all passes together.
abbrev pub ConservedForAll : Type 0
ConservedForAll =
    (t : Table) (values : List (List ℕ)) → sound t ≡ true
    → all_left (in_use t) + rides_sold (accepted t values) ≡ boardings (accepted t values) + all_left (in_use (replay t values))

-- "At each moment the rides of all accepted sales in the list equal accepted boardings plus rides left."
abbrev pub Conservation : Type 0
Conservation =
    (t : Table) → Fresh t → (list : List (List ℕ)) (moment : ℕ)
    → let so_far = take moment list in
    rides_sold (accepted t so_far) ≡ boardings (accepted t so_far) + all_left (in_use (replay t so_far))

-- ---- one pass

-- Boardings of a pass, one after the other: each "a day not after the last, and a scan number above the last accepted for that pass".
pub data RisingBoardings (number last_day : ℕ) : (last_scan : ℕ) → List Entry → Type 0 where
  no_more : {last_scan : ℕ} → RisingBoardings number last_day last_scan []
  one_more : {last_scan day scan : ℕ} {later : List Entry} → day ≤ last_day → last_scan < scan → RisingBoardings number last_day scan later
      → RisingBoardings number last_day last_scan (Boarding number day scan ∷ later)

-- All that is accepted of a pass: nothing, or one sale and then boardings, at most as many as it says. So a single-ride pass carries one pupil.
pub data OneSale (number : ℕ) : List Entry → Type 0 where
  never_sold : OneSale number []
  sold_once : {rides last_day : ℕ} {later : List Entry} → RisingBoardings number last_day 0 later → length later ≤ rides
      → OneSale number (Sale number rides last_day ∷ later)

-- From the fresh table that is so of each pass.
abbrev pub SoldOnce : Type 0
SoldOnce = (t : Table) → Fresh t → (values : List (List ℕ)) (number : ℕ) → OneSale number (of_pass number (accepted t values))

-- A pass that is known and has no ride left is spent.
pub record Spent (number : ℕ) (t : Table) : Type 0 where
  pub known : among number (numbers_of (in_use t)) ≡ true
  pub none_left : left_on number (in_use t) ≡ 0

-- "a spent pass is spent": it stays so, whatever is entered.
abbrev pub SpentStays : Type 0
SpentStays = (number : ℕ) (t : Table) (values : List (List ℕ)) → sound t ≡ true → Spent number t → Spent number (replay t values)

-- ---- lists

-- A sound table stays sound, so that from it no entry is answered by 30; and the fresh table is sound.
pub record StaysSound (t : Table) (values : List (List ℕ)) : Type 0 where
  pub still : sound (replay t values) ≡ true
  pub never_30 : among 30 (answers t values) ≡ false

abbrev pub SoundStays : Type 0
SoundStays = (t : Table) (values : List (List ℕ)) → sound t ≡ true → StaysSound t values

abbrev pub FreshSound : Type 0
FreshSound = (t : Table) → Fresh t → sound t ≡ true

-- Replaying a list is replaying its front and then the rest.
pub record InTwoParts (t : Table) (front rest : List (List ℕ)) : Type 0 where
  pub same_table : replay t (front ++ rest) ≡ replay (replay t front) rest
  pub same_answers : answers t (front ++ rest) ≡ answers t front ++ answers (replay t front) rest
  pub same_accepted : accepted t (front ++ rest) ≡ accepted t front ++ accepted (replay t front) rest

abbrev pub FrontThenRest : Type 0
FrontThenRest = (t : Table) (front rest : List (List ℕ)) → InTwoParts t front rest

-- Two ledgers with the same passes in use, whatever else their columns hold, answer alike and have the same passes in use after the same list.
pub record Alike (t u : Table) (values : List (List ℕ)) : Type 0 where
  pub same_passes : in_use (replay t values) ≡ in_use (replay u values)
  pub same_answers : answers t values ≡ answers u values

abbrev pub SamePassesAlike : Type 0
SamePassesAlike = (t u : Table) (values : List (List ℕ)) → sound t ≡ true → sound u ≡ true → in_use t ≡ in_use u → Alike t u values

-- ---- the call

-- 30, and all that the rule answers: 31 to 37, sold, boarded, skipped.
abbrev pub numbers : List ℕ
numbers = 30 ∷ rule_numbers

-- A well-formed sale of an unknown pass, with 256 in use.
pub record SaleTooMany (value : List ℕ) (t : Table) : Type 0 where
  pub in_order : sound t ≡ true
  pub number : ℕ
  pub rides : ℕ
  pub last_day : ℕ
  pub sale : entry_in value ≡ Sale number rides last_day
  pub unknown : among number (numbers_of (in_use t)) ≡ false
  pub full : t.count ≡ most_passes

pub record EnterPromises (value : List ℕ) (t : Table) : Type 0 where
  -- It answers one of the numbers.
  pub numbers_are : among (enter value t).answer numbers ≡ true
  -- A refusal and a skip leave all as it came.
  pub keeps_all : is_accepted (enter value t).answer ≡ false → (enter value t).left ≡ t
  -- 30 is told exactly where the table is not sound,
  pub unsound_exactly : ((enter value t).answer ≡ 30) ↔ (sound t ≡ false)
  -- and 33 exactly for a sale that is one too many.
  pub full_exactly : ((enter value t).answer ≡ 33) ↔ SaleTooMany value t
