-- The ledger's rule, of an entry and the passes in use. "Refusals, in order: 30 ..; 31 malformed entry; for a sale 32 pass exists, 33 table full; for a
-- boarding 34 unknown pass, 35 day past, 36 scan not newer, 37 no ride left." 30 is the table's, and told before.
-- Assumes nothing.
use Rattle.std.specs.Prelude.{ℕ, ◌-◌, not, Result, Ok, Err, List, [], ◌∷◌, ◌++◌, leb, ltb, length, get_or, set}
use Rattle.basics.specs.declared.Refusal.{Refusal}
use Rattle.basics.specs.Ladder.{need◌or◌then◌}
use Rattle.basics.specs.Outcome.{Outcome, outcome}
use Rattle.basics.specs.Refusal.{refusal_number}
use Rattle.entries.specs.Entry.{Entry, Null, Malformed, Sale, Boarding}
use Rattle.passes.specs.declared.Pass.{Pass}
use Rattle.passes.specs.Passes.{pass, numbers_of, among, place_of, is_full}

-- ---- the answers that are no refusals

abbrev pub sold : ℕ
sold = 109

abbrev pub boarded : ℕ
boarded = 110

abbrev pub skipped : ℕ
skipped = 111

-- All that the rule answers.
abbrev pub rule_numbers : List ℕ
rule_numbers = 31 ∷ 32 ∷ 33 ∷ 34 ∷ 35 ∷ 36 ∷ 37 ∷ sold ∷ boarded ∷ skipped ∷ []

-- ---- a sale

-- "A sale opens a pass with 1 to 40 rides and a last valid day": its rides are left, and no scan was accepted ("fresh 0").
abbrev pub opened : (number rides last_day : ℕ) → Pass
opened number rides last_day = pass number rides last_day 0

-- "for a sale 32 pass exists, 33 table full"
unfoldable pub sell : List Pass → (number rides last_day : ℕ) → Outcome (List Pass)
sell ps number rides last_day =
    need not (among number (numbers_of ps)) or outcome 32 ps then
    need not (is_full (length ps)) or outcome 33 ps then
    outcome sold (ps ++ opened number rides last_day ∷ [])

-- ---- a boarding

-- The pass behind an accepted boarding: a ride is taken, and the scan is the last accepted one.
abbrev pub ride_taken : Pass → (scan : ℕ) → Pass
ride_taken p scan = pass p.number (p.rides_left - 1) p.last_day scan

-- What a boarding comes to at its pass: the pass behind it, or the refusal.
pub data Boarded : Type 0 where
  Taken : Pass → Boarded
  Refused : (number : ℕ) → Boarded

-- "it needs .. a ride left, a day not after the last, and a scan number above the last accepted for that pass".
unfoldable pub board_pass : Pass → (day scan : ℕ) → Boarded
board_pass p day scan =
    need leb day p.last_day or Refused 35 then
    need ltb p.last_scan scan or Refused 36 then
    need leb 1 p.rides_left or Refused 37 then
    Taken (ride_taken p scan)

-- What each answer of the code comes to.
abbrev pub boarded_of : Result Pass Refusal → Boarded
boarded_of (Ok p) = Taken p
boarded_of (Err refusal) = Refused (refusal_number refusal)

-- What becomes of the passes: that at the place is the boarded one.
unfoldable pub boarded_at : List Pass → (place : ℕ) → Boarded → Outcome (List Pass)
boarded_at ps place (Taken p) = outcome boarded (set ps place p)
boarded_at ps place (Refused number) = outcome number ps

-- The pass at a place. Past the end there is none, and none is asked for.
abbrev pub pass_of : List Pass → (place : ℕ) → Pass
pass_of ps place = get_or ps place (pass 0 0 0 0)

-- "it needs a known pass": "34 unknown pass"
unfoldable pub board : List Pass → (number day scan : ℕ) → Outcome (List Pass)
board ps number day scan =
    let place = place_of number (numbers_of ps) in
    need among number (numbers_of ps) or outcome 34 ps then
    boarded_at ps place (board_pass (pass_of ps place) day scan)

-- ---- an entry

-- "Null values are skipped."
unfoldable pub rule : List Pass → Entry → Outcome (List Pass)
rule ps Null = outcome skipped ps
rule ps Malformed = outcome 31 ps
rule ps (Sale number rides last_day) = sell ps number rides last_day
rule ps (Boarding number day scan) = board ps number day scan
