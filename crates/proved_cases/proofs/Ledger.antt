-- The cases of the ride ledger hold: each is computed from the definitions. A full ledger's are computed apart, since the steps of one proof are bounded.
-- Assumes nothing.
use mathlib.Core.Path.{refl}
use Rattle.numbers.specs.BigEndian.{number_at}
use Rattle.basics.specs.Ladder.{when◌then◌else◌, need◌or◌then◌}
use Rattle.columns.specs.Walks.{cells_from, every}
use Rattle.entries.specs.Entry.{fields_in, is_null, is_sale, is_boarding, entry_of, entry_in, field_bytes}
use Rattle.passes.specs.Passes.{holding, among, place_of, twice, is_full, is_sized, lawful, sound}
use Rattle.ledger_rule.specs.Rule.{sell, board_pass, boarded_at, board, rule}
use Rattle.ledger_rule.specs.Sums.{rides_of, boardings_of}
use Rattle.ledger.specs.Ledger.{enter, replay, answers, accepted}
use Rattle.proved_cases.specs.Ledger.{FullLedger, LedgerCases}

full-ledger : FullLedger
unfolding number_at when◌then◌else◌ need◌or◌then◌ cells_from every fields_in is_null is_sale entry_of entry_in field_bytes holding among twice is_full is_sized lawful sound
    sell rule enter
full-ledger = record {
  sales_answered = refl;
  passes_sold = refl;
  first_sale = refl;
  last_sale = refl;
  sale_too_many = refl;
  known_sold_again = refl;
}

pub ledger-cases : LedgerCases
unfolding number_at when◌then◌else◌ need◌or◌then◌ cells_from every fields_in is_null is_sale is_boarding entry_of entry_in holding among place_of twice is_full is_sized
    lawful sound sell board_pass boarded_at board rule enter replay answers accepted rides_of boardings_of
ledger-cases = record {
  digits_are_bytes = refl;
  list_answered = refl;
  passes_left = refl;
  columns_left = refl;
  sold_46 = refl;
  boarded_3 = refl;
  left_43 = refl;
  when_full = full-ledger;
}
