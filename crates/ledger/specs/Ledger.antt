-- The ledger's call on its lent table, and a list replayed by it, entry after entry.
-- Assumes nothing.
use Rattle.std.specs.Prelude.{ℕ, Result, Ok, Err, List, [], ◌∷◌}
use Rattle.basics.specs.declared.Refusal.{Refusal}
use Rattle.basics.specs.Ladder.{when◌then◌else◌, need◌or◌then◌}
use Rattle.basics.specs.Outcome.{Outcome, outcome}
use Rattle.basics.specs.Refusal.{refusal_number}
use Rattle.entries.specs.Entry.{Entry, entry_in}
use Rattle.passes.specs.declared.Pass.{Pass}
use Rattle.passes.specs.Passes.{Table, in_use, holding, sound}
use Rattle.ledger_rule.specs.Rule.{sold, boarded, skipped, rule}
use Rattle.ledger_rule.specs.Sums.{is_accepted}
use Rattle.ledger.specs.declared.Entered.{Entered}
use Rattle.ledger.specs.declared.Entered.TheVariants.{Sold, Boarded, Skipped}

-- The rule, carried out on a table: it is left with the passes that the rule leaves.
abbrev pub carried_out : Table → Outcome (List Pass) → Outcome Table
carried_out t ruled = outcome ruled.answer (holding t.columns ruled.left)

-- "30 ledger table of wrong size, with a pass twice, or with rides left above 40", then the rule.
unfoldable pub enter : (value : List ℕ) → Table → Outcome Table
enter value t =
    need sound t or outcome 30 t then
    carried_out t (rule (in_use t) (entry_in value))

-- ---- the answers as the code has them

-- The number that stands for what became of an entry.
abbrev pub entered_number : Entered → ℕ
entered_number Sold = sold
entered_number Boarded = boarded
entered_number Skipped = skipped

-- What C is answered: that number, or the refusal's.
abbrev pub entering_number : Result Entered Refusal → ℕ
entering_number (Ok entered) = entered_number entered
entering_number (Err refusal) = refusal_number refusal

-- ---- a list, entry after entry

-- The table that is left.
unfoldable pub replay : Table → (values : List (List ℕ)) → Table
replay t [] = t
replay t (v ∷ vs) = replay (enter v t).left vs

-- What was answered.
unfoldable pub answers : Table → (values : List (List ℕ)) → List ℕ
answers t [] = []
answers t (v ∷ vs) = (enter v t).answer ∷ answers (enter v t).left vs

-- The accepted entries.
unfoldable pub accepted : Table → (values : List (List ℕ)) → List Entry
accepted t [] = []
accepted t (v ∷ vs) =
    let later = accepted (enter v t).left vs in
    when is_accepted (enter v t).answer then entry_in v ∷ later else later
