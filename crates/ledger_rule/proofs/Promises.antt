-- The rule makes and loses no ride: of one pass by what it does to it, of all by what it does to the passes.
-- Assumes nothing.
use Prim.Native.Nat.{ℕ, ◌+◌}
use mathlib.Core.Path.{◌≡◌, refl, sym, ap, subst}
use mathlib.Core.Bool.{Bool, true, false}
use mathlib.Core.List.{List, [], ◌∷◌, ◌++◌}
use native.Mathlib.Omega.{arith}
use Rattle.basics.specs.Ladder.{when◌then◌else◌}
use Rattle.basics.specs.Outcome.{Outcome}
use Rattle.entries.specs.Entry.{Entry}
use Rattle.passes.specs.declared.Pass.{Pass}
use Rattle.ledger_rule.specs.Rule.{opened, ride_taken, rule}
use Rattle.ledger_rule.specs.Sums.{is_accepted, rides_of, boardings_of, rides_sold, boardings, of_pass, all_left}
use Rattle.ledger_rule.specs.Promises.{RuleConservesEach, RuleConservesAll}
use Rattle.ledger_rule.proofs.Steps.{Did, keeps, opens, takes, declined-brings, did}
use Rattle.ledger_rule.proofs.OnePass.{moved, left-on, moved-conserves}

pub of-pass-chosen : (number : ℕ) (b : Bool) (e : Entry) → of_pass number (when b then e ∷ [] else []) ≡ (when b then of_pass number (e ∷ []) else [])
unfolding of_pass when◌then◌else◌
of-pass-chosen number true e = refl
of-pass-chosen number false e = refl

pub rule-conserves-each : RuleConservesEach
rule-conserves-each number ps e =
    let o = rule ps e in
    let its = of-pass-chosen number (is_accepted o.answer) e in
    omega (arith, moved-conserves (moved number (did ps e)), ap rides_sold its, ap boardings its, left-on number ps, left-on number o.left)

left-append : (ps qs : List Pass) → all_left (ps ++ qs) ≡ all_left ps + all_left qs
left-append [] qs = omega arith
left-append (p ∷ ps) qs = omega (arith, left-append ps qs)

did-conserves : {ps : List Pass} {e : Entry} {o : Outcome (List Pass)} → Did ps e o
    → let its = when is_accepted o.answer then e ∷ [] else [] in
    all_left ps + rides_sold its ≡ boardings its + all_left o.left
unfolding when◌then◌else◌ rides_of boardings_of
did-conserves {ps} (keeps {e} {answer} so) =
    subst (λ b. all_left ps + rides_sold (when b then e ∷ [] else []) ≡ boardings (when b then e ∷ [] else []) + all_left ps)
    (sym (declined-brings answer so).not-accepted) (omega arith)
did-conserves {ps} (opens {number} {rides} {last_day} unknown room) = omega (arith, left-append ps (opened number rides last_day ∷ []))
did-conserves {ps} (takes {number} {day} {scan} at in-time newer ride) =
    omega (
      arith,
      ride,
      ap all_left at.splits,
      left-append at.front (at.it ∷ at.back),
      left-append at.front (ride_taken at.it scan ∷ at.back),
    )

pub rule-conserves-all : RuleConservesAll
rule-conserves-all ps e = did-conserves (did ps e)
