-- What is accepted of one pass from now on, and that nothing is accepted of a spent one, from what the rule does to it.
-- Assumes nothing.
use Prim.Native.Nat.{ℕ, ◌≤◌}
use mathlib.Core.Path.{◌≡◌, sym, ap, ◌∙◌, subst}
use mathlib.Core.Bool.{true, ◌||◌, false≢true}
use mathlib.Core.List.{List, [], ◌∷◌, ◌++◌}
use mathlib.Core.Option.{Option, none, some}
use native.Mathlib.Omega.{arith}
use lib.Dec.{eqb}
use lib.ListN.{length}
use Rattle.basics.proofs.Ladder.{by-test, if-true, if-false}
use Rattle.entries.specs.Entry.{Entry}
use Rattle.passes.specs.declared.Pass.{Pass}
use Rattle.passes.specs.Passes.{numbers_of, among}
use Rattle.ledger_rule.specs.Sums.{left_on}
use Rattle.ledger_rule.proofs.OnePass.{pass_in, Moved, stays, opened-now, ride-now}
use Rattle.ledger.specs.Promises.{RisingBoardings, one_more, OneSale, sold_once}

-- all that may be accepted of a pass from now on
abbrev pub Later : (number : ℕ) → Option Pass → List Entry → Type 0
Later number none its = OneSale number its
Later number (some p) its = RisingBoardings number p.last_day p.last_scan its × (length its ≤ p.rides_left)

pub moved_later : {number : ℕ} {before after : Option Pass} {its : List Entry} (later : List Entry) → Moved number before after its
    → Later number after later → Later number before (its ++ later)
moved_later later stays so = so
moved_later later opened-now so = sold_once so.0 so.1
moved_later later (ride-now in-time newer left) so = (one_more in-time newer so.0, omega (arith, so.1, left))

-- nothing is accepted of a spent pass
abbrev pub IsSpent : Option Pass → Type 0
IsSpent none = ⊥
IsSpent (some p) = p.rides_left ≡ 0

pub moved-spent : {number : ℕ} {before after : Option Pass} {its : List Entry} → Moved number before after its → IsSpent before → IsSpent after
moved-spent stays spent = spent
moved-spent opened-now spent = absurd spent
moved-spent (ride-now in-time newer left) spent = absurd (omega (arith, left, spent))

pub spent-in : (number : ℕ) (ps : List Pass) → among number (numbers_of ps) ≡ true → left_on number ps ≡ 0 → IsSpent (pass_in number ps)
unfolding pass_in among left_on
spent-in number [] known none_left = false≢true known
spent-in number (p ∷ ps) known none_left =
    by-test (eqb p.number number)
    (λ same. subst IsSpent (sym (if-true (some p) (pass_in number ps) same)) (sym (if-true p.rides_left (left_on number ps) same) ∙ none_left)) λ other.
    subst IsSpent (sym (if-false (some p) (pass_in number ps) other))
    (spent-in number ps (sym (ap (λ b. b || among number (numbers_of ps)) other) ∙ known)
    (sym (if-false p.rides_left (left_on number ps) other) ∙ none_left))

pub spent-out : (number : ℕ) (ps : List Pass) → IsSpent (pass_in number ps) → (among number (numbers_of ps) ≡ true) × (left_on number ps ≡ 0)
unfolding pass_in among left_on
spent-out number [] spent = absurd spent
spent-out number (p ∷ ps) spent =
    by-test (eqb p.number number)
    (λ same. (
      rw same,
      if-true p.rides_left (left_on number ps) same ∙ subst IsSpent (if-true (some p) (pass_in number ps) same) spent,
    ))
    λ other.
    let rest = spent-out number ps (subst IsSpent (if-false (some p) (pass_in number ps) other) spent) in
    (ap (λ b. b || among number (numbers_of ps)) other ∙ rest.0, if-false p.rides_left (left_on number ps) other ∙ rest.1)
