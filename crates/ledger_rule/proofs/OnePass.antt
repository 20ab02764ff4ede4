-- What the rule does to one pass: nothing; it is opened, where it was unknown; or a ride is taken from it. A pass is seen as the first one with its number,
-- so that nothing here needs the passes to be lawful.
-- Assumes nothing.
use Prim.Native.Nat.{ℕ, ◌+◌, ◌≤◌, ◌<◌}
use mathlib.Core.Path.{◌≡◌, refl, sym, ap, ◌∙◌, subst}
use mathlib.Core.Bool.{true, false}
use mathlib.Core.List.{List, [], ◌∷◌, ◌++◌, append-nil}
use mathlib.Core.Option.{Option, none, some}
use native.Mathlib.Omega.{arith}
use lib.Dec.{eqb}
use borrow.Author.Tests.{eqb-true, eq-eqb}
use Rattle.basics.specs.Ladder.{when◌then◌else◌}
use Rattle.basics.specs.Outcome.{Outcome}
use Rattle.basics.proofs.Ladder.{by-test, if-true, if-false}
use Rattle.entries.specs.Entry.{Entry, Sale, Boarding}
use Rattle.passes.specs.declared.Pass.{Pass}
use Rattle.passes.specs.Passes.{numbers_of, among}
use Rattle.passes.proofs.Laws.{or-false}
use Rattle.ledger_rule.specs.Rule.{opened, ride_taken}
use Rattle.ledger_rule.specs.Sums.{is_accepted, rides_of, boardings_of, is_of, rides_sold, boardings, of_pass, left_on}
use Rattle.ledger_rule.proofs.Steps.{Found, Did, keeps, opens, takes, declined-brings}

-- ---- the first pass with a number

unfoldable pub pass_in : (number : ℕ) → List Pass → Option Pass
pass_in number [] = none
pass_in number (p ∷ ps) = when eqb p.number number then some p else pass_in number ps

module _ (number : ℕ) where
  pass-first : (p : Pass) (ps : List Pass) → p.number ≡ number → pass_in number (p ∷ ps) ≡ some p
  unfolding pass_in
  pass-first p ps same = if-true (some p) (pass_in number ps) (eq-eqb p.number number same)

  -- behind passes with other numbers
  pass-behind : (front ps : List Pass) → among number (numbers_of front) ≡ false → pass_in number (front ++ ps) ≡ pass_in number ps
  unfolding pass_in among
  pass-behind [] ps missing = refl
  pass-behind (p ∷ front) ps missing =
      let parts = or-false (eqb p.number number) (among number (numbers_of front)) missing in
      if-false (some p) (pass_in number (front ++ ps)) parts.0 ∙ pass-behind front ps parts.1

  pass-missing : (ps : List Pass) → among number (numbers_of ps) ≡ false → pass_in number ps ≡ none
  unfolding pass_in
  pass-missing ps missing = sym (ap (pass_in number) (append-nil ps)) ∙ pass-behind ps [] missing

  -- passes with another number do not matter, wherever they stand
  pass-apart : (front : List Pass) (p q : Pass) (back : List Pass) → eqb p.number number ≡ false → eqb q.number number ≡ false
      → pass_in number (front ++ p ∷ back) ≡ pass_in number (front ++ q ∷ back)
  unfolding pass_in
  pass-apart [] p q back p-differs q-differs = if-false (some p) (pass_in number back) p-differs ∙ sym (if-false (some q) (pass_in number back) q-differs)
  pass-apart (r ∷ front) p q back p-differs q-differs =
      ap (λ it. when eqb r.number number then some r else it) (pass-apart front p q back p-differs q-differs)

  pass-not-last : (ps : List Pass) (p : Pass) → eqb p.number number ≡ false → pass_in number (ps ++ p ∷ []) ≡ pass_in number ps
  unfolding pass_in
  pass-not-last [] p differs = if-false (some p) none differs
  pass-not-last (q ∷ ps) p differs = ap (λ it. when eqb q.number number then some q else it) (pass-not-last ps p differs)

-- ---- what happens to it

pub data Moved (number : ℕ) : (before after : Option Pass) → (its : List Entry) → Type 0 where
  stays : {it : Option Pass} → Moved number it it []
  opened-now : {rides last_day : ℕ} → Moved number none (some (opened number rides last_day)) (Sale number rides last_day ∷ [])
  ride-now : {p : Pass} {day scan : ℕ} → day ≤ p.last_day → p.last_scan < scan → 1 ≤ p.rides_left
      → Moved number (some p) (some (ride_taken p scan)) (Boarding number day scan ∷ [])

-- the accepted entries of a pass, of one entry that was answered
abbrev pub its_of : (number : ℕ) → Entry → Outcome (List Pass) → List Entry
its_of number e o = when is_accepted o.answer then of_pass number (e ∷ []) else []

-- where the pass is another one, nothing happens to this
apart : (number : ℕ) (e : Entry) {before after : Option Pass} → is_of number e ≡ false → after ≡ before → Moved number before after (of_pass number (e ∷ []))
unfolding of_pass
apart number e {before} {after} differs same =
    subst (Moved number before after) (sym (if-false (e ∷ []) [] differs)) (subst (λ it. Moved number before it []) (sym same) stays)

-- where it is this one, the entry is its own
own : (number : ℕ) (e : Entry) → is_of number e ≡ true → e ∷ [] ≡ of_pass number (e ∷ [])
unfolding of_pass
own number e same = sym (if-true (e ∷ []) [] same)

moved-opened : (number other rides last_day : ℕ) (ps : List Pass) → among other (numbers_of ps) ≡ false
    → Moved number (pass_in number ps) (pass_in number (ps ++ opened other rides last_day ∷ [])) (of_pass number (Sale other rides last_day ∷ []))
unfolding is_of
moved-opened number other rides last_day ps unknown =
    let p = opened other rides last_day in
    let e = Sale other rides last_day in
    by-test (eqb other number) (λ same-so.
    let same = eqb-true other number same-so in
    let missing : among number (numbers_of ps) ≡ false = ap (λ n. among n (numbers_of ps)) (sym same) ∙ unknown in
    let after = pass-behind number ps (p ∷ []) missing ∙ pass-first number p [] same ∙ ap (λ n. some (opened n rides last_day)) same in
    let its = ap (λ n. Sale n rides last_day ∷ []) (sym same) ∙ own number e same-so in
    subst (λ it. Moved number it (pass_in number (ps ++ p ∷ [])) (of_pass number (e ∷ []))) (sym (pass-missing number ps missing))
    (subst (λ it. Moved number none it (of_pass number (e ∷ []))) (sym after) (subst (Moved number none (some (opened number rides last_day))) its opened-now)))
    λ other-so. apart number e other-so (pass-not-last number ps p other-so)

moved-ridden : (number other day scan : ℕ) (ps : List Pass) (at : Found other ps) → day ≤ at.it.last_day → at.it.last_scan < scan
    → 1 ≤ at.it.rides_left
    → Moved number (pass_in number ps) (pass_in number (at.front ++ ride_taken at.it scan ∷ at.back)) (of_pass number (Boarding other day scan ∷ []))
unfolding is_of
moved-ridden number other day scan ps at in-time newer left =
    let p = at.it in
    let q = ride_taken p scan in
    let e = Boarding other day scan in
    by-test (eqb other number) (λ same-so.
    let same = eqb-true other number same-so in
    let missing : among number (numbers_of at.front) ≡ false = ap (λ n. among n (numbers_of at.front)) (sym same) ∙ at.not-before in
    let there : (r : Pass) → r.number ≡ p.number → pass_in number (at.front ++ r ∷ at.back) ≡ some r =
    λ r as-p. pass-behind number at.front (r ∷ at.back) missing ∙ pass-first number r at.back (as-p ∙ at.is-it ∙ same) in
    let its = ap (λ n. Boarding n day scan ∷ []) (sym same) ∙ own number e same-so in
    subst (λ it. Moved number it (pass_in number (at.front ++ q ∷ at.back)) (of_pass number (e ∷ []))) (sym (ap (pass_in number) at.splits ∙ there p refl))
    (subst (λ it. Moved number (some p) it (of_pass number (e ∷ []))) (sym (there q refl))
    (subst (Moved number (some p) (some q)) its (ride-now in-time newer left))))
    λ other-so.
    let differs : eqb p.number number ≡ false = ap (λ n. eqb n number) at.is-it ∙ other-so in
    apart number e other-so (pass-apart number at.front q p at.back differs differs ∙ sym (ap (pass_in number) at.splits))

pub moved : (number : ℕ) {ps : List Pass} {e : Entry} {o : Outcome (List Pass)} → Did ps e o
    → Moved number (pass_in number ps) (pass_in number o.left) (its_of number e o)
unfolding when◌then◌else◌
moved number {ps} (keeps {e} {answer} so) =
    let it = pass_in number ps in
    subst (λ b. Moved number it it (when b then of_pass number (e ∷ []) else [])) (sym (declined-brings answer so).not-accepted) stays
moved number {ps} (opens {number = other} {rides} {last_day} unknown room) = moved-opened number other rides last_day ps unknown
moved number {ps} (takes {number = other} {day} {scan} at in-time newer left) = moved-ridden number other day scan ps at in-time newer left

-- ---- what that comes to

abbrev pub left_in : Option Pass → ℕ
left_in none = 0
left_in (some p) = p.rides_left

pub left-on : (number : ℕ) (ps : List Pass) → left_on number ps ≡ left_in (pass_in number ps)
unfolding left_on pass_in
left-on number [] = refl
left-on number (p ∷ ps) =
    by-test (eqb p.number number) (λ same. if-true _ _ same ∙ sym (ap left_in (if-true (some p) (pass_in number ps) same))) λ other.
    if-false _ _ other ∙ left-on number ps ∙ sym (ap left_in (if-false (some p) (pass_in number ps) other))

-- no ride is made or lost
pub moved-conserves : {number : ℕ} {before after : Option Pass} {its : List Entry} → Moved number before after its
    → left_in before + rides_sold its ≡ boardings its + left_in after
unfolding rides_of boardings_of
moved-conserves stays = omega arith
moved-conserves opened-now = omega arith
moved-conserves (ride-now in-time newer left) = omega (arith, left)
