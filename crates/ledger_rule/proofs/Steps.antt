-- What the rule does, of any passes and any entry: it keeps the passes, opens one behind them, or takes a ride from the first one with the number. The
-- theorems go by these three and not by the rule's text. With it, that lawful passes stay lawful.
-- Assumes nothing.
use Prim.Native.Nat.{ℕ, ◌≤◌, ◌<◌}
use mathlib.Core.Path.{◌≡◌, refl, sym, ap, ◌∙◌, subst}
use mathlib.Core.Bool.{Bool, true, false, not, ◌&&◌, ◌||◌, false≢true}
use mathlib.Core.List.{List, [], ◌∷◌, ◌++◌, map, map-append}
use native.Mathlib.Numerals.{add-one}
use native.Mathlib.Omega.{arith}
use lib.Dec.{eqb, leb, ltb}
use lib.ListN.{length, set, length-append}
use borrow.Author.Tests.{eqb-true, eqb-false, ne_eqb, leb-true, leb-false, le-leb, ltb-true}
use Rattle.basics.specs.Outcome.{Outcome, outcome}
use Rattle.basics.proofs.Ladder.{by-test, need-elim, both_true, and-true}
use Rattle.columns.specs.Walks.{every}
use Rattle.entries.specs.Entry.{Entry, Null, Malformed, Sale, Boarding, most_rides}
use Rattle.entries.proofs.Laws.{FewRides}
use Rattle.passes.specs.declared.Pass.{Pass}
use Rattle.passes.specs.Passes.{most_passes, numbers_of, among, place_of, twice, rides_fit, lawful, is_full}
use Rattle.passes.proofs.Laws.{or-false, not_so, place_here, place-later}
use Rattle.ledger_rule.specs.Rule.{sold, boarded, opened, sell, ride_taken, Boarded, board_pass, boarded_at, pass_of, board, rule, rule_numbers}
use Rattle.ledger_rule.specs.Sums.{is_accepted}

-- ---- where a number is found

-- the passes before it, itself, and those behind it
pub record Found (number : ℕ) (ps : List Pass) : Type 0 where
  pub front : List Pass
  pub it : Pass
  pub back : List Pass
  pub splits : ps ≡ front ++ it ∷ back
  pub is-it : it.number ≡ number
  pub not-before : among number (numbers_of front) ≡ false
  pub reads : pass_of ps (place_of number (numbers_of ps)) ≡ it
  pub stores : (p : Pass) → set ps (place_of number (numbers_of ps)) p ≡ front ++ p ∷ back

pub found : (number : ℕ) (ps : List Pass) → among number (numbers_of ps) ≡ true → Found number ps
unfolding among
found number [] known = absurd (false≢true known)
found number (p ∷ ps) known =
    by-test (eqb p.number number) (λ same. record {
      front = [];
      it = p;
      back = ps;
      splits = refl;
      is-it = eqb-true p.number number same;
      not-before = refl;
      reads = ap (pass_of (p ∷ ps)) (place_here number p.number (numbers_of ps) same);
      stores = λ q. ap (λ k. set (p ∷ ps) k q) (place_here number p.number (numbers_of ps) same);
    }) λ other.
    let rest = found number ps (sym (ap (λ b. b || among number (numbers_of ps)) other) ∙ known) in
    let at = place-later number p.number (numbers_of ps) other ∙ add-one (place_of number (numbers_of ps)) in
    record {
      front = p ∷ rest.front;
      it = rest.it;
      back = rest.back;
      splits = ap (λ qs. p ∷ qs) rest.splits;
      is-it = rest.is-it;
      not-before = ap (λ b. b || among number (numbers_of rest.front)) other ∙ rest.not-before;
      reads = ap (pass_of (p ∷ ps)) at ∙ rest.reads;
      stores = λ q. ap (λ k. set (p ∷ ps) k q) at ∙ ap (λ qs. p ∷ qs) (rest.stores q);
    }

-- ---- what the rule does

-- an answer of the call that is no acceptance, and not 30
unfoldable pub declined : (answer : ℕ) → Bool
declined answer = not (is_accepted answer) && not (eqb answer 30) && among answer rule_numbers

pub record Declined (answer : ℕ) : Type 0 where
  pub not-accepted : is_accepted answer ≡ false
  pub not-30 : eqb answer 30 ≡ false
  pub a-number : among answer rule_numbers ≡ true

pub declined-brings : (answer : ℕ) → declined answer ≡ true → Declined answer
unfolding declined
declined-brings answer so =
    let a = both_true (not (is_accepted answer) && not (eqb answer 30)) (among answer rule_numbers) so in
    let b = both_true (not (is_accepted answer)) (not (eqb answer 30)) a.0 in
    record { not-accepted = not_so (is_accepted answer) b.0; not-30 = not_so (eqb answer 30) b.1; a-number = a.1 }

pub data Did (ps : List Pass) : Entry → Outcome (List Pass) → Type 0 where
  keeps : {e : Entry} {answer : ℕ} → declined answer ≡ true → Did ps e (outcome answer ps)
  opens : {number rides last_day : ℕ} → among number (numbers_of ps) ≡ false → length ps < most_passes
      → Did ps (Sale number rides last_day) (outcome sold (ps ++ opened number rides last_day ∷ []))
  takes : {number day scan : ℕ} (at : Found number ps) → day ≤ at.it.last_day → at.it.last_scan < scan → 1 ≤ at.it.rides_left
      → Did ps (Boarding number day scan) (outcome boarded (at.front ++ ride_taken at.it scan ∷ at.back))

did-sell : (ps : List Pass) (number rides last_day : ℕ) → Did ps (Sale number rides last_day) (sell ps number rides last_day)
unfolding sell is_full declined among
did-sell ps number rides last_day =
    need-elim (Did ps (Sale number rides last_day)) (not (among number (numbers_of ps))) _ _ (keeps refl) λ unknown.
    need-elim (Did ps (Sale number rides last_day)) (not (is_full (length ps))) _ _ (keeps refl) λ room.
    opens (not_so (among number (numbers_of ps)) unknown) (leb-false most_passes (length ps) (not_so (is_full (length ps)) room))

did-board : (ps : List Pass) (number day scan : ℕ) → Did ps (Boarding number day scan) (board ps number day scan)
unfolding board board_pass boarded_at declined among
did-board ps number day scan =
    let place = place_of number (numbers_of ps) in
    let comes-to : Boarded → Type 0 = λ it. Did ps (Boarding number day scan) (boarded_at ps place it) in
    need-elim (Did ps (Boarding number day scan)) (among number (numbers_of ps)) _ _ (keeps refl) λ known.
    let at = found number ps known in
    let p = pass_of ps place in
    need-elim comes-to (leb day p.last_day) _ _ (keeps refl) λ in-time.
    need-elim comes-to (ltb p.last_scan scan) _ _ (keeps refl) λ newer.
    need-elim comes-to (leb 1 p.rides_left) _ _ (keeps refl) λ some.
    let is-it = at.reads in
    subst (λ left. Did ps (Boarding number day scan) (outcome boarded left))
    (sym (at.stores (ride_taken p scan) ∙ ap (λ q. at.front ++ ride_taken q scan ∷ at.back) is-it))
    (takes at (subst (λ q. day ≤ q.last_day) is-it (leb-true day p.last_day in-time))
    (subst (λ q. q.last_scan < scan) is-it (ltb-true p.last_scan scan newer))
    (subst (λ q. 1 ≤ q.rides_left) is-it (leb-true 1 p.rides_left some)))

pub did : (ps : List Pass) (e : Entry) → Did ps e (rule ps e)
unfolding rule declined among
did ps Null = keeps refl
did ps Malformed = keeps refl
did ps (Sale number rides last_day) = did-sell ps number rides last_day
did ps (Boarding number day scan) = did-board ps number day scan

-- ---- lawful passes stay lawful

among-longer : (number other : ℕ) (ns : List ℕ) → among number ns ≡ false → eqb other number ≡ false → among number (ns ++ other ∷ []) ≡ false
unfolding among
among-longer number other [] missing differ = rw differ
among-longer number other (n ∷ ns) missing differ =
    let parts = or-false (eqb n number) (among number ns) missing in
    rw (parts.0, among-longer number other ns parts.1 differ)

twice-longer : (number : ℕ) (ns : List ℕ) → twice ns ≡ false → among number ns ≡ false → twice (ns ++ number ∷ []) ≡ false
unfolding twice among
twice-longer number [] once missing = refl
twice-longer number (n ∷ ns) once missing =
    let first = or-false (eqb n number) (among number ns) missing in
    let rest = or-false (among n ns) (twice ns) once in
    let differ = ne_eqb number n λ same. eqb-false n number first.0 (sym same) in
    rw (among-longer n number ns rest.0 differ, twice-longer number ns rest.1 first.1)

every_append : (test : ℕ → Bool) (xs ys : List ℕ) → every test (xs ++ ys) ≡ every test xs && every test ys
unfolding every
every_append test [] ys = refl
every_append test (x ∷ xs) ys = ap (λ b. test x && b) (every_append test xs ys) ∙ regroup (test x) (every test xs) (every test ys)
  where
    regroup : (a b c : Bool) → a && (b && c) ≡ (a && b) && c
    regroup true b c = refl
    regroup false b c = refl

-- how many rides each pass has left
abbrev left_on_each : List Pass → List ℕ
left_on_each ps = map (λ p. p.rides_left) ps

lawful-brings : (ps : List Pass) → lawful ps ≡ true → (twice (numbers_of ps) ≡ false) × (every rides_fit (left_on_each ps) ≡ true)
unfolding lawful
lawful-brings ps so =
    let parts = both_true (not (twice (numbers_of ps))) (every rides_fit (left_on_each ps)) so in
    (not_so (twice (numbers_of ps)) parts.0, parts.1)

lawful-so : (ps : List Pass) → twice (numbers_of ps) ≡ false → every rides_fit (left_on_each ps) ≡ true → lawful ps ≡ true
unfolding lawful
lawful-so ps once fit = and-true (ap not once) fit

-- lawful, and no more than fit
pub record InOrder (ps : List Pass) : Type 0 where
  pub in_order : lawful ps ≡ true
  pub few : length ps ≤ most_passes

pub stays-in-order : {ps : List Pass} {e : Entry} {o : Outcome (List Pass)} → Did ps e o → FewRides e → InOrder ps → InOrder o.left
unfolding FewRides every
stays-in-order (keeps so) fits before = before
stays-in-order {ps} (opens {number} {rides} {last_day} unknown room) fits before =
    let p = opened number rides last_day in
    let was = lawful-brings ps before.in_order in
    let all_fit = every_append rides_fit (left_on_each ps) (rides ∷ []) in
    record {
      in_order = lawful-so (ps ++ p ∷ []) (ap twice (map-append (λ q. q.number) ps (p ∷ [])) ∙ twice-longer number (numbers_of ps) was.0 unknown)
          (ap (every rides_fit) (map-append (λ q. q.rides_left) ps (p ∷ [])) ∙ all_fit ∙ and-true was.1 (and-true (le-leb rides most_rides fits) refl));
      few = omega (arith, length-append ps (p ∷ []), room);
    }
stays-in-order {ps} (takes {number} {day} {scan} at in-time newer some) fits before =
    let front = at.front in
    let back = at.back in
    let p = at.it in
    let q = ride_taken p scan in
    let was = lawful-brings (front ++ p ∷ back) (sym (ap lawful at.splits) ∙ before.in_order) in
    let same_numbers : numbers_of (front ++ q ∷ back) ≡ numbers_of (front ++ p ∷ back) =
    map-append (λ r. r.number) front (q ∷ back) ∙ sym (map-append (λ r. r.number) front (p ∷ back)) in
    let parts = both_true (every rides_fit (left_on_each front)) (rides_fit p.rides_left && every rides_fit (left_on_each back))
    (sym (ap (every rides_fit) (map-append (λ r. r.rides_left) front (p ∷ back)) ∙ every_append rides_fit (left_on_each front) (left_on_each (p ∷ back)))
    ∙ was.1) in
    let behind = both_true (rides_fit p.rides_left) (every rides_fit (left_on_each back)) parts.1 in
    let fewer = le-leb q.rides_left most_rides (omega (arith, leb-true p.rides_left most_rides behind.0)) in
    record {
      in_order = lawful-so (front ++ q ∷ back) (ap twice same_numbers ∙ was.0)
          (ap (every rides_fit) (map-append (λ r. r.rides_left) front (q ∷ back)) ∙ every_append rides_fit (left_on_each front) (left_on_each (q ∷ back))
          ∙ and-true parts.0 (and-true fewer behind.1));
      few = omega (arith, length-append front (p ∷ back), length-append front (q ∷ back), ap length at.splits, before.few);
    }
