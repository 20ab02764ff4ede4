-- The ledger's theorems, over any list by induction on it. Of one entry, what the rule did to the passes in use; from a sound table the call does just that,
-- and leaves a sound table.
-- Assumes nothing.
use Prim.Native.Nat.{ℕ, ◌+◌}
use mathlib.Core.Path.{◌≡◌, refl, sym, ap, ◌∙◌, subst}
use mathlib.Core.Bool.{Bool, true, false, ◌||◌, true≢false}
use mathlib.Core.List.{List, [], ◌∷◌, ◌++◌}
use mathlib.Core.Option.{Option, none, some}
use native.Mathlib.Omega.{arith}
use lib.Dec.{eqb, leb, ltb}
use lib.ListN.{length, take}
use borrow.Author.Tests.{eq-eqb, leb-true, le-leb}
use Rattle.basics.specs.Ladder.{when◌then◌else◌, need◌or◌then◌}
use Rattle.basics.specs.Outcome.{Outcome, outcome}
use Rattle.basics.proofs.Ladder.{by-test, need-elim, need-passed, need-failed, or_right}
use Rattle.columns.specs.Walks.{cells_from}
use Rattle.entries.specs.Entry.{Entry, Null, Malformed, Sale, Boarding, entry_in}
use Rattle.entries.proofs.Laws.{few-rides}
use Rattle.passes.specs.declared.Pass.{Pass}
use Rattle.passes.specs.Passes.{Table, pass_at, in_use, holding, most_passes, numbers_of, among, place_of, is_full, sound, Fresh}
use Rattle.passes.proofs.Laws as laws
use Rattle.passes.proofs.Laws.{sound-brings, sound-so, in-use-length, holding-in-use, in-use-holding, holding-sound}
use Rattle.ledger_rule.specs.Rule.{Boarded, sold, opened, sell, board_pass, boarded_at, pass_of, board, rule}
use Rattle.ledger_rule.specs.Sums.{is_accepted, is_of, rides_sold, boardings, of_pass, all_left, left_on}
use Rattle.ledger_rule.specs.Promises.{accepted_of}
use Rattle.ledger.specs.Ledger.{carried_out, enter, replay, answers, accepted}
use Rattle.ledger.specs.Promises.{ConservedForEach, ConservedForAll, Conservation, no_more, never_sold, SoldOnce, SpentStays, SoundStays}
use Rattle.ledger.specs.Promises.{FreshSound, FrontThenRest, SamePassesAlike, numbers, SaleTooMany, EnterPromises}
use Rattle.ledger_rule.proofs.Steps.{Did, keeps, opens, takes, declined-brings, did, InOrder, stays-in-order}
use Rattle.ledger_rule.proofs.OnePass.{pass_in, moved}
use Rattle.ledger_rule.proofs.Promises.{of-pass-chosen, rule-conserves-each, rule-conserves-all}
use Rattle.ledger.proofs.Lives.{Later, moved_later, IsSpent, moved-spent, spent-in, spent-out}

-- ---- one entry

-- what the call does, from a sound table
record Entered (value : List ℕ) (t : Table) : Type 0 where
  pub as-ruled : enter value t ≡ carried_out t (rule (in_use t) (entry_in value))
  pub now-in-use : in_use (enter value t).left ≡ (rule (in_use t) (entry_in value)).left
  pub still-sound : sound (enter value t).left ≡ true

module _ (value : List ℕ) (t : Table) (sound-now : sound t ≡ true) where
  entered : Entered value t
  unfolding enter
  entered =
      let fine = sound-brings t sound-now in
      let ruled = rule (in_use t) (entry_in value) in
      let before : InOrder (in_use t) = record { in_order = fine.in_order; few = omega (arith, in-use-length t, fine.few) } in
      let after = stays-in-order (did (in_use t) (entry_in value)) (few-rides value) before in
      let so : enter value t ≡ carried_out t ruled = need-passed _ _ sound-now in
      record {
        as-ruled = so;
        now-in-use = ap (λ o. in_use o.left) so ∙ in-use-holding t.columns fine.long ruled.left after.few;
        still-sound = ap (λ o. sound o.left) so
            ∙ sound-so (holding t.columns ruled.left) (holding-sound t.columns fine.long ruled.left after.few after.in_order);
      }

  accepted-next : (later : List Entry)
      → (when is_accepted (enter value t).answer then entry_in value ∷ later else later) ≡ accepted_of (in_use t) (entry_in value) ++ later
  unfolding when◌then◌else◌
  accepted-next later = ap (λ o. when is_accepted o.answer then entry_in value ∷ later else later) entered.as-ruled
      ∙ either (is_accepted (rule (in_use t) (entry_in value)).answer)
    where
      either : (b : Bool) → (when b then entry_in value ∷ later else later) ≡ (when b then entry_in value ∷ [] else []) ++ later
      either true = refl
      either false = refl

-- ---- lists of entries

rides-append : (xs ys : List Entry) → rides_sold (xs ++ ys) ≡ rides_sold xs + rides_sold ys
rides-append [] ys = omega arith
rides-append (x ∷ xs) ys = omega (arith, rides-append xs ys)

boardings-append : (xs ys : List Entry) → boardings (xs ++ ys) ≡ boardings xs + boardings ys
boardings-append [] ys = omega arith
boardings-append (x ∷ xs) ys = omega (arith, boardings-append xs ys)

of-pass-append : (number : ℕ) (xs ys : List Entry) → of_pass number (xs ++ ys) ≡ of_pass number xs ++ of_pass number ys
unfolding of_pass when◌then◌else◌
of-pass-append number [] ys = refl
of-pass-append number (x ∷ xs) ys =
    ap (λ later. when is_of number x then x ∷ later else later) (of-pass-append number xs ys) ∙ either (is_of number x) (of_pass number xs)
  where
    either : (b : Bool) (its : List Entry)
        → (when b then x ∷ its ++ of_pass number ys else its ++ of_pass number ys) ≡ (when b then x ∷ its else its) ++ of_pass number ys
    either true its = refl
    either false its = refl

-- the accepted entries of a pass: those of the first entry, and then those of the rest
its-next : (number : ℕ) (value : List ℕ) (values : List (List ℕ)) (t : Table) → sound t ≡ true
    → of_pass number (accepted t (value ∷ values))
    ≡ of_pass number (accepted_of (in_use t) (entry_in value)) ++ of_pass number (accepted (enter value t).left values)
unfolding accepted
its-next number value values t sound-now =
    let later = accepted (enter value t).left values in
    ap (of_pass number) (accepted-next value t sound-now later) ∙ of-pass-append number (accepted_of (in_use t) (entry_in value)) later

-- ---- conservation

pub conserved-for-each : ConservedForEach
unfolding accepted replay of_pass
conserved-for-each number t [] sound-now = omega arith
conserved-for-each number t (v ∷ vs) sound-now =
    let e = entered v t sound-now in
    let its = of_pass number (accepted_of (in_use t) (entry_in v)) in
    let later = of_pass number (accepted (enter v t).left vs) in
    let split = its-next number v vs t sound-now in
    omega (
      arith,
      rule-conserves-each number (in_use t) (entry_in v),
      conserved-for-each number (enter v t).left vs e.still-sound,
      ap rides_sold split,
      rides-append its later,
      ap boardings split,
      boardings-append its later,
      ap (left_on number) e.now-in-use,
    )

pub conserved-for-all : ConservedForAll
unfolding accepted replay
conserved-for-all t [] sound-now = omega arith
conserved-for-all t (v ∷ vs) sound-now =
    let e = entered v t sound-now in
    let its = accepted_of (in_use t) (entry_in v) in
    let later = accepted (enter v t).left vs in
    let split = accepted-next v t sound-now later in
    omega (
      arith,
      rule-conserves-all (in_use t) (entry_in v),
      conserved-for-all (enter v t).left vs e.still-sound,
      ap rides_sold split,
      rides-append its later,
      ap boardings split,
      boardings-append its later,
      ap all_left e.now-in-use,
    )

pub fresh-sound : FreshSound
fresh-sound t fresh = sound-so t (laws.fresh-sound t fresh)

none_in_use : (t : Table) → Fresh t → in_use t ≡ []
unfolding cells_from
none_in_use t fresh = ap (cells_from (pass_at t.columns) 0) fresh.none_in_use

pub conservation : Conservation
conservation t fresh list moment = omega (arith, conserved-for-all t (take moment list) (fresh-sound t fresh), ap all_left (none_in_use t fresh))

-- ---- one pass

nothing-later : (number : ℕ) (it : Option Pass) → Later number it []
nothing-later number none = never_sold
nothing-later number (some p) = (no_more, omega arith)

all-later : (number : ℕ) (t : Table) (values : List (List ℕ)) → sound t ≡ true → Later number (pass_in number (in_use t)) (of_pass number (accepted t values))
unfolding accepted of_pass
all-later number t [] sound-now = nothing-later number (pass_in number (in_use t))
all-later number t (v ∷ vs) sound-now =
    let e = entered v t sound-now in
    let later = of_pass number (accepted (enter v t).left vs) in
    let rest = subst (λ ps. Later number (pass_in number ps) later) e.now-in-use (all-later number (enter v t).left vs e.still-sound) in
    let step = moved_later later (moved number (did (in_use t) (entry_in v))) rest in
    let its = of-pass-chosen number (is_accepted (rule (in_use t) (entry_in v)).answer) (entry_in v) in
    subst (Later number (pass_in number (in_use t))) (sym (its-next number v vs t sound-now ∙ ap (λ them. them ++ later) its)) step

pub sold-once-only : SoldOnce
unfolding pass_in
sold-once-only t fresh values number =
    subst (λ ps. Later number (pass_in number ps) (of_pass number (accepted t values))) (none_in_use t fresh) (all-later number t values (fresh-sound t fresh))

still-spent : (number : ℕ) (t : Table) (values : List (List ℕ)) → sound t ≡ true → IsSpent (pass_in number (in_use t))
    → IsSpent (pass_in number (in_use (replay t values)))
unfolding replay
still-spent number t [] sound-now spent = spent
still-spent number t (v ∷ vs) sound-now spent =
    let e = entered v t sound-now in
    still-spent number (enter v t).left vs e.still-sound
    (subst (λ ps. IsSpent (pass_in number ps)) (sym e.now-in-use) (moved-spent (moved number (did (in_use t) (entry_in v))) spent))

pub spent-stays : SpentStays
spent-stays number t values sound-now spent =
    let so = spent-out number (in_use (replay t values)) (still-spent number t values sound-now (spent-in number (in_use t) spent.known spent.none_left)) in
    record { known = so.0; none_left = so.1 }

-- ---- lists

did-not-30 : {ps : List Pass} {e : Entry} {o : Outcome (List Pass)} → Did ps e o → eqb o.answer 30 ≡ false
did-not-30 (keeps {e} {answer} so) = (declined-brings answer so).not-30
did-not-30 (opens unknown room) = refl
did-not-30 (takes at in-time newer ride) = refl

pub sound-stays : SoundStays
unfolding replay answers among
sound-stays t [] sound-now = record { still = sound-now; never_30 = refl }
sound-stays t (v ∷ vs) sound-now =
    let e = entered v t sound-now in
    let rest = sound-stays (enter v t).left vs e.still-sound in
    let not-now : eqb (enter v t).answer 30 ≡ false = ap (λ o. eqb o.answer 30) e.as-ruled ∙ did-not-30 (did (in_use t) (entry_in v)) in
    record { still = rest.still; never_30 = ap (λ b. b || among 30 (answers (enter v t).left vs)) not-now ∙ rest.never_30 }

pub front-then-rest : FrontThenRest
unfolding replay answers accepted when◌then◌else◌
front-then-rest t [] rest = record { same_table = refl; same_answers = refl; same_accepted = refl }
front-then-rest t (v ∷ vs) rest =
    let t' = (enter v t).left in
    let so = front-then-rest t' vs rest in
    record {
      same_table = so.same_table;
      same_answers = ap (λ later. (enter v t).answer ∷ later) so.same_answers;
      same_accepted = ap (λ later. when is_accepted (enter v t).answer then entry_in v ∷ later else later) so.same_accepted
          ∙ either (is_accepted (enter v t).answer) (accepted t' vs) (accepted (replay t' vs) rest);
    }
  where
    either : (b : Bool) (xs ys : List Entry) → (when b then entry_in v ∷ xs ++ ys else xs ++ ys) ≡ (when b then entry_in v ∷ xs else xs) ++ ys
    either true xs ys = refl
    either false xs ys = refl

pub same-passes-alike : SamePassesAlike
unfolding replay answers
same-passes-alike t u [] t-sound u-sound same = record { same_passes = same; same_answers = refl }
same-passes-alike t u (v ∷ vs) t-sound u-sound same =
    let of-t = entered v t t-sound in
    let of-u = entered v u u-sound in
    let rest = same-passes-alike (enter v t).left (enter v u).left vs of-t.still-sound of-u.still-sound
    (of-t.now-in-use ∙ ap (λ ps. (rule ps (entry_in v)).left) same ∙ sym of-u.now-in-use) in
    let answer : (enter v t).answer ≡ (enter v u).answer =
    ap (λ o. o.answer) of-t.as-ruled ∙ ap (λ ps. (rule ps (entry_in v)).answer) same ∙ sym (ap (λ o. o.answer) of-u.as-ruled) in
    record { same_passes = rest.same_passes; same_answers = λ i. answer i ∷ rest.same_answers i }

-- ---- the call

did-number : {ps : List Pass} {e : Entry} {o : Outcome (List Pass)} → Did ps e o → among o.answer numbers ≡ true
unfolding among
did-number (keeps {e} {answer} so) = or_right (eqb 30 answer) (declined-brings answer so).a-number
did-number (opens unknown room) = refl
did-number (takes at in-time newer ride) = refl

did-keep : {ps : List Pass} {e : Entry} {o : Outcome (List Pass)} → Did ps e o → is_accepted o.answer ≡ false → o.left ≡ ps
did-keep (keeps so) declined = refl
did-keep (opens unknown room) declined = absurd (true≢false declined)
did-keep (takes at in-time newer ride) declined = absurd (true≢false declined)

module _ (ps : List Pass) (number rides last_day : ℕ) where
  sells-known : among number (numbers_of ps) ≡ true → sell ps number rides last_day ≡ outcome 32 ps
  unfolding sell need◌or◌then◌
  sells-known known = rw known

  sells-full : among number (numbers_of ps) ≡ false → is_full (length ps) ≡ true → sell ps number rides last_day ≡ outcome 33 ps
  unfolding sell need◌or◌then◌
  sells-full unknown full = rw (unknown, full)

  sells-room : among number (numbers_of ps) ≡ false → is_full (length ps) ≡ false
      → sell ps number rides last_day ≡ outcome sold (ps ++ opened number rides last_day ∷ [])
  unfolding sell need◌or◌then◌
  sells-room unknown room = rw (unknown, room)

board-never-33 : (ps : List Pass) (number day scan : ℕ) → (board ps number day scan).answer ≡ 33 → ⊥
unfolding board board_pass boarded_at
board-never-33 ps number day scan =
    let Never : Outcome (List Pass) → Type 0 = λ o. o.answer ≡ 33 → ⊥ in
    let place = place_of number (numbers_of ps) in
    let p = pass_of ps place in
    let Comes : Boarded → Type 0 = λ it. Never (boarded_at ps place it) in
    need-elim Never (among number (numbers_of ps)) _ _ (λ e. omega (arith, e)) λ _.
    need-elim Comes (leb day p.last_day) _ _ (λ e. omega (arith, e)) λ _.
    need-elim Comes (ltb p.last_scan scan) _ _ (λ e. omega (arith, e)) λ _.
    need-elim Comes (leb 1 p.rides_left) _ _ (λ e. omega (arith, e)) λ _ e.
    omega (arith, e)

-- 33 is told of a sale alone, of an unknown pass, where no room is left
record TooMany (ps : List Pass) (e : Entry) : Type 0 where
  pub number : ℕ
  pub rides : ℕ
  pub last_day : ℕ
  pub sale : e ≡ Sale number rides last_day
  pub unknown : among number (numbers_of ps) ≡ false
  pub full : is_full (length ps) ≡ true

too_many : (ps : List Pass) (e : Entry) → (rule ps e).answer ≡ 33 → TooMany ps e
unfolding rule
too_many ps Null told = absurd (omega (arith, told))
too_many ps Malformed told = absurd (omega (arith, told))
too_many ps (Boarding number day scan) told = absurd (board-never-33 ps number day scan told)
too_many ps (Sale number rides last_day) told =
    by-test (among number (numbers_of ps)) (λ known. absurd (omega (arith, told, ap (λ o. o.answer) (sells-known ps number rides last_day known)))) λ unknown.
    by-test (is_full (length ps)) (λ full. record { number = number; rides = rides; last_day = last_day; sale = refl; unknown = unknown; full = full }) λ room.
    absurd (omega (arith, told, ap (λ o. o.answer) (sells-room ps number rides last_day unknown room)))

module _ (value : List ℕ) (t : Table) where
  unsound-told : sound t ≡ false → enter value t ≡ outcome 30 t
  unfolding enter
  unsound-told unsound = need-failed _ _ unsound

  full-forth : (enter value t).answer ≡ 33 → SaleTooMany value t
  unfolding is_full
  full-forth told =
      by-test (sound t) (λ sound-now.
      let many = too_many (in_use t) (entry_in value) (sym (ap (λ o. o.answer) (entered value t sound-now).as-ruled) ∙ told) in
      record {
        in_order = sound-now;
        number = many.number;
        rides = many.rides;
        last_day = many.last_day;
        sale = many.sale;
        unknown = many.unknown;
        full = omega (arith, leb-true most_passes (length (in_use t)) many.full, in-use-length t, (sound-brings t sound-now).few);
      }) λ unsound. absurd (omega (arith, told, ap (λ o. o.answer) (unsound-told unsound)))

  full_back : SaleTooMany value t → (enter value t).answer ≡ 33
  unfolding rule is_full
  full_back many =
      let no_room = le-leb most_passes (length (in_use t)) (omega (arith, many.full, in-use-length t)) in
      ap (λ o. o.answer) (entered value t many.in_order).as-ruled ∙ ap (λ e. (rule (in_use t) e).answer) many.sale
      ∙ ap (λ o. o.answer) (sells-full (in_use t) many.number many.rides many.last_day many.unknown no_room)

pub enter-promises : (value : List ℕ) (t : Table) → EnterPromises value t
unfolding among
enter-promises value t = by-test (sound t) when-sound when-unsound
  where
    when-sound : sound t ≡ true → EnterPromises value t
    when-sound sound-now =
        let so = (entered value t sound-now).as-ruled in
        let done = did (in_use t) (entry_in value) in
        let fine = sound-brings t sound-now in
        record {
          numbers_are = ap (λ o. among o.answer numbers) so ∙ did-number done;
          keeps_all = λ declined. ap (λ o. o.left) so
              ∙ ap (holding t.columns) (did-keep done (sym (ap (λ o. is_accepted o.answer) so) ∙ declined))
              ∙ holding-in-use t.columns fine.long t.count fine.few;
          unsound_exactly = (
            λ told. absurd (true≢false (sym (eq-eqb (enter value t).answer 30 told) ∙ ap (λ o. eqb o.answer 30) so ∙ did-not-30 done)),
            λ unsound. absurd (true≢false (sym sound-now ∙ unsound)),
          );
          full_exactly = (full-forth value t, full_back value t);
        }

    when-unsound : sound t ≡ false → EnterPromises value t
    when-unsound unsound =
        let so = unsound-told value t unsound in
        record {
          numbers_are = ap (λ o. among o.answer numbers) so;
          keeps_all = λ declined. ap (λ o. o.left) so;
          unsound_exactly = (λ told. unsound, λ _. ap (λ o. o.answer) so);
          full_exactly = (full-forth value t, full_back value t);
        }
