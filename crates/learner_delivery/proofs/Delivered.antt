-- The delivered list is just that of the instances before the first undecided one, by induction on the cells that are left; and the call's shared promises.
-- Assumes nothing.
use Prim.Native.Nat.{ℕ, zero, suc, ◌+◌, ◌≤◌, ◌<◌}
use mathlib.Core.Path.{◌≡◌, refl, sym, ap, ◌∙◌, subst}
use mathlib.Core.Bool.{Bool, true, false, false≢true}
use mathlib.Core.List.{List, [], ◌∷◌}
use native.Mathlib.Omega.{arith}
use lib.ListN.{length, get_or}
use Rattle.basics.specs.Outcome.{Outcome, outcome, Lent}
use Rattle.basics.specs.declared.Value.{Value}
use Rattle.basics.specs.declared.Verdict.TheVariants.{Done}
use Rattle.basics.specs.Values.{null}
use Rattle.basics.specs.Verdict.{verdict_number, is_verdict}
use Rattle.basics.proofs.Ladder.{by-test, need-elim, if-true, if-false}
use Rattle.player.specs.Promises.{first, NumbersAre, RefusalKeepsAll, ActsOrRefuses, refuses, acts}
use Rattle.player.specs.Step.{unchanged}
use Rattle.player.proofs.Numbers.{one_of}
use Rattle.quorum.specs.declared.Settings.{Settings}
use Rattle.columns.specs.Walks.{cells_from}
use Rattle.learner_cell.specs.Cell.{is_decided, value_of}
use Rattle.learner_tables.specs.Tables.{Tables, cell_at, cells}
use Rattle.learner_delivery.specs.Delivery.{delivered, written_to, deliver}
use Rattle.learner_delivery.specs.Promises.{DeliveredBefore, refusals, verdicts, DeliverPromises}

-- the same from an index on
record Before (M : ℕ) (t : Tables) (index count : ℕ) (values : List Value) : Type 0 where
  at_most : length values ≤ count
  decided : (i : ℕ) → i < length values → is_decided M (cell_at t (index + i)) ≡ true
  each : (i : ℕ) → i < length values → get_or values i null ≡ value_of M (cell_at t (index + i))
  undecided : length values < count → is_decided M (cell_at t (index + length values)) ≡ false

at-index : (M : ℕ) (t : Tables) (index other : ℕ) (b : Bool) → index ≡ other → is_decided M (cell_at t index) ≡ b → is_decided M (cell_at t other) ≡ b
at-index M t index other b same e = subst (λ k. is_decided M (cell_at t k) ≡ b) same e

before-from : (M : ℕ) (t : Tables) (index count : ℕ) → Before M t index count (delivered M (cells_from (cell_at t) index count))
unfolding delivered cells_from
before-from M t index zero = record { at_most = omega arith; decided = λ i low. absurd (omega arith); each = λ i low. absurd (omega arith); undecided = λ low. absurd (omega arith) }
before-from M t index (suc count) =
    by-test (is_decided M (cell_at t index)) (λ over. subst (Before M t index (suc count)) (sym (if-true _ _ over)) (goes_on over (before-from M t (suc index) count)))
    (λ undecided. subst (Before M t index (suc count)) (sym (if-false _ _ undecided)) (stops undecided))
  where
    stops : is_decided M (cell_at t index) ≡ false → Before M t index (suc count) []
    stops undecided = record {
      at_most = omega arith;
      decided = λ i low. absurd (omega arith);
      each = λ i low. absurd (omega arith);
      undecided = λ _. at-index M t index (index + 0) false (omega arith) undecided;
    }

    goes_on : is_decided M (cell_at t index) ≡ true → {values : List Value} → Before M t (suc index) count values → Before M t index (suc count) (value_of M (cell_at t index) ∷ values)
    goes_on over {values} rest = record {
      at_most = omega (arith, rest.at_most);
      decided = decided-at;
      each = each_at;
      undecided = λ low. at-index M t (suc index + length values) (index + suc (length values)) false (omega arith) (rest.undecided (omega arith));
    }
      where
        decided-at : (i : ℕ) → i < suc (length values) → is_decided M (cell_at t (index + i)) ≡ true
        decided-at zero low = at-index M t index (index + 0) true (omega arith) over
        decided-at (suc i) low = at-index M t (suc index + i) (index + suc i) true (omega arith) (rest.decided i (omega arith))

        each_at : (i : ℕ) → i < suc (length values) → get_or (value_of M (cell_at t index) ∷ values) i null ≡ value_of M (cell_at t (index + i))
        each_at zero low = let same : index ≡ index + 0 = omega arith in ap (λ k. value_of M (cell_at t k)) same
        each_at (suc i) low = let same : suc index + i ≡ index + suc i = omega arith in rest.each i (omega arith) ∙ ap (λ k. value_of M (cell_at t k)) same

pub delivered-before : DeliveredBefore
delivered-before s t =
    let b = before-from s.acceptors t 0 s.instances in
    let from-0 : (i : ℕ) → 0 + i ≡ i = λ i. omega arith in
    record {
      at_most = b.at_most;
      decided = λ i low. at-index s.acceptors t (0 + i) i true (from-0 i) (b.decided i low);
      each = λ i low. b.each i low ∙ ap (λ k. value_of s.acceptors (cell_at t k)) (from-0 i);
      undecided = λ low. at-index s.acceptors t _ _ false (from-0 (length (delivered s.acceptors (cells s t)))) (b.undecided low);
    }

-- ---- the shared promises

module _ (s : Settings) (t : Tables) (buffer : List ℕ) (count : ℕ) where
  deliver-elim : (Q : Outcome (Lent ℕ) → Type 0) → Q (unchanged buffer count 7) → Q (unchanged buffer count 1) → Q (unchanged buffer count 17)
      → Q (outcome (verdict_number Done) (written_to buffer (delivered s.acceptors (cells s t)))) → Q (deliver s t buffer count)
  unfolding deliver
  deliver-elim Q seven one seventeen done = need-elim Q _ _ _ seven λ _. need-elim Q _ _ _ one λ _. need-elim Q _ _ _ seventeen λ _. done

module _ (s : Settings) (t : Tables) where
  pub deliver-numbers : NumbersAre (deliver s t) refusals verdicts
  deliver-numbers buffer count =
      deliver-elim s t buffer count (ActsOrRefuses refusals verdicts buffer count) (refuses (one_of 7 refusals refl)) (refuses (one_of 1 refusals refl))
      (refuses (one_of 17 refusals refl)) (acts first)

  pub deliver-refusal-keeps-all : RefusalKeepsAll (deliver s t)
  unfolding is_verdict
  deliver-refusal-keeps-all buffer count =
      deliver-elim s t buffer count (λ o. is_verdict o.answer ≡ false → o ≡ unchanged buffer count o.answer) (λ _. refl) (λ _. refl) (λ _. refl)
      (λ e. absurd (false≢true (sym e)))

pub deliver-promises : (s : Settings) (t : Tables) → DeliverPromises s t
deliver-promises s t = record { numbers_are = deliver-numbers s t; refusal_keeps_all = deliver-refusal-keeps-all s t }
