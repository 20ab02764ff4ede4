-- What a learner says of an instance, by its cell: a value where a possible cell is decided, and "not yet" where it is possible and not decided.
-- Assumes nothing.
use Prim.Native.Nat.{ℕ, ◌<◌}
use mathlib.Core.Path.{◌≡◌, refl, ap, ◌∙◌, subst}
use mathlib.Core.Bool.{true, false}
use native.Mathlib.Omega.{arith}
use Rattle.basics.specs.declared.Instance.{Instance}
use Rattle.basics.specs.declared.Value.{Value}
use Rattle.basics.specs.Ladder.{when◌then◌else◌, need◌or◌then◌}
use Rattle.basics.specs.Places.{Place, At, Nowhere, placed}
use Rattle.basics.proofs.Ladder.{need-elim, if-elim}
use Rattle.basics.proofs.Places.{placed-index}
use Rattle.quorum.specs.declared.Settings.{Settings}
use Rattle.learner_cell.specs.Cell.{is_decided, value_of, possible}
use Rattle.learner_tables.specs.Tables.{Tables, cell_at, learner_allowed}
use Rattle.learner.specs.Learner.{answer_of_cell, answer_at, answer_for}
use Rattle.learner.proofs.Laws.{answers-cell}
use Rattle.agreement.specs.Run.{nothing, not_yet, says, said_by}

-- A learner that says a value has a decided, possible cell with it.
pub record Spoken (s : Settings) (t : Tables) (i : Instance) (v : Value) : Type 0 where
  pub set-up : learner_allowed s t ≡ true
  pub below : i.0 < s.instances
  pub fine : possible s.acceptors (cell_at t i.0) ≡ true
  pub decided : is_decided s.acceptors (cell_at t i.0) ≡ true
  pub value : value_of s.acceptors (cell_at t i.0) ≡ v

module _ (s : Settings) (t : Tables) (i : Instance) where
  pub spoken : (v : Value) → said_by (answer_for s i t) ≡ says v → Spoken s t i v
  unfolding answer_for answer_at answer_of_cell
  spoken v = need-elim (λ a. said_by a ≡ says v → Spoken s t i v) _ _ _ quiet λ ok. at ok (placed s.instances i) refl
    where
      quiet : {A : Type 0} → nothing ≡ says v → A
      quiet e = let z : ◌≡◌ {A = ℕ} 0 1 = cc in absurd (omega arith)

      at : learner_allowed s t ≡ true → (q : Place) → placed s.instances i ≡ q → said_by (answer_at s.acceptors t q) ≡ says v → Spoken s t i v
      at ok (Nowhere number) stands = quiet
      at ok (At index) stands =
          let spot = placed-index s.instances i index stands in
          need-elim (λ a. said_by a ≡ says v → Spoken s t i v) _ _ _ quiet λ fine.
          if-elim (λ a. said_by a ≡ says v → Spoken s t i v) _ _ _
          (λ decided e.
          let value : value_of s.acceptors (cell_at t index) ≡ v = cc in
          record {
            set-up = ok;
            below = rw (← spot.0) spot.1;
            fine = subst (λ k. possible s.acceptors (cell_at t k) ≡ true) spot.0 fine;
            decided = subst (λ k. is_decided s.acceptors (cell_at t k) ≡ true) spot.0 decided;
            value = subst (λ k. value_of s.acceptors (cell_at t k) ≡ v) spot.0 value;
          })
          (λ _ e. let z : ◌≡◌ {A = ℕ} 0 1 = cc in absurd (omega arith))

  pub speaks : (v : Value) → Spoken s t i v → said_by (answer_for s i t) ≡ says v
  unfolding answer_of_cell need◌or◌then◌ when◌then◌else◌
  speaks v h = ap said_by (answers-cell s t i h.set-up h.below) ∙ rw (h.fine, h.decided) (ap says h.value)

  pub waits : learner_allowed s t ≡ true → i.0 < s.instances → possible s.acceptors (cell_at t i.0) ≡ true → is_decided s.acceptors (cell_at t i.0) ≡ false
      → said_by (answer_for s i t) ≡ not_yet
  unfolding answer_of_cell need◌or◌then◌ when◌then◌else◌
  waits ok below fine open-still = ap said_by (answers-cell s t i ok below) ∙ rw (fine, open-still)
