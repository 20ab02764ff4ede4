-- The walk that delivers, a cell at a time: what is written so far are the values of the cells before, and the list goes on with those that are left.
-- Assumes nothing.
use Prim.Native.Nat.{ℕ, zero, suc, ◌+◌, ◌*◌, ◌≤◌, ◌<◌}
use mathlib.Core.Path.{◌≡◌, refl, sym, ap, ◌∙◌}
use mathlib.Core.Bool.{Bool, true, false}
use mathlib.Core.List.{List, [], ◌∷◌, ◌++◌, append_assoc, append-nil}
use native.Mathlib.Omega.{arith}
use native.Mathlib.Numerals.{add-one}
use lib.ListN.{length, length-append}
use borrow.Author.Tests.{ne_eqb, eq-eqb}
use Rattle.basics.specs.Outcome.{outcome, Lent, lent}
use Rattle.numbers.specs.BigEndian.{to_bytes, with_number_at}
use Rattle.numbers.specs.Fronts.{with_front}
use Rattle.numbers.proofs.Bytes.{length-to_bytes}
use Rattle.numbers.proofs.Fronts.{number-next}
use Rattle.basics.specs.declared.Value.{Value}
use Rattle.basics.specs.declared.Verdict.TheVariants.{Done}
use Rattle.basics.specs.Ladder.{when◌then◌else◌, need◌or◌then◌}
use Rattle.basics.specs.Verdict.{verdict_number}
use Rattle.player.specs.Step.{unchanged}
use Rattle.quorum.specs.declared.Settings.{Settings}
use Rattle.learner_cell.specs.declared.Cell.{Cell}
use Rattle.learner_cell.specs.Cell.{is_decided, value_of}
use Rattle.learner_tables.specs.Tables.{Tables, cell_at, cells, first_cells, learner_allowed, all_possible}
use Rattle.columns.proofs.Walks.{cells_left, cells-all, cells-next, cells-end}
use Rattle.learner_delivery.specs.Delivery.{delivered, value_bytes, written_to, deliver}

-- the values of the first cells
unfoldable pub values_before : (M : ℕ) → Tables → (count : ℕ) → List Value
values_before M t zero = []
values_before M t (suc count) = values_before M t count ++ (value_of M (cell_at t count) ∷ [])

pub values-none : (M : ℕ) (t : Tables) → [] ≡ values_before M t 0
unfolding values_before
values-none M t = refl

values-next : (M : ℕ) (t : Tables) (count : ℕ) → values_before M t (count + 1) ≡ values_before M t count ++ (value_of M (cell_at t count) ∷ [])
unfolding values_before
values-next M t count = ap (values_before M t) (add-one count)

length-values : (M : ℕ) (t : Tables) (count : ℕ) → length (values_before M t count) ≡ count
unfolding values_before
length-values M t zero = refl
length-values M t (suc count) = omega (arith, length-append (values_before M t count) (value_of M (cell_at t count) ∷ []), length-values M t count)

-- ---- values as bytes

pub length-value-bytes : (values : List Value) → length (value_bytes values) ≡ 16 * length values
unfolding value_bytes
length-value-bytes [] = refl
length-value-bytes (v ∷ vs) =
    let high = to_bytes 8 v.high in
    let low = to_bytes 8 v.low in
    omega (arith, length-append (high ++ low) (value_bytes vs), length-append high low, length-to_bytes 8 v.high, length-to_bytes 8 v.low, length-value-bytes vs)

value-bytes-next : (values : List Value) (v : Value) → value_bytes (values ++ (v ∷ [])) ≡ (value_bytes values ++ to_bytes 8 v.high) ++ to_bytes 8 v.low
unfolding value_bytes
value-bytes-next [] v = append-nil (to_bytes 8 v.high ++ to_bytes 8 v.low)
value-bytes-next (w ∷ ws) v =
    let high = to_bytes 8 w.high in
    let low = to_bytes 8 w.low in
    ap (λ rest. (high ++ low) ++ rest) (value-bytes-next ws v) ∙ sym (append_assoc (high ++ low) (value_bytes ws ++ to_bytes 8 v.high) (to_bytes 8 v.low))
    ∙ ap (λ front. front ++ to_bytes 8 v.low) (sym (append_assoc (high ++ low) (value_bytes ws) (to_bytes 8 v.high)))

-- ---- one turn

-- what stands in the buffer after so many values
abbrev pub written : (M : ℕ) → (buffer : List ℕ) → Tables → (count : ℕ) → List ℕ
written M buffer t count = with_front buffer (value_bytes (values_before M t count))

module _ (M : ℕ) (t : Tables) (count instances : ℕ) where
  -- the list: the values before, and what is delivered of the cells that are left
  abbrev pub split : List Value
  split = values_before M t count ++ delivered M (cells_left (cell_at t) count instances)

  pub split-all : count ≡ 0 → delivered M (first_cells instances t) ≡ split
  split-all none = rw none (ap (delivered M) (cells-all (cell_at t) instances) ∙ ap (λ values. values ++ delivered M (cells_left (cell_at t) 0 instances)) (values-none M t))

  pub split-past : instances ≤ count → split ≡ values_before M t count
  unfolding delivered
  split-past past = ap (λ cs. values_before M t count ++ delivered M cs) (cells-end (cell_at t) count instances past) ∙ append-nil (values_before M t count)

module _ (M : ℕ) (t : Tables) (count instances : ℕ) (inside : count < instances) (c : Cell) (c-so : c ≡ cell_at t count) (decided : Bool) (decided-so : decided ≡ is_decided M c) where
  pub split-stops : decided ≡ false → split M t count instances ≡ values_before M t count
  unfolding delivered when◌then◌else◌
  split-stops undecided =
      let none : delivered M (cells_left (cell_at t) count instances) ≡ [] = rw (cells-next (cell_at t) count instances inside, ← c-so, ← decided-so, undecided) in
      ap (λ values. values_before M t count ++ values) none ∙ append-nil (values_before M t count)

  pub split-next : decided ≡ true → split M t count instances ≡ split M t (count + 1) instances
  unfolding delivered when◌then◌else◌
  split-next over =
      let left = delivered M (cells_left (cell_at t) (count + 1) instances) in
      let more : delivered M (cells_left (cell_at t) count instances) ≡ value_of M (cell_at t count) ∷ left =
      rw (cells-next (cell_at t) count instances inside, ← ap (is_decided M) c-so, ← decided-so, over) in
      ap (λ values. values_before M t count ++ values) more ∙ sym (append_assoc (values_before M t count) (value_of M (cell_at t count) ∷ []) left)
      ∙ ap (λ values. values ++ left) (sym (values-next M t count))

module _ (M : ℕ) (buffer : List ℕ) (t : Tables) (count : ℕ) where
  pub written_none : count ≡ 0 → buffer ≡ written M buffer t count
  unfolding value_bytes
  written_none none = rw none (ap (λ values. with_front buffer (value_bytes values)) (values-none M t))

  -- the bytes of the values before
  abbrev front : List ℕ
  front = value_bytes (values_before M t count)

  long-front : length front ≡ 16 * count
  long-front = omega (arith, length-value-bytes (values_before M t count), length-values M t count)

  pub written_next : (now half next : List ℕ) (place : ℕ) (v : Value) → v ≡ value_of M (cell_at t count) → now ≡ written M buffer t count → place ≡ 16 * count → 16 * count + 16 ≤ length buffer
      → half ≡ with_number_at now place 8 v.high → next ≡ with_number_at half (place + 8) 8 v.low → next ≡ written M buffer t (count + 1)
  written_next now half next place v v-so now-so place-so fits half-so next-so =
      let long = long-front in
      let grown = length-append front (to_bytes 8 v.high) in
      let wide = length-to_bytes 8 v.high in
      let first : half ≡ with_front buffer (front ++ to_bytes 8 v.high) =
      half-so ∙ rw now-so (number-next buffer front place 8 v.high (omega (arith, long)) (omega (arith, long))) in
      next-so ∙ rw first (number-next buffer (front ++ to_bytes 8 v.high) (place + 8) 8 v.low (omega (arith, long, grown, wide)) (omega (arith, long, grown, wide)))
      ∙ ap (with_front buffer) (sym (value-bytes-next (values_before M t count) v))
      ∙ ap (λ values. with_front buffer (value_bytes values)) (ap (λ u. values_before M t count ++ (u ∷ [])) v-so ∙ sym (values-next M t count))

-- where the walk ends, the list is delivered
pub walk-done : (M : ℕ) (t : Tables) (count instances : ℕ) (buffer now : List ℕ) → now ≡ written M buffer t count → delivered M (first_cells instances t) ≡ values_before M t count
    → lent now count ≡ written_to buffer (delivered M (first_cells instances t))
walk-done M t count instances buffer now now-so all_so = rw (all_so, now-so, length-values M t count)

-- ---- the ways out of the call

module _ (s : Settings) (t : Tables) (buffer : List ℕ) (fine : Bool) (fine-so : fine ≡ learner_allowed s t) where
  pub deliver-7 : fine ≡ false → (count : ℕ) → unchanged buffer count 7 ≡ deliver s t buffer count
  unfolding deliver need◌or◌then◌
  deliver-7 no_way count = rw (← fine-so, no_way)

  module _ (passed : fine ≡ true) where
    pub deliver-1 : (length buffer ≡ 16 * s.instances → ⊥) → (count : ℕ) → unchanged buffer count 1 ≡ deliver s t buffer count
    unfolding deliver need◌or◌then◌
    deliver-1 other count = rw (← fine-so, passed, ne_eqb (length buffer) (16 * s.instances) other)

    module _ (long : length buffer ≡ 16 * s.instances) (sound : Bool) (sound-so : sound ≡ all_possible s.acceptors (cells s t)) where
      pub deliver-17 : sound ≡ false → (count : ℕ) → unchanged buffer count 17 ≡ deliver s t buffer count
      unfolding deliver need◌or◌then◌
      deliver-17 impossible count = rw (← fine-so, passed, eq-eqb (length buffer) (16 * s.instances) long, ← sound-so, impossible)

      pub deliver-done : sound ≡ true → (left : Lent ℕ) → left ≡ written_to buffer (delivered s.acceptors (cells s t))
          → (count : ℕ) → outcome (verdict_number Done) left ≡ deliver s t buffer count
      unfolding deliver need◌or◌then◌
      deliver-done possible left left_so count =
          ap (outcome (verdict_number Done)) left_so
          ∙ rw (← fine-so, passed, eq-eqb (length buffer) (16 * s.instances) long, ← sound-so, possible)
