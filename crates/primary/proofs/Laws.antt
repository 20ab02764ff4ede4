-- Laws of the primary for the crates above: what holds of every way out holds of its rule and of its place; of the record as a slice, what is read where it was
-- stored; the step where a request is taken, as an equation; and that the record as a slice is stepped as the record by reference.
-- Assumes nothing.
use Prim.Native.Nat.{ℕ, ◌+◌, ◌^◌, ◌<◌}
use mathlib.Core.Path.{◌≡◌, refl, ap}
use mathlib.Core.Bool.{Bool, true, false, ◌&&◌}
use mathlib.Core.List.{List, [], ◌∷◌}
use native.Mathlib.Omega.{arith}
use lib.Dec.{eqb}
use lib.ListN.{length}
use borrow.Author.Tests.{eqb-true, eq-eqb}
use Rattle.basics.specs.Places.{At}
use Rattle.basics.specs.declared.Value.{Value}
use Rattle.basics.specs.Ladder.{need◌or◌then◌}
use Rattle.basics.specs.Rounds.{the_instance}
use Rattle.basics.proofs.Ladder.{both_true, and-true}
use Rattle.basics.proofs.Places.{PlacedBy}
use Rattle.messages.specs.declared.Message.{Message}
use Rattle.messages.specs.declared.Message.TheVariants.{Request}
use Rattle.messages.specs.Message.{when_request}
use Rattle.messages.proofs.Eliminators.{request-elim}
use Rattle.wire.specs.Packet.{Reading, Read, Refused, read_packet}
use Rattle.player.specs.Step.{Ruling, refused, sends, counts, unchanged, after_reading, after_placing, ruled, rule_at, act, step}
use Rattle.player.proofs.Steps.{step-rules}
use Rattle.quorum.specs.declared.Settings.{Settings}
use Rattle.quorum.specs.Settings.{allowed}
use Rattle.columns.proofs.Columns.{number-there, number-apart, below_set}
use Rattle.columns.proofs.Fresh.{sets-fresh}
use Rattle.primary_rule.specs.declared.Cell.{Cell}
use Rattle.primary_rule.specs.Rule.{cell, proposing}
use Rattle.primary_rule.proofs.Laws.{take-elim, proposes, CellFits}
use Rattle.primary.specs.Primary.{cell_at, with_cell, is_allowed, primary_allowed, fresh_record, primary_fresh, Fitting, place, rule, primary, primary_step, primary_by_reference, primary_request, as_slice}
use Rattle.primary.specs.Promises.{FreshPromises, proposed, SliceIsTheRecord}

-- ---- the record as a slice

-- what an allowed slice, of so many numbers, brings
pub record Allowed (s : Settings) (count : ℕ) : Type 0 where
  pub settings-allowed : allowed s ≡ true
  pub sized : count ≡ 1

pub allowed-next : (s : Settings) (count : ℕ) → is_allowed s count ≡ true → Allowed s count
unfolding is_allowed
allowed-next s count e =
    let both = both_true (allowed s) (eqb count 1) e in
    record { settings-allowed = both.0; sized = eqb-true count 1 both.1 }

-- a slice of one number is allowed
pub sized-allowed : (s : Settings) (next : List ℕ) → allowed s ≡ true → length next ≡ 1 → primary_allowed s next ≡ true
unfolding is_allowed
sized-allowed s next ok sized = and-true ok (eq-eqb _ _ sized)

pub cell-there : (next : List ℕ) (index : ℕ) (c : Cell) → index < length next → cell_at (with_cell next index c) index ≡ c
cell-there next index c inside = ap (λ number. cell (the_instance number)) (number-there next index c.next.0 inside)

pub cell_apart : (next : List ℕ) (index other : ℕ) (c : Cell) → (index ≡ other → ⊥) → cell_at (with_cell next index c) other ≡ cell_at next other
cell_apart next index other c differ = ap (λ number. cell (the_instance number)) (number-apart next index other c.next.0 differ)

pub fitting-at : (next : List ℕ) (index : ℕ) → Fitting next → CellFits (cell_at next index)
fitting-at next index fits = record { next_fits = fits index }

pub fitting-with : (next : List ℕ) (index : ℕ) (c : Cell) → Fitting next → CellFits c → Fitting (with_cell next index c)
fitting-with next index c fits cell-fits = below_set (2 ^ 32) next index c.next.0 fits cell-fits.next_fits

pub fresh-promises : (s : Settings) → FreshPromises s
unfolding primary_fresh
fresh-promises s = sets-fresh (primary_allowed s) fresh_record

-- ---- the rule and the place

-- what holds of the refusals, and of what a request comes to while the next instance is below N, holds of the rule
pub rule-elim : (P : Ruling Cell → Type 0) (N : ℕ) (c : Cell) (m : Message) → P (refused 6) → P (refused 17) → P (refused 12)
    → ((switch : ℕ) (value : Value) → m ≡ Request switch value → c.next.0 < N → P (proposing c value)) → P (rule N c m)
rule-elim P N c m six seventeen twelve sent = request-elim P _ _ m (λ switch value asks. take-elim N c value P seventeen twelve (sent switch value asks)) six

pub place-elim : (Such : ℕ → Type 0) (m : Message) → Such 6 → PlacedBy Such (place m)
place-elim Such m six = request-elim (PlacedBy Such) _ _ m (λ switch value _. tt) six

-- a place that a message has is the one cell's
pub placed_first : (m : Message) (index : ℕ) → place m ≡ At index → index ≡ 0
placed_first m = request-elim (λ p. (index : ℕ) → p ≡ At index → index ≡ 0) _ _ m (λ switch value _ index e. cc) (λ index e. let z : ◌≡◌ {A = ℕ} 0 1 = cc in absurd (omega arith))

-- ---- the step where a request is taken

module _ (s : Settings) (packet : List ℕ) (switch : ℕ) (value : Value) (fine : allowed s ≡ true) (reads : read_packet packet ≡ Read (Request switch value)) where
  pub primary-proposes : (next : ℕ) → next < s.instances → primary_step s packet (next ∷ []) ≡ proposed next value ((next + 1) ∷ [])
  unfolding primary_step primary when_request ruled
  primary-proposes next below =
      step-rules (primary s) packet (next ∷ []) (Request switch value) 0 _ (sized-allowed s (next ∷ []) fine refl) reads refl
      (proposes s.instances (cell (the_instance next)) value below)

  pub request-proposes : (next : ℕ) → next < s.instances
      → primary_request s packet (cell (the_instance next)) ≡ proposed next value (cell (the_instance (next + 1)))
  unfolding primary_request primary_by_reference when_request ruled
  request-proposes next below =
      step-rules (primary_by_reference s) packet (cell (the_instance next)) (Request switch value) 0 _ fine reads refl
      (proposes s.instances (cell (the_instance next)) value below)

-- ---- the two forms in which the record is lent

-- a slice of one number is stepped as the record with that number
module _ (s : Settings) (packet : List ℕ) (number : ℕ) where
  abbrev slice : List ℕ
  slice = number ∷ []

  abbrev held : Cell
  held = cell (the_instance number)

  same-ruled : (r : Ruling Cell) → ruled packet slice (with_cell slice 0) r ≡ as_slice (ruled packet held (λ next. next) r)
  unfolding ruled
  same-ruled (refused n) = refl
  same-ruled (sends verdict m c) = refl
  same-ruled (counts verdict c) = refl

  same-act : (m : Message) → act (primary s) packet slice m ≡ as_slice (act (primary_by_reference s) packet held m)
  unfolding act rule_at primary primary_by_reference after_placing
  same-act m =
      request-elim
      (λ p. after_placing packet slice p (λ index. ruled packet slice (with_cell slice index) (rule s.instances (cell_at slice index) m))
      ≡ as_slice (after_placing packet held p (λ index. ruled packet held (λ next. next) (rule s.instances held m))))
      _ _ m (λ switch value _. same-ruled (rule s.instances held m)) refl

pub slice-is-the-record : SliceIsTheRecord
unfolding primary_step primary_request primary primary_by_reference step is_allowed need◌or◌then◌ after_reading
slice-is-the-record s packet number = judge (allowed s) (read_packet packet)
  where
    judge : (fine : Bool) (reading : Reading)
        → (need fine && true or unchanged packet (number ∷ []) 7 then after_reading packet (number ∷ []) reading (act (primary s) packet (number ∷ [])))
        ≡ as_slice (need fine or unchanged packet (cell (the_instance number)) 7 then
        after_reading packet (cell (the_instance number)) reading (act (primary_by_reference s) packet (cell (the_instance number))))
    judge false reading = refl
    judge true (Refused n) = refl
    judge true (Read m) = same-act s packet number m
