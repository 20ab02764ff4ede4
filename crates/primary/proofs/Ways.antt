-- Each way out of the primary's step, over the cell by value and over the slice that lent it, is what the definitions say, by the tests that led there; and each of
-- the call that sets the slice fresh.
-- Assumes nothing.
use Prim.Native.Nat.{ℕ}
use Rattle.std.specs.Prelude.{Ok}
use mathlib.Core.Path.{◌≡◌, refl, sym, ap, ◌∙◌}
use mathlib.Core.Bool.{Bool, true, false}
use mathlib.Core.List.{List, [], ◌∷◌}
use native.Mathlib.Omega.{arith}
use lib.ListN.{length, get_or, set}
use Rattle.basics.specs.Places.{Nowhere}
use Rattle.basics.specs.declared.Value.{Value}
use Rattle.basics.specs.declared.Verdict.TheVariants.{ToAcceptors, Done}
use Rattle.basics.specs.Outcome.{Outcome, outcome, Lent, lent}
use Rattle.basics.specs.Rounds.{the_instance}
use Rattle.basics.specs.Verdict.{verdict_number}
use Rattle.messages.specs.declared.Message.{Message}
use Rattle.messages.specs.declared.Message.TheVariants.{Request}
use Rattle.messages.specs.Message.{when_request}
use Rattle.messages.proofs.Eliminators.{request-elim}
use Rattle.wire.specs.Packet.{Read, Refused, read_packet, with_message}
use Rattle.wire.proofs.Laws.{read_length}
use Rattle.columns.proofs.Fresh.{fresh-refused, fresh-done}
use Rattle.player.specs.Step.{Ruling, unchanged, ruled, act}
use Rattle.player.proofs.Steps as steps
use Rattle.quorum.specs.declared.Settings.{Settings}
use Rattle.quorum.specs.Settings.{allowed}
use Rattle.primary_rule.specs.declared.Cell.{Cell}
use Rattle.primary_rule.specs.declared.Sent.{Sent}
use Rattle.primary_rule.specs.Rule.{cell, fresh_cell, take_request, ruling_of}
use Rattle.primary.specs.Primary.{is_allowed, primary_allowed, fresh_record, primary_fresh, place, rule, primary, primary_step, primary_by_reference, primary_request, as_slice}
use Rattle.primary.proofs.Laws.{allowed-next, slice-is-the-record}

-- ---- the step over the record by reference

module _ (s : Settings) (packet : List ℕ) (c : Cell) (fine : Bool) (fine-so : fine ≡ allowed s) where
  pub refused-7 : fine ≡ false → unchanged packet c 7 ≡ primary_request s packet c
  unfolding primary_request primary_by_reference
  refused-7 no_way = steps.refused-7 (primary_by_reference s) packet c fine fine-so no_way

  module _ (passed : fine ≡ true) where
    pub malformed : (number : ℕ) → Refused number ≡ read_packet packet → unchanged packet c number ≡ primary_request s packet c
    unfolding primary_request primary_by_reference
    malformed number refuses = steps.malformed (primary_by_reference s) packet c fine fine-so passed number refuses

    module _ (m : Message) (reads : Read m ≡ read_packet packet) where
      acted : act (primary_by_reference s) packet c m ≡ primary_request s packet c
      unfolding primary_request primary_by_reference
      acted = steps.acted (primary_by_reference s) packet c fine fine-so passed m reads

      pub refused-6 : ((switch : ℕ) (value : Value) → m ≡ Request switch value → ⊥) → unchanged packet c 6 ≡ primary_request s packet c
      unfolding primary_by_reference act
      refused-6 none = steps.not-placed (λ d index. d) (λ d index next. next) packet c (λ d. rule s.instances d m) _ 6 no_place ∙ acted
        where
          no_place : Nowhere 6 ≡ place m
          no_place = request-elim (λ p. Nowhere 6 ≡ p) _ _ m (λ switch value asks. absurd (none switch value asks)) refl

      pub request-taken : (switch : ℕ) (value : Value) → m ≡ Request switch value → (r : Ruling Cell) → r ≡ take_request s.instances c value
          → ruled packet c (λ next. next) r ≡ primary_request s packet c
      unfolding primary_by_reference act when_request
      request-taken switch value asks r r-so =
          steps.placed_at (λ d index. d) (λ d index next. next) packet c (λ d. rule s.instances d m) _ 0 c r (rw asks) refl (rw asks r-so) ∙ acted

      -- the message that goes out
      pub sent : (switch : ℕ) (value : Value) → m ≡ Request switch value → (out : Sent) (left : List ℕ) → ruling_of (Ok out) ≡ take_request s.instances c value
          → left ≡ with_message packet out.message → outcome (verdict_number ToAcceptors) (lent left out.cell) ≡ primary_request s packet c
      sent switch value asks out left out-so left_so =
          steps.sent packet c out.cell (λ d. d) ToAcceptors out.cell refl left out.message (read_length packet m (sym reads)) left_so
          ∙ request-taken switch value asks (ruling_of (Ok out)) out-so

-- ---- the step over a slice

pub slice-refused-7 : (s : Settings) (packet next : List ℕ) (fine : Bool) → fine ≡ primary_allowed s next → fine ≡ false
    → unchanged packet next 7 ≡ primary_step s packet next
unfolding primary_step primary
slice-refused-7 s packet next fine fine-so no_way = steps.refused-7 (primary s) packet next fine fine-so no_way

pub one_number : (s : Settings) (count : ℕ) (fine : Bool) → fine ≡ is_allowed s count → fine ≡ true → count ≡ 1
one_number s count fine fine-so passed = (allowed-next s count (sym fine-so ∙ passed)).sized

-- what the step over the cell came to, stored into the slice that lent it, is the step over the slice
pub stored : (s : Settings) (packet next : List ℕ) → length next ≡ 1 → (o : Outcome (Lent Cell)) → o ≡ primary_request s packet (cell (the_instance (get_or next 0 0)))
    → outcome o.answer (lent o.left.packet (set next 0 o.left.tables.next.0)) ≡ primary_step s packet next
stored s packet [] long o o-so = absurd (omega arith)
stored s packet (number ∷ []) long o o-so = ap as_slice o-so ∙ sym (slice-is-the-record s packet number)
stored s packet (number ∷ second ∷ rest) long o o-so = absurd (omega arith)

-- and a refusal leaves the slice as it came
pub kept : (s : Settings) (packet next : List ℕ) → length next ≡ 1 → (number : ℕ) (left : List ℕ)
    → outcome number (lent left (cell (the_instance (get_or next 0 0)))) ≡ primary_request s packet (cell (the_instance (get_or next 0 0)))
    → outcome number (lent left next) ≡ primary_step s packet next
kept s packet [] long number left refused = absurd (omega arith)
kept s packet (only ∷ []) long number left refused = stored s packet (only ∷ []) long _ refused
kept s packet (only ∷ second ∷ rest) long number left refused = absurd (omega arith)

-- ---- the record set fresh

module _ (s : Settings) (next : List ℕ) (fine : Bool) (fine-so : fine ≡ primary_allowed s next) where
  pub fresh-refused-7 : fine ≡ false → outcome 7 next ≡ primary_fresh s next
  unfolding primary_fresh
  fresh-refused-7 no_way = fresh-refused next fresh_record fine-so no_way

  pub freshly-stored : fine ≡ true → (answer : ℕ) (c : Cell) → answer ≡ verdict_number Done → c ≡ fresh_cell → outcome answer (set next 0 c.next.0) ≡ primary_fresh s next
  unfolding primary_fresh
  freshly-stored passed answer c answer-so c-so =
      fresh-done next fresh_record fine-so passed answer-so (one-stored next (one_number s (length next) fine fine-so passed) ∙ ap (λ fresh. fresh.next.0 ∷ []) c-so)
    where
      one-stored : (before : List ℕ) → length before ≡ 1 → set before 0 c.next.0 ≡ c.next.0 ∷ []
      one-stored [] long = absurd (omega arith)
      one-stored (number ∷ []) long = refl
      one-stored (number ∷ second ∷ rest) long = absurd (omega arith)
