-- Laws of a step on a frame, once for all players: its three ways out, each as an equation; that it steps the packet within; and what holds of its answers.
-- Assumes nothing.
use Prim.Native.Nat.{ℕ}
use mathlib.Core.Path.{◌≡◌, refl, sym, ap, ◌∙◌, subst}
use mathlib.Core.Bool.{true, false, false≢true}
use mathlib.Core.List.{List, []}
use lib.Dec.{eqb}
use lib.ListN.{length}
use borrow.Author.Tests.{eqb-true, eqb-false, eq-eqb, ne_eqb}
use Rattle.numbers.specs.BigEndian.{Bytes}
use Rattle.basics.specs.declared.Verdict.TheVariants.{Done}
use Rattle.basics.specs.Ladder.{need◌or◌then◌}
use Rattle.basics.specs.Outcome.{Outcome, outcome, Lent, lent}
use Rattle.basics.specs.Verdict.{verdict_number, says_send}
use Rattle.basics.proofs.Ladder.{by-test, or_left, or_right, need-passed, need-failed}
use Rattle.wire.specs.Packet.{packet_length, read_packet}
use Rattle.wire.proofs.Laws.{packet-length}
use Rattle.player.specs.Promises.{OneOf, first, later}
use Rattle.player.specs.Step.{unchanged, Ruling, refused, sends, counts, Player, after_reading, ruled, step}
use Rattle.player.proofs.Numbers.{is_one_of}
use Rattle.player.proofs.Steps.{step-elim}
use Rattle.frames.specs.Frame.{frame_length, packet_in, with_packet, frame_check, Passes, sealed}
use Rattle.frames.specs.Promises.{frame_refusals, Refused}
use Rattle.port.specs.Framed.{in_frame, framed}
use Rattle.port.specs.Promises.{out_of_frame}
use Rattle.frames.proofs.Laws.{passed, check-elim, sealed-stays, packet_back, same-packet}

-- ---- frames

-- that a number is one of a list is computed
is-one-of : {number : ℕ} {numbers : List ℕ} → OneOf number numbers → is_one_of number numbers ≡ true
is-one-of {number} (first {others}) = or_left (is_one_of number others) (eq-eqb number number refl)
is-one-of {number} (later {other} one) = or_right (eqb number other) (is-one-of one)

module _ (port : ℕ) (f : List ℕ) where
  -- what holds of each of 21 to 25 holds of the number of a frame that does not pass
  pub refused-elim : (Such : ℕ → Type 0) → Such 21 → Such 22 → Such 23 → Such 24 → Such 25 → (Passes port f → ⊥) → Such (frame_check port f)
  refused-elim Such a b c d e =
      check-elim (λ n. (n ≡ verdict_number Done → ⊥) → Such n) port f (λ _. a) (λ _. b) (λ _. c) (λ _. d) (λ _. e) (λ differs. absurd (differs refl))

  -- none of them says to send
  pub refused-quiet : (Passes port f → ⊥) → says_send (frame_check port f) ≡ false
  unfolding says_send
  refused-quiet = refused-elim (λ n. says_send n ≡ false) refl refl refl refl refl

  -- a frame that is refused does not pass
  pub refused-fails : Refused port f → Passes port f → ⊥
  refused-fails refuses passes = false≢true (subst (λ n. is_one_of n frame_refusals ≡ true) passes (is-one-of refuses))

  -- a packet that was not changed is sealed in its frame as it came
  pub frame_back : {p : List ℕ} → Bytes f → Passes port f → p ≡ packet_in f → sealed (with_packet f p) ≡ f
  frame_back bytes passes same = ap (λ (p : List ℕ). sealed (with_packet f p)) same ∙ ap sealed (same-packet f) ∙ sealed-stays port f bytes passes

-- what was put into a frame is taken out again
out-of-frame : {Tables : Type 0} (frame : List ℕ) (o : Outcome (Lent Tables)) → length frame ≡ frame_length → length o.left.packet ≡ packet_length
    → out_of_frame (in_frame frame o) ≡ o
out-of-frame frame o long whole = ap (λ (p : List ℕ). outcome o.answer (lent p o.left.tables)) (packet_back frame o.left.packet long whole)

-- ---- a step on a packet

module _ {Tables Cell : Type 0} (player : Player Tables Cell) (tables : Tables) where
  pub step-7 : (packet : List ℕ) → player.allowed tables ≡ false → step player packet tables ≡ unchanged packet tables 7
  unfolding step
  step-7 packet never = need-failed _ _ never

  -- no bytes at all are malformed, by 1
  pub step-nothing : player.allowed tables ≡ true → step player [] tables ≡ unchanged [] tables 1
  unfolding step after_reading read_packet need◌or◌then◌
  step-nothing allowed = rw allowed

-- on 36 bytes it leaves 36 bytes
module _ {Tables Cell : Type 0} (packet : List ℕ) (tables : Tables) (long : length packet ≡ packet_length) where
  ruled-length : (store : Cell → Tables) (r : Ruling Cell) → length (ruled packet tables store r).left.packet ≡ packet_length
  unfolding ruled
  ruled-length store (refused number) = long
  ruled-length store (sends verdict m c) = packet-length m
  ruled-length store (counts verdict c) = long

  pub step-length : (player : Player Tables Cell) → length (step player packet tables).left.packet ≡ packet_length
  step-length player =
      step-elim player packet tables (λ o. length o.left.packet ≡ packet_length) long (λ _ _. long) (λ _ _ _ _. long)
      (λ _ m _ index _. ruled-length (player.with_cell tables index) (player.rule (player.cell_at tables index) m))

-- ---- the ways out of a step on a frame

module _ {Tables Cell : Type 0} (player : Player Tables Cell) (port : ℕ) (frame : List ℕ) (tables : Tables) where
  pub framed-7 : player.allowed tables ≡ false → framed player port frame tables ≡ unchanged frame tables 7
  unfolding framed
  framed-7 never = need-failed _ _ never

  pub framed-refused : player.allowed tables ≡ true → (Passes port frame → ⊥)
      → framed player port frame tables ≡ unchanged frame tables (frame_check port frame)
  unfolding framed
  framed-refused allowed fails = need-passed _ _ allowed ∙ need-failed _ _ (ne_eqb _ _ fails)

  pub framed-passes : player.allowed tables ≡ true → Passes port frame
      → framed player port frame tables ≡ in_frame frame (step player (packet_in frame) tables)
  unfolding framed
  framed-passes allowed passes = need-passed _ _ allowed ∙ need-passed _ _ (eq-eqb _ _ passes)

  -- what holds of each of them holds of the call
  pub framed-elim : (Q : Outcome (Lent Tables) → Type 0) → (player.allowed tables ≡ false → Q (unchanged frame tables 7))
      → ((Passes port frame → ⊥) → Q (unchanged frame tables (frame_check port frame)))
      → (player.allowed tables ≡ true → Passes port frame → Q (in_frame frame (step player (packet_in frame) tables))) → Q (framed player port frame tables)
  framed-elim Q seven refuses passes =
      by-test (player.allowed tables)
      (λ allowed. by-test (eqb (frame_check port frame) (verdict_number Done))
      (λ e. let fine = eqb-true _ _ e in subst Q (sym (framed-passes allowed fine)) (passes allowed fine))
      (λ e. let fails = eqb-false _ _ e in subst Q (sym (framed-refused allowed fails)) (refuses fails)))
      (λ never. subst Q (sym (framed-7 never)) (seven never))

  -- the 36 bytes of a frame that passes are stepped as a packet is
  pub framed_steps : Passes port frame → out_of_frame (framed player port frame tables) ≡ step player (packet_in frame) tables
  framed_steps passes =
      by-test (player.allowed tables)
      (λ allowed. ap out_of_frame (framed-passes allowed passes)
      ∙ out-of-frame frame (step player (packet_in frame) tables) (passed passes).long (step-length (packet_in frame) tables refl player))
      (λ never. ap out_of_frame (framed-7 never) ∙ sym (step-7 player tables (packet_in frame) never))

  -- what holds of each of 21 to 25, and of what is answered for a packet, whatever the packet, holds of the answer for a frame
  pub framed-answers : (Such : ℕ → Type 0) → Such 21 → Such 22 → Such 23 → Such 24 → Such 25 → ((packet : List ℕ) → Such (step player packet tables).answer)
      → Such (framed player port frame tables).answer
  framed-answers Such a b c d e stepped =
      framed-elim (λ o. Such o.answer) (λ never. subst (λ (o : Outcome (Lent Tables)). Such o.answer) (step-7 player tables [] never) (stepped []))
      (refused-elim port frame Such a b c d e) (λ _ _. stepped (packet_in frame))
