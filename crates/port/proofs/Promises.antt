-- The promises of the calls on frames, for any player: from those of its step on packets, and from the facts that its place and its rule never refuse by 1 and
-- that its rule says to send where it sends.
-- Assumes nothing.
use Prim.Native.Nat.{ℕ}
use mathlib.Core.Path.{◌≡◌, refl, sym, ap, ◌∙◌, subst}
use mathlib.Core.Bool.{true, false, false≢true}
use mathlib.Core.List.{List, ◌∷◌}
use native.Mathlib.Omega.{arith}
use lib.Dec.{eqb}
use lib.ListN.{length, get_or, set}
use borrow.Author.Tests.{eqb-true, eqb-false, eq-eqb}
use Rattle.basics.specs.Outcome.{Outcome, outcome, Lent, lent}
use Rattle.basics.specs.Verdict.{verdict_number, says_send, is_verdict}
use Rattle.basics.proofs.Ladder.{by-test, need-elim, need-passed}
use Rattle.basics.proofs.Places.{PlacedBy}
use Rattle.messages.specs.declared.Message.{Message}
use Rattle.wire.specs.Packet.{packet_length, read_packet}
use Rattle.wire.proofs.Laws.{RefusedBy}
use Rattle.player.specs.Promises.{OneOf, first, later, packet_refusals, ActsOrRefuses, refuses, acts, NumbersAre}
use Rattle.player.specs.Step.{unchanged, Ruling, refused, sends, counts, Player, ruled, step}
use Rattle.player.proofs.Numbers.{one_of}
use Rattle.player.proofs.Promises.{refusal_keeps_all}
use Rattle.player.proofs.Steps.{step-elim}
use Rattle.frames.specs.Frame.{packet_in, with_packet, frame_check, Passes, sealed}
use Rattle.frames.specs.Promises.{frame_refusals}
use Rattle.frames.proofs.Damage.{byte-refused}
use Rattle.frames.proofs.Laws as frames
use Rattle.port.specs.Framed.{in_frame, framed}
use Rattle.port.specs.Promises.{port_refusals, FramePromises, DamageRefused}
use Rattle.port.proofs.Laws.{refused-elim, refused-quiet, refused-fails, frame_back, framed-elim, framed_steps}

-- ---- what is asked of a player

abbrev pub NotBy1 : ℕ → Type 0
NotBy1 number = eqb number 1 ≡ false

-- a ruling is not by 1, and where it sends its verdict says so
abbrev pub SaysSo : {Cell : Type 0} → Ruling Cell → Type 0
SaysSo (refused number) = NotBy1 number
SaysSo (sends verdict m c) = says_send (verdict_number verdict) ≡ true
SaysSo (counts verdict c) = NotBy1 (verdict_number verdict)

-- 1 does not say to send
sending-not-1 : (number : ℕ) → says_send number ≡ true → NotBy1 number
unfolding says_send
sending-not-1 number says = by-test (eqb number 1) (λ e. absurd (false≢true (subst (λ n. says_send n ≡ true) (eqb-true number 1 e) says))) (λ e. e)

-- 36 bytes are not refused by 1
whole-read : (packet : List ℕ) → length packet ≡ packet_length → RefusedBy NotBy1 (read_packet packet)
unfolding read_packet
whole-read packet long =
    subst (RefusedBy NotBy1) (sym (need-passed _ _ (eq-eqb (length packet) packet_length long)))
    (need-elim (RefusedBy NotBy1) _ _ _ refl λ _.
    need-elim (RefusedBy NotBy1) _ _ _ refl λ _.
    need-elim (RefusedBy NotBy1) _ _ _ refl λ _.
    need-elim (RefusedBy NotBy1) _ _ _ refl λ _. tt)

-- one of a list that is not the first of it
not_first : {number other : ℕ} {others : List ℕ} → OneOf number (other ∷ others) → eqb number other ≡ false → OneOf number others
not_first {number} first differs = absurd (eqb-false number number differs refl)
not_first (later one) differs = one

-- the numbers for a packet, but for 1, are among those for a frame
without-1 : (others : List ℕ) {number : ℕ} → OneOf number (packet_refusals others) → NotBy1 number → OneOf number (port_refusals others)
without-1 others first not-1 = first
without-1 others (later one) not-1 = later (later (later (later (later (later (not_first one not-1))))))

-- ---- a step on 36 bytes

module _ {Tables Cell : Type 0} (packet : List ℕ) (tables : Tables) (store : Cell → Tables) where
  ruled-not-1 : (r : Ruling Cell) → SaysSo r → NotBy1 (ruled packet tables store r).answer
  unfolding ruled
  ruled-not-1 (refused number) so = so
  ruled-not-1 (sends verdict m c) so = sending-not-1 (verdict_number verdict) so
  ruled-not-1 (counts verdict c) so = so

  ruled-unsent : (r : Ruling Cell) → SaysSo r → says_send (ruled packet tables store r).answer ≡ false → (ruled packet tables store r).left.packet ≡ packet
  unfolding ruled
  ruled-unsent (refused number) so quiet = refl
  ruled-unsent (sends verdict m c) so quiet = absurd (false≢true (sym quiet ∙ so))
  ruled-unsent (counts verdict c) so quiet = refl

module _ {Tables Cell : Type 0} (player : Player Tables Cell) (places : (m : Message) → PlacedBy NotBy1 (player.place m))
    (rules : (c : Cell) (m : Message) → SaysSo (player.rule c m)) where
  step-not-1 : (packet : List ℕ) (tables : Tables) → length packet ≡ packet_length → NotBy1 (step player packet tables).answer
  step-not-1 packet tables long =
      step-elim player packet tables (λ o. NotBy1 o.answer) refl (λ _ e. subst (RefusedBy NotBy1) e (whole-read packet long))
      (λ m _ _ e. subst (PlacedBy NotBy1) e (places m))
      (λ _ m _ index _. ruled-not-1 packet tables (player.with_cell tables index) _ (rules (player.cell_at tables index) m))

  step-unsent : (packet : List ℕ) (tables : Tables) → says_send (step player packet tables).answer ≡ false → (step player packet tables).left.packet ≡ packet
  step-unsent packet tables =
      step-elim player packet tables (λ o. says_send o.answer ≡ false → o.left.packet ≡ packet) (λ _. refl) (λ _ _ _. refl) (λ _ _ _ _ _. refl)
      (λ _ m _ index _. ruled-unsent packet tables (player.with_cell tables index) _ (rules (player.cell_at tables index) m))

  -- ---- the promises, of a call on frames of any player

  module _ (others verdicts : List ℕ) (numbers : NumbersAre (step player) (packet_refusals others) verdicts) where
    -- what is said of a packet's step, of the frame that the packet came in
    said-in-frame : {frame : List ℕ} {tables : Tables} (o : Outcome (Lent Tables)) → sealed (with_packet frame (packet_in frame)) ≡ frame → NotBy1 o.answer
        → ActsOrRefuses (packet_refusals others) verdicts (packet_in frame) tables o → ActsOrRefuses (port_refusals others) verdicts frame tables (in_frame frame o)
    said-in-frame {frame} {tables} _ back not-1 (refuses {number} one) =
        subst (λ (f : List ℕ). ActsOrRefuses (port_refusals others) verdicts frame tables (outcome number (lent f tables))) (sym back)
        (refuses (without-1 others one not-1))
    said-in-frame _ back not-1 (acts one) = acts one

    pub frame-promises : FramePromises (framed player) (step player) (port_refusals others) verdicts
    unfolding says_send
    frame-promises port frame tables bytes =
        let ways = framed-elim player port frame tables in
        let o = step player (packet_in frame) tables in
        let not-1 = step-not-1 (packet_in frame) tables refl in
        let numbered = port_refusals others in
        record {
          numbers_are =
              ways (ActsOrRefuses numbered verdicts frame tables) (λ _. refuses first)
              (λ fails. refuses (refused-elim port frame (λ n. OneOf n numbered) (one_of 21 numbered refl) (one_of 22 numbered refl) (one_of 23 numbered refl)
              (one_of 24 numbered refl) (one_of 25 numbered refl) fails))
              (λ _ passes. said-in-frame o (frame_back port frame bytes passes refl) not-1 (numbers (packet_in frame) tables));
          never_by_1 =
              eqb-false _ 1 (ways (λ o. NotBy1 o.answer) (λ _. refl) (refused-elim port frame NotBy1 refl refl refl refl refl) (λ _ _. not-1));
          refusal_keeps_all =
              ways (λ o. is_verdict o.answer ≡ false → o ≡ unchanged frame tables o.answer) (λ _ _. refl) (λ _ _. refl)
              (λ _ passes refused. ap (in_frame frame) (refusal_keeps_all player (packet_in frame) tables refused)
              ∙ ap (λ (f : List ℕ). outcome o.answer (lent f tables)) (frame_back port frame bytes passes refl));
          unsent_stays =
              ways (λ o. says_send o.answer ≡ false → o.left.packet ≡ frame) (λ _ _. refl) (λ _ _. refl)
              (λ _ passes quiet. frame_back port frame bytes passes (step-unsent (packet_in frame) tables quiet));
          header_stays = λ index below not-24 not-25.
              ways (λ o. get_or o.left.packet index 0 ≡ get_or frame index 0) (λ _. refl) (λ _. refl)
              (λ _ _. frames.header_stays frame o.left.packet index (omega arith) not-24 not-25 (omega arith) (omega arith));
          sent_passes =
              ways (λ o. says_send o.answer ≡ true → Passes port o.left.packet) (λ _ says. absurd (false≢true says))
              (λ fails says. absurd (false≢true (sym (refused-quiet port frame fails) ∙ says)))
              (λ _ passes _. frames.repacked-passes port frame o.left.packet passes);
          packet_stepped = framed_steps player port frame tables;
        }

-- ---- a damaged frame

pub damage-refused : {Tables Cell : Type 0} (player : Player Tables Cell) → DamageRefused player
damage-refused player port frame tables bytes passes index new low high fits other =
    let damaged = set frame index new in
    let refuses = byte-refused port frame bytes passes index new low high fits other in
    framed-elim player port damaged tables
    (λ o. (number : ℕ) × (OneOf number (7 ∷ frame_refusals) × (o ≡ unchanged damaged tables number)))
    (λ _. (7, (first, refl))) (λ _. (frame_check port damaged, (later refuses, refl)))
    (λ _ fine. absurd (refused-fails port damaged refuses fine))
