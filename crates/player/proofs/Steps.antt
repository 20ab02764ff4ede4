-- Laws of a step, once for all players: the ways out of it, as the code of a player goes through them, and what holds of every outcome.
-- Assumes nothing.
use Prim.Native.Nat.{ℕ}
use mathlib.Core.Path.{◌≡◌, refl, sym, ap, ◌∙◌}
use mathlib.Core.Bool.{Bool, true, false}
use mathlib.Core.List.{List}
use lib.ListN.{length}
use Rattle.basics.specs.Outcome.{Outcome, outcome, Lent, lent}
use Rattle.basics.specs.declared.Verdict.{Verdict}
use Rattle.basics.specs.Verdict.{verdict_number}
use Rattle.basics.specs.Places.{Place, At, Nowhere}
use Rattle.basics.specs.Ladder.{need◌or◌then◌}
use Rattle.basics.proofs.Ladder.{need-elim, need-passed, need-failed}
use Rattle.messages.specs.declared.Message.{Message}
use Rattle.wire.specs.Packet.{Reading, Read, Refused, packet_length, read_packet, with_message}
use Rattle.wire.proofs.Laws.{put-over}
use Rattle.player.specs.Step.{Ruling, counts, sends, unchanged, Player, after_reading, after_placing, ruled, rule_at, act, step}

module _ {Tables Cell : Type 0} (player : Player Tables Cell) (packet : List ℕ) (tables : Tables) where
  abbrev ruling : Message → (index : ℕ) → Outcome (Lent Tables)
  ruling m index = ruled packet tables (player.with_cell tables index) (player.rule (player.cell_at tables index) m)

  -- ---- the ways out of a step

  module _ (allowed : Bool) (allowed-so : allowed ≡ player.allowed tables) where
    pub refused-7 : allowed ≡ false → unchanged packet tables 7 ≡ step player packet tables
    unfolding step
    refused-7 no_way = sym (need-failed _ _ (sym allowed-so ∙ no_way))

    module _ (fine : allowed ≡ true) (reading : Reading) (reading-so : reading ≡ read_packet packet) where
      past-7 : after_reading packet tables reading (act player packet tables) ≡ step player packet tables
      unfolding step
      past-7 =
          ap (λ r. after_reading packet tables r (act player packet tables)) reading-so
          ∙ sym (need-passed (unchanged packet tables 7) _ (sym allowed-so ∙ fine))

    module _ (fine : allowed ≡ true) where
      pub malformed : (number : ℕ) → Refused number ≡ read_packet packet → unchanged packet tables number ≡ step player packet tables
      unfolding after_reading
      malformed number refuses = past-7 fine (Refused number) refuses

      pub acted : (m : Message) → Read m ≡ read_packet packet → act player packet tables m ≡ step player packet tables
      unfolding after_reading
      acted m reads = past-7 fine (Read m) reads

  -- the step where it obeys, and where a rule refuses, as an equation
  pub step-rules : (m : Message) (index : ℕ) (r : Ruling Cell) → player.allowed tables ≡ true → read_packet packet ≡ Read m → player.place m ≡ At index
      → player.rule (player.cell_at tables index) m ≡ r → step player packet tables ≡ ruled packet tables (player.with_cell tables index) r
  unfolding step after_reading act rule_at after_placing need◌or◌then◌
  step-rules m index r fine reads stands r-so = rw (fine, reads, stands, r-so)

  -- ---- what holds of every outcome

  module _ (Q : Outcome (Lent Tables) → Type 0) (not-allowed : Q (unchanged packet tables 7))
      (not-read : (number : ℕ) → read_packet packet ≡ Refused number → Q (unchanged packet tables number))
      (not-placed : (m : Message) → read_packet packet ≡ Read m → (number : ℕ) → player.place m ≡ Nowhere number → Q (unchanged packet tables number))
      (rules : player.allowed tables ≡ true → (m : Message) → read_packet packet ≡ Read m → (index : ℕ) → player.place m ≡ At index → Q (ruling m index)) where
    pub step-elim : Q (step player packet tables)
    unfolding step act rule_at after_reading after_placing
    step-elim = need-elim Q _ _ _ not-allowed λ allowed. read allowed (read_packet packet) refl
      where
        place : player.allowed tables ≡ true → (m : Message) → read_packet packet ≡ Read m → (p : Place) → player.place m ≡ p → Q (after_placing packet tables p (ruling m))
        place allowed m reads (At index) e = rules allowed m reads index e
        place allowed m reads (Nowhere number) e = not-placed m reads number e

        read : player.allowed tables ≡ true → (r : Reading) → read_packet packet ≡ r → Q (after_reading packet tables r (act player packet tables))
        read allowed (Read m) e = place allowed m e (player.place m) refl
        read allowed (Refused number) e = not-read number e

-- ---- a rule at a place, as the code goes through it

module _ {Tables Cell : Type 0} (cell_at : Tables → (index : ℕ) → Cell) (with_cell : Tables → (index : ℕ) → Cell → Tables) (packet : List ℕ) (tables : Tables)
    (rule : Cell → Ruling Cell) (asked : Place) where
  pub not-placed : (number : ℕ) → Nowhere number ≡ asked → unchanged packet tables number ≡ rule_at cell_at with_cell packet tables asked rule
  unfolding rule_at after_placing
  not-placed number nowhere = ap (λ p. rule_at cell_at with_cell packet tables p rule) nowhere

  pub placed_at : (index : ℕ) (cell : Cell) (r : Ruling Cell) → At index ≡ asked → cell ≡ cell_at tables index → r ≡ rule cell
      → ruled packet tables (with_cell tables index) r ≡ rule_at cell_at with_cell packet tables asked rule
  unfolding rule_at after_placing
  placed_at index cell r stands cell-so r-so =
      ap (ruled packet tables (with_cell tables index)) (r-so ∙ ap rule cell-so) ∙ ap (λ p. rule_at cell_at with_cell packet tables p rule) stands

-- ---- rulings, as they are stored and sent

module _ {Tables Cell : Type 0} (packet : List ℕ) (tables next : Tables) (store : Cell → Tables) (verdict : Verdict) (c : Cell) (next-so : next ≡ store c) where
  pub sent : (left : List ℕ) (m : Message) → length packet ≡ packet_length → left ≡ with_message packet m
      → outcome (verdict_number verdict) (lent left next) ≡ ruled packet tables store (sends verdict m c)
  unfolding ruled
  sent left m long left_so = rw (left_so, put-over packet m long, next-so)

  pub counted : outcome (verdict_number verdict) (lent packet next) ≡ ruled packet tables store (counts verdict c)
  unfolding ruled
  counted = rw next-so
