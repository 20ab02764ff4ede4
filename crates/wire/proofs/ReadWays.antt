-- Each way out of the reader is the reading that the definition says, by the tests that led there.
-- Assumes nothing.
use Prim.Native.Nat.{ℕ, ◌≤◌, ◌<◌}
use mathlib.Core.Path.{◌≡◌}
use mathlib.Core.Bool.{Bool, true, false}
use mathlib.Core.List.{List}
use lib.ListN.{length, get_or}
use borrow.Author.Tests.{eq-eqb, ne_eqb, le-leb, lt-leb}
use Rattle.numbers.specs.BigEndian.{number_at}
use Rattle.basics.specs.Ladder.{need◌or◌then◌}
use Rattle.messages.specs.declared.Fields.{Fields}
use Rattle.messages.specs.declared.Message.{Message}
use Rattle.messages.specs.Table.{keeps_table}
use Rattle.messages.specs.Message.{message_of}
use Rattle.wire.specs.Packet.{Read, Refused, packet_length, version, marked, fields_in, read_packet}

module _ (p : List ℕ) where
  pub refused-1 : (length p ≡ packet_length → ⊥) → Refused 1 ≡ read_packet p
  unfolding read_packet need◌or◌then◌
  refused-1 other = rw (ne_eqb (length p) packet_length other)

  module _ (long : length p ≡ packet_length) (mark : Bool) (mark-so : mark ≡ marked p) where
    pub refused-2 : mark ≡ false → Refused 2 ≡ read_packet p
    unfolding read_packet need◌or◌then◌
    refused-2 wrong = rw (eq-eqb (length p) packet_length long, ← mark-so, wrong)

    module _ (right : mark ≡ true) (given : ℕ) (given_so : given ≡ number_at p 4 2) where
      pub refused-3 : (given ≡ version → ⊥) → Refused 3 ≡ read_packet p
      unfolding read_packet need◌or◌then◌
      refused-3 other = rw (eq-eqb (length p) packet_length long, ← mark-so, right, ← given_so, ne_eqb given version other)

      module _ (same : given ≡ version) where
        pub refused-4 : 4 < get_or p 3 0 → Refused 4 ≡ read_packet p
        unfolding read_packet need◌or◌then◌
        refused-4 above =
            rw (eq-eqb (length p) packet_length long, ← mark-so, right, ← given_so, eq-eqb given version same, lt-leb (get_or p 3 0) 4 above)

        module _ (known : get_or p 3 0 ≤ 4) (f : Fields) (f-so : f ≡ fields_in p) (kept : Bool) (kept-so : kept ≡ keeps_table f) where
          -- past the type only the table is left
          at_table : (need keeps_table (fields_in p) or Refused 5 then Read (message_of (fields_in p))) ≡ read_packet p
          unfolding read_packet need◌or◌then◌
          at_table =
              rw (eq-eqb (length p) packet_length long, ← mark-so, right, ← given_so, eq-eqb given version same, le-leb (get_or p 3 0) 4 known)

          pub refused-5 : kept ≡ false → Refused 5 ≡ read_packet p
          unfolding need◌or◌then◌
          refused-5 broken = rw (← f-so, ← kept-so, broken) at at_table

          pub read : kept ≡ true → (m : Message) → m ≡ message_of f → Read m ≡ read_packet p
          unfolding need◌or◌then◌
          read sound m m-so = rw m-so (rw (← f-so, ← kept-so, sound) at at_table)
