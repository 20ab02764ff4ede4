-- Each way out of the two calls is what the definitions say, by the tests that led there.
-- Assumes nothing.
use Prim.Native.Nat.{ℕ, ◌≤◌, ◌<◌}
use mathlib.Core.Path.{◌≡◌}
use mathlib.Core.List.{List}
use lib.ListN.{length}
use borrow.Author.Tests.{eq-eqb, ne_eqb, le-leb, lt-leb}
use Rattle.basics.specs.declared.Verdict.TheVariants.{Done}
use Rattle.basics.specs.Ladder.{need◌or◌then◌}
use Rattle.basics.specs.Outcome.{outcome}
use Rattle.basics.specs.Verdict.{verdict_number}
use Rattle.messages.specs.declared.Fields.{Fields}
use Rattle.messages.specs.declared.Message.{Message}
use Rattle.messages.specs.Message.{fields_of}
use Rattle.wire.specs.Packet.{Reading, Read, Refused, packet_length, read_packet, write_fields}
use Rattle.packets.specs.Packets.{last_switch, packet_write, fields_read, packet_read}

-- ---- writing

module _ (f : Fields) (p : List ℕ) where
  pub write-1 : (length p ≡ packet_length → ⊥) → outcome 1 p ≡ packet_write f p
  unfolding packet_write need◌or◌then◌
  write-1 other = rw (ne_eqb (length p) packet_length other)

  module _ (long : length p ≡ packet_length) where
    pub write-4 : 4 < f.kind → outcome 4 p ≡ packet_write f p
    unfolding packet_write need◌or◌then◌
    write-4 above = rw (eq-eqb (length p) packet_length long, lt-leb f.kind 4 above)

    module _ (known : f.kind ≤ 4) where
      pub write-5 : last_switch < f.switch → outcome 5 p ≡ packet_write f p
      unfolding packet_write need◌or◌then◌
      write-5 above = rw (eq-eqb (length p) packet_length long, le-leb f.kind 4 known, lt-leb f.switch last_switch above)

      -- past type and switch number only the table is left, as for every writer
      pub written : f.switch ≤ last_switch → write_fields f p ≡ packet_write f p
      unfolding packet_write write_fields need◌or◌then◌
      written room = rw (eq-eqb (length p) packet_length long, le-leb f.kind 4 known, le-leb f.switch last_switch room)

-- ---- reading

module _ (p : List ℕ) (before : Fields) (reading : Reading) (reading-so : reading ≡ read_packet p) where
  pub has-read : (m : Message) → reading ≡ Read m → (f : Fields) → f ≡ fields_of m → (answer : ℕ) → answer ≡ verdict_number Done → outcome answer f ≡ packet_read p before
  unfolding packet_read fields_read
  has-read m reads f f-so answer answer-so = rw (← reading-so, reads, f-so, answer-so)

  pub has-refused : (number : ℕ) → reading ≡ Refused number → outcome number before ≡ packet_read p before
  unfolding packet_read fields_read
  has-refused number refuses = rw (← reading-so, refuses)
