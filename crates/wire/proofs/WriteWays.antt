-- Each way out of the writers is what the definitions say: the eight stores leave the packet of the fields, and each refusal leaves what was there.
-- Assumes nothing.
use Prim.Native.Nat.{ℕ}
use mathlib.Core.Path.{◌≡◌, refl, ap, ◌∙◌, subst}
use mathlib.Core.Bool.{Bool, true, false}
use mathlib.Core.List.{List, [], ◌∷◌}
use lib.ListN.{length}
use lib.Seq.{sets}
use borrow.Author.Tests.{eq-eqb, ne_eqb}
use Rattle.numbers.specs.BigEndian.{with_number_at}
use Rattle.numbers.proofs.Bytes.{written_out}
use Rattle.basics.specs.declared.Verdict.TheVariants.{Done}
use Rattle.basics.specs.Ladder.{when◌then◌else◌, need◌or◌then◌}
use Rattle.basics.specs.Verdict.{verdict_number}
use Rattle.basics.specs.Outcome.{Outcome, outcome}
use Rattle.messages.specs.declared.Fields.{Fields}
use Rattle.messages.specs.declared.Message.{Message}
use Rattle.messages.specs.Table.{keeps_table}
use Rattle.messages.specs.Message.{fields_of}
use Rattle.wire.specs.Packet.{packet_length, version, packet_with, packet_of, with_message, write_fields, write_packet}

-- the stores of the fields, one after the other
abbrev stores : List ℕ → Fields → List ℕ
stores p f =
    with_number_at (with_number_at
    (with_number_at (with_number_at (with_number_at
    (with_number_at (with_number_at (sets p 0 (82 ∷ 68 ∷ 69 ∷ f.kind ∷ [])) 4 2 version) 6 2 f.switch)
    8 4 f.instance.0) 12 4 f.round.0) 16 4 f.vote_round.0)
    20 8 f.value.high) 28 8 f.value.low

-- over any 36 bytes, written out, they compute
pub stored : (p : List ℕ) (f : Fields) → length p ≡ packet_length → stores p f ≡ packet_with f
unfolding with_number_at packet_with
stored p f h = subst (λ (l : List ℕ). stores l f ≡ packet_with f) (written_out packet_length p h) refl

module _ (p : List ℕ) (m : Message) where
  pub nothing_put : (length p ≡ packet_length → ⊥) → p ≡ with_message p m
  unfolding with_message when◌then◌else◌
  nothing_put other = rw (ne_eqb (length p) packet_length other)

  module _ (long : length p ≡ packet_length) (f : Fields) (f-so : f ≡ fields_of m) where
    pub put : (q : List ℕ) → q ≡ packet_with f → q ≡ with_message p m
    unfolding with_message packet_of when◌then◌else◌
    put q q-so = rw (eq-eqb (length p) packet_length long) (q-so ∙ ap packet_with f-so)

  -- a message is written as its fields
  pub as_fields : (f : Fields) → f ≡ fields_of m → (o : Outcome (List ℕ)) → o ≡ write_fields f p → o ≡ write_packet m p
  unfolding write_packet
  as_fields f f-so o o-so = o-so ∙ ap (λ g. write_fields g p) f-so

module _ (p : List ℕ) (f : Fields) where
  pub refused-1 : (length p ≡ packet_length → ⊥) → outcome 1 p ≡ write_fields f p
  unfolding write_fields need◌or◌then◌
  refused-1 other = rw (ne_eqb (length p) packet_length other)

  module _ (long : length p ≡ packet_length) (kept : Bool) (kept-so : kept ≡ keeps_table f) where
    pub refused-5 : kept ≡ false → outcome 5 p ≡ write_fields f p
    unfolding write_fields need◌or◌then◌
    refused-5 broken = rw (eq-eqb (length p) packet_length long, ← kept-so, broken)

    pub wrote : kept ≡ true → (q : List ℕ) (answer : ℕ) → q ≡ packet_with f → answer ≡ verdict_number Done → outcome answer q ≡ write_fields f p
    unfolding write_fields need◌or◌then◌
    wrote sound q answer q-so answer-so = rw (eq-eqb (length p) packet_length long, ← kept-so, sound, q-so, answer-so)
