-- The two calls undo each other, answer their numbers alone, and write nothing by a refusal: by their ways out, and by the packet's own round trip.
-- Assumes nothing.
use Prim.Native.Nat.{ℕ}
use mathlib.Core.Path.{◌≡◌, refl, sym, ap, ◌∙◌, subst}
use mathlib.Core.Bool.{true, false, false≢true}
use mathlib.Core.List.{List}
use native.Mathlib.Omega.{arith}
use lib.Dec.{leb}
use lib.ListN.{length}
use borrow.Author.Tests.{leb-true, le-leb, eq-eqb}
use Rattle.basics.specs.declared.Verdict.TheVariants.{Done}
use Rattle.basics.specs.Ladder.{need◌or◌then◌}
use Rattle.basics.specs.Outcome.{Outcome, outcome}
use Rattle.basics.specs.Verdict.{verdict_number, is_verdict}
use Rattle.basics.proofs.Ladder.{need-elim}
use Rattle.messages.specs.declared.Fields.{Fields}
use Rattle.messages.specs.declared.Message.{Message}
use Rattle.messages.specs.Message.{fields_of, message_of}
use Rattle.messages.specs.Table.{keeps_table}
use Rattle.wire.specs.Packet.{Reading, Read, Refused, packet_length, fields_in, read_packet, Kept, packet_with, packet_of}
use Rattle.wire.specs.Promises.{InRange}
use Rattle.wire.proofs.RoundTrip.{fields-of-message, kept-kind, packet-reads, read_kept, read-fields, read-packet-of}
use Rattle.wire.proofs.Laws.{RefusedBy, reader-refuses, read-writable}
use Rattle.player.specs.Promises.{OneOf}
use Rattle.player.proofs.Numbers.{one_of}
use Rattle.packets.specs.Packets.{last_switch, packet_write, fields_read, packet_read}
use Rattle.packets.specs.Promises.{Fitting, WriteThenRead, ReadThenWrite, write_numbers, read_numbers, WritePromises, ReadPromises}

-- ---- the ways out

-- a refusal's number is not "done"
not_done : (number : ℕ) → is_verdict number ≡ false → number ≡ verdict_number Done → ⊥
unfolding is_verdict
not_done number refuses same = false≢true (sym refuses ∙ ap is_verdict same)

module _ (f : Fields) (p : List ℕ) (P : Outcome (List ℕ) → Type 0) where
  -- what holds of every refusal, and of the packet of fields that pass, holds of writing
  write-elim : ((number : ℕ) → OneOf number write_numbers → is_verdict number ≡ false → P (outcome number p))
      → (leb f.switch last_switch ≡ true → keeps_table f ≡ true → P (outcome (verdict_number Done) (packet_with f))) → P (packet_write f p)
  unfolding packet_write is_verdict
  write-elim refused writes =
      need-elim P _ _ _ (refused 1 (one_of 1 write_numbers refl) refl) λ _.
      need-elim P _ _ _ (refused 4 (one_of 4 write_numbers refl) refl) λ _.
      need-elim P _ _ _ (refused 5 (one_of 5 write_numbers refl) refl) λ room.
      need-elim P _ _ _ (refused 5 (one_of 5 write_numbers refl) refl) λ kept. writes room kept

module _ (p : List ℕ) (before : Fields) (P : Outcome Fields → Type 0) where
  -- what holds of every refusal, and of the fields of a message, holds of reading
  read-elim : ((number : ℕ) → OneOf number read_numbers → is_verdict number ≡ false → P (outcome number before))
      → ((m : Message) → read_packet p ≡ Read m → P (outcome (verdict_number Done) (fields_of m))) → P (packet_read p before)
  unfolding packet_read fields_read is_verdict
  read-elim refused reads =
      go (read_packet p) refl
      (reader-refuses Such (one_of 1 read_numbers refl, refl) (one_of 2 read_numbers refl, refl) (one_of 3 read_numbers refl, refl) (one_of 4 read_numbers refl, refl)
      (one_of 5 read_numbers refl, refl) p)
    where
      Such : ℕ → Type 0
      Such number = OneOf number read_numbers × (is_verdict number ≡ false)

      go : (reading : Reading) → read_packet p ≡ reading → RefusedBy Such reading → P (fields_read before reading)
      go (Read m) e _ = reads m e
      go (Refused number) _ such = refused number such.0 such.1

-- ---- there and back

-- what the writer took is in range
in-range : (f : Fields) → Fitting f → leb f.switch last_switch ≡ true → InRange f
in-range f fits room =
    let most = leb-true f.switch last_switch room in
    record {
      switch_fits = omega (arith, most);
      instance_fits = fits.instance_fits;
      round_fits = fits.round_fits;
      vote_round_fits = fits.vote_round_fits;
      high_fits = fits.high_fits;
      low_fits = fits.low_fits;
    }

-- fields that keep the table are read as their message
reads-fields : (f : Fields) → InRange f → keeps_table f ≡ true → read_packet (packet_with f) ≡ Read (message_of f)
unfolding packet_of
reads-fields f range kept =
    subst (λ g. InRange g → keeps_table g ≡ true → read_packet (packet_with g) ≡ Read (message_of f)) (fields-of-message f kept) (packet-reads (message_of f)) range kept

-- what is read of a packet that has a message
reads-message : (p : List ℕ) (before : Fields) (m : Message) → read_packet p ≡ Read m → packet_read p before ≡ outcome (verdict_number Done) (fields_of m)
unfolding packet_read fields_read
reads-message p before m e = rw e

-- what is written of fields that pass
writes-fields : (f : Fields) (p : List ℕ) → length p ≡ packet_length → leb f.switch last_switch ≡ true → keeps_table f ≡ true
    → packet_write f p ≡ outcome (verdict_number Done) (packet_with f)
unfolding packet_write need◌or◌then◌
writes-fields f p long room kept = rw (eq-eqb (length p) packet_length long, kept-kind f kept, room, kept)

pub write-then-read : WriteThenRead
write-then-read f before over left fits =
    write-elim f over (λ o. o ≡ outcome (verdict_number Done) left → packet_read left before ≡ outcome (verdict_number Done) f)
    (λ number _ refuses e. absurd (not_done number refuses (ap (λ o. o.answer) e)))
    (λ room kept e.
    subst (λ p. packet_read p before ≡ outcome (verdict_number Done) f) (ap (λ o. o.left) e)
    (reads-message (packet_with f) before (message_of f) (reads-fields f (in-range f fits room) kept) ∙ ap (outcome (verdict_number Done)) (fields-of-message f kept)))

pub read-then-write : ReadThenWrite
unfolding packet_of
read-then-write packet over f before bytes long =
    read-elim packet before (λ o. o ≡ outcome (verdict_number Done) f → packet_write f over ≡ outcome (verdict_number Done) packet)
    (λ number _ refuses e. absurd (not_done number refuses (ap (λ o. o.answer) e)))
    (λ m reads e.
    let w = read-writable packet m bytes reads in
    let room = w.range.switch_fits in
    subst (λ g. packet_write g over ≡ outcome (verdict_number Done) packet) (ap (λ o. o.left) e)
    (writes-fields (fields_of m) over long (le-leb (fields_of m).switch last_switch (omega (arith, room))) w.kept
    ∙ ap (outcome (verdict_number Done)) (read-packet-of packet m bytes reads)))

-- ---- the calls

pub write-promises : (f : Fields) (packet : List ℕ) → WritePromises f packet
write-promises f packet = record {
  numbers_are = write-elim f packet (λ o. OneOf o.answer write_numbers) (λ _ one _. one) (λ _ _. one_of (verdict_number Done) write_numbers refl);
  refusal_keeps_all = write-elim f packet (λ o. is_verdict o.answer ≡ false → o.left ≡ packet) (λ _ _ _ _. refl)
      (λ _ _ refuses. absurd (not_done (verdict_number Done) refuses refl));
  done_keeps = λ fits. write-elim f packet (λ o. o.answer ≡ verdict_number Done → Kept o.left) (λ number _ refuses same. absurd (not_done number refuses same))
      (λ room kept _. read_kept (packet_with f) (message_of f) (reads-fields f (in-range f fits room) kept));
}

pub read-promises : (packet : List ℕ) (before : Fields) → ReadPromises packet before
read-promises packet before = record {
  numbers_are = read-elim packet before (λ o. OneOf o.answer read_numbers) (λ _ one _. one) (λ _ _. one_of (verdict_number Done) read_numbers refl);
  refusal_keeps_all = read-elim packet before (λ o. is_verdict o.answer ≡ false → o.left ≡ before) (λ _ _ _ _. refl)
      (λ _ _ refuses. absurd (not_done (verdict_number Done) refuses refl));
  done_keeps = read-elim packet before (λ o. o.answer ≡ verdict_number Done → Kept packet) (λ number _ refuses same. absurd (not_done number refuses same))
      (λ m reads _. read_kept packet m reads);
  done_tells = read-elim packet before (λ o. o.answer ≡ verdict_number Done → o.left ≡ fields_in packet) (λ number _ refuses same. absurd (not_done number refuses same))
      (λ m reads _. read-fields packet m reads);
}
