-- Writing a message and reading it back gives the message; reading a packet and writing it back gives the bytes; a packet has a reading exactly when it
-- keeps the table. Bytes, fields and messages match one to one, and each step has its own inverse.
-- Assumes nothing.
use Prim.Native.Nat.{ℕ, zero, suc, ◌+◌, ◌≤◌, ◌<◌}
use mathlib.Core.Path.{◌≡◌, refl, sym, ap, ◌∙◌, subst}
use mathlib.Core.Bool.{Bool, true, false, ◌&&◌, ◌||◌, true≢false}
use mathlib.Core.List.{List, [], ◌∷◌, ◌++◌}
use native.Mathlib.Omega.{arith}
use lib.Dec.{eqb, leb}
use lib.ListN.{length, get_or}
use borrow.Author.Tests.{eqb-true, leb-true, ne_eqb, eq-eqb}
use Rattle.numbers.specs.BigEndian.{to_bytes, bytes_at, number_at, Bytes}
use Rattle.numbers.proofs.Bytes.{big_endian-to_bytes, to_bytes-number_at, written_out}
use Rattle.basics.specs.declared.Instance.{Instance}
use Rattle.basics.specs.declared.Round.{Round}
use Rattle.basics.specs.declared.Value.{Value}
use Rattle.basics.specs.declared.Verdict.TheVariants.{Done}
use Rattle.basics.specs.Ladder.{when◌then◌else◌, need◌or◌then◌}
use Rattle.basics.specs.Rounds.{the_instance, the_round, none, is_none, nobody, owner_of, owned_or_0}
use Rattle.basics.specs.Values.{null, is_null}
use Rattle.basics.specs.Verdict.{verdict_number}
use Rattle.basics.specs.Outcome.{outcome}
use Rattle.basics.proofs.Ladder.{both_true}
use Rattle.basics.proofs.Rounds.{owned-or-0}
use Rattle.messages.specs.declared.Fields.{Fields}
use Rattle.messages.specs.declared.Row.{Row}
use Rattle.messages.specs.declared.Message.{Message}
use Rattle.messages.specs.declared.Message.TheVariants.{Request, Prepare, Promise, Propose, Vote}
use Rattle.messages.specs.Table.{request_row, prepare_row, promise_row, propose_row, vote_row, table_row, keeps_table}
use Rattle.messages.specs.Message.{fields, message_of, fields_of}
use Rattle.wire.specs.Packet.{Reading, Read, Refused, packet_length, version, marked, fields_in, read_packet, Kept, packet_with, packet_of, write_fields, write_packet}
use Rattle.wire.specs.Promises.{InRange, WriteThenRead, ReadThenWrite, ReadingIffKept}

-- ---- packet and fields

fields_back : (f : Fields) → InRange f → fields_in (packet_with f) ≡ f
unfolding fields_in packet_with number_at
fields_back f h = λ i.
    fields f.kind (big_endian-to_bytes 2 f.switch h.switch_fits i) (the_instance (big_endian-to_bytes 4 f.instance.0 h.instance_fits i))
    (the_round (big_endian-to_bytes 4 f.round.0 h.round_fits i)) (the_round (big_endian-to_bytes 4 f.vote_round.0 h.vote_round_fits i))
    (record { high = big_endian-to_bytes 8 f.value.high h.high_fits i; low = big_endian-to_bytes 8 f.value.low h.low_fits i })

-- the eight parts of a packet
abbrev pub joined : (a b c d e f g h : List ℕ) → List ℕ
joined a b c d e f g h = a ++ b ++ c ++ d ++ e ++ f ++ g ++ h

bytes_back : (p : List ℕ) → Bytes p → length p ≡ packet_length → marked p ≡ true → number_at p 4 2 ≡ version → packet_with (fields_in p) ≡ p
unfolding fields_in packet_with
bytes_back p h n m v =
    let t = both_true (eqb (get_or p 0 0) 82 && eqb (get_or p 1 0) 68) (eqb (get_or p 2 0) 69) m in
    let s = both_true (eqb (get_or p 0 0) 82) (eqb (get_or p 1 0) 68) t.0 in
    let mark : 82 ∷ 68 ∷ 69 ∷ get_or p 3 0 ∷ [] ≡ bytes_at p 0 4 =
    λ i.
    sym (eqb-true (get_or p 0 0) 82 s.0) i ∷ sym (eqb-true (get_or p 1 0) 68 s.1) i
    ∷ sym (eqb-true (get_or p 2 0) 69 t.1) i ∷ get_or p 3 0 ∷ [] in
    let field : (at w : ℕ) → at + w ≤ 36 → to_bytes w (number_at p at w) ≡ bytes_at p at w = λ at w l. to_bytes-number_at p h at w (omega arith) in
    let versioned : to_bytes 2 version ≡ bytes_at p 4 2 = ap (to_bytes 2) (sym v) ∙ field 4 2 (omega arith) in
    (λ i. joined (mark i) (versioned i) (field 6 2 (omega arith) i) (field 8 4 (omega arith) i) (field 12 4 (omega arith) i)
    (field 16 4 (omega arith) i) (field 20 8 (omega arith) i) (field 28 8 (omega arith) i))
    ∙ written_out packet_length p n

-- ---- fields and message

message-back : (m : Message) → message_of (fields_of m) ≡ m
unfolding message_of fields_of when◌then◌else◌
message-back (Request s v) = refl
message-back (Prepare i r) = refl
message-back (Promise s i r b v) = refl
message-back (Propose i r v) = refl
message-back (Vote s i r v) = refl

is-none : (r : Round) → is_none r ≡ true → none ≡ r
is-none r e = λ i. the_round (sym (eqb-true r.0 4294967295 e) i)

is-null : (v : Value) → is_null v ≡ true → null ≡ v
is-null v e =
    let h = both_true (eqb v.high 0) (eqb v.low 0) e in
    λ i. record { high = sym (eqb-true v.high 0 h.0) i; low = sym (eqb-true v.low 0 h.1) i }

-- a row that is kept, column by column
pub record Columns (r : Row) : Type 0 where
  pub switch : r.switch ≡ true
  pub instance : r.instance ≡ true
  pub round : r.round ≡ true
  pub vote-round : r.vote_round ≡ true
  pub value : r.value ≡ true

pub columns : (f : Fields) → keeps_table f ≡ true → Columns (table_row f)
unfolding keeps_table
columns f e =
    let r = table_row f in
    let a = both_true (r.switch && r.instance && r.round && r.vote_round) r.value e in
    let b = both_true (r.switch && r.instance && r.round) r.vote_round a.0 in
    let c = both_true (r.switch && r.instance) r.round b.0 in
    let d = both_true r.switch r.instance c.0 in
    record { switch = d.0; instance = d.1; round = c.1; vote-round = b.1; value = a.1 }

-- where the round has an owner, the switch column makes the switch number that owner's
owner-switch : (s : ℕ) (r : Round) → owned_or_0 r ≡ true → eqb (owner_of r) nobody || eqb s (owner_of r) ≡ true → owner_of r ≡ s
unfolding owned_or_0
owner-switch s r owned column = go (eqb (owner_of r) nobody) refl column
  where
    go : (b : Bool) → eqb (owner_of r) nobody ≡ b → b || eqb s (owner_of r) ≡ true → owner_of r ≡ s
    go true e c = absurd (omega (arith, eqb-true (owner_of r) nobody e, leb-true (owner_of r) 3 owned))
    go false e c = sym (eqb-true s (owner_of r) c)

-- by the type: the fields that a message leaves out are those that its row fixes, and no row is above 4
by_kind : (k s : ℕ) (i : Instance) (r b : Round) (v : Value) → Columns (table_row (fields k s i r b v))
    → fields_of (message_of (fields k s i r b v)) ≡ fields k s i r b v
unfolding table_row request_row prepare_row promise_row propose_row vote_row message_of fields_of when◌then◌else◌
by_kind zero s i r b v h = λ j.
    fields 0 s (the_instance (sym (eqb-true i.0 0 h.instance) j)) (the_round (sym (eqb-true r.0 0 h.round) j))
    (is-none b h.vote-round j) v
by_kind (suc zero) s i r b v h = λ j.
    fields 1 (owner-switch s r (owned-or-0 r h.round) h.switch j) i r (is-none b h.vote-round j)
    (is-null v h.value j)
by_kind (suc (suc zero)) s i r b v h = refl
by_kind (suc (suc (suc zero))) s i r b v h = λ j.
    fields 3 (owner-switch s r h.round h.switch j) i r (is-none b h.vote-round j) v
by_kind (suc (suc (suc (suc zero)))) s i r b v h = λ j. fields 4 s i r (the_round (sym (eqb-true b.0 r.0 h.vote-round) j)) v
by_kind (suc (suc (suc (suc (suc k))))) s i r b v h =
    let n = suc (suc (suc (suc (suc k)))) in
    let other : (j : ℕ) → j < 5 → eqb n j ≡ false = λ j l. ne_eqb n j (λ q. omega arith) in
    absurd (true≢false (sym (simp (other 0 (omega arith), other 1 (omega arith), other 2 (omega arith), other 3 (omega arith), other 4 (omega arith)) at h.switch)))

pub fields-of-message : (f : Fields) → keeps_table f ≡ true → fields_of (message_of f) ≡ f
fields-of-message f e = by_kind f.kind f.switch f.instance f.round f.vote_round f.value (columns f e)

-- ---- the three claims

kind-known : (m : Message) → leb (fields_of m).kind 4 ≡ true
unfolding fields_of
kind-known (Request s v) = refl
kind-known (Prepare i r) = refl
kind-known (Promise s i r b v) = refl
kind-known (Propose i r v) = refl
kind-known (Vote s i r v) = refl

-- what a message that keeps the table is written as is read as that message
pub packet-reads : (m : Message) → InRange (fields_of m) → keeps_table (fields_of m) ≡ true → read_packet (packet_of m) ≡ Read m
unfolding read_packet packet_of need◌or◌then◌ packet_with number_at
packet-reads m h e = simp (kind-known m, fields_back (fields_of m) h, e, message-back m)

-- what passed a refusal
passed : (b : Bool) (n : ℕ) (r : Reading) (m : Message) → (need b or Refused n then r) ≡ Read m → (b ≡ true) × (r ≡ Read m)
unfolding need◌or◌then◌
passed true n r m e = (refl, e)
passed false n r m e = let z : ◌≡◌ {A = ℕ} 0 1 = cc in absurd (omega arith)

pub kept-kind : (f : Fields) → keeps_table f ≡ true → leb f.kind 4 ≡ true
kept-kind f e = subst (λ (g : Fields). leb g.kind 4 ≡ true) (fields-of-message f e) (kind-known (message_of f))

kept-reads : (p : List ℕ) → Kept p → read_packet p ≡ Read (message_of (fields_in p))
unfolding read_packet need◌or◌then◌ fields_in
kept-reads p k =
    simp (eq-eqb (length p) packet_length k.long, k.mark, eq-eqb (number_at p 4 2) version k.versioned, kept-kind (fields_in p) k.table, k.table)

pub read_kept : (p : List ℕ) (m : Message) → read_packet p ≡ Read m → Kept p
unfolding read_packet
read_kept p m e =
    let a = passed (eqb (length p) packet_length) 1 _ m e in
    let b = passed (marked p) 2 _ m a.1 in
    let c = passed (eqb (number_at p 4 2) version) 3 _ m b.1 in
    let d = passed (leb (get_or p 3 0) 4) 4 _ m c.1 in
    let t = passed (keeps_table (fields_in p)) 5 _ m d.1 in
    record { long = eqb-true _ _ a.0; mark = b.0; versioned = eqb-true _ _ c.0; table = t.0 }

pub reading-iff-kept : ReadingIffKept
reading-iff-kept p = ((λ r. read_kept p r.0 r.1), (λ k. (message_of (fields_in p), kept-reads p k)))

pub read-fields : (p : List ℕ) (m : Message) → read_packet p ≡ Read m → fields_of m ≡ fields_in p
read-fields p m e =
    let k = read_kept p m e in
    let same : message_of (fields_in p) ≡ m = cc (kept-reads p k) in
    sym (ap fields_of same) ∙ fields-of-message (fields_in p) k.table

-- a packet that was read is what its message is written as
pub read-packet-of : (p : List ℕ) (m : Message) → Bytes p → read_packet p ≡ Read m → packet_of m ≡ p
unfolding packet_of
read-packet-of p m h e = let k = read_kept p m e in ap packet_with (read-fields p m e) ∙ bytes_back p h k.long k.mark k.versioned

pub write-then-read : WriteThenRead
unfolding write_packet write_fields packet_of need◌or◌then◌
write-then-read m q left h e = go (eqb (length q) packet_length) (keeps_table (fields_of m)) refl e
  where
    go : (long kept : Bool) → keeps_table (fields_of m) ≡ kept
        → (need long or outcome 1 q then need kept or outcome 5 q then outcome (verdict_number Done) (packet_of m)) ≡ outcome (verdict_number Done) left
        → read_packet left ≡ Read m
    go true true k w = sym (ap read_packet (ap (λ x. x.left) w)) ∙ packet-reads m h k
    go true false k w = absurd (omega (arith, ap (λ x. x.answer) w))
    go false kept k w = absurd (omega (arith, ap (λ x. x.answer) w))

pub read-then-write : ReadThenWrite
unfolding write_packet write_fields packet_of need◌or◌then◌
read-then-write p q m h n e =
    let kept : keeps_table (fields_of m) ≡ true = rw (read-fields p m e) (read_kept p m e).table in
    rw (eq-eqb (length q) packet_length n, kept, read-packet-of p m h e)
