-- Laws for callers, so that no player opens the packet's definitions: what a packet that was read and a message that is written satisfy, and what
-- each kind of message keeps of its row.
-- Assumes nothing.
use Prim.Native.Nat.{ℕ, zero, suc, ◌≤◌, ◌<◌}
use mathlib.Core.Path.{◌≡◌, refl, sym, subst}
use mathlib.Core.Bool.{Bool, true, false, not, ◌&&◌, ◌||◌, false≢true}
use mathlib.Core.List.{List, [], ◌∷◌, ◌++◌}
use native.Mathlib.Omega.{arith}
use lib.Dec.{eqb}
use lib.ListN.{length}
use borrow.Author.Tests.{eq-eqb, le-leb, leb-true}
use Rattle.numbers.specs.BigEndian.{to_bytes, Bytes}
use Rattle.numbers.proofs.Bytes.{Bytes-append, Bytes-to_bytes, number_at-lt}
use Rattle.basics.specs.declared.Instance.{Instance}
use Rattle.basics.specs.declared.Round.{Round}
use Rattle.basics.specs.declared.Value.{Value}
use Rattle.basics.specs.Ladder.{when◌then◌else◌}
use Rattle.basics.specs.Rounds.{is_none, nobody, owner_of, owned_or_0, owned_not_0, at_most}
use Rattle.basics.specs.Values.{is_null}
use Rattle.basics.specs.Votes.{is_vote_up_to}
use Rattle.basics.proofs.Ladder.{and-true, or_left, or_right, need-elim, if-true}
use Rattle.basics.proofs.Rounds.{owned-some}
use Rattle.messages.specs.declared.Message.{Message}
use Rattle.messages.specs.declared.Message.TheVariants.{Request, Prepare, Promise, Propose, Vote}
use Rattle.messages.specs.Table.{request_row, prepare_row, promise_row, propose_row, vote_row, table_row, keeps_table}
use Rattle.messages.specs.Message.{fields_of}
use Rattle.wire.specs.Packet.{Reading, Read, Refused, packet_length, version, fields_in, read_packet, packet_with, packet_of, with_message}
use Rattle.wire.specs.Promises.{InRange, MalformedNumbers}
use Rattle.wire.proofs.RoundTrip.{joined, columns, read_kept, read-fields, packet-reads}

-- ---- reading and writing

-- a message that can be written and read back
pub record Writable (m : Message) : Type 0 where
  pub range : InRange (fields_of m)
  pub kept : keeps_table (fields_of m) ≡ true

pub read_length : (p : List ℕ) (m : Message) → read_packet p ≡ Read m → length p ≡ packet_length
read_length p m e = (read_kept p m e).long

pub read-message : (p : List ℕ) (m : Message) → read_packet p ≡ Read m → keeps_table (fields_of m) ≡ true
read-message p m e = rw (read-fields p m e) (read_kept p m e).table

pub read-writable : (p : List ℕ) (m : Message) → Bytes p → read_packet p ≡ Read m → Writable m
unfolding fields_in
read-writable p m h e =
    record {
      range =
          rw (read-fields p m e)
          (record {
            switch_fits = number_at-lt p h 6 2;
            instance_fits = number_at-lt p h 8 4;
            round_fits = number_at-lt p h 12 4;
            vote_round_fits = number_at-lt p h 16 4;
            high_fits = number_at-lt p h 20 8;
            low_fits = number_at-lt p h 28 8;
          });
      kept = read-message p m e;
    }

pub written-reads : (m : Message) → Writable m → read_packet (packet_of m) ≡ Read m
written-reads m w = packet-reads m w.range w.kept

-- ---- refusals

-- of a reading that is a refusal, the number is such a one
abbrev pub RefusedBy : (ℕ → Type 0) → Reading → Type 0
RefusedBy Such (Read m) = Unit {0}
RefusedBy Such (Refused number) = Such number

module _ (Such : ℕ → Type 0) (one : Such 1) (two : Such 2) (three : Such 3) (four : Such 4) (five : Such 5) where
  pub reader-refuses : (p : List ℕ) → RefusedBy Such (read_packet p)
  unfolding read_packet
  reader-refuses p =
      need-elim (RefusedBy Such) _ _ _ one λ _.
      need-elim (RefusedBy Such) _ _ _ two λ _.
      need-elim (RefusedBy Such) _ _ _ three λ _.
      need-elim (RefusedBy Such) _ _ _ four λ _.
      need-elim (RefusedBy Such) _ _ _ five λ _. tt

pub malformed-numbers : MalformedNumbers
malformed-numbers p malformed =
    subst (RefusedBy (λ number. (1 ≤ number) × (number ≤ 5))) malformed.refuses
    (reader-refuses (λ number. (1 ≤ number) × (number ≤ 5)) (omega arith, omega arith) (omega arith, omega arith) (omega arith, omega arith) (omega arith, omega arith)
    (omega arith, omega arith) p)

-- ---- bytes that are sent

pub packet-length : (m : Message) → length (packet_of m) ≡ packet_length
unfolding packet_of packet_with
packet-length m = refl

pub put-over : (p : List ℕ) (m : Message) → length p ≡ packet_length → with_message p m ≡ packet_of m
unfolding with_message
put-over p m n = if-true (packet_of m) p (eq-eqb (length p) packet_length n)

mark-bytes : (k : ℕ) → k < 256 → Bytes (82 ∷ 68 ∷ 69 ∷ k ∷ [])
mark-bytes k h zero = omega arith
mark-bytes k h (suc zero) = omega arith
mark-bytes k h (suc (suc zero)) = omega arith
mark-bytes k h (suc (suc (suc zero))) = h
mark-bytes k h (suc (suc (suc (suc i)))) = omega arith

kind-byte : (m : Message) → (fields_of m).kind < 256
unfolding fields_of
kind-byte (Request s v) = omega arith
kind-byte (Prepare i r) = omega arith
kind-byte (Promise s i r b v) = omega arith
kind-byte (Propose i r v) = omega arith
kind-byte (Vote s i r v) = omega arith

joined_bytes : (a b c d e f g h : List ℕ) → Bytes a → Bytes b → Bytes c → Bytes d → Bytes e → Bytes f → Bytes g → Bytes h → Bytes (joined a b c d e f g h)
joined_bytes a b c d e f g h ba bb bc bd be bf bg bh =
    Bytes-append (a ++ b ++ c ++ d ++ e ++ f ++ g) h (Bytes-append (a ++ b ++ c ++ d ++ e ++ f) g (Bytes-append (a ++ b ++ c ++ d ++ e) f
    (Bytes-append (a ++ b ++ c ++ d) e (Bytes-append (a ++ b ++ c) d (Bytes-append (a ++ b) c (Bytes-append a b ba bb) bc) bd) be) bf) bg) bh

pub packet-bytes : (m : Message) → Bytes (packet_of m)
unfolding packet_of packet_with
packet-bytes m =
    let f = fields_of m in
    joined_bytes (82 ∷ 68 ∷ 69 ∷ f.kind ∷ []) (to_bytes 2 version) (to_bytes 2 f.switch) (to_bytes 4 f.instance.0) (to_bytes 4 f.round.0)
    (to_bytes 4 f.vote_round.0) (to_bytes 8 f.value.high) (to_bytes 8 f.value.low) (mark-bytes f.kind (kind-byte m))
    (Bytes-to_bytes 2 version) (Bytes-to_bytes 2 f.switch) (Bytes-to_bytes 4 f.instance.0) (Bytes-to_bytes 4 f.round.0)
    (Bytes-to_bytes 4 f.vote_round.0) (Bytes-to_bytes 8 f.value.high) (Bytes-to_bytes 8 f.value.low)

-- ---- what each kind keeps of its row, both ways

-- the switch number of a round with an owner
by-owner : (r : Round) → eqb (owner_of r) nobody || eqb (owner_of r) (owner_of r) ≡ true
by-owner r = or_right (eqb (owner_of r) nobody) (eq-eqb (owner_of r) (owner_of r) refl)

pub request-value : (s : ℕ) (v : Value) → keeps_table (fields_of (Request s v)) ≡ true → not (is_null v) ≡ true
unfolding table_row request_row fields_of when◌then◌else◌
request-value s v k = (columns (fields_of (Request s v)) k).value

pub request-kept : (s : ℕ) (v : Value) → not (is_null v) ≡ true → keeps_table (fields_of (Request s v)) ≡ true
unfolding keeps_table table_row request_row fields_of when◌then◌else◌
request-kept s v e = e

pub prepare-owned : (i : Instance) (r : Round) → keeps_table (fields_of (Prepare i r)) ≡ true → owned_not_0 r ≡ true
unfolding table_row prepare_row fields_of when◌then◌else◌
prepare-owned i r k = (columns (fields_of (Prepare i r)) k).round

pub prepare-kept : (i : Instance) (r : Round) → owned_not_0 r ≡ true → keeps_table (fields_of (Prepare i r)) ≡ true
unfolding keeps_table table_row prepare_row fields_of when◌then◌else◌
prepare-kept i r e = and-true (and-true (and-true (and-true (by-owner r) refl) e) refl) refl

pub propose-owned : (i : Instance) (r : Round) (v : Value) → keeps_table (fields_of (Propose i r v)) ≡ true → owned_or_0 r ≡ true
unfolding table_row propose_row fields_of when◌then◌else◌
propose-owned i r v k = (columns (fields_of (Propose i r v)) k).round

pub propose-kept : (i : Instance) (r : Round) (v : Value) → owned_or_0 r ≡ true → keeps_table (fields_of (Propose i r v)) ≡ true
unfolding keeps_table table_row propose_row fields_of when◌then◌else◌
propose-kept i r v e = and-true (and-true (and-true (and-true (by-owner r) refl) e) refl) refl

pub vote-sender : (s : ℕ) (i : Instance) (r : Round) (v : Value) → keeps_table (fields_of (Vote s i r v)) ≡ true → s ≤ 6
unfolding table_row vote_row fields_of when◌then◌else◌
vote-sender s i r v k = leb-true s 6 (columns (fields_of (Vote s i r v)) k).switch

pub vote-owned : (s : ℕ) (i : Instance) (r : Round) (v : Value) → keeps_table (fields_of (Vote s i r v)) ≡ true → owned_or_0 r ≡ true
unfolding table_row vote_row fields_of when◌then◌else◌
vote-owned s i r v k = (columns (fields_of (Vote s i r v)) k).round

pub vote-kept : (s : ℕ) (i : Instance) (r : Round) (v : Value) → s ≤ 6 → owned_or_0 r ≡ true → keeps_table (fields_of (Vote s i r v)) ≡ true
unfolding keeps_table table_row vote_row fields_of when◌then◌else◌
vote-kept s i r v h e = and-true (and-true (and-true (and-true (le-leb s 6 h) refl) e) (eq-eqb r.0 r.0 refl)) refl

pub promise-sender : (s : ℕ) (i : Instance) (r b : Round) (v : Value) → keeps_table (fields_of (Promise s i r b v)) ≡ true → s ≤ 6
unfolding table_row promise_row fields_of when◌then◌else◌
promise-sender s i r b v k = leb-true s 6 (columns (fields_of (Promise s i r b v)) k).switch

pub promise-owned : (s : ℕ) (i : Instance) (r b : Round) (v : Value) → keeps_table (fields_of (Promise s i r b v)) ≡ true → owned_not_0 r ≡ true
unfolding table_row promise_row fields_of when◌then◌else◌
promise-owned s i r b v k = (columns (fields_of (Promise s i r b v)) k).round

-- a promise's vote round and value, as two columns and as one test
one-test : (never nothing before : Bool) → never || before ≡ true → not never || nothing ≡ true → (never && nothing) || before ≡ true
one-test true nothing before h k = or_left before k
one-test false nothing before h k = h

vote-round-column : (never nothing before : Bool) → (never && nothing) || before ≡ true → never || before ≡ true
vote-round-column true nothing before h = refl
vote-round-column false nothing before h = h

value-column : (never nothing owned low : Bool) → (owned ≡ true → never ≡ false) → (never && nothing) || (owned && low) ≡ true → not never || nothing ≡ true
value-column true true owned low some h = refl
value-column true false true low some h = absurd (false≢true (sym (some refl)))
value-column true false false low some h = h
value-column false nothing owned low some h = refl

pub promise-votes : (s : ℕ) (i : Instance) (r b : Round) (v : Value) → keeps_table (fields_of (Promise s i r b v)) ≡ true → is_vote_up_to r b v ≡ true
unfolding table_row promise_row fields_of is_vote_up_to when◌then◌else◌
promise-votes s i r b v k =
    let h = columns (fields_of (Promise s i r b v)) k in
    one-test (is_none b) (is_null v) (owned_or_0 b && at_most b r) h.vote-round h.value

pub promise-kept : (s : ℕ) (i : Instance) (r b : Round) (v : Value) → s ≤ 6 → owned_not_0 r ≡ true → is_vote_up_to r b v ≡ true
    → keeps_table (fields_of (Promise s i r b v)) ≡ true
unfolding keeps_table table_row promise_row fields_of is_vote_up_to when◌then◌else◌
promise-kept s i r b v h e k =
    and-true (and-true (and-true (and-true (le-leb s 6 h) refl) e) (vote-round-column (is_none b) (is_null v) (owned_or_0 b && at_most b r) k))
    (value-column (is_none b) (is_null v) (owned_or_0 b) (at_most b r) (owned-some b) k)
