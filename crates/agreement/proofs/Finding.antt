-- A packet is found among those that were sent by comparing bytes; two votes of three acceptors, found so, decide.
-- Assumes nothing.
use Prim.Native.Nat.{ℕ}
use mathlib.Core.Path.{◌≡◌, refl, ap}
use mathlib.Core.Bool.{Bool, true, false, not, ◌&&◌, ◌||◌, false≢true}
use mathlib.Core.List.{List, [], ◌∷◌}
use mathlib.Core.Logic.{⊎_elim}
use lib.Dec.{eqb, ltb, lit<}
use borrow.Author.Tests.{eqb-true, eqb-false, ltb-true, not-true}
use Rattle.basics.specs.declared.Instance.{Instance}
use Rattle.basics.specs.declared.Round.{Round}
use Rattle.basics.specs.declared.Value.{Value}
use Rattle.basics.proofs.Ladder.{both_true, or_cases}
use Rattle.messages.specs.declared.Message.TheVariants.{Vote}
use Rattle.wire.specs.Packet.{Read, read_packet, packet_of}
use Rattle.quorum.specs.Voters.{Mem, newest, older}
use Rattle.agreement.specs.Run.{Caller, the_primary, acceptor, backup, learner, Sent, sent, Boxes, VoteSent, Decided}
use Rattle.agreement.specs.Examples.{equal_bytes, was_sent, three, first}
use Rattle.agreement.proofs.Families.{nowhere, extend}

same_bytes : (p q : List ℕ) → equal_bytes p q ≡ true → p ≡ q
unfolding equal_bytes
same_bytes [] [] e = refl
same_bytes [] (b ∷ q) e = absurd (false≢true e)
same_bytes (a ∷ p) [] e = absurd (false≢true e)
same_bytes (a ∷ p) (b ∷ q) e =
    let both = both_true (eqb a b) (equal_bytes p q) e in
    let heads = eqb-true a b both.0 in
    let tails = same_bytes p q both.1 in
    λ i. heads i ∷ tails i

-- whose packet it was
pub record By (p : List ℕ) (packets : List Sent) : Type 0 where
  pub by : Caller
  pub there : Mem (sent by p) packets

pub by-was_sent : (p : List ℕ) (packets : List Sent) → was_sent p packets ≡ true → By p packets
unfolding was_sent
by-was_sent p [] e = absurd (false≢true e)
by-was_sent p (x ∷ xs) e =
    ⊎_elim
    (λ same. record { by = x.by; there = newest (ap (sent x.by) (same_bytes p x.packet same)) })
    (λ rest. let found = by-was_sent p xs rest in record { by = found.by; there = older found.there })
    (or_cases (equal_bytes p x.packet) (was_sent p xs) e)

-- ---- votes

unfoldable pub is_acceptor : (own : ℕ) → Caller → Bool
is_acceptor own (acceptor other) = eqb own other
is_acceptor own the_primary = false
is_acceptor own (backup other) = false
is_acceptor own (learner which) = false

is-acceptor : (own : ℕ) (by : Caller) → is_acceptor own by ≡ true → acceptor own ≡ by
unfolding is_acceptor
is-acceptor own (acceptor other) e = ap acceptor (eqb-true own other e)
is-acceptor own the_primary e = absurd (false≢true e)
is-acceptor own (backup other) e = absurd (false≢true e)
is-acceptor own (learner which) e = absurd (false≢true e)

-- The acceptor's own call sent these bytes.
unfoldable pub sent_by : (own : ℕ) → (packet : List ℕ) → List Sent → Bool
sent_by own packet [] = false
sent_by own packet (x ∷ xs) = is_acceptor own x.by && equal_bytes packet x.packet || sent_by own packet xs

sent-by : (own : ℕ) (packet : List ℕ) (packets : List Sent) → sent_by own packet packets ≡ true → Mem (sent (acceptor own) packet) packets
unfolding sent_by
sent-by own packet [] e = absurd (false≢true e)
sent-by own packet (x ∷ xs) e =
    ⊎_elim
    (λ same.
    let both = both_true (is_acceptor own x.by) (equal_bytes packet x.packet) same in
    let by = is-acceptor own x.by both.0 in
    let bytes = same_bytes packet x.packet both.1 in
    newest (λ i. sent (by i) (bytes i)))
    (λ rest. older (sent-by own packet xs rest)) (or_cases _ _ e)

pub vote-found : (own : ℕ) (i : Instance) (r : Round) (v : Value) (packets : List Sent) → sent_by own (packet_of (Vote own i r v)) packets ≡ true
    → read_packet (packet_of (Vote own i r v)) ≡ Read (Vote own i r v) → VoteSent packets own i r v
vote-found own i r v packets found reads = record { packet = packet_of (Vote own i r v); switch = own; reads = reads; was_sent = sent-by own _ packets found }

-- Two of three acceptors are more than half.
pub two-votes : (w : Boxes) (a b : ℕ) (r : Round) (x : Value) → not (eqb a b) && ltb a 3 && ltb b 3 ≡ true → VoteSent w.packets a first r x
    → VoteSent w.packets b first r x → Decided three w first x
two-votes w a b r x two voted-a voted-b =
    let outer = both_true (not (eqb a b) && ltb a 3) (ltb b 3) two in
    let inner = both_true (not (eqb a b)) (ltb a 3) outer.0 in
    record {
      round = r;
      voters = a ∷ b ∷ [];
      distinct = (not-doubled inner.0, (nowhere, tt));
      are_acceptors = extend (ltb-true a 3 inner.1) (extend (ltb-true b 3 outer.1) (λ _. nowhere));
      more_than_half = lit< tt;
      voted = extend voted-a (extend voted-b (λ _. nowhere));
    }
  where
    not-doubled : not (eqb a b) ≡ true → Mem a (b ∷ []) → ⊥
    not-doubled differ (newest e) = eqb-false a b (not-true (eqb a b) differ) e
    not-doubled differ (older m) = nowhere m
