-- Laws of the acceptor for the crates above: what holds of every way out holds of its rule and of its place; and its step, where it obeys, as an equation.
-- Assumes nothing.
use Prim.Native.Nat.{ℕ, ◌<◌}
use mathlib.Core.Path.{◌≡◌, refl}
use mathlib.Core.Bool.{true}
use mathlib.Core.List.{List}
use native.Mathlib.Omega.{arith}
use Rattle.basics.specs.declared.Instance.{Instance}
use Rattle.basics.specs.declared.Round.{Round}
use Rattle.basics.specs.declared.Value.{Value}
use Rattle.basics.specs.declared.Verdict.TheVariants.{ToLeader, ToLearners}
use Rattle.basics.specs.Ladder.{need◌or◌then◌}
use Rattle.basics.specs.Outcome.{outcome, lent}
use Rattle.basics.specs.Places.{At, placed}
use Rattle.basics.specs.Rounds.{at_most}
use Rattle.basics.specs.Verdict.{verdict_number}
use Rattle.basics.proofs.Places.{PlacedBy, placed-index, placed_by, placed-there}
use Rattle.messages.specs.declared.Message.{Message}
use Rattle.messages.specs.declared.Message.TheVariants.{Prepare, Promise, Propose, Vote}
use Rattle.messages.specs.Message.{when_prepare, when_propose}
use Rattle.wire.specs.Packet.{Read, read_packet, packet_of}
use Rattle.player.specs.Step.{Ruling, refused, ruled}
use Rattle.player.proofs.Steps.{step-rules}
use Rattle.quorum.specs.declared.Settings.{Settings}
use Rattle.acceptor_rule.specs.declared.Cell.{Cell}
use Rattle.acceptor_rule.specs.declared.Asked.TheVariants as asked
use Rattle.acceptor_rule.specs.Rule.{cell, possible, order, order_of, promising, voting, obeying, obey}
use Rattle.acceptor_rule.proofs.Laws.{obey-elim, order-elim}
use Rattle.acceptor_tables.specs.Tables.{Tables, cell_at, with_cell, acceptor_allowed}
use Rattle.acceptor.specs.Acceptor.{place_of, rule_of, place, rule, acceptor, acceptor_step}

-- ---- the rule and the place

-- what holds of both orders, obeyed or refused, and of the refusal of any other kind, holds of the rule
module _ (P : Ruling Cell → Type 0) (own : ℕ) (c : Cell) (m : Message) (other : P (refused 6)) (impossible : P (refused 17)) (below : P (refused 10)) where
  pub rule-elim : ((i : Instance) (r : Round) → m ≡ Prepare i r → possible c ≡ true → at_most c.round r ≡ true → P (promising own c i r))
      → ((i : Instance) (r : Round) (v : Value) → m ≡ Propose i r v → possible c ≡ true → at_most c.round r ≡ true → P (voting own i r v))
      → P (rule own c m)
  unfolding obeying
  rule-elim promises votes =
      order-elim (λ o. P (rule_of own c o)) m (λ i r e. obey-elim P own c (order i r asked.Promise) impossible below (promises i r e))
      (λ i r v e. obey-elim P own c (order i r (asked.Vote v)) impossible below (votes i r v e)) other

pub place-elim : (Such : ℕ → Type 0) (N : ℕ) (m : Message) → Such 6 → Such 8 → PlacedBy Such (place N m)
place-elim Such N m six eight =
    order-elim (λ o. PlacedBy Such (place_of N o)) m (λ i r _. placed_by Such N i eight) (λ i r v _. placed_by Such N i eight) six

-- the place of an order is its instance's
pub prepare-placed : (N : ℕ) (i : Instance) (r : Round) → place N (Prepare i r) ≡ placed N i
unfolding order_of when_prepare
prepare-placed N i r = refl

pub propose-placed : (N : ℕ) (i : Instance) (r : Round) (v : Value) → place N (Propose i r v) ≡ placed N i
unfolding order_of when_prepare when_propose
propose-placed N i r v = refl

-- a place that a message has is an instance's below N
pub placed_below : (N : ℕ) (m : Message) (index : ℕ) → place N m ≡ At index → index < N
placed_below N m =
    order-elim (λ o. (index : ℕ) → place_of N o ≡ At index → index < N) m (λ i r _ index e. (placed-index N i index e).1)
    (λ i r v _ index e. (placed-index N i index e).1) (λ index e. let z : ◌≡◌ {A = ℕ} 0 1 = cc in absurd (omega arith))

-- ---- the step where it obeys

module _ (s : Settings) (own : ℕ) (packet : List ℕ) (t : Tables) (allowed : acceptor_allowed s own t ≡ true) (i : Instance) (inside : i.0 < s.instances) (r : Round)
    (fine : possible (cell_at t i.0) ≡ true) (low : at_most (cell_at t i.0).round r ≡ true) where
  pub acceptor-promises : read_packet packet ≡ Read (Prepare i r)
      → acceptor_step s own packet t
      ≡ (let c = cell_at t i.0 in
      outcome (verdict_number ToLeader)
      (lent (packet_of (Promise own i r c.vote_round c.value)) (with_cell t i.0 (cell r c.vote_round c.value))))
  unfolding acceptor_step acceptor order_of when_prepare obey obeying need◌or◌then◌ ruled
  acceptor-promises reads =
      step-rules (acceptor s own) packet t (Prepare i r) i.0 (promising own (cell_at t i.0) i r) allowed reads (placed-there s.instances i inside) (rw (fine, low))

  pub acceptor-votes : (v : Value) → read_packet packet ≡ Read (Propose i r v)
      → acceptor_step s own packet t
      ≡ outcome (verdict_number ToLearners) (lent (packet_of (Vote own i r v)) (with_cell t i.0 (cell r r v)))
  unfolding acceptor_step acceptor order_of when_prepare when_propose obey obeying need◌or◌then◌ ruled
  acceptor-votes v reads =
      step-rules (acceptor s own) packet t (Propose i r v) i.0 (voting own i r v) allowed reads (placed-there s.instances i inside) (rw (fine, low))
