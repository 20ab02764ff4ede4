-- Laws of the learner for the crates above: what holds of every way out holds of its rule and of its place; its step where it obeys, as an equation; and its
-- answer, by the cell.
-- Assumes nothing.
use Prim.Native.Nat.{ℕ, ◌<◌}
use mathlib.Core.Path.{◌≡◌, refl}
use mathlib.Core.Bool.{true}
use mathlib.Core.List.{List}
use native.Mathlib.Omega.{arith}
use borrow.Author.Tests.{lt-ltb}
use Rattle.basics.specs.declared.Instance.{Instance}
use Rattle.basics.specs.declared.Round.{Round}
use Rattle.basics.specs.declared.Value.{Value}
use Rattle.basics.specs.declared.Verdict.{Verdict}
use Rattle.basics.specs.Ladder.{need◌or◌then◌}
use Rattle.basics.specs.Outcome.{outcome, lent}
use Rattle.basics.specs.Places.{At, placed}
use Rattle.basics.specs.Verdict.{verdict_number}
use Rattle.basics.proofs.Places.{PlacedBy, placed-index, placed_by, placed-there}
use Rattle.messages.specs.declared.Message.{Message}
use Rattle.messages.specs.declared.Message.TheVariants.{Vote}
use Rattle.messages.specs.Message.{when_vote}
use Rattle.messages.proofs.Eliminators.{vote-elim}
use Rattle.wire.specs.Packet.{Read, read_packet}
use Rattle.player.specs.Step.{Ruling, refused, counts, ruled}
use Rattle.player.proofs.Steps.{step-rules}
use Rattle.quorum.specs.declared.Settings.{Settings}
use Rattle.learner_cell.specs.declared.Cell.{Cell}
use Rattle.learner_rule.specs.Rule.{count_vote}
use Rattle.learner_tables.specs.Tables.{Tables, cell_at, with_cell, learner_allowed}
use Rattle.learner.specs.Learner.{place, rule, learner, learner_step, answer_of_cell, answer_at, answer_for}

-- ---- the rule and the place

-- what holds of a vote that is counted, and of the refusal of any other kind, holds of the rule
pub rule-elim : (P : Ruling Cell → Type 0) (M : ℕ) (c : Cell) (m : Message)
    → ((a : ℕ) (i : Instance) (r : Round) (v : Value) → m ≡ Vote a i r v → P (count_vote M c a r v)) → P (refused 6) → P (rule M c m)
unfolding rule
rule-elim P M c m votes other = vote-elim P _ _ m votes other

pub place-elim : (Such : ℕ → Type 0) (N : ℕ) (m : Message) → Such 6 → Such 8 → PlacedBy Such (place N m)
unfolding place
place-elim Such N m six eight = vote-elim (PlacedBy Such) _ _ m (λ _ i _ _ _. placed_by Such N i eight) six

-- the place of a vote is its instance's
pub vote-placed : (N a : ℕ) (i : Instance) (r : Round) (v : Value) → place N (Vote a i r v) ≡ placed N i
unfolding place when_vote
vote-placed N a i r v = refl

-- a place that a message has is an instance's below N
pub placed_below : (N : ℕ) (m : Message) (index : ℕ) → place N m ≡ At index → index < N
unfolding place
placed_below N m =
    vote-elim (λ p. (index : ℕ) → p ≡ At index → index < N) _ _ m (λ _ i _ _ _ index e. (placed-index N i index e).1)
    (λ index e. let z : ◌≡◌ {A = ℕ} 0 1 = cc in absurd (omega arith))

-- ---- the step where it obeys

pub learner-counts : (s : Settings) (packet : List ℕ) (t : Tables) (a : ℕ) (i : Instance) (r : Round) (v : Value) (verdict : Verdict) (c : Cell)
    → learner_allowed s t ≡ true → i.0 < s.instances → read_packet packet ≡ Read (Vote a i r v)
    → count_vote s.acceptors (cell_at t i.0) a r v ≡ counts verdict c
    → learner_step s packet t ≡ outcome (verdict_number verdict) (lent packet (with_cell t i.0 c))
unfolding learner_step learner place rule when_vote ruled
learner-counts s packet t a i r v verdict c allowed inside reads counted =
    step-rules (learner s) packet t (Vote a i r v) i.0 (counts verdict c) allowed reads (placed-there s.instances i inside) counted

-- ---- the answer

-- behind 7 and 8 the answer is that of the cell
pub answers-cell : (s : Settings) (t : Tables) (i : Instance) → learner_allowed s t ≡ true → i.0 < s.instances
    → answer_for s i t ≡ answer_of_cell s.acceptors (cell_at t i.0)
unfolding answer_for placed answer_at need◌or◌then◌
answers-cell s t i ok below = rw (ok, lt-ltb i.0 s.instances below)
