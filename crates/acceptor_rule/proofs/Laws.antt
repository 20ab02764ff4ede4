-- Laws of an acceptor's cell and rules, for the crates above: a possible cell stays possible, and what holds of every way out holds of the ruling.
-- Assumes nothing.
use Prim.Native.Nat.{ℕ, ◌^◌, ◌<◌}
use Rattle.std.specs.Prelude.{Option, Some, None}
use mathlib.Core.Path.{◌≡◌, refl, sym}
use mathlib.Core.Bool.{true}
use Rattle.basics.proofs.Values.{ValueFits}
use Rattle.basics.specs.declared.Round.{Round}
use Rattle.basics.specs.declared.Value.{Value}
use Rattle.basics.specs.Rounds.{the_round, none, owned_or_0, owned_not_0, at_most}
use Rattle.basics.specs.Values.{null}
use Rattle.basics.specs.Votes.{is_vote_up_to}
use Rattle.basics.proofs.Ladder.{need-elim, both_true, and-true}
use Rattle.basics.proofs.Rounds.{owned-or-0, zero-owned}
use Rattle.basics.proofs.Votes.{never-voted, vote-rises, vote-itself}
use Rattle.basics.specs.declared.Instance.{Instance}
use Rattle.messages.specs.declared.Message.{Message}
use Rattle.messages.specs.declared.Message.TheVariants.{Prepare, Propose}
use Rattle.messages.proofs.Eliminators.{prepare-elim, propose-elim}
use Rattle.player.specs.Step.{Ruling, refused}
use Rattle.acceptor_rule.specs.declared.Cell.{Cell}
use Rattle.acceptor_rule.specs.declared.Order.{Order}
use Rattle.acceptor_rule.specs.declared.Asked.TheVariants as asked
use Rattle.acceptor_rule.specs.Rule.{cell, possible, order, order_of, obeying, obey}
use Rattle.acceptor_rule.specs.Promises.{FreshPossible}

-- ---- cells

pub same-cell : {c d : Cell} → c.round ≡ d.round → c.vote_round ≡ d.vote_round → c.value ≡ d.value → c ≡ d
same-cell r b v = λ i. cell (r i) (b i) (v i)

pub fresh-possible : FreshPossible
unfolding possible
fresh-possible = and-true zero-owned (sym (never-voted (the_round 0) none null refl))

-- a possible cell's vote was up to its round, and so up to every later one
pub vote-up-to-later : (c : Cell) (r : Round) → possible c ≡ true → at_most c.round r ≡ true → is_vote_up_to r c.vote_round c.value ≡ true
unfolding possible
vote-up-to-later c r fine low =
    vote-rises c.round r c.vote_round c.value low (both_true (owned_or_0 c.round) (is_vote_up_to c.round c.vote_round c.value) fine).1

pub promised-possible : (c : Cell) (r : Round) → owned_not_0 r ≡ true → possible c ≡ true → at_most c.round r ≡ true → possible (cell r c.vote_round c.value) ≡ true
unfolding possible
promised-possible c r owned fine low = and-true (owned-or-0 r owned) (vote-up-to-later c r fine low)

pub voted-possible : (r : Round) (v : Value) → owned_or_0 r ≡ true → possible (cell r r v) ≡ true
unfolding possible
voted-possible r v owned = and-true owned (vote-itself r v owned)

-- ---- the rule

-- what holds of the refusals, and of what is ruled where it is obeyed, holds of the ruling
pub obey-elim : (P : Ruling Cell → Type 0) (own : ℕ) (c : Cell) (o : Order) → P (refused 17) → P (refused 10)
    → (possible c ≡ true → at_most c.round o.round ≡ true → P (obeying own c o.instance o.round o.asked)) → P (obey own c o)
unfolding obey
obey-elim P own c o impossible below obeyed = need-elim P _ _ _ impossible λ fine. need-elim P _ _ _ below λ low. obeyed fine low

-- what holds of both kinds of order, and of the other kinds, holds of what a message orders
pub order-elim : (P : Option Order → Type 0) (m : Message) → ((i : Instance) (r : Round) → m ≡ Prepare i r → P (Some (order i r asked.Promise)))
    → ((i : Instance) (r : Round) (v : Value) → m ≡ Propose i r v → P (Some (order i r (asked.Vote v)))) → P None → P (order_of m)
unfolding order_of
order-elim P m prepares proposes other = prepare-elim P _ _ m prepares (propose-elim P _ _ m proposes other)

-- ---- numbers that fit

pub record CellFits (c : Cell) : Type 0 where
  pub round_fits : c.round.0 < 2 ^ 32
  pub vote_round_fits : c.vote_round.0 < 2 ^ 32
  pub value-fits : ValueFits c.value
