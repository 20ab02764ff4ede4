-- Laws of `is_vote_up_to`, what can have been voted up to a round: by whether the vote round is none, and that it holds of every higher round.
-- Assumes nothing.
use Rattle.std.proofs.Common.{◌≡◌, Bool, true, false, ◌&&◌, ◌||◌, refl, ⊎_elim, arith, le-leb, leb-true}
use Rattle.basics.specs.declared.Round.{Round}
use Rattle.basics.specs.declared.Value.{Value}
use Rattle.basics.specs.Rounds.{is_none, owned_or_0, rank, at_most}
use Rattle.basics.specs.Values.{is_null}
use Rattle.basics.specs.Votes.{is_vote_up_to}
use Rattle.basics.proofs.Ladder.{both_true, and-true, or_left, or_right, or_cases}
use Rattle.basics.proofs.Rounds.{none-unowned}

or-false : (a : Bool) → a || false ≡ a
or-false true = refl
or-false false = refl

module _ (r b : Round) (v : Value) where
  pub never-voted : is_none b ≡ true → is_null v ≡ is_vote_up_to r b v
  unfolding is_vote_up_to
  never-voted e = rw (e, none-unowned b e, or-false)

  pub voted-owned : is_none b ≡ false → owned_or_0 b ≡ true → at_most b r ≡ is_vote_up_to r b v
  unfolding is_vote_up_to
  voted-owned e o = rw (e, o)

  pub voted-unowned : is_none b ≡ false → owned_or_0 b ≡ false → false ≡ is_vote_up_to r b v
  unfolding is_vote_up_to
  voted-unowned e o = rw (e, o)

-- a vote by a round is one by every higher round
pub vote-rises : (r t b : Round) (v : Value) → at_most r t ≡ true → is_vote_up_to r b v ≡ true → is_vote_up_to t b v ≡ true
unfolding is_vote_up_to at_most
vote-rises r t b v up e = ⊎_elim (or_left _) voted (or_cases (is_none b && is_null v) (owned_or_0 b && at_most b r) e)
  where
    voted : owned_or_0 b && at_most b r ≡ true → (is_none b && is_null v) || (owned_or_0 b && at_most b t) ≡ true
    voted f =
        let parts = both_true (owned_or_0 b) (at_most b r) f in
        let low = leb-true (rank b) (rank r) parts.1 in
        let high = leb-true (rank r) (rank t) up in
        or_right (is_none b && is_null v) (and-true parts.0 (le-leb (rank b) (rank t) (omega (arith, low, high))))

-- a vote in the round itself is one by the round
pub vote-itself : (r : Round) (v : Value) → owned_or_0 r ≡ true → is_vote_up_to r r v ≡ true
unfolding is_vote_up_to at_most
vote-itself r v owned = or_right (is_none r && is_null v) (and-true owned (le-leb (rank r) (rank r) (omega arith)))
