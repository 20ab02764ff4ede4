-- Laws of the primary's cell and rule, for the crates above: what a request comes to by the next instance, what holds of every way out, and that a possible
-- cell stays possible.
-- Assumes nothing.
use Prim.Native.Nat.{ℕ, ◌+◌, ◌^◌, ◌≤◌, ◌<◌}
use mathlib.Core.Path.{◌≡◌}
use mathlib.Core.Bool.{true}
use native.Mathlib.Omega.{arith}
use borrow.Author.Tests.{not-true, eqb-false, eq-eqb, ne_eqb, leb-true, le-leb, lt-leb}
use Rattle.basics.specs.declared.Value.{Value}
use Rattle.basics.specs.declared.Verdict.TheVariants.{ToAcceptors}
use Rattle.basics.specs.Ladder.{need◌or◌then◌}
use Rattle.basics.specs.Rounds.{the_instance, the_round}
use Rattle.basics.proofs.Ladder.{need-elim}
use Rattle.messages.specs.declared.Message.TheVariants.{Propose}
use Rattle.player.specs.Step.{Ruling, refused, sends}
use Rattle.primary_rule.specs.declared.Cell.{Cell}
use Rattle.primary_rule.specs.Rule.{cell, possible, risen, proposing, take_request}
use Rattle.primary_rule.specs.Promises.{FreshPossible}

-- ---- cells

pub fresh-possible : FreshPossible
unfolding possible
fresh-possible N = le-leb 0 N (omega arith)

pub risen-possible : (N : ℕ) (c : Cell) → c.next.0 < N → possible N (risen c) ≡ true
unfolding possible
risen-possible N c below = le-leb (risen c).next.0 N (omega arith)

-- ---- the rule

module _ (N : ℕ) (c : Cell) (value : Value) where
  -- what a request comes to, by the next instance
  pub impossible : N < c.next.0 → take_request N c value ≡ refused 17
  unfolding take_request possible need◌or◌then◌
  impossible above = rw (lt-leb c.next.0 N above)

  pub used-up : c.next.0 ≡ N → take_request N c value ≡ refused 12
  unfolding take_request possible need◌or◌then◌
  used-up equal = rw (le-leb c.next.0 N (omega arith), eq-eqb c.next.0 N equal)

  pub proposes : c.next.0 < N
      → take_request N c value ≡ sends ToAcceptors (Propose (the_instance c.next.0) (the_round 0) value) (cell (the_instance (c.next.0 + 1)))
  unfolding take_request possible need◌or◌then◌
  proposes below = rw (le-leb c.next.0 N (omega arith), ne_eqb c.next.0 N (λ equal. omega arith))

  -- what holds of the refusals, and of what is ruled while the next instance is below N, holds of the ruling
  pub take-elim : (P : Ruling Cell → Type 0) → P (refused 17) → P (refused 12) → (c.next.0 < N → P (proposing c value)) → P (take_request N c value)
  unfolding take_request possible
  take-elim P seventeen twelve sent =
      need-elim P _ _ _ seventeen λ most. need-elim P _ _ _ twelve λ differs. sent (below (leb-true _ _ most) (eqb-false _ _ (not-true _ differs)))
    where
      below : c.next.0 ≤ N → (c.next.0 ≡ N → ⊥) → c.next.0 < N
      below most differs = omega arith

-- ---- numbers that fit

pub record CellFits (c : Cell) : Type 0 where
  pub next_fits : c.next.0 < 2 ^ 32
