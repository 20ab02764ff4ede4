-- Where there is no hole, the delivered list has every instance with a vote in its set: were one past the list, the first undecided instance, which ends the
-- list, would be a hole. And a possible cell without a vote is the fresh one.
-- Assumes nothing.
use Prim.Native.Nat.{ℕ, ◌≤◌, ◌<◌}
use mathlib.Core.Path.{◌≡◌, sym, ◌∙◌}
use mathlib.Core.Bool.{true, false≢true}
use mathlib.Core.List.{List}
use native.Mathlib.Decide.{dec_lt}
use native.Mathlib.Omega.{arith}
use lib.ListN.{length}
use Rattle.basics.specs.declared.Value.{Value}
use Rattle.basics.proofs.Ladder.{by-test, or_right}
use Rattle.quorum.specs.declared.Settings.{Settings}
use Rattle.columns.proofs.Walks.{every-brings}
use Rattle.learner_cell.specs.Cell.{fresh_cell, is_decided, has_vote, possible}
use Rattle.learner_cell.proofs.Laws.{voteless-fresh}
use Rattle.learner_tables.specs.Tables.{Tables, cell_at, cells}
use Rattle.learner_delivery.specs.Delivery.{delivered}
use Rattle.learner_delivery.specs.Promises.{BeforeUndecided}
use Rattle.learner_delivery.proofs.Delivered.{delivered-before}
use Rattle.learner_holes.specs.Holes as holes
use Rattle.learner_holes.specs.Holes.{find_hole}
use Rattle.learner_holes.specs.Promises.{AllDecided}
use Rattle.learner_holes.proofs.LeastHole.{none-walked}
use Rattle.learner_holes.proofs.NoneExactly.{none-exactly}
use Rattle.agreement.specs.Evening.{NothingMissed, NoneMissesNothing}

module _ (s : Settings) (t : Tables) (none : find_hole s t ≡ holes.NoHole) where
  abbrev list : List Value
  list = delivered s.acceptors (cells s t)

  before : BeforeUndecided s.acceptors s.instances t list
  before = delivered-before s t

  all_decided : AllDecided s.acceptors s.instances t
  all_decided = (none-exactly s.acceptors s.instances t).0 (none-walked s t none).1

  voted-inside : (number : ℕ) → number < s.instances → has_vote (cell_at t number) ≡ true → number < length list
  voted-inside number inside vote = go (dec_lt number (length list))
    where
      go : Dec (number < length list) → number < length list
      go (yes low) = low
      go (no past) =
          let over = all_decided number inside (or_right (is_decided s.acceptors (cell_at t number)) vote) (length list) (omega (arith, past)) in
          absurd (false≢true (sym (before.undecided (omega (arith, past, inside))) ∙ over))

  past-fresh : (number : ℕ) → length list ≤ number → number < s.instances → cell_at t number ≡ fresh_cell
  past-fresh number past inside =
      let fine = every-brings (cell_at t) (possible s.acceptors) 0 s.instances (none-walked s t none).0 number (omega arith) (omega (arith, inside)) in
      by-test (has_vote (cell_at t number)) (λ vote. absurd (omega (arith, past, voted-inside number inside vote)))
      (λ no-vote. voteless-fresh s.acceptors (cell_at t number) fine no-vote)

  missed-nothing : NothingMissed s t list
  missed-nothing = record {
    inside = voted-inside;
    each = λ number inside vote. before.each number (voted-inside number inside vote);
    fresh_past = past-fresh;
  }

pub none-misses-nothing : NoneMissesNothing
none-misses-nothing s t none = missed-nothing s t none
