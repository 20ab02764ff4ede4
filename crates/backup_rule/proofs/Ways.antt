-- Each way out of the rules, as the code goes through them over plain values, is what the definitions say.
-- Assumes nothing.
use Prim.Native.Nat.{ℕ, ◌≤◌, ◌<◌, max}
use mathlib.Core.Path.{◌≡◌}
use mathlib.Core.Bool.{Bool, true, false, ◌&&◌}
use lib.Dec.{eqb}
use borrow.Author.Tests.{lt-ltb, le-ltb}
use Rattle.basics.specs.declared.Instance.{Instance}
use Rattle.basics.specs.declared.Round.{Round}
use Rattle.basics.specs.declared.Value.{Value}
use Rattle.basics.specs.declared.Verdict.TheVariants.{ToAcceptors}
use Rattle.basics.specs.Ladder.{need◌or◌then◌}
use Rattle.basics.specs.Rounds.{the_round, same_round}
use Rattle.messages.specs.declared.Message.TheVariants.{Prepare}
use Rattle.player.specs.Step.{Ruling, refused, sends}
use Rattle.quorum.specs.Quorum.{has_member}
use Rattle.backup_cell.specs.declared.Cell.{Cell}
use Rattle.backup_cell.specs.Cell.{asking, possible}
use Rattle.backup_rule.specs.Rule.{next_round, started, start, counting, when_majority, take_promise}

-- ---- start

module _ (M own : ℕ) (c : Cell) (instance : Instance) (floor : ℕ) (value : Value) (sound : Bool) (sound-so : sound ≡ possible M own c) where
  pub start-17 : sound ≡ false → refused 17 ≡ start M own c instance floor value
  unfolding start need◌or◌then◌
  start-17 impossible = rw (← sound-so, impossible)

  module _ (fine : sound ≡ true) (next : ℕ) (next-so : next ≡ next_round own (max c.round.0 floor)) where
    pub start-16 : 4294967295 ≤ next → refused 16 ≡ start M own c instance floor value
    unfolding start need◌or◌then◌
    start-16 past = rw (← sound-so, fine, ← next-so, le-ltb next 4294967295 past)

    pub start-sent : next < 4294967295 → sends ToAcceptors (Prepare instance (the_round next)) (started (the_round next) value) ≡ start M own c instance floor value
    unfolding start need◌or◌then◌
    start-sent below = rw (← sound-so, fine, ← next-so, lt-ltb next 4294967295 below)

-- ---- promises

module _ (M own : ℕ) (c : Cell) (sender : ℕ) (instance : Instance) (round vote_round : Round) (value : Value) where
  abbrev taken : Ruling Cell
  taken = take_promise M own c sender instance round vote_round value

  pub promise-9 : M ≤ sender → refused 9 ≡ taken
  unfolding take_promise need◌or◌then◌
  promise-9 past = rw (le-ltb sender M past)

  module _ (known : sender < M) (sound : Bool) (sound-so : sound ≡ possible M own c) where
    pub promise-17 : sound ≡ false → refused 17 ≡ taken
    unfolding take_promise need◌or◌then◌
    promise-17 impossible = rw (lt-ltb sender M known, ← sound-so, impossible)

    module _ (fine : sound ≡ true) (same : Bool) (same-so : same ≡ same_round round c.round) where
      pub promise-11 : (eqb c.phase asking && same) ≡ false → refused 11 ≡ taken
      unfolding take_promise need◌or◌then◌
      promise-11 other = rw (lt-ltb sender M known, ← sound-so, fine, ← same-so, other)

      module _ (current : (eqb c.phase asking && same) ≡ true) (present : Bool) (present-so : present ≡ has_member c.set sender) where
        pub promise-15 : present ≡ true → refused 15 ≡ taken
        unfolding take_promise need◌or◌then◌
        promise-15 doubled =
            rw (lt-ltb sender M known, ← sound-so, fine, ← same-so, current, ← present-so, doubled)

        pub promise-counted : present ≡ false → when_majority M instance (counting c sender vote_round value) ≡ taken
        unfolding take_promise need◌or◌then◌
        promise-counted absent =
            rw (lt-ltb sender M known, ← sound-so, fine, ← same-so, current, ← present-so, absent)
