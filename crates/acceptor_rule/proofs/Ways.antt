-- Each way out of the rule and of what a message orders, as the code goes through them over plain values, is what the definitions say.
-- Assumes nothing.
use Prim.Native.Nat.{ℕ}
use mathlib.Core.Path.{◌≡◌, refl}
use mathlib.Core.Bool.{Bool, true, false}
use Rattle.basics.specs.declared.Instance.{Instance}
use Rattle.basics.specs.declared.Round.{Round}
use Rattle.basics.specs.declared.Value.{Value}
use Rattle.messages.specs.declared.Message.{Message}
use Rattle.messages.specs.declared.Message.TheVariants.{Request, Prepare, Promise, Propose, Vote}
use Rattle.messages.specs.Message.{when_prepare, when_propose}
use Rattle.basics.specs.Ladder.{need◌or◌then◌}
use Rattle.basics.specs.Rounds.{at_most}
use Rattle.player.specs.Step.{Ruling, refused}
use Rattle.acceptor_rule.specs.declared.Cell.{Cell}
use Rattle.acceptor_rule.specs.declared.Order.{Order}
use Rattle.acceptor_rule.specs.declared.Asked.{Asked}
use Rattle.acceptor_rule.specs.Rule.{possible, obeying, obey}

module _ (own : ℕ) (c : Cell) (o : Order) (sound : Bool) (sound-so : sound ≡ possible c) where
  pub obey-17 : sound ≡ false → refused 17 ≡ obey own c o
  unfolding obey need◌or◌then◌
  obey-17 impossible = rw (← sound-so, impossible)

  module _ (fine : sound ≡ true) (low : Bool) (low-so : low ≡ at_most c.round o.round) where
    pub obey-10 : low ≡ false → refused 10 ≡ obey own c o
    unfolding obey need◌or◌then◌
    obey-10 below = rw (← sound-so, fine, ← low-so, below)

    pub obeyed : low ≡ true → (asked : Asked) (r : Ruling Cell) → o.asked ≡ asked → r ≡ obeying own c o.instance o.round asked → r ≡ obey own c o
    unfolding obey need◌or◌then◌
    obeyed at_least_lem asked r asked-so r-so = rw (← sound-so, fine, ← low-so, at_least_lem, asked-so) r-so

-- the `_` of the match on prepare and propose: a message that is neither orders nothing
pub neither : {A : Type 0} (prepared : Instance → Round → A) (proposed : Instance → Round → Value → A) (other : A) (m : Message)
    → ((i : Instance) (r : Round) → m ≡ Prepare i r → ⊥) → ((i : Instance) (r : Round) (v : Value) → m ≡ Propose i r v → ⊥)
    → other ≡ when_prepare prepared (when_propose proposed other m) m
unfolding when_prepare when_propose
neither prepared proposed other (Request s v) no-prepare no-propose = refl
neither prepared proposed other (Prepare i r) no-prepare no-propose = absurd (no-prepare i r refl)
neither prepared proposed other (Promise s i r b v) no-prepare no-propose = refl
neither prepared proposed other (Propose i r v) no-prepare no-propose = absurd (no-propose i r v refl)
neither prepared proposed other (Vote s i r v) no-prepare no-propose = refl
