-- The primary's cell, and how it takes a request. Holds the next instance, fresh 0. Its rule alone needs N: its one cell counts the instances, where every
-- other player has a cell for each of them.
-- Assumes nothing.
use Rattle.std.specs.Prelude.{ℕ, Result, Ok, Err, ◌+◌, Bool, not, eqb, leb}
use Rattle.basics.specs.declared.Instance.{Instance}
use Rattle.basics.specs.declared.Refusal.{Refusal}
use Rattle.basics.specs.declared.Value.{Value}
use Rattle.basics.specs.declared.Verdict.TheVariants.{ToAcceptors}
use Rattle.basics.specs.Ladder.{need◌or◌then◌}
use Rattle.basics.specs.Refusal.{refusal_number}
use Rattle.basics.specs.Rounds.{the_instance, the_round}
use Rattle.messages.specs.declared.Message.TheVariants.{Propose}
use Rattle.player.specs.Step.{Ruling, refused, sends}
use Rattle.primary_rule.specs.declared.Cell.{Cell}
use Rattle.primary_rule.specs.declared.Sent.{Sent}

abbrev pub cell : (next : Instance) → Cell
cell next = record { next = next }

abbrev pub fresh_cell : Cell
fresh_cell = cell (the_instance 0)

-- Possible: next at most N.
unfoldable pub possible : (N : ℕ) → Cell → Bool
possible N c = leb c.next.0 N

-- The next instance rises by 1.
abbrev pub risen : Cell → Cell
risen c = cell (the_instance (c.next.0 + 1))

-- A request becomes a propose with that instance, round 0, switch number 0: written as a packet, a propose of round 0 has the owner's switch number.
abbrev pub proposing : Cell → Value → Ruling Cell
proposing c value = sends ToAcceptors (Propose c.next (the_round 0) value) (risen c)

-- 17, then 12 where the next instance equals N.
unfoldable pub take_request : (N : ℕ) → Cell → Value → Ruling Cell
take_request N c value =
    need possible N c or refused 17 then
    need not (eqb c.next.0 N) or refused 12 then
    proposing c value

-- What each answer of the code comes to.
abbrev pub ruling_of : Result Sent Refusal → Ruling Cell
ruling_of (Ok sent) = sends ToAcceptors sent.message sent.cell
ruling_of (Err refusal) = refused (refusal_number refusal)
