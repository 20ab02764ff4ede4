-- What a backup keeps of one instance. Cell: round (fresh 0), phase (idle, asking, proposed; fresh idle), set of promisers (fresh empty), best vote round (fresh none),
-- best value and own value (fresh null).
-- Assumes nothing.
use Rattle.std.specs.Prelude.{ℕ, Bool, not, ◌&&◌, ◌||◌, eqb, ltb}
use Rattle.basics.specs.declared.Round.{Round}
use Rattle.basics.specs.declared.Value.{Value}
use Rattle.basics.specs.Rounds.{the_round, none, is_none, owner_of, same_round}
use Rattle.basics.specs.Values.{null, is_null}
use Rattle.basics.specs.Votes.{is_vote_up_to}
use Rattle.quorum.specs.Quorum.{majority, within, size}
use Rattle.backup_cell.specs.declared.Cell.{Cell}

-- The phases, as they stand in the lent table.
abbrev pub idle : ℕ
idle = 0

abbrev pub asking : ℕ
asking = 1

abbrev pub proposed : ℕ
proposed = 2

abbrev pub cell : Round → (phase set : ℕ) → (best_vote_round : Round) → (best_value own_value : Value) → Cell
cell round phase set best_vote_round best_value own_value =
    record { round = round; phase = phase; set = set; best_vote_round = best_vote_round; best_value = best_value; own_value = own_value }

abbrev pub fresh_cell : Cell
fresh_cell = cell (the_round 0) idle 0 none null null

-- Idle and fresh in every field.
unfoldable pub is_fresh : Cell → Bool
is_fresh c =
    eqb c.phase idle && same_round c.round (the_round 0) && eqb c.set 0 && is_none c.best_vote_round && is_null c.best_value && is_null c.own_value

-- Asking with fewer than majority or proposed with exactly majority.
unfoldable pub phase_fits : (M phase set : ℕ) → Bool
phase_fits M phase set = (eqb phase asking && ltb (size set) (majority M)) || (eqb phase proposed && eqb (size set) (majority M))

-- A round of its own, set within M, best none with null value or owned or 0 and at most the round, the phase as above; with an empty set, best is none.
unfoldable pub is_started : (M own : ℕ) → Cell → Bool
is_started M own c =
    eqb (owner_of c.round) own && within M c.set && is_vote_up_to c.round c.best_vote_round c.best_value && phase_fits M c.phase c.set
    && (not (eqb c.set 0) || is_none c.best_vote_round)

unfoldable pub possible : (M own : ℕ) → Cell → Bool
possible M own c = is_fresh c || is_started M own c
