-- What can have been voted.
-- Assumes nothing.
use Rattle.std.specs.Prelude.{Bool, ◌&&◌, ◌||◌}
use Rattle.basics.specs.declared.Round.{Round}
use Rattle.basics.specs.declared.Value.{Value}
use Rattle.basics.specs.Rounds.{is_none, owned_or_0, at_most}
use Rattle.basics.specs.Values.{is_null}

-- What an acceptor can have voted up to a round: vote round none with null value, or owned or 0 and at most the round.
-- A promise's last two columns say this of its round, and the cells of acceptors and backups say it of theirs.
unfoldable pub is_vote_up_to : (round vote_round : Round) → Value → Bool
is_vote_up_to round vote_round value = (is_none vote_round && is_null value) || (owned_or_0 vote_round && at_most vote_round round)
