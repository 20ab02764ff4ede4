-- A slot stays sound when a learner's cell becomes any sound cell.
-- Assumes nothing.
use Prim.Native.Nat.{ℕ}
use mathlib.Core.Path.{◌≡◌}
use mathlib.Core.List.{List}
use mathlib.Core.Logic.{◌⊎◌, inl, inr}
use Rattle.basics.specs.declared.Round.{Round}
use Rattle.basics.specs.declared.Value.{Value}
use Rattle.quorum.specs.Quorum.{Member}
use Rattle.quorum.specs.Voters.{Mem}
use Rattle.quorum.proofs.Laws.{with-member-cases}
use Rattle.learner_cell.specs.declared.Cell.{Cell}
use Rattle.learner_cell.specs.Cell.{with_voter}
use Rattle.agreement.specs.Run.{put}
use Rattle.agreement.proofs.Families.{put_all}
use Rattle.agreement.proofs.Slot.{Slot, Sound, LearnerSound, Vote, vote}

-- The slot with another cell of learner l.
abbrev pub listening : Slot → (l : ℕ) → Cell → Slot
listening s l t =
    record { acceptor = s.acceptor; backup = s.backup; learner = put s.learner l t; promises = s.promises; proposes = s.proposes; votes = s.votes }

pub listens : {M : ℕ} {s : Slot} → Sound M s → (l : ℕ) (t : Cell) → LearnerSound s.votes t → Sound M (listening s l t)
listens {s = s} sound l t cell = record {
  vote-proposed = sound.vote-proposed;
  vote-known = sound.vote-known;
  acceptors = sound.acceptors;
  promise-kept = sound.promise-kept;
  promise-tells = sound.promise-tells;
  promise-proposed = sound.promise-proposed;
  propose-some = sound.propose-some;
  propose-spent = sound.propose-spent;
  propose-once = sound.propose-once;
  propose-safe = sound.propose-safe;
  backups = sound.backups;
  learners = put_all (λ _ d. LearnerSound s.votes d) cell sound.learners;
}

-- A set of voters with one more is sound, if each of them sent that vote.
pub joins : (votes : List Vote) (set a : ℕ) (r : Round) (v : Value) → Mem (vote a r v) votes → ((b : ℕ) → Member b set → Mem (vote b r v) votes)
    → LearnerSound votes (with_voter set a r v)
joins votes set a r v new before b m = each (with-member-cases set a b m)
  where
    each : (b ≡ a) ⊎ Member b set → Mem (vote b r v) votes
    each (inl e) = rw e new
    each (inr h) = before b h
