-- A slot stays sound when an acceptor obeys a prepare or a propose: its rounds only rise, and one that promised a higher round does not obey.
-- Assumes nothing.
use Prim.Native.Nat.{ℕ, suc, ◌≤◌, ◌<◌}
use mathlib.Core.Path.{◌≡◌}
use mathlib.Core.List.{◌∷◌}
use native.Mathlib.Nat.{lt_of_lt_of_le, le_refl, le_trans}
use native.Mathlib.Omega.{arith}
use Rattle.basics.specs.declared.Round.{Round}
use Rattle.basics.specs.Rounds.{rank}
use Rattle.basics.proofs.Rounds.{rank-some, rank_most}
use Rattle.quorum.specs.Voters.{Mem, older}
use Rattle.acceptor_rule.specs.declared.Cell.{Cell}
use Rattle.acceptor_rule.specs.Rule.{cell}
use Rattle.agreement.specs.Run.{put}
use Rattle.agreement.proofs.Families.{extend, put_same, put_all}
use Rattle.agreement.proofs.Slot.{Slot, Sound, Promise, Propose, AcceptorSound, promise, vote}

-- The slot after acceptor a obeyed a prepare of round r, and sent its promise.
abbrev pub promising : Slot → (a : ℕ) → (r : Round) → Slot
promising s a r = record {
  acceptor = put s.acceptor a (cell r (s.acceptor a).vote_round (s.acceptor a).value);
  backup = s.backup;
  learner = s.learner;
  promises = promise a r (s.acceptor a).vote_round (s.acceptor a).value ∷ s.promises;
  proposes = s.proposes;
  votes = s.votes;
}

-- The slot after acceptor a obeyed the propose p, and sent its vote.
abbrev pub voting : Slot → (a : ℕ) → Propose → Slot
voting s a p = record {
  acceptor = put s.acceptor a (cell p.round p.round p.value);
  backup = s.backup;
  learner = s.learner;
  promises = s.promises;
  proposes = s.proposes;
  votes = vote a p.round p.value ∷ s.votes;
}

-- A cell's rounds only rise.
record Risen (c d : Cell) : Type 0 where
  round : c.round.0 ≤ d.round.0
  vote-round : rank c.vote_round ≤ rank d.vote_round

module _ {M : ℕ} {s : Slot} (sound : Sound M s) (a : ℕ) where
  risen : (c : Cell) → Risen (s.acceptor a) c → (n : ℕ) → Risen (s.acceptor n) (put s.acceptor a c n)
  risen c h = put_all (λ n d. Risen (s.acceptor n) d) h (λ n. record { round = le_refl _; vote-round = le_refl _ })

  pub promises : (r : Round) → (s.acceptor a).round.0 ≤ r.0 → Sound M (promising s a r)
  promises r obeyed = record {
    vote-proposed = sound.vote-proposed;
    vote-known = λ x m. lt_of_lt_of_le (sound.vote-known x m) (up x.sender).vote-round;
    acceptors =
        put_all (λ _ c. AcceptorSound s.proposes c)
        (record { order = le_trans (sound.acceptors a).order (omega arith); proposed = (sound.acceptors a).proposed })
        sound.acceptors;
    promise-kept = extend (rw put_same (le_refl r.0)) (λ x m. le_trans (sound.promise-kept x m) (up x.sender).round);
    promise-tells = extend (λ y m e h. rw e at (sound.vote-known y m)) sound.promise-tells;
    promise-proposed = extend (sound.acceptors a).proposed sound.promise-proposed;
    propose-some = sound.propose-some;
    propose-spent = sound.propose-spent;
    propose-once = sound.propose-once;
    propose-safe = λ x m t h.
        let b = sound.propose-safe x m t h in
        record { set = b.set; quorum = b.quorum; past = λ n i. lt_of_lt_of_le (b.past n i) (up n).round; only = b.only };
    backups = λ b.
        let c = sound.backups b in
        record {
          counted = λ n i. let d = c.counted n i in record { vote_round = d.vote_round; value = d.value; sent = older d.sent; bounded = d.bounded };
          proposed = c.proposed;
        };
    learners = sound.learners;
  }
    where
      up : (n : ℕ) → Risen (s.acceptor n) ((promising s a r).acceptor n)
      up = risen (cell r (s.acceptor a).vote_round (s.acceptor a).value) (record { round = obeyed; vote-round = le_refl _ })

  pub votes : (p : Propose) → Mem p s.proposes → (s.acceptor a).round.0 ≤ p.round.0 → Sound M (voting s a p)
  votes p sent obeyed = record {
    vote-proposed = extend sent sound.vote-proposed;
    vote-known = extend (rw put_same (omega (arith, place))) (λ x m. lt_of_lt_of_le (sound.vote-known x m) (up x.sender).vote-round);
    acceptors = put_all (λ _ c. AcceptorSound s.proposes c) (record { order = rank_most p.round; proposed = λ _. sent }) sound.acceptors;
    promise-kept = λ x m. le_trans (sound.promise-kept x m) (up x.sender).round;
    promise-tells = λ x m. extend (λ e h. absurd (broken x m e h)) (sound.promise-tells x m);
    promise-proposed = sound.promise-proposed;
    propose-some = sound.propose-some;
    propose-spent = sound.propose-spent;
    propose-once = sound.propose-once;
    propose-safe = λ x m t h.
        let b = sound.propose-safe x m t h in
        record {
          set = b.set;
          quorum = b.quorum;
          past = λ n i. lt_of_lt_of_le (b.past n i) (up n).round;
          only = extend (λ i e. absurd (let late = b.past a i in omega arith)) b.only;
        };
    backups = sound.backups;
    learners = λ l n i. older (sound.learners l n i);
  }
    where
      place : rank p.round ≡ suc p.round.0
      place = rank-some p.round (sound.propose-some p sent)

      up : (n : ℕ) → Risen (s.acceptor n) ((voting s a p).acceptor n)
      up = risen (cell p.round p.round p.value) (record { round = obeyed; vote-round = omega (arith, (sound.acceptors a).order, place) })

      -- an acceptor that promised a higher round does not obey
      broken : (x : Promise) → Mem x s.promises → a ≡ x.sender → p.round.0 < x.round.0 → ⊥
      broken x m e h = let kept = rw (← e) at (sound.promise-kept x m) in omega arith
