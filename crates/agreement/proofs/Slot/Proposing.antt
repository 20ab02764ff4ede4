-- A slot stays sound when a leader moves on, and when it sends a propose that is the first of its round and safe.
-- Assumes nothing.
use Prim.Native.Nat.{ℕ, ◌≤◌, ◌<◌}
use mathlib.Core.Path.{◌≡◌, refl, sym}
use mathlib.Core.Bool.{false}
use mathlib.Core.List.{◌∷◌}
use native.Mathlib.Nat.{lt_of_lt_of_le}
use native.Mathlib.Omega.{arith}
use Rattle.basics.specs.declared.Value.{Value}
use Rattle.basics.specs.Rounds.{the_round, is_none, owner_of}
use Rattle.quorum.specs.Voters.{Mem, older}
use Rattle.backup_cell.specs.declared.Cell.{Cell}
use Rattle.agreement.proofs.Families.{extend}
use Rattle.agreement.proofs.Slot.{Slot, Sound, Propose, Barred, BackupSound, Unopened, propose, spent}

-- The slot with other backup cells.
abbrev pub moving : Slot → (ℕ → Cell) → Slot
moving s backup = record { acceptor = s.acceptor; backup = backup; learner = s.learner; promises = s.promises; proposes = s.proposes; votes = s.votes }

-- The slot after a propose was sent.
abbrev pub proposing : Slot → Propose → Slot
proposing s p = record { acceptor = s.acceptor; backup = s.backup; learner = s.learner; promises = s.promises; proposes = p ∷ s.proposes; votes = s.votes }

module _ {M : ℕ} {s : Slot} (sound : Sound M s) where
  pub moves : (backup : ℕ → Cell) → ((b : ℕ) → BackupSound s.promises s.proposes (backup b)) → ((b : ℕ) → spent (s.backup b) ≤ spent (backup b))
      → Sound M (moving s backup)
  moves backup cells up = record {
    vote-proposed = sound.vote-proposed;
    vote-known = sound.vote-known;
    acceptors = sound.acceptors;
    promise-kept = sound.promise-kept;
    promise-tells = sound.promise-tells;
    promise-proposed = sound.promise-proposed;
    propose-some = sound.propose-some;
    propose-spent = λ x m h. lt_of_lt_of_le (sound.propose-spent x m h) (up (owner_of x.round));
    propose-once = sound.propose-once;
    propose-safe = sound.propose-safe;
    backups = cells;
    learners = sound.learners;
  }

  pub proposes : (p : Propose) → is_none p.round ≡ false → (0 < p.round.0 → p.round.0 < spent (s.backup (owner_of p.round)))
      → ((x : Propose) → Mem x s.proposes → x.round.0 ≡ p.round.0 → ⊥) → ((r : ℕ) → r < p.round.0 → Barred M s.acceptor s.votes r p.value)
      → Sound M (proposing s p)
  proposes p some used first safe = record {
    vote-proposed = λ x m. older (sound.vote-proposed x m);
    vote-known = sound.vote-known;
    acceptors = λ a. let c = sound.acceptors a in record { order = c.order; proposed = λ voted. older (c.proposed voted) };
    promise-kept = sound.promise-kept;
    promise-tells = sound.promise-tells;
    promise-proposed = λ x m voted. older (sound.promise-proposed x m voted);
    propose-some = extend some sound.propose-some;
    propose-spent = extend used sound.propose-spent;
    propose-once =
        extend (extend (λ e. refl) (λ y m e. absurd (first y m (sym e)))) (λ x m. extend (λ e. absurd (first x m e)) (sound.propose-once x m));
    propose-safe = extend safe sound.propose-safe;
    backups = λ b. let c = sound.backups b in record { counted = c.counted; proposed = λ voted. older (c.proposed voted) };
    learners = sound.learners;
  }

  -- The primary's propose in round 0, where none was sent there before.
  pub primary-proposes : (v : Value) → Unopened s → Sound M (proposing s (propose (the_round 0) v))
  primary-proposes v unopened =
      proposes (propose (the_round 0) v) refl (λ h. absurd (omega arith)) (λ y m e. let h = unopened y m in omega arith) (λ r h. absurd (omega arith))
