-- A slot stays sound when a backup starts, counts a promise, and proposes at majority: its promisers are past every lower round, and whoever of them
-- voted there told it.
-- Assumes nothing.
use Prim.Native.Nat.{ℕ, ◌+◌, ◌≤◌, ◌<◌}
use mathlib.Core.Path.{◌≡◌, refl, ap}
use mathlib.Core.Bool.{true, false, true≢false}
use mathlib.Core.Logic.{◌⊎◌, inl, inr}
use native.Mathlib.Nat.{le_refl, le_trans}
use native.Mathlib.Decide.{dec_lt}
use native.Mathlib.Omega.{arith}
use lib.Dec.{eqb}
use borrow.Author.Tests.{leb-true, leb-false}
use Rattle.basics.specs.declared.Round.{Round}
use Rattle.basics.specs.declared.Value.{Value}
use Rattle.basics.specs.Ladder.{when◌then◌else◌}
use Rattle.basics.specs.Rounds.{the_round, is_none, owner_of, rank, at_most}
use Rattle.basics.proofs.Ladder.{if-elim}
use Rattle.basics.proofs.Rounds.{rank-none, rank-some}
use Rattle.quorum.specs.Quorum.{Member, Quorum, with_member}
use Rattle.quorum.specs.Voters.{Mem}
use Rattle.quorum.proofs.Laws.{empty-bit, with-member-cases}
use Rattle.backup_cell.specs.declared.Cell.{Cell}
use Rattle.backup_cell.specs.Cell.{asking, proposed}
use Rattle.backup_rule.specs.Rule.{started, counting, chosen, closed}
use Rattle.agreement.specs.Run.{put}
use Rattle.agreement.proofs.Families.{Owned, put_same, put_all}
use Rattle.agreement.proofs.Slot.{Slot, Sound, Propose, Vote, Barred, BackupSound, Counted, promise, propose, spent}
use Rattle.agreement.proofs.Slot.Proposing.{moving, proposing, moves, proposes}

spent-most : (c : Cell) → spent c ≤ c.round.0 + 1
spent-most c = if-elim (λ n. c.round.0 + n ≤ c.round.0 + 1) (eqb c.phase proposed) 1 0 (λ _. le_refl _) (λ _. omega arith)

-- one that asks has proposed nothing in its round
spent-asking : (c : Cell) → c.phase ≡ asking → spent c ≡ c.round.0
unfolding when◌then◌else◌
spent-asking c e = rw e (omega arith)

module _ {M : ℕ} {s : Slot} (sound : Sound M s) (b : ℕ) where
  -- one backup's cell is replaced, and its spent rounds do not fall
  replaces : (c : Cell) → BackupSound s.promises s.proposes c → spent (s.backup b) ≤ spent c → Sound M (moving s (put s.backup b c))
  replaces c sound-cell up =
      moves sound (put s.backup b c) (put_all (λ _ d. BackupSound s.promises s.proposes d) sound-cell sound.backups)
      (put_all (λ n d. spent (s.backup n) ≤ spent d) up (λ n. le_refl _))

  -- A start: a round above the cell's.
  pub starts : (r : Round) (v : Value) → (s.backup b).round.0 < r.0 → Sound M (moving s (put s.backup b (started r v)))
  unfolding when◌then◌else◌
  starts r v above =
      replaces (started r v) (record { counted = λ a m. absurd (omega (arith, empty-bit a, m)); proposed = λ e. absurd (true≢false e) })
      (omega (arith, spent-most (s.backup b)))

  -- At majority it proposes the best value, or its own: a safe one.
  module _ (c : Cell) (sound-cell : BackupSound s.promises s.proposes c) (unspent : spent (s.backup b) ≤ c.round.0) (mine : Owned b c.round)
      (quorum : Quorum M c.set) where
    -- the promisers are past every lower round
    past : (t : ℕ) → t < c.round.0 → (a : ℕ) → Member a c.set → t < (s.acceptor a).round.0
    past t h a m = let kept = sound.promise-kept _ (sound-cell.counted a m).sent in omega arith

    -- none of them voted between the best and the round
    between : (t : ℕ) → t < c.round.0 → (y : Vote) → Mem y s.votes → Member y.sender c.set → y.round.0 ≡ t → t < rank c.best_vote_round
    between t h y sent m e =
        let d = sound-cell.counted y.sender m in
        let told = sound.promise-tells _ d.sent y sent refl (omega arith) in
        omega (arith, told, d.bounded)

    safe : (t : ℕ) → t < c.round.0 → Barred M s.acceptor s.votes t (chosen c)
    unfolding chosen
    safe t h = if-elim (Barred M s.acceptor s.votes t) (is_none c.best_vote_round) c.own_value c.best_value nothing something
      where
        -- no promiser ever voted
        nothing : is_none c.best_vote_round ≡ true → Barred M s.acceptor s.votes t c.own_value
        nothing e = record {
          set = c.set;
          quorum = quorum;
          past = past t h;
          only = λ y sent m ey. absurd (omega (arith, between t h y sent m ey, rank-none c.best_vote_round e));
        }

        -- the best was proposed, and safe below its own round; at that round and above only its value was voted for
        best-safe : is_none c.best_vote_round ≡ false → Dec (t < c.best_vote_round.0) → Barred M s.acceptor s.votes t c.best_value
        best-safe e (yes below) = sound.propose-safe _ (sound-cell.proposed e) t below
        best-safe e (no above) = record {
          set = c.set;
          quorum = quorum;
          past = past t h;
          only = λ y sent m ey.
              sound.propose-once _ (sound.vote-proposed y sent) _ (sound-cell.proposed e) (omega (arith, between t h y sent m ey, rank-some c.best_vote_round e, ey));
        }

        something : is_none c.best_vote_round ≡ false → Barred M s.acceptor s.votes t c.best_value
        something e = best-safe e (dec_lt t c.best_vote_round.0)

    pub backup-proposes : Sound M (proposing (moving s (put s.backup b (closed c))) (propose c.round (chosen c)))
    unfolding when◌then◌else◌
    backup-proposes =
        proposes (replaces (closed c) (record { counted = sound-cell.counted; proposed = sound-cell.proposed }) (omega arith)) (propose c.round (chosen c)) mine.some
        (λ h. rw (mine.mine, put_same) (omega arith))
        (λ y sent e. let before = rw (owner-same y e) at (sound.propose-spent y sent (omega (arith, mine.positive, e))) in omega arith)
        safe
      where
        owner-same : (y : Propose) → y.round.0 ≡ c.round.0 → owner_of y.round ≡ b
        owner-same y e = let same : y.round ≡ c.round = λ i. the_round (e i) in rw same mine.mine

  -- A promise for the round while asking.
  module _ (a : ℕ) (k : Round) (v : Value) (sent : Mem (promise a (s.backup b).round k v) s.promises) where
    abbrev before : Cell
    before = s.backup b

    -- what counting keeps, and that the best is not below the best before, nor below what the promise carries
    pub record Counts (d : Cell) : Type 0 where
      pub same-round : d.round ≡ before.round
      pub same-phase : d.phase ≡ before.phase
      pub grown : d.set ≡ with_member before.set a
      pub not_lower : rank before.best_vote_round ≤ rank d.best_vote_round
      pub as-told : rank k ≤ rank d.best_vote_round
      pub best-proposed : is_none d.best_vote_round ≡ false → Mem (propose d.best_vote_round d.best_value) s.proposes

    pub counts : Counts (counting before a k v)
    unfolding counting at_most
    counts =
        if-elim Counts _ _ _
        (λ e. record {
          same-round = refl;
          same-phase = refl;
          grown = refl;
          not_lower = le_refl _;
          as-told = leb-true _ _ e;
          best-proposed = (sound.backups b).proposed;
        })
        (λ e. record {
          same-round = refl;
          same-phase = refl;
          grown = refl;
          not_lower = omega (arith, leb-false (rank k) (rank before.best_vote_round) e);
          as-told = le_refl _;
          best-proposed = sound.promise-proposed _ sent;
        })

    pub counted-sound : BackupSound s.promises s.proposes (counting before a k v)
    counted-sound = record { counted = λ n m. each n (with-member-cases before.set a n (rw counts.grown at m)); proposed = counts.best-proposed }
      where
        each : (n : ℕ) → (n ≡ a) ⊎ Member n before.set → Counted s.promises (counting before a k v).round (counting before a k v).best_vote_round n
        each n (inl e) = rw (e, counts.same-round) (record { vote_round = k; value = v; sent = sent; bounded = counts.as-told })
        each n (inr m) =
            let d = (sound.backups b).counted n m in
            rw counts.same-round (record { vote_round = d.vote_round; value = d.value; sent = d.sent; bounded = le_trans d.bounded counts.not_lower })

    -- below majority it holds
    pub holds : before.phase ≡ asking → Sound M (moving s (put s.backup b (counting before a k v)))
    holds asks = replaces (counting before a k v) counted-sound (omega (arith, spent-asking before asks, ap (λ (r : Round). r.0) counts.same-round))

    -- at majority it proposes
    pub reaches : before.phase ≡ asking → Owned b before.round → Quorum M (counting before a k v).set
        → Sound M (proposing (moving s (put s.backup b (closed (counting before a k v)))) (propose (counting before a k v).round (chosen (counting before a k v))))
    reaches asks mine quorum =
        backup-proposes (counting before a k v) counted-sound (omega (arith, spent-asking before asks, ap (λ (r : Round). r.0) counts.same-round))
        (rw counts.same-round mine) quorum
