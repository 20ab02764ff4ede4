-- In a sound slot one value is decided at most: in one round because two majorities share an acceptor, in two because the later propose was safe.
-- Assumes nothing.
use Prim.Native.Nat.{ℕ, ◌<◌}
use mathlib.Core.Path.{◌≡◌, refl, sym}
use native.Mathlib.Omega.{arith}
use native.Mathlib.Decide.{dec_lt}
use Rattle.basics.specs.declared.Round.{Round}
use Rattle.basics.specs.declared.Value.{Value}
use Rattle.quorum.specs.Quorum.{Member, Quorum}
use Rattle.quorum.specs.Voters.{Mem}
use Rattle.quorum.proofs.Laws.{quorums-share}
use Rattle.agreement.proofs.Slot.{Slot, Sound, vote}

-- A majority has sent a vote for the value in the round.
pub record DecidedIn (M : ℕ) (s : Slot) (r : Round) (v : Value) : Type 0 where
  pub set : ℕ
  pub quorum : Quorum M set
  pub voted : (a : ℕ) → Member a set → Mem (vote a r v) s.votes

module _ {M : ℕ} {s : Slot} (sound : Sound M s) where
  same-round : (r t : Round) (v w : Value) → r.0 ≡ t.0 → DecidedIn M s r v → DecidedIn M s t w → v ≡ w
  same-round r t v w e p q =
      let a = quorums-share p.quorum q.quorum in
      sound.propose-once _ (sound.vote-proposed _ (p.voted a.member a.in_first)) _ (sound.vote-proposed _ (q.voted a.member a.in_second)) e

  later-round : (r t : Round) (v w : Value) → r.0 < t.0 → DecidedIn M s r v → DecidedIn M s t w → v ≡ w
  later-round r t v w h p q =
      let b = quorums-share q.quorum q.quorum in
      let safe = sound.propose-safe _ (sound.vote-proposed _ (q.voted b.member b.in_first)) r.0 h in
      let a = quorums-share p.quorum safe.quorum in
      safe.only _ (p.voted a.member a.in_first) a.in_second refl

  pub one-decision : (r t : Round) (v w : Value) → DecidedIn M s r v → DecidedIn M s t w → v ≡ w
  one-decision r t v w p q = go (dec_lt r.0 t.0) (dec_lt t.0 r.0)
    where
      go : Dec (r.0 < t.0) → Dec (t.0 < r.0) → v ≡ w
      go (yes h) d = later-round r t v w h p q
      go (no n) (yes h) = sym (later-round t r w v h q p)
      go (no n) (no k) = same-round r t v w (omega arith) p q
