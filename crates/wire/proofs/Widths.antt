-- Laws for callers. The numbers of a message that can be written fit their widths, and a message whose numbers fit and whose row is kept can be
-- written: for each kind that a player reads or sends.
-- Assumes nothing.
use Prim.Native.Nat.{ℕ, ◌≤◌, ◌<◌, ◌^◌}
use mathlib.Core.Path.{◌≡◌}
use mathlib.Core.Bool.{true}
use native.Mathlib.Omega.{arith}
use lib.Dec.{lit<}
use borrow.Author.Tests.{leb-true}
use Rattle.basics.specs.declared.Instance.{Instance}
use Rattle.basics.specs.declared.Round.{Round}
use Rattle.basics.specs.declared.Value.{Value}
use Rattle.basics.specs.Rounds.{owner_of, owned_or_0, owned_not_0}
use Rattle.basics.specs.Votes.{is_vote_up_to}
use Rattle.basics.proofs.Rounds.{owned-or-0}
use Rattle.basics.proofs.Values.{ValueFits}
use Rattle.messages.specs.declared.Message.TheVariants.{Request, Prepare, Promise, Propose, Vote}
use Rattle.messages.specs.Message.{fields_of}
use Rattle.wire.proofs.Laws.{Writable, prepare-kept, promise-kept, propose-kept, vote-kept}

-- instance and round fit
pub record PlaceFits (i : Instance) (r : Round) : Type 0 where
  pub instance_fits : i.0 < 2 ^ 32
  pub round_fits : r.0 < 2 ^ 32

-- ---- what a message that can be written has

pub request-value-fits : (s : ℕ) (v : Value) → Writable (Request s v) → ValueFits v
unfolding fields_of
request-value-fits s v w = record { high_fits = w.range.high_fits; low_fits = w.range.low_fits }

pub prepare-fits : (i : Instance) (r : Round) → Writable (Prepare i r) → PlaceFits i r
unfolding fields_of
prepare-fits i r w = record { instance_fits = w.range.instance_fits; round_fits = w.range.round_fits }

pub propose-fits : (i : Instance) (r : Round) (v : Value) → Writable (Propose i r v) → PlaceFits i r
unfolding fields_of
propose-fits i r v w = record { instance_fits = w.range.instance_fits; round_fits = w.range.round_fits }

pub propose-value-fits : (i : Instance) (r : Round) (v : Value) → Writable (Propose i r v) → ValueFits v
unfolding fields_of
propose-value-fits i r v w = record { high_fits = w.range.high_fits; low_fits = w.range.low_fits }

pub promise-fits : (s : ℕ) (i : Instance) (r b : Round) (v : Value) → Writable (Promise s i r b v) → PlaceFits i r
unfolding fields_of
promise-fits s i r b v w = record { instance_fits = w.range.instance_fits; round_fits = w.range.round_fits }

pub promise-vote-round-fits : (s : ℕ) (i : Instance) (r b : Round) (v : Value) → Writable (Promise s i r b v) → b.0 < 2 ^ 32
unfolding fields_of
promise-vote-round-fits s i r b v w = w.range.vote_round_fits

pub promise-value-fits : (s : ℕ) (i : Instance) (r b : Round) (v : Value) → Writable (Promise s i r b v) → ValueFits v
unfolding fields_of
promise-value-fits s i r b v w = record { high_fits = w.range.high_fits; low_fits = w.range.low_fits }

pub vote-fits : (s : ℕ) (i : Instance) (r : Round) (v : Value) → Writable (Vote s i r v) → PlaceFits i r
unfolding fields_of
vote-fits s i r v w = record { instance_fits = w.range.instance_fits; round_fits = w.range.round_fits }

pub vote-value-fits : (s : ℕ) (i : Instance) (r : Round) (v : Value) → Writable (Vote s i r v) → ValueFits v
unfolding fields_of
vote-value-fits s i r v w = record { high_fits = w.range.high_fits; low_fits = w.range.low_fits }

-- ---- what makes a message one that can be written

-- an owner's number is small
owner-fits : (r : Round) → owned_or_0 r ≡ true → owner_of r < 2 ^ 16
unfolding owned_or_0
owner-fits r owned = let small = leb-true (owner_of r) 3 owned in omega arith

sender-fits : (s : ℕ) → s ≤ 6 → s < 2 ^ 16
sender-fits s few = omega arith

pub prepare-writable : (i : Instance) (r : Round) → PlaceFits i r → owned_not_0 r ≡ true → Writable (Prepare i r)
unfolding fields_of
prepare-writable i r p owned =
    record {
      range = record {
        switch_fits = owner-fits r (owned-or-0 r owned);
        instance_fits = p.instance_fits;
        round_fits = p.round_fits;
        vote_round_fits = lit< tt;
        high_fits = lit< tt;
        low_fits = lit< tt;
      };
      kept = prepare-kept i r owned;
    }

pub promise-writable : (s : ℕ) (i : Instance) (r b : Round) (v : Value) → s ≤ 6 → PlaceFits i r → b.0 < 2 ^ 32 → ValueFits v → owned_not_0 r ≡ true → is_vote_up_to r b v ≡ true
    → Writable (Promise s i r b v)
unfolding fields_of
promise-writable s i r b v few p vote w owned voted =
    record {
      range = record {
        switch_fits = sender-fits s few;
        instance_fits = p.instance_fits;
        round_fits = p.round_fits;
        vote_round_fits = vote;
        high_fits = w.high_fits;
        low_fits = w.low_fits;
      };
      kept = promise-kept s i r b v few owned voted;
    }

pub propose-writable : (i : Instance) (r : Round) (v : Value) → PlaceFits i r → ValueFits v → owned_or_0 r ≡ true → Writable (Propose i r v)
unfolding fields_of
propose-writable i r v p w owned =
    record {
      range = record {
        switch_fits = owner-fits r owned;
        instance_fits = p.instance_fits;
        round_fits = p.round_fits;
        vote_round_fits = lit< tt;
        high_fits = w.high_fits;
        low_fits = w.low_fits;
      };
      kept = propose-kept i r v owned;
    }

pub vote-writable : (s : ℕ) (i : Instance) (r : Round) (v : Value) → s ≤ 6 → PlaceFits i r → ValueFits v → owned_or_0 r ≡ true → Writable (Vote s i r v)
unfolding fields_of
vote-writable s i r v few p w owned =
    record {
      range = record {
        switch_fits = sender-fits s few;
        instance_fits = p.instance_fits;
        round_fits = p.round_fits;
        vote_round_fits = p.round_fits;
        high_fits = w.high_fits;
        low_fits = w.low_fits;
      };
      kept = vote-kept s i r v few owned;
    }
