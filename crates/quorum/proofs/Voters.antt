-- A set's count of ones is the number of distinct voters: a list of distinct acceptors has its set, a set has its list, and every list that
-- names a set's members is as long as the count. The list is built acceptor by acceptor, and the set voter by voter.
-- Assumes nothing.
use mathlib.Core.Path.{◌≡◌, refl, sym, ap, ◌∙◌, subst}
use mathlib.Core.List.{List, [], ◌∷◌}
use mathlib.Core.Logic.Iff
use mathlib.Core.Logic.{◌↔◌}
use Prim.Native.Nat.{ℕ, zero, suc, ◌+◌, ◌%◌, ◌^◌, ◌≤◌, ◌<◌}
use native.Mathlib.Nat.{mod-eq_of_lt, mod-one}
use native.Mathlib.Omega.{arith}
use native.Mathlib.Decide.{ℕ_discrete}
use lib.Count.{ones}
use lib.ListN.{length}
use Rattle.quorum.specs.Quorum.{majority, bit, Member, AtLeast}
use Rattle.quorum.specs.Voters.{Mem, newest, older, Distinct, Names}
use Rattle.quorum.specs.Promises.{SetIsListed, ListHasSet, ExactList, HalfIff}
use Rattle.quorum.proofs.Bits.{bit-below-2, ones_below, Added, added}
use Rattle.quorum.proofs.Laws.{majority-iff, within-iff, reaches-iff, member_below, same-members, empty-within, empty-bit, empty-size}

-- ---- a set's list

-- The members below a bound, each once.
record NamesBelow (bound set : ℕ) (voters : List ℕ) : Type 0 where
  distinct : Distinct voters
  known : (voter : ℕ) → Mem voter voters → voter < bound
  in-set : (voter : ℕ) → Mem voter voters → Member voter set
  in_list : (voter : ℕ) → voter < bound → Member voter set → Mem voter voters
  count : length voters ≡ ones (set % 2 ^ bound)

-- the next acceptor is in the set, and comes first in the list
with-next : (bound set : ℕ) (voters : List ℕ) → Member bound set → NamesBelow bound set voters → NamesBelow (suc bound) set (bound ∷ voters)
with-next bound set voters next rest = record {
  distinct = (λ again. omega (arith, rest.known bound again), rest.distinct);
  known = known;
  in-set = in-set;
  in_list = λ voter small present. in_list voter small present (ℕ_discrete voter bound);
  count = omega (arith, rest.count, ones_below bound set);
}
  where
    known : (voter : ℕ) → Mem voter (bound ∷ voters) → voter < suc bound
    known voter (newest same) = omega arith
    known voter (older listed) = omega (arith, rest.known voter listed)

    in-set : (voter : ℕ) → Mem voter (bound ∷ voters) → Member voter set
    in-set voter (newest same) = rw same next
    in-set voter (older listed) = rest.in-set voter listed

    in_list : (voter : ℕ) → voter < suc bound → Member voter set → Dec (voter ≡ bound) → Mem voter (bound ∷ voters)
    in_list voter small present (yes same) = newest same
    in_list voter small present (no differs) = older (rest.in_list voter (omega arith) present)

-- the next acceptor is not in the set
without-next : (bound set : ℕ) (voters : List ℕ) → (Member bound set → ⊥) → NamesBelow bound set voters → NamesBelow (suc bound) set voters
without-next bound set voters absent rest = record {
  distinct = rest.distinct;
  known = λ voter listed. omega (arith, rest.known voter listed);
  in-set = rest.in-set;
  in_list = λ voter small present. rest.in_list voter (below voter small present) present;
  count = omega (arith, rest.count, ones_below bound set, bit-below-2 bound set);
}
  where
    below : (voter : ℕ) → voter < suc bound → Member voter set → voter < bound
    below voter small present =
        let differs : (voter ≡ bound → ⊥) = λ same. absent (rw same at present) in
        omega arith

names-below : (bound set : ℕ) → (voters : List ℕ) × NamesBelow bound set voters
names-below zero set = (
  [],
  record {
    distinct = tt;
    known = λ voter listed. elim listed [ ];
    in-set = λ voter listed. elim listed [ ];
    in_list = λ voter small present. absurd (omega arith);
    count = sym (ap ones (mod-one set) ∙ empty-size);
  },
)
names-below (suc bound) set = go (ℕ_discrete (bit bound set) 1) (names-below bound set)
  where
    go : Dec (Member bound set) → (voters : List ℕ) × NamesBelow bound set voters → (voters : List ℕ) × NamesBelow (suc bound) set voters
    go (yes present) rest = (bound ∷ rest.0, with-next bound set rest.0 present rest.1)
    go (no absent) rest = (rest.0, without-next bound set rest.0 absent rest.1)

pub listed : SetIsListed
listed acceptors set inside =
    let list = names-below acceptors set in
    let small = (within-iff acceptors set).0 inside in
    record {
      voters = list.0;
      names = record {
        inside = inside;
        distinct = list.1.distinct;
        known = list.1.known;
        members = λ voter. (list.1.in-set voter, λ present. list.1.in_list voter (member_below acceptors set voter inside present) present);
        count = list.1.count ∙ ap ones (mod-eq_of_lt small);
      };
    }

-- ---- a list's set

-- a voter that is not in the list yet is put first
with_first : (acceptors set voter : ℕ) (others : List ℕ) → (Mem voter others → ⊥) → voter < acceptors → Names acceptors set others
    → Names acceptors (set + 2 ^ voter) (voter ∷ others)
with_first acceptors set voter others new small rest = record {
  inside = (within-iff acceptors (set + 2 ^ voter)).1 (grown.below acceptors small ((within-iff acceptors set).0 rest.inside));
  distinct = (new, rest.distinct);
  known = known;
  members = λ other. (in-set other, λ present. in_list other present (ℕ_discrete other voter));
  count = omega (arith, rest.count, grown.size);
}
  where
    grown : Added voter set
    grown =
        let absent : (Member voter set → ⊥) = λ present. new ((rest.members voter).1 present) in
        added voter set (omega (arith, bit-below-2 voter set))

    known : (other : ℕ) → Mem other (voter ∷ others) → other < acceptors
    known other (newest same) = rw same small
    known other (older listed) = rest.known other listed

    in-set : (other : ℕ) → Mem other (voter ∷ others) → Member other (set + 2 ^ voter)
    in-set other (newest same) = rw same grown.there
    in-set other (older listed) = grown.others other (λ same. new (rw same at listed)) ∙ (rest.members other).0 listed

    in_list : (other : ℕ) → Member other (set + 2 ^ voter) → Dec (other ≡ voter) → Mem other (voter ∷ others)
    in_list other present (yes same) = newest same
    in_list other present (no differs) = older ((rest.members other).1 (sym (grown.others other differs) ∙ present))

pub set-of : ListHasSet
set-of acceptors [] distinct known = record {
  set = 0;
  names = record {
    inside = empty-within acceptors;
    distinct = distinct;
    known = known;
    members = λ voter. (λ listed. elim listed [ ], λ present. absurd (omega (arith, empty-bit voter)));
    count = sym empty-size;
  };
}
set-of acceptors (voter ∷ others) distinct known =
    let rest = set-of acceptors others distinct.1 (λ other listed. known other (older listed)) in
    record { set = rest.set + 2 ^ voter; names = with_first acceptors rest.set voter others distinct.0 (known voter (newest refl)) rest.names }

-- ---- what the count says

pub exact-list : ExactList
exact-list acceptors set voters inside distinct members =
    let built = set-of acceptors voters distinct (λ voter listed. member_below acceptors set voter inside ((members voter).0 listed)) in
    subst (λ (same : ℕ). Names acceptors same voters)
    (same-members acceptors built.set set built.names.inside inside
    (λ voter. Iff.trans (Iff.symm (built.names.members voter)) (members voter)))
    built.names

-- There are at least so many voters exactly when their set reaches the threshold.
pub threshold-iff : {acceptors set : ℕ} {voters : List ℕ} (threshold : ℕ) → Names acceptors set voters
    → (threshold ≤ length voters) ↔ AtLeast threshold acceptors set
threshold-iff {set = set} threshold named =
    let reached = reaches-iff threshold set in (
      λ many. record { inside = named.inside; enough = reached.1 (omega (arith, named.count)) },
      λ set-has. omega (arith, named.count, reached.0 set-has.enough),
    )

pub half-iff : {acceptors set : ℕ} {voters : List ℕ} → HalfIff acceptors set voters
half-iff {acceptors} {voters = voters} named = Iff.trans (majority-iff acceptors (length voters)) (threshold-iff (majority acceptors) named)
