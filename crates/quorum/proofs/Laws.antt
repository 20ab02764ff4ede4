-- Laws of majority, of sets of acceptors and of allowed settings, each once over M or over any threshold.
-- Assumes nothing.
use mathlib.Core.Path.{◌≡◌, refl, sym, ◌∙◌}
use mathlib.Core.Bool.{Bool, true, false, ◌||◌, cond, and-eq-true_iff}
use mathlib.Core.Logic.{◌↔◌, ◌⊎◌, inl, inr}
use Prim.Native.Nat.{ℕ, zero, suc, ◌+◌, ◌/◌, ◌%◌, ◌^◌, ◌≤◌, ◌<◌}
use native.Mathlib.Nat.{zero-div}
use native.Mathlib.Decide.{ℕ_discrete, dec_lt}
use native.Mathlib.Omega.{arith}
use lib.Count.{ones, ones_step, ones-le}
use lib.Dec.{leb}
use lib.Pow.{pow_pos}
use borrow.Author.Tests.{eqb-true, eqb-false, leb-true, ltb-true, eq-eqb, ne_eqb, le-leb, lt-leb, lt-ltb}
use Rattle.quorum.specs.declared.Settings.{Settings}
use Rattle.quorum.specs.Settings.{acceptors_allowed, instances_allowed, allowed}
use Rattle.quorum.specs.Quorum.{majority, bit, Member, has_member, with_member, within, size, reaches, AtLeast, Shared}
use Rattle.quorum.specs.Promises.{Majorities, MajorityIff, Share, QuorumsShare}
use Rattle.quorum.proofs.Bits.{bit-below-2, lowest-bit, higher-bit, bit-above, same_bits, added}

-- ---- what each definition says in numbers

pub majorities : Majorities
unfolding majority
majorities = (refl, refl, refl)

pub majority-iff : MajorityIff
unfolding majority
majority-iff acceptors count = (λ half. omega arith, λ reached. omega arith)

-- It is never nothing.
pub majority-some : (acceptors : ℕ) → 1 ≤ majority acceptors
unfolding majority
majority-some acceptors = omega arith

-- A set is within M where it is below 2 ^ M.
pub within-iff : (acceptors set : ℕ) → (within acceptors set ≡ true) ↔ (set < 2 ^ acceptors)
unfolding within
within-iff acceptors set = (ltb-true set (2 ^ acceptors), lt-ltb set (2 ^ acceptors))

-- A set reaches a threshold where its size does.
pub reaches-iff : (threshold set : ℕ) → (reaches threshold set ≡ true) ↔ (threshold ≤ size set)
unfolding reaches
reaches-iff threshold set = (leb-true threshold (size set), le-leb threshold (size set))

-- The test for a member tells that it is in the set,
pub member-iff : (set member : ℕ) → (has_member set member ≡ true) ↔ Member member set
unfolding has_member
member-iff set member = (eqb-true (bit member set) 1, eq-eqb (bit member set) 1)

-- and where it fails, that its bit is 0.
pub absent-iff : (set member : ℕ) → (has_member set member ≡ false) ↔ (bit member set ≡ 0)
unfolding has_member
absent-iff set member = (
  λ test. omega (arith, bit-below-2 member set, eqb-false (bit member set) 1 test),
  λ off. ne_eqb (bit member set) 1 (λ on. omega arith),
)

-- ---- sets that share a member

-- Where the lowest bits are not both set, the halves still have more members together than M without its lowest bit.
meeting : (acceptors first second : ℕ) → first < 2 ^ acceptors → second < 2 ^ acceptors → acceptors < size first + size second → Shared first second
meeting zero first second first_small second-small many = absurd (omega (arith, ones-le 0 first first_small, ones-le 0 second second-small))
meeting (suc acceptors) first second first_small second-small many =
    go (ℕ_discrete (first % 2 + second % 2) 2) (meeting acceptors (first / 2) (second / 2) (omega arith) (omega arith))
  where
    go : Dec (first % 2 + second % 2 ≡ 2) → (acceptors < size (first / 2) + size (second / 2) → Shared (first / 2) (second / 2)) → Shared first second
    go (yes both) halves = record { member = 0; in_first = lowest-bit first ∙ omega arith; in_second = lowest-bit second ∙ omega arith }
    go (no few) halves =
        let half = halves (omega (arith, ones_step first, ones_step second)) in
        record {
          member = suc half.member;
          in_first = higher-bit half.member first ∙ half.in_first;
          in_second = higher-bit half.member second ∙ half.in_second;
        }

pub share : Share
share acceptors first second first-inside second-inside =
    meeting acceptors first second ((within-iff acceptors first).0 first-inside) ((within-iff acceptors second).0 second-inside)

-- The same from two thresholds that add up to more than M.
pub thresholds-share : {first-threshold second-threshold acceptors first second : ℕ} → acceptors < first-threshold + second-threshold → AtLeast first-threshold acceptors first
    → AtLeast second-threshold acceptors second → Shared first second
thresholds-share {first-threshold} {second-threshold} {acceptors} {first} {second} more first-has second-has =
    share acceptors first second first-has.inside second-has.inside
    (omega (arith, (reaches-iff first-threshold first).0 first-has.enough, (reaches-iff second-threshold second).0 second-has.enough))

pub quorums-share : {acceptors first second : ℕ} → QuorumsShare acceptors first second
unfolding majority
quorums-share first-has second-has = thresholds-share (omega arith) first-has second-has

-- ---- members

-- A member of a set within M is below M.
pub member_below : (acceptors set member : ℕ) → within acceptors set ≡ true → Member member set → member < acceptors
member_below acceptors set member inside in-set = go (dec_lt member acceptors)
  where
    go : Dec (member < acceptors) → member < acceptors
    go (yes below) = below
    go (no above) = absurd (omega (arith, bit-above acceptors member set (omega arith) ((within-iff acceptors set).0 inside)))

-- Two sets within M with the same members are the same.
pub same-members : (acceptors first second : ℕ) → within acceptors first ≡ true → within acceptors second ≡ true
    → ((member : ℕ) → Member member first ↔ Member member second) → first ≡ second
same-members acceptors first second first-inside second-inside same =
    same_bits acceptors first second ((within-iff acceptors first).0 first-inside) ((within-iff acceptors second).0 second-inside)
    (λ member. go member (ℕ_discrete (bit member first) 1) (ℕ_discrete (bit member second) 1))
  where
    go : (member : ℕ) → Dec (Member member first) → Dec (Member member second) → bit member first ≡ bit member second
    go member (yes in_first) (yes in_second) = omega arith
    go member (yes in_first) (no not-in-second) = absurd (not-in-second ((same member).0 in_first))
    go member (no not-in-first) (yes in_second) = absurd (not-in-first ((same member).1 in_second))
    go member (no not-in-first) (no not-in-second) = omega (arith, bit-below-2 member first, bit-below-2 member second)

-- The empty set is within M, and has no member and size 0.
pub empty-within : (acceptors : ℕ) → within acceptors 0 ≡ true
empty-within acceptors = (within-iff acceptors 0).1 (pow_pos acceptors)

pub empty-bit : (member : ℕ) → bit member 0 ≡ 0
unfolding bit
empty-bit member = rw zero-div

pub empty-size : size 0 ≡ 0
unfolding ones
empty-size = refl

-- ---- a set with one more member

-- What holds of the set, and of the set with an absent member's bit added, holds of the set with the member.
with-member-elim : (P : ℕ → Type 0) (set member : ℕ) → P set → (bit member set ≡ 0 → P (set + 2 ^ member)) → P (with_member set member)
unfolding with_member
with-member-elim P set member kept grown = go (leb 8 member) (has_member set member) refl
  where
    go : (bitless present : Bool) → has_member set member ≡ present → P (cond (bitless || present) set (set + 2 ^ member))
    go true present tested = kept
    go false true tested = kept
    go false false tested = grown ((absent-iff set member).0 tested)

-- A member that is in the set already changes nothing.
pub with-member-present : (set member : ℕ) → has_member set member ≡ true → with_member set member ≡ set
unfolding with_member
with-member-present set member present = rw present (go (leb 8 member))
  where
    go : (bitless : Bool) → cond (bitless || true) set (set + 2 ^ member) ≡ set
    go true = refl
    go false = refl

-- One that has no bit changes nothing.
pub with-member-bitless : (set member : ℕ) → 8 ≤ member → with_member set member ≡ set
unfolding with_member
with-member-bitless set member bitless = rw (le-leb 8 member bitless)

-- An absent one that has a bit is added.
pub with-member-absent : (set member : ℕ) → member < 8 → has_member set member ≡ false → with_member set member ≡ set + 2 ^ member
unfolding with_member
with-member-absent set member small absent = rw (lt-leb 8 member small, absent)

-- It adds one to the size.
pub with-member-size : (set member : ℕ) → member < 8 → has_member set member ≡ false → size (with_member set member) ≡ suc (size set)
with-member-size set member small absent =
    rw (with-member-absent set member small absent) (added member set ((absent-iff set member).0 absent)).size

-- It is then in the set,
pub with-member-in : (set member : ℕ) → member < 8 → Member member (with_member set member)
with-member-in set member small = go (has_member set member) refl
  where
    go : (present : Bool) → has_member set member ≡ present → Member member (with_member set member)
    go true tested = rw (with-member-present set member tested) ((member-iff set member).0 tested)
    go false tested = rw (with-member-absent set member small tested) (added member set ((absent-iff set member).0 tested)).there

-- and of every other the bit is what it was.
pub with-member-other : (set member other : ℕ) → (other ≡ member → ⊥) → bit other (with_member set member) ≡ bit other set
with-member-other set member other differs =
    with-member-elim (λ after. bit other after ≡ bit other set) set member refl (λ absent. (added member set absent).others other differs)

-- So who is in the set afterwards is the member or was in it before,
pub with-member-cases : (set member other : ℕ) → Member other (with_member set member) → (other ≡ member) ⊎ Member other set
with-member-cases set member other after = go (ℕ_discrete other member)
  where
    go : Dec (other ≡ member) → (other ≡ member) ⊎ Member other set
    go (yes same) = inl same
    go (no differs) = inr (sym (with-member-other set member other differs) ∙ after)

-- and who was in it before still is.
pub with-member-keeps : (set member other : ℕ) → Member other set → Member other (with_member set member)
with-member-keeps set member other before = go (ℕ_discrete other member)
  where
    go : Dec (other ≡ member) → Member other (with_member set member)
    go (yes same) = rw (with-member-present set member ((member-iff set member).1 (rw same at before))) before
    go (no differs) = with-member-other set member other differs ∙ before

-- It stays within M where the member is below M.
pub with-member-within : (acceptors set member : ℕ) → within acceptors set ≡ true → member < acceptors → within acceptors (with_member set member) ≡ true
with-member-within acceptors set member inside known =
    with-member-elim (λ after. within acceptors after ≡ true) set member inside
    (λ absent. (within-iff acceptors (set + 2 ^ member)).1 ((added member set absent).below acceptors known ((within-iff acceptors set).0 inside)))

-- a member below 8 keeps a set within a byte
pub with-member-fits : (set member : ℕ) → set < 2 ^ 8 → member < 8 → with_member set member < 2 ^ 8
with-member-fits set member small low = (within-iff 8 (with_member set member)).0 (with-member-within 8 set member ((within-iff 8 set).1 small) low)

-- ---- allowed settings

three-five-seven : (acceptors : ℕ) → acceptors_allowed acceptors ≡ true → (acceptors ≡ 3) ⊎ ((acceptors ≡ 5) ⊎ (acceptors ≡ 7))
unfolding acceptors_allowed
three-five-seven acceptors test = go (ℕ_discrete acceptors 3) (ℕ_discrete acceptors 5)
  where
    go : Dec (acceptors ≡ 3) → Dec (acceptors ≡ 5) → (acceptors ≡ 3) ⊎ ((acceptors ≡ 5) ⊎ (acceptors ≡ 7))
    go (yes three) _ = inl three
    go (no not_three) (yes five) = inr (inl five)
    go (no not_three) (no not_five) =
        inr (inr (eqb-true acceptors 7 (rw (ne_eqb acceptors 3 not_three, ne_eqb acceptors 5 not_five) at test)))

three-to-seven : (acceptors : ℕ) → (acceptors ≡ 3) ⊎ ((acceptors ≡ 5) ⊎ (acceptors ≡ 7)) → (3 ≤ acceptors) × (acceptors ≤ 7)
three-to-seven acceptors (inl three) = omega arith
three-to-seven acceptors (inr (inl five)) = omega arith
three-to-seven acceptors (inr (inr seven)) = omega arith

-- What allowed settings bring.
pub record Allowed (settings : Settings) : Type 0 where
  pub acceptors-are : (settings.acceptors ≡ 3) ⊎ ((settings.acceptors ≡ 5) ⊎ (settings.acceptors ≡ 7))
  pub acceptors-least : 3 ≤ settings.acceptors
  pub acceptors-most : settings.acceptors ≤ 7
  pub instances-least : 1 ≤ settings.instances
  pub instances-most : settings.instances ≤ 1024
  pub majority-least : 2 ≤ majority settings.acceptors
  pub majority-most : majority settings.acceptors ≤ settings.acceptors

pub allowed-brings : (settings : Settings) → allowed settings ≡ true → Allowed settings
unfolding allowed instances_allowed majority
allowed-brings settings test =
    let acceptors = settings.acceptors in
    let instances = settings.instances in
    let both = (and-eq-true_iff (acceptors_allowed acceptors) (instances_allowed instances)).0 test in
    let range = (and-eq-true_iff (leb 1 instances) (leb instances 1024)).0 both.1 in
    let are = three-five-seven acceptors both.0 in
    let least = (three-to-seven acceptors are).0 in
    record {
      acceptors-are = are;
      acceptors-least = least;
      acceptors-most = (three-to-seven acceptors are).1;
      instances-least = leb-true 1 instances range.0;
      instances-most = leb-true instances 1024 range.1;
      majority-least = omega arith;
      majority-most = omega arith;
    }
