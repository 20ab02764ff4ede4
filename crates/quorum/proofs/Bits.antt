-- The bits of a set one by one: its lowest and those above it, its highest and those below it, and what one more bit changes.
-- Assumes nothing.
use mathlib.Core.Path.{◌≡◌, refl, sym, ap, ◌∙◌}
use Prim.Native.Nat.{ℕ, zero, suc, ◌+◌, ◌/◌, ◌%◌, ◌^◌, ◌≤◌, ◌<◌}
use native.Mathlib.Nat.{div-one, add_comm, mod-lt, lt_of_lt_of_le, div-eq_of_lt}
use native.Mathlib.Numerals.{add-one, one-add}
use native.Mathlib.Omega.{arith}
use lib.Count.{ones, ones_step, ones_cat}
use lib.Pow.{pow_pos, pow_mono, shr-shr, mod-pow-add}
use Rattle.quorum.specs.Quorum.{bit, Member}

pub bit-below-2 : (member set : ℕ) → bit member set < 2
unfolding bit
bit-below-2 member set = omega arith

pub lowest-bit : (set : ℕ) → bit 0 set ≡ set % 2
unfolding bit
lowest-bit set = rw div-one

pub higher-bit : (member set : ℕ) → bit (suc member) set ≡ bit member (set / 2)
unfolding bit
higher-bit member set =
    ap (λ (n : ℕ). n % 2)
    (ap (λ (n : ℕ). set / 2 ^ n) (sym (add-one member) ∙ add_comm member 1) ∙ sym (shr-shr set 1 member))

-- A set below 2 ^ M has no bit at or above M.
pub bit-above : (acceptors member set : ℕ) → acceptors ≤ member → set < 2 ^ acceptors → bit member set ≡ 0
unfolding bit
bit-above acceptors member set above small = rw (div-eq_of_lt (lt_of_lt_of_le small (pow_mono above)))

-- Sets with the same bits are the same.
pub same_bits : (acceptors first second : ℕ) → first < 2 ^ acceptors → second < 2 ^ acceptors
    → ((member : ℕ) → bit member first ≡ bit member second) → first ≡ second
same_bits zero first second first_small second-small same = omega arith
same_bits (suc acceptors) first second first_small second-small same =
    let half = same_bits acceptors (first / 2) (second / 2) (omega arith) (omega arith) higher in
    let low = sym (lowest-bit first) ∙ same 0 ∙ lowest-bit second in
    omega arith
  where
    higher : (member : ℕ) → bit member (first / 2) ≡ bit member (second / 2)
    higher member = sym (higher-bit member first) ∙ same (suc member) ∙ higher-bit member second

-- a bit counts as itself
ones-of-bit : (n : ℕ) → n < 2 → ones n ≡ n
unfolding ones
ones-of-bit zero small = refl
ones-of-bit (suc zero) small = refl
ones-of-bit (suc (suc n)) small = absurd (omega arith)

-- The ones below the next place are those below this one, and the bit at it.
pub ones_below : (member set : ℕ) → ones (set % 2 ^ suc member) ≡ bit member set + ones (set % 2 ^ member)
unfolding bit
ones_below member set =
    ap (λ (n : ℕ). ones (set % 2 ^ n)) (sym (one-add member))
    ∙ ap ones (mod-pow-add set 1 member)
    ∙ ones_cat member (set / 2 ^ member % 2) (set % 2 ^ member) (mod-lt set (pow_pos member))
    ∙ ap (λ (n : ℕ). n + ones (set % 2 ^ member)) (ones-of-bit (set / 2 ^ member % 2) (bit-below-2 member set))

-- A set to which the bit of an absent member is added.
pub record Added (member set : ℕ) : Type 0 where
  pub size : ones (set + 2 ^ member) ≡ suc (ones set)
  pub there : Member member (set + 2 ^ member)
  pub others : (other : ℕ) → (other ≡ member → ⊥) → bit other (set + 2 ^ member) ≡ bit other set
  pub below : (acceptors : ℕ) → member < acceptors → set < 2 ^ acceptors → set + 2 ^ member < 2 ^ acceptors

added-lowest : (set : ℕ) → bit 0 set ≡ 0 → Added 0 set
added-lowest set absent = record {
  size = ones_step (set + 1) ∙ ap (λ (n : ℕ). (set + 1) % 2 + ones n) half ∙ omega (arith, ones_step set, even);
  there = lowest-bit (set + 1) ∙ omega (arith, even);
  others = others;
  below = below;
}
  where
    even : set % 2 ≡ 0
    even = sym (lowest-bit set) ∙ absent

    half : (set + 1) / 2 ≡ set / 2
    half = omega (arith, even)

    others : (other : ℕ) → (other ≡ 0 → ⊥) → bit other (set + 1) ≡ bit other set
    others zero differs = absurd (differs refl)
    others (suc other) differs = higher-bit other (set + 1) ∙ ap (bit other) half ∙ sym (higher-bit other set)

    below : (acceptors : ℕ) → 0 < acceptors → set < 2 ^ acceptors → set + 1 < 2 ^ acceptors
    below zero known small = absurd (omega arith)
    below (suc acceptors) known small = omega (arith, even)

added-higher : (member set : ℕ) → Added member (set / 2) → Added (suc member) set
added-higher member set rest = record {
  size =
      ones_step (set + 2 ^ suc member)
      ∙ ap (λ (n : ℕ). (set + 2 ^ suc member) % 2 + ones n) half
      ∙ omega (arith, ones_step set, rest.size);
  there = higher-bit member (set + 2 ^ suc member) ∙ ap (bit member) half ∙ rest.there;
  others = others;
  below = below;
}
  where
    half : (set + 2 ^ suc member) / 2 ≡ set / 2 + 2 ^ member
    half = omega arith

    others : (other : ℕ) → (other ≡ suc member → ⊥) → bit other (set + 2 ^ suc member) ≡ bit other set
    others zero differs = lowest-bit (set + 2 ^ suc member) ∙ omega arith ∙ sym (lowest-bit set)
    others (suc other) differs =
        higher-bit other (set + 2 ^ suc member)
        ∙ ap (bit other) half
        ∙ rest.others other (λ same. differs (ap suc same))
        ∙ sym (higher-bit other set)

    below : (acceptors : ℕ) → suc member < acceptors → set < 2 ^ acceptors → set + 2 ^ suc member < 2 ^ acceptors
    below zero known small = absurd (omega arith)
    below (suc acceptors) known small = omega (arith, rest.below acceptors (omega arith) (omega arith))

pub added : (member set : ℕ) → bit member set ≡ 0 → Added member set
added zero set absent = added-lowest set absent
added (suc member) set absent = added-higher member set (added member (set / 2) (sym (higher-bit member set) ∙ absent))
