-- Laws of places: an instance that has one stands at its own number, below N, and the refusal of one that has none is 8.
-- Assumes nothing.
use Rattle.std.proofs.Common.{◌≡◌, ℕ, ◌<◌, Bool, true, false, ltb, sym, refl, ◌∙◌, arith, ltb-true, lt-ltb}
use Rattle.basics.specs.declared.Instance.{Instance}
use Rattle.basics.specs.Ladder.{need◌or◌then◌}
use Rattle.basics.specs.Places.{Place, At, Nowhere, placed}
use Rattle.basics.proofs.Ladder.{need-elim}

-- the refusal of a message that has no place is such a number
abbrev pub PlacedBy : (ℕ → Type 0) → Place → Type 0
PlacedBy Such (At index) = Unit {0}
PlacedBy Such (Nowhere number) = Such number

-- an instance that has a place stands at its own number, below N
pub placed-index : (N : ℕ) (instance : Instance) (index : ℕ) → placed N instance ≡ At index → (index ≡ instance.0) × (index < N)
unfolding placed need◌or◌then◌
placed-index N instance index e = go (ltb instance.0 N) refl e
  where
    go : (below : Bool) → ltb instance.0 N ≡ below → (need below or Nowhere 8 then At instance.0) ≡ At index → (index ≡ instance.0) × (index < N)
    go true low stands = let same : index ≡ instance.0 = cc in (same, rw same (ltb-true instance.0 N low))
    go false high stands = let z : ◌≡◌ {A = ℕ} 0 1 = cc in absurd (omega arith)

-- two instances have two places
pub placed-once : (N : ℕ) (one other : Instance) (index : ℕ) → placed N one ≡ At index → placed N other ≡ At index → one.0 ≡ other.0
placed-once N one other index first second = sym (placed-index N one index first).0 ∙ (placed-index N other index second).0

-- an instance below N has its place
pub placed-there : (N : ℕ) (instance : Instance) → instance.0 < N → placed N instance ≡ At instance.0
unfolding placed need◌or◌then◌
placed-there N instance inside = rw (lt-ltb instance.0 N inside)

-- the refusal of an instance that has no place is 8
pub placed_by : (Such : ℕ → Type 0) (N : ℕ) (instance : Instance) → Such 8 → PlacedBy Such (placed N instance)
unfolding placed
placed_by Such N instance eight = need-elim (PlacedBy Such) _ _ _ eight λ _. tt
