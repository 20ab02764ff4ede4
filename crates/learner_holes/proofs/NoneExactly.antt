-- What follows of the smallest hole: only "none" changes, since a hole below a gap is below the decided instance above that gap, and so a gap itself; and "none" is
-- said exactly where all that is decided or has a vote is decided, with all before it.
-- Assumes nothing.
use Prim.Native.Nat.{ℕ, ◌≤◌}
use mathlib.Core.Path.{◌≡◌, refl, sym, ◌∙◌, subst}
use mathlib.Core.Bool.{Bool, true, false≢true}
use mathlib.Core.Logic.{⊎_elim, inl, inr}
use native.Mathlib.Omega.{arith}
use Rattle.basics.proofs.Ladder.{by-test, or_left, or_right, or_cases}
use Rattle.columns.specs.Walks.{cells_from}
use Rattle.learner_cell.specs.Cell.{is_decided, has_vote}
use Rattle.learner_tables.specs.Tables.{Tables, cell_at}
use Rattle.learner_holes.specs.Holes as holes
use Rattle.learner_holes.specs.Holes.{Hole, first_hole}
use Rattle.learner_holes.specs.Promises.{BelowDecided, HoleAt, Least, Gap, SmallestGap, OnlyNoneChanges, AllDecided, NoneExactly}
use Rattle.learner_holes.proofs.LeastHole.{under-decided, least-hole}

-- ---- where there is a gap

module _ (M N : ℕ) (t : Tables) where
  gap-hole : (number : ℕ) → Gap M N t number → HoleAt M N t number
  gap-hole number gap = record { inside = omega (arith, gap.1.inside, gap.1.below); undecided = gap.0; because = inl gap.1 }

  hole-gap : (number other : ℕ) → HoleAt M N t number → Gap M N t other → number ≤ other → Gap M N t number
  hole-gap number other h gap low = (
    h.undecided,
    record { above = gap.1.above; inside = gap.1.inside; below = omega (arith, gap.1.below, low); decided = gap.1.decided },
  )

  smallest-gap : (number : ℕ) → Gap M N t number → (h : Hole) → first_hole M (cells_from (cell_at t) 0 N) ≡ h → Least M N t h → SmallestGap M N t
  smallest-gap number gap (holes.Found i) answer least = record {
    found = i.0;
    is_answer = answer;
    is_gap = hole-gap i.0 number least.0 gap (least.1 number (gap-hole number gap));
    smallest = λ other o. least.1 other (gap-hole other o);
  }
  smallest-gap number gap holes.NoHole answer none = absurd (none number (gap-hole number gap))
  smallest-gap number gap (holes.Refused n) answer impossible = absurd impossible

pub only-none-changes : OnlyNoneChanges
only-none-changes M N t number gap = smallest-gap M N t number gap (first_hole M (cells_from (cell_at t) 0 N)) refl (least-hole M N t)

-- ---- where there is no hole

module _ (M N : ℕ) (t : Tables) where
  abbrev decided : ℕ → Bool
  decided number = is_decided M (cell_at t number)

  none-decided : ((other : ℕ) → HoleAt M N t other → ⊥) → AllDecided M N t
  none-decided none number inside reached earlier low =
      by-test (decided earlier) (λ over. over)
      (λ undecided. absurd (none earlier (gap-hole M N t earlier (undecided, under-decided M N t earlier number undecided itself low inside))))
    where
      itself : decided number ≡ true
      itself =
          ⊎_elim (λ over. over)
          (λ vote. by-test (decided number) (λ over. over) (λ undecided. absurd (none number (record { inside = inside; undecided = undecided; because = inr vote }))))
          (or_cases (decided number) (has_vote (cell_at t number)) reached)

  -- a hole would be decided
  hole-decided : AllDecided M N t → (number : ℕ) → HoleAt M N t number → decided number ≡ true
  hole-decided all number h =
      ⊎_elim (λ (b : BelowDecided M N t number). all b.above b.inside (or_left (has_vote (cell_at t b.above)) b.decided) number (omega (arith, b.below)))
      (λ vote. all number h.inside (or_right (decided number) vote) number (omega arith)) h.because

  decided-none : AllDecided M N t → (h : Hole) → Least M N t h → h ≡ holes.NoHole
  decided-none all (holes.Found i) least = absurd (false≢true (sym least.0.undecided ∙ hole-decided all i.0 least.0))
  decided-none all holes.NoHole none = refl
  decided-none all (holes.Refused number) impossible = absurd impossible

pub none-exactly : NoneExactly
none-exactly M N t = (
  λ none. none-decided M N t (subst (Least M N t) none (least-hole M N t)),
  λ all. decided-none M N t all (first_hole M (cells_from (cell_at t) 0 N)) (least-hole M N t),
)
