-- The walk's answer is the smallest hole, and "none" means that there is none: the walk finds the first instance that passes its test, and the test is passed
-- by holes alone, since every decided instance is below the end and the one just below the end is decided.
-- Assumes nothing.
use Prim.Native.Nat.{ℕ, zero, suc, ◌+◌, ◌≤◌, ◌<◌}
use mathlib.Core.Path.{◌≡◌, refl, sym, ap, ◌∙◌, subst}
use mathlib.Core.Bool.{Bool, true, false, not, ◌||◌, false≢true}
use mathlib.Core.Logic.{⊎_elim, inl, inr}
use native.Mathlib.Decide.{dec_lt}
use native.Mathlib.Numerals.{add-one}
use native.Mathlib.Omega.{arith}
use lib.Dec.{ltb}
use borrow.Author.Tests.{not-true, ltb-true, lt-ltb}
use Rattle.basics.specs.declared.Verdict.TheVariants.{Done, NoHole}
use Rattle.basics.specs.Ladder.{when◌then◌else◌}
use Rattle.basics.specs.Rounds.{the_instance}
use Rattle.basics.specs.Verdict.{verdict_number}
use Rattle.basics.proofs.Ladder.{by-test, both_true, and-true, or_left, or_right, or_cases, need-elim, if-true, if-false}
use Rattle.player.specs.Promises.{OneOf, first, later}
use Rattle.quorum.specs.declared.Settings.{Settings}
use Rattle.learner_cell.specs.Cell.{is_decided, has_vote}
use Rattle.columns.specs.Walks.{cells_from}
use Rattle.columns.proofs.Walks.{here-or-elsewhere}
use Rattle.learner_tables.specs.Tables.{Tables, cell_at, cells, all_possible}
use Rattle.learner_holes.specs.Holes as holes
use Rattle.learner_holes.specs.Holes.{Hole, decided_end_from, decided_end, is_hole, first_hole_from, first_hole, find_hole, answered}
use Rattle.learner_holes.specs.Promises.{BelowDecided, HoleAt, HoleIff, Least, LeastHole, numbers, HolePromises}

-- ---- the walk finds the first instance that passes the test

module _ (M end : ℕ) (t : Tables) where
  abbrev passes : ℕ → Bool
  passes number = is_hole M end number (cell_at t number)

  -- what an answer of the walk from a number on says
  abbrev First : (number count : ℕ) → Hole → Type 0
  First number count (holes.Found i) = (passes i.0 ≡ true) × ((i.0 < number + count) × ((j : ℕ) → number ≤ j → j < i.0 → passes j ≡ false))
  First number count holes.NoHole = (j : ℕ) → number ≤ j → j < number + count → passes j ≡ false
  First number count (holes.Refused n) = ⊥

  -- one more instance in front that does not pass
  in-front : (number count : ℕ) → passes number ≡ false → (h : Hole) → First (number + 1) count h → First number (suc count) h
  in-front number count fails (holes.Found i) found = (
    found.0,
    (omega (arith, found.1.0), λ j least low. here-or-elsewhere (λ k. passes k ≡ false) number j fails λ other. found.1.1 j (omega (arith, other)) low),
  )
  in-front number count fails holes.NoHole none =
      λ j least low. here-or-elsewhere (λ k. passes k ≡ false) number j fails λ other. none j (omega (arith, other)) (omega arith)
  in-front number count fails (holes.Refused n) never = never

  first_found : (number count : ℕ) → First number count (first_hole_from M end number (cells_from (cell_at t) number count))
  unfolding first_hole_from cells_from
  first_found number zero = λ j least low. absurd (omega arith)
  first_found number (suc count) =
      let rest = first_hole_from M end (number + 1) (cells_from (cell_at t) (suc number) count) in
      by-test (passes number)
      (λ e. subst (First number (suc count)) (sym (if-true (holes.Found (the_instance number)) rest e)) (e, (omega arith, λ j least low. absurd (omega arith))))
      (λ e. subst (First number (suc count)) (sym (if-false (holes.Found (the_instance number)) rest e))
      (in-front number count e rest
      (subst (λ k. First (number + 1) count (first_hole_from M end (number + 1) (cells_from (cell_at t) k count))) (add-one number) (first_found (number + 1) count))))

-- ---- the end

module _ (M : ℕ) (t : Tables) where
  -- the end so far, after the instance at a number
  abbrev next-end : (number end : ℕ) → ℕ
  next-end number end = when is_decided M (cell_at t number) then number + 1 else end

  -- the walk's end: every decided instance is below it, and where it is not the end so far, the one just below it is decided
  record End (number end count result : ℕ) : Type 0 where
    least : end ≤ result
    most : result ≤ number + count
    below : (j : ℕ) → number ≤ j → j < number + count → is_decided M (cell_at t j) ≡ true → j < result
    last : end < result → (j : ℕ) × ((result ≡ j + 1) × (is_decided M (cell_at t j) ≡ true))

  end-found : (number end count : ℕ) → end ≤ number → End number end count (decided_end_from M number end (cells_from (cell_at t) number count))
  unfolding decided_end_from cells_from
  end-found number end zero low = record {
    least = omega arith;
    most = omega arith;
    below = λ j least inside _. absurd (omega arith);
    last = λ more. absurd (omega arith);
  }
  end-found number end (suc count) low =
      by-test (is_decided M (cell_at t number))
      (λ over. subst (End number end (suc count)) (goes_on (if-true (number + 1) end over)) (rises over (end-found (number + 1) (number + 1) count (omega arith))))
      (λ undecided. subst (End number end (suc count)) (goes_on (if-false (number + 1) end undecided)) (stays undecided (end-found (number + 1) end count (omega arith))))
    where
      goes_on : {next : ℕ} → next-end number end ≡ next
          → decided_end_from M (number + 1) next (cells_from (cell_at t) (number + 1) count) ≡ decided_end_from M (number + 1) (next-end number end) (cells_from (cell_at t) (suc number) count)
      goes_on {next} next-so =
          ap (λ k. decided_end_from M (number + 1) next (cells_from (cell_at t) k count)) (add-one number)
          ∙ ap (λ so_far. decided_end_from M (number + 1) so_far (cells_from (cell_at t) (suc number) count)) (sym next-so)

      rises : is_decided M (cell_at t number) ≡ true → {result : ℕ} → End (number + 1) (number + 1) count result → End number end (suc count) result
      rises over {result} rest = record {
        least = omega (arith, rest.least);
        most = omega (arith, rest.most);
        below = λ j least inside decided.
            here-or-elsewhere (λ k. k < result) number j (omega (arith, rest.least)) λ other. rest.below j (omega (arith, other)) (omega arith) decided;
        last = λ _. at_last (dec_lt (number + 1) result);
      }
        where
          at_last : Dec (number + 1 < result) → (j : ℕ) × ((result ≡ j + 1) × (is_decided M (cell_at t j) ≡ true))
          at_last (yes more) = rest.last more
          at_last (no here) = (number, (omega (arith, here, rest.least), over))

      stays : is_decided M (cell_at t number) ≡ false → {result : ℕ} → End (number + 1) end count result → End number end (suc count) result
      stays undecided {result} rest = record {
        least = rest.least;
        most = omega (arith, rest.most);
        below = λ j least inside.
            here-or-elsewhere (λ k. is_decided M (cell_at t k) ≡ true → k < result) number j (λ decided. absurd (false≢true (sym undecided ∙ decided)))
            λ other. rest.below j (omega (arith, other)) (omega arith);
        last = rest.last;
      }

-- ---- the test is passed by holes alone

module _ (M N : ℕ) (t : Tables) where
  abbrev end : ℕ
  end = decided_end M (cells_from (cell_at t) 0 N)

  found-end : End M t 0 0 N end
  found-end = end-found M t 0 0 N (omega arith)

  -- an undecided instance up to a decided one is below it, since it is another
  pub under-decided : (number above : ℕ) → is_decided M (cell_at t number) ≡ false → is_decided M (cell_at t above) ≡ true → number ≤ above → above < N
      → BelowDecided M N t number
  under-decided number above undecided decided low inside = record {
    above = above;
    inside = inside;
    below = here-or-elsewhere (λ k. is_decided M (cell_at t k) ≡ true → number ≤ k → number < k) number above (λ over _. absurd (false≢true (sym undecided ∙ over)))
        (λ other _ up_to_lem. omega (arith, other, up_to_lem)) decided low;
    decided = decided;
  }

  -- so one below the end is below the decided one that stands there
  below_end : (number : ℕ) → is_decided M (cell_at t number) ≡ false → number < end → BelowDecided M N t number
  below_end number undecided low =
      let top = found-end.last (omega (arith, low)) in
      under-decided number top.0 undecided top.1.1 (omega (arith, low, top.1.0)) (omega (arith, found-end.most, top.1.0))

  pub passes-hole : (number : ℕ) → number < N → is_hole M end number (cell_at t number) ≡ true → HoleAt M N t number
  unfolding is_hole
  passes-hole number inside e =
      let parts = both_true (not (is_decided M (cell_at t number))) (ltb number end || has_vote (cell_at t number)) e in
      let undecided = not-true (is_decided M (cell_at t number)) parts.0 in
      record {
        inside = inside;
        undecided = undecided;
        because = ⊎_elim (λ low. inl (below_end number undecided (ltb-true number end low))) inr (or_cases (ltb number end) (has_vote (cell_at t number)) parts.1);
      }

  pub hole-passes : (number : ℕ) → HoleAt M N t number → is_hole M end number (cell_at t number) ≡ true
  unfolding is_hole
  hole-passes number h = and-true (ap not h.undecided) (⊎_elim under (or_right (ltb number end)) h.because)
    where
      under : BelowDecided M N t number → ltb number end || has_vote (cell_at t number) ≡ true
      under b =
          let top = found-end.below b.above (omega arith) (omega (arith, b.inside)) b.decided in
          or_left (has_vote (cell_at t number)) (lt-ltb number end (omega (arith, top, b.below)))

  -- two things said of one test
  never : (j : ℕ) → HoleAt M N t j → is_hole M end j (cell_at t j) ≡ false → ⊥
  never j h fails = false≢true (sym fails ∙ hole-passes j h)

  least-of : (h : Hole) → First M end t 0 N h → Least M N t h
  least-of (holes.Found i) found = (passes-hole i.0 (omega (arith, found.1.0)) found.0, λ j h. by_place j h (dec_lt j i.0))
    where
      by_place : (j : ℕ) → HoleAt M N t j → Dec (j < i.0) → i.0 ≤ j
      by_place j h (yes low) = absurd (never j h (found.1.1 j (omega arith) low))
      by_place j h (no least) = omega (arith, least)
  least-of holes.NoHole none = λ j h. never j h (none j (omega arith) (omega (arith, h.inside)))
  least-of (holes.Refused number) impossible = impossible

pub hole-iff : HoleIff
hole-iff M N t number inside = (passes-hole M N t number inside, hole-passes M N t number)

pub least-hole : LeastHole
least-hole M N t = least-of M N t (first_hole M (cells_from (cell_at t) 0 N)) (first_found M (end M N t) t 0 N)

-- ---- the call

module _ (s : Settings) (t : Tables) where
  hole-elim : (Q : Hole → Type 0) → Q (holes.Refused 7) → Q (holes.Refused 17)
      → (all_possible s.acceptors (cells s t) ≡ true → Q (first_hole s.acceptors (cells s t))) → Q (find_hole s t)
  unfolding find_hole
  hole-elim Q seven seventeen walked = need-elim Q _ _ _ seven λ _. need-elim Q _ _ _ seventeen walked

  -- where there is none, every cell is possible, and the walk found none
  abbrev Walked : Type 0
  Walked = (all_possible s.acceptors (cells s t) ≡ true) × (first_hole s.acceptors (cells s t) ≡ holes.NoHole)

  pub none-walked : find_hole s t ≡ holes.NoHole → Walked
  none-walked = hole-elim (λ h. h ≡ holes.NoHole → Walked) refused refused λ possible none. (possible, none)
    where
      is-refused : Hole → Bool
      is-refused (holes.Found i) = false
      is-refused holes.NoHole = false
      is-refused (holes.Refused number) = true

      refused : {number : ℕ} → holes.Refused number ≡ holes.NoHole → Walked
      refused none = absurd (false≢true (sym (ap is-refused none)))

  pub hole-numbers : (before : ℕ) → OneOf (answered before (find_hole s t)).answer numbers
  unfolding answered
  hole-numbers before =
      hole-elim (λ h. OneOf (answered before h).answer numbers) first (later first)
      λ _. walked (first_hole s.acceptors (cells s t)) (least-hole s.acceptors s.instances t)
    where
      walked : (h : Hole) → Least s.acceptors s.instances t h → OneOf (answered before h).answer numbers
      walked (holes.Found i) _ = later (later first)
      walked holes.NoHole _ = later (later (later first))
      walked (holes.Refused number) impossible = absurd impossible

  pub hole-keeps : (before : ℕ) → ((answered before (find_hole s t)).answer ≡ verdict_number Done → ⊥) → (answered before (find_hole s t)).left ≡ before
  unfolding answered
  hole-keeps before = kept (find_hole s t)
    where
      kept : (h : Hole) → ((answered before h).answer ≡ verdict_number Done → ⊥) → (answered before h).left ≡ before
      kept (holes.Found i) other = absurd (other refl)
      kept holes.NoHole _ = refl
      kept (holes.Refused number) _ = refl

  -- what the number answered tells of the hole
  abbrev Told : (before : ℕ) → Hole → Type 0
  Told before h =
      ((answered before h).answer ≡ verdict_number Done → h ≡ holes.Found (the_instance (answered before h).left))
      × ((answered before h).answer ≡ verdict_number NoHole → h ≡ holes.NoHole)

  hole-told : (before : ℕ) → Told before (find_hole s t)
  unfolding answered
  hole-told before =
      hole-elim (Told before) (λ other. absurd (omega (arith, other)), λ other. absurd (omega (arith, other)))
      (λ other. absurd (omega (arith, other)), λ other. absurd (omega (arith, other)))
      λ _. walked (first_hole s.acceptors (cells s t)) (least-hole s.acceptors s.instances t)
    where
      walked : (h : Hole) → Least s.acceptors s.instances t h → Told before h
      walked (holes.Found i) _ = (λ _. refl, λ other. absurd (omega (arith, other)))
      walked holes.NoHole _ = (λ other. absurd (omega (arith, other)), λ _. refl)
      walked (holes.Refused number) impossible = absurd impossible

pub hole-promises : (s : Settings) (t : Tables) (before : ℕ) → HolePromises s t before
hole-promises s t before = record {
  numbers_are = hole-numbers s t before;
  keeps = hole-keeps s t before;
  done_tells = (hole-told s t before).0;
  no_hole_tells = (hole-told s t before).1;
}
