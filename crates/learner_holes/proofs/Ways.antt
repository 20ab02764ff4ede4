-- The walks for the first hole, a cell at a time: each goes on from a cell as the definition does, and ends where the cells do.
-- Assumes nothing.
use Prim.Native.Nat.{ℕ, ◌+◌, ◌≤◌, ◌<◌}
use mathlib.Core.Path.{◌≡◌, sym, ap, ◌∙◌}
use mathlib.Core.Bool.{Bool, true, false}
use Rattle.basics.specs.Ladder.{when◌then◌else◌, need◌or◌then◌}
use Rattle.basics.specs.Rounds.{the_instance}
use Rattle.basics.proofs.Ladder.{if-true, if-false}
use Rattle.quorum.specs.declared.Settings.{Settings}
use Rattle.learner_cell.specs.declared.Cell.{Cell}
use Rattle.learner_cell.specs.Cell.{is_decided}
use Rattle.columns.specs.Walks.{cells_from}
use Rattle.learner_tables.specs.Tables.{Tables, cells, learner_allowed, all_possible}
use Rattle.columns.proofs.Walks.{cells_left, cells-all, cells-next, cells-end}
use Rattle.learner_holes.specs.Holes as holes
use Rattle.learner_holes.specs.Holes.{Hole, decided_end_from, decided_end, is_hole, first_hole_from, first_hole, find_hole}

module _ (M end : ℕ) (at : (index : ℕ) → Cell) (number count : ℕ) where
  module _ (inside : number < count) (c : Cell) (c-so : c ≡ at number) where
    module _ (decided : Bool) (decided-so : decided ≡ is_decided M c) where
      abbrev ends_at : (next : ℕ) → ℕ
      ends_at next = decided_end_from M (number + 1) next (cells_left at (number + 1) count)

      pub end-rises : (next : ℕ) → decided ≡ true → next ≡ number + 1 → decided_end_from M number end (cells_left at number count) ≡ ends_at next
      unfolding decided_end_from
      end-rises next over next-so =
          rw (cells-next at number count inside) (ap ends_at (if-true (number + 1) end (ap (is_decided M) (sym c-so) ∙ sym decided-so ∙ over) ∙ sym next-so))

      pub end_stays : (next : ℕ) → decided ≡ false → next ≡ end → decided_end_from M number end (cells_left at number count) ≡ ends_at next
      unfolding decided_end_from
      end_stays next undecided next-so =
          rw (cells-next at number count inside) (ap ends_at (if-false (number + 1) end (ap (is_decided M) (sym c-so) ∙ sym decided-so ∙ undecided) ∙ sym next-so))

    module _ (is : Bool) (is-so : is ≡ is_hole M end number c) where
      pub hole-here : is ≡ true → holes.Found (the_instance number) ≡ first_hole_from M end number (cells_left at number count)
      unfolding first_hole_from when◌then◌else◌
      hole-here yes-so = rw (cells-next at number count inside, ← c-so, ← is-so, yes-so)

      pub hole-later : is ≡ false → first_hole_from M end number (cells_left at number count) ≡ first_hole_from M end (number + 1) (cells_left at (number + 1) count)
      unfolding first_hole_from when◌then◌else◌
      hole-later no-so = rw (cells-next at number count inside, ← c-so, ← is-so, no-so)

  module _ (past : count ≤ number) where
    pub end-reached : end ≡ decided_end_from M number end (cells_left at number count)
    unfolding decided_end_from
    end-reached = rw (cells-end at number count past)

    pub no_hole_left : holes.NoHole ≡ first_hole_from M end number (cells_left at number count)
    unfolding first_hole_from
    no_hole_left = rw (cells-end at number count past)

-- the walk begins with all cells, and with their end
pub walk_begins : (M : ℕ) (at : (index : ℕ) → Cell) (count end : ℕ) → end ≡ decided_end M (cells_from at 0 count) → first_hole M (cells_from at 0 count) ≡ first_hole_from M end 0 (cells_left at 0 count)
walk_begins M at count end end-so = ap (λ k. first_hole_from M k 0 (cells_from at 0 count)) (sym end-so) ∙ ap (first_hole_from M end 0) (cells-all at count)

-- ---- the ways out of the call

module _ (s : Settings) (t : Tables) (fine : Bool) (fine-so : fine ≡ learner_allowed s t) where
  pub hole-7 : fine ≡ false → holes.Refused 7 ≡ find_hole s t
  unfolding find_hole need◌or◌then◌
  hole-7 no_way = rw (← fine-so, no_way)

  module _ (passed : fine ≡ true) (sound : Bool) (sound-so : sound ≡ all_possible s.acceptors (cells s t)) where
    pub hole-17 : sound ≡ false → holes.Refused 17 ≡ find_hole s t
    unfolding find_hole need◌or◌then◌
    hole-17 impossible = rw (← fine-so, passed, ← sound-so, impossible)

    pub hole-walked : sound ≡ true → (r : Hole) → r ≡ first_hole s.acceptors (cells s t) → r ≡ find_hole s t
    unfolding find_hole need◌or◌then◌
    hole-walked possible r r-so = rw (← fine-so, passed, ← sound-so, possible, r-so)
