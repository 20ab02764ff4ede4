-- Laws of counting a vote, for the crates above: what holds of every way out holds of the ruling; a possible cell stays possible, and its numbers stay within
-- their widths.
-- Assumes nothing.
use Prim.Native.Nat.{ℕ, ◌^◌, ◌≤◌, ◌<◌}
use mathlib.Core.Path.{◌≡◌}
use mathlib.Core.Bool.{true, false}
use native.Mathlib.Omega.{arith}
use lib.Dec.{lit<}
use borrow.Author.Tests.{not-true, ltb-true}
use Rattle.basics.proofs.Values.{ValueFits}
use Rattle.basics.specs.declared.Round.{Round}
use Rattle.basics.specs.declared.Value.{Value}
use Rattle.basics.specs.Rounds.{same_round, at_most, owned_or_0}
use Rattle.basics.specs.Values.{same_value}
use Rattle.basics.proofs.Ladder.{if-elim, need-elim}
use Rattle.player.specs.Step.{Ruling, refused}
use Rattle.player.proofs.Promises.{NextCell}
use Rattle.quorum.specs.Quorum.{has_member}
use Rattle.quorum.proofs.Laws.{majority-some, empty-size, empty-within, empty-bit, absent-iff, with-member-fits}
use Rattle.learner_cell.specs.declared.Cell.{Cell}
use Rattle.learner_cell.specs.Cell.{is_decided, possible, with_voter}
use Rattle.learner_rule.specs.Rule.{hold_or_decide, add_voter, count_vote}
use Rattle.learner_cell.proofs.Laws.{possible-inside, voter-possible, undecided-few, CellFits}

-- ---- the ways out

module _ (P : Ruling Cell → Type 0) (M : ℕ) (c : Cell) (s : ℕ) (r : Round) (v : Value) (nine : P (refused 9)) (seventeen : P (refused 17))
    (fourteen : P (refused 14)) (ten : P (refused 10)) (thirteen : P (refused 13)) (fifteen : P (refused 15)) where
  pub counting-elim :
      (s < M → possible M c ≡ true → is_decided M c ≡ false → at_most c.round r ≡ true → same_round r c.round ≡ false → P (hold_or_decide M (with_voter 0 s r v)))
      → (s < M → possible M c ≡ true → is_decided M c ≡ false → same_round r c.round ≡ true → same_value v c.value ≡ true → has_member c.set s ≡ false
      → P (hold_or_decide M (with_voter c.set s r v))) → P (count_vote M c s r v)
  unfolding count_vote add_voter
  counting-elim replaced added =
      need-elim P _ _ _ nine λ known.
      need-elim P _ _ _ seventeen λ fine.
      need-elim P _ _ _ fourteen λ undecided.
      need-elim P _ _ _ ten λ least.
      if-elim P _ _ _
      (λ same. need-elim P _ _ _ thirteen λ agrees.
      need-elim P _ _ _ fifteen λ absent.
      added (ltb-true s M known) fine (not-true _ undecided) same agrees (not-true _ absent))
      (λ higher. replaced (ltb-true s M known) fine (not-true _ undecided) least higher)

pub counted-possible : (M : ℕ) (c : Cell) (s : ℕ) (r : Round) (v : Value) → s ≤ 6 → owned_or_0 r ≡ true
    → NextCell (λ d. possible M d ≡ true) (count_vote M c s r v)
unfolding hold_or_decide
counted-possible M c s r v low owned =
    counting-elim (NextCell (λ d. possible M d ≡ true)) M c s r v tt tt tt tt tt tt
    (λ known _ _ _ _. let fine = voter-possible M 0 s r v known low owned (empty-within M) ((absent-iff 0 s).1 (empty-bit s)) (omega (arith, empty-size, majority-some M)) in
    if-elim (NextCell (λ d. possible M d ≡ true)) _ _ _ (λ _. fine) (λ _. fine))
    (λ known fine undecided _ _ absent.
    let next = voter-possible M c.set s r v known low owned (possible-inside M c fine) absent (undecided-few M c undecided) in
    if-elim (NextCell (λ d. possible M d ≡ true)) _ _ _ (λ _. next) (λ _. next))

pub counted-fits : (M : ℕ) (c : Cell) (s : ℕ) (r : Round) (v : Value) → CellFits c → s ≤ 6 → r.0 < 2 ^ 32 → ValueFits v
    → NextCell CellFits (count_vote M c s r v)
unfolding hold_or_decide
counted-fits M c s r v fits low round_fits value-fits =
    let next : (before : ℕ) → before < 2 ^ 8 → CellFits (with_voter before s r v) =
    λ before small. record { round_fits = round_fits; set-fits = with-member-fits before s small (omega arith); value-fits = value-fits } in
    counting-elim (NextCell CellFits) M c s r v tt tt tt tt tt tt
    (λ _ _ _ _ _. if-elim (NextCell CellFits) _ _ _ (λ _. next 0 (lit< tt)) (λ _. next 0 (lit< tt)))
    (λ _ _ _ _ _ _. if-elim (NextCell CellFits) _ _ _ (λ _. next c.set fits.set-fits) (λ _. next c.set fits.set-fits))
