-- The first word of a line and what stands behind its space: the parts before and after the first space, by its place.
-- Assumes nothing.
use Prim.Native.Nat.{ℕ, suc, ◌+◌, ◌-◌, ◌≤◌, ◌<◌}
use mathlib.Core.Path.{◌≡◌, refl, sym, ap, subst, ◌∙◌}
use mathlib.Core.Bool.{Bool, true, false}
use mathlib.Core.List.{List, [], ◌∷◌}
use native.Mathlib.Numerals.{add-one}
use native.Mathlib.Omega.{arith}
use lib.Dec.{eqb, ltb}
use lib.ListN.{length, take, drop, length-drop, drop_of_length-le}
use lib.Seq.{take_all}
use borrow.Author.Tests.{ltb-true}
use Rattle.std.proofs.lemmas.Bool.{ltb-false}
use Rattle.std.specs.Prelude.{Option, Some, None, position}
use Rattle.std.specs.List.{position_or_len}
use Rattle.basics.proofs.Ladder.{by-test, if-true, if-false}
use Rattle.bench_lines.specs.Line.{space, first_word, rest_of}

-- ---- a byte at a time

module _ (byte : ℕ) (bytes : List ℕ) where
  module _ (ends : eqb byte space ≡ true) where
    pub word-ends : first_word (byte ∷ bytes) ≡ []
    unfolding first_word
    word-ends = if-true _ _ ends

    pub rest-begins : rest_of (byte ∷ bytes) ≡ bytes
    unfolding rest_of
    rest-begins = if-true _ _ ends

  module _ (goes_on : eqb byte space ≡ false) where
    pub word-goes-on : first_word (byte ∷ bytes) ≡ byte ∷ first_word bytes
    unfolding first_word
    word-goes-on = if-false _ _ goes_on

    pub rest-later : rest_of (byte ∷ bytes) ≡ rest_of bytes
    unfolding rest_of
    rest-later = if-false _ _ goes_on

-- ---- by the place of the first space

abbrev pub is_space : (byte : ℕ) → Bool
is_space byte = eqb byte space

-- the place of the first space, or the length
abbrev pub word_end : (line : List ℕ) → ℕ
word_end line = position_or_len is_space line

one-more : (line : List ℕ) → suc (word_end line) ≡ 1 + word_end line
one-more line = omega arith

pub word-taken : (line : List ℕ) → take (word_end line) line ≡ first_word line
unfolding first_word
word-taken [] = refl
word-taken (byte ∷ bytes) =
    by-test (eqb byte space) (λ ends. rw (word-ends byte bytes ends, ends))
    (λ goes_on. rw (word-goes-on byte bytes goes_on, goes_on)
    (subst (λ end. take end (byte ∷ bytes) ≡ byte ∷ first_word bytes) (one-more bytes) (ap (λ others. byte ∷ others) (word-taken bytes))))

pub rest-dropped : (line : List ℕ) → drop (word_end line + 1) line ≡ rest_of line
unfolding rest_of
rest-dropped [] = refl
rest-dropped (byte ∷ bytes) =
    by-test (eqb byte space) (λ ends. rw (rest-begins byte bytes ends, ends))
    (λ goes_on. rw (rest-later byte bytes goes_on, goes_on)
    (subst (λ end. drop (end + 1) (byte ∷ bytes) ≡ rest_of bytes) (one-more bytes)
    (rw (add-one (suc (word_end bytes))) (rw (add-one (word_end bytes)) at (rest-dropped bytes)))))

-- ---- as a line is cut, where its first space was looked for

module _ (line : List ℕ) where
  abbrev pub found : Option ℕ
  found = position is_space line

  module _ (end : ℕ) (found-so : Some end ≡ found) where
    pub found-end : (end ≡ word_end line) × (end < length line)
    found-end =
        by-test (ltb (word_end line) (length line)) (λ inside.
        let so = rw inside at found-so in
        let within = ltb-true (word_end line) (length line) inside in
        let e : end ≡ word_end line = cc in (e, omega arith))
        (λ none. let h = rw none at found-so in absurd cc)

    pub found-word : take end line ≡ first_word line
    found-word = rw found-end.0 (word-taken line)

    pub found-rest : take (length line - (end + 1)) (drop (end + 1) line) ≡ rest_of line
    found-rest =
        take_all (length line - (end + 1)) (drop (end + 1) line) (omega (arith, length-drop (end + 1) line)) ∙ rw found-end.0 (rest-dropped line)

  module _ (none : None ≡ found) where
    pub no-end : length line ≤ word_end line
    no-end =
        by-test (ltb (word_end line) (length line)) (λ inside. let h = rw inside at none in absurd cc)
        (λ over. ltb-false (word_end line) (length line) over)

    pub whole-word : line ≡ first_word line
    whole-word = sym (take_all (word_end line) line no-end) ∙ word-taken line

    pub no-rest : take (length line - length line) (drop (length line) line) ≡ rest_of line
    no-rest =
        take_all (length line - length line) (drop (length line) line) (omega (arith, length-drop (length line) line))
        ∙ drop_of_length-le line (omega arith) ∙ sym (drop_of_length-le line (omega (arith, no-end))) ∙ rest-dropped line
