-- The names, by their length, their letter and what is known of the number behind it: each test of the definition's ladder comes out as they say.
-- Assumes nothing.
use Prim.Native.Nat.{ℕ, ◌≤◌}
use mathlib.Core.Path.{◌≡◌, refl, sym, ap, ◌∙◌}
use mathlib.Core.Bool.{Bool, true, false, ◌&&◌}
use mathlib.Core.List.{List}
use native.Mathlib.Omega.{arith}
use lib.Dec.{eqb, leb}
use lib.ListN.{length, get_or}
use borrow.Author.Tests.{eqb-true, eq-eqb, ne_eqb}
use Rattle.std.specs.Prelude.{Some, None}
use Rattle.std.specs.Bool.{then_some}
use Rattle.std.proofs.lemmas.Bool.{lt-leb}
use Rattle.basics.proofs.Ladder.{by-test, if-true, if-false, need-passed, need-failed}
use Rattle.bench_lines.proofs.Digits.{digit-none, digit-so, need-none, need-some}
use Rattle.bench_lines.specs.declared.Player.TheVariants.{Primary, Acceptor, Backup, Learner}
use Rattle.bench_lines.specs.Line.{digit_in, digit_of, number_within, is_letter, is_numbered, own_of, player_of}

-- ---- the tests

module _ (letter : ℕ) (name : List ℕ) where
  letter-true : length name ≡ 1 → get_or name 0 0 ≡ letter → is_letter letter name ≡ true
  unfolding is_letter
  letter-true one same = rw (eq-eqb (length name) 1 one, eq-eqb (get_or name 0 0) letter same)

  letter-false : (length name ≡ 1 → get_or name 0 0 ≡ letter → ⊥) → is_letter letter name ≡ false
  unfolding is_letter
  letter-false other = by-test (eqb (length name) 1)
      (λ one. rw (one, ne_eqb (get_or name 0 0) letter (other (eqb-true (length name) 1 one)))) (λ e. rw e)

  module _ (first last : ℕ) where
    pub numbered-false : (length name ≡ 2 → get_or name 0 0 ≡ letter → ⊥) → is_numbered letter first last name ≡ false
    unfolding is_numbered
    numbered-false other = by-test (eqb (length name) 2)
        (λ two. rw (two, ne_eqb (get_or name 0 0) letter (other (eqb-true (length name) 2 two)))) (λ e. rw e)

    module _ (two : length name ≡ 2) (same : get_or name 0 0 ≡ letter) where
      numbered-by : is_numbered letter first last name ≡ leb first (own_of name) && leb (own_of name) last
      unfolding is_numbered
      numbered-by = rw (eq-eqb (length name) 2 two, eq-eqb (get_or name 0 0) letter same)

      pub numbered-none : None ≡ number_within first last (get_or name 1 0) → is_numbered letter first last name ≡ false
      unfolding number_within
      numbered-none none = numbered-by ∙ need-none _ _ none

      pub numbered-some : (own : ℕ) → Some own ≡ number_within first last (get_or name 1 0) → (is_numbered letter first last name ≡ true) × (own ≡ own_of name)
      unfolding number_within
      numbered-some own some = let so = need-some _ _ own some in (numbered-by ∙ so.0, so.1)

-- ---- a number within a range, by the digit

module _ (first last byte : ℕ) where
  pub within-none : last ≤ 9 → None ≡ digit_in byte → None ≡ number_within first last byte
  unfolding number_within
  within-none small none =
      let sixteen = digit-none byte none in
      sym (need-failed _ _ (rw (lt-leb (digit_of byte) last (omega arith)) (no-both (leb first (digit_of byte)))))
    where
      no-both : (b : Bool) → b && false ≡ false
      no-both true = refl
      no-both false = refl

  pub within-some : (digit : ℕ) → Some digit ≡ digit_in byte → then_some (leb first digit && leb digit last) digit ≡ number_within first last byte
  unfolding number_within
  within-some digit some =
      rw (digit-so byte digit some)
      (by-test (leb first digit && leb digit last) (λ e. rw e (sym (need-passed _ _ refl))) (λ e. rw e (sym (need-failed _ _ refl))))

-- ---- the players

module _ (name : List ℕ) where
  module _ (one : length name ≡ 1) where
    pub names-primary : get_or name 0 0 ≡ 112 → Some Primary ≡ player_of name
    unfolding player_of
    names-primary p = sym (if-true _ _ (letter-true 112 name one p))

    pub names-learner : get_or name 0 0 ≡ 108 → Some Learner ≡ player_of name
    unfolding player_of
    names-learner l =
        sym (if-false _ _ (letter-false 112 name (λ long same. omega arith)) ∙ if-false _ _ (numbered-false 97 name 0 2 (λ long same. omega arith))
        ∙ if-false _ _ (numbered-false 98 name 1 3 (λ long same. omega arith)) ∙ if-true _ _ (letter-true 108 name one l))

  module _ (two : length name ≡ 2) where
    not-alone : (letter : ℕ) → is_letter letter name ≡ false
    not-alone letter = letter-false letter name (λ long same. omega arith)

    module _ (a : get_or name 0 0 ≡ 97) where
      pub names-acceptor : (own : ℕ) → Some own ≡ number_within 0 2 (get_or name 1 0) → Some (Acceptor own) ≡ player_of name
      unfolding player_of
      names-acceptor own some =
          let so = numbered-some 97 name 0 2 two a own some in
          ap (λ k. Some (Acceptor k)) so.1 ∙ sym (if-false _ _ (not-alone 112) ∙ if-true _ _ so.0)

      pub names-no-acceptor : None ≡ number_within 0 2 (get_or name 1 0) → None ≡ player_of name
      unfolding player_of
      names-no-acceptor none =
          sym (if-false _ _ (not-alone 112) ∙ if-false _ _ (numbered-none 97 name 0 2 two a none)
          ∙ if-false _ _ (numbered-false 98 name 1 3 (λ long same. omega arith)) ∙ if-false _ _ (not-alone 108))

    module _ (b : get_or name 0 0 ≡ 98) where
      pub names-backup : (own : ℕ) → Some own ≡ number_within 1 3 (get_or name 1 0) → Some (Backup own) ≡ player_of name
      unfolding player_of
      names-backup own some =
          let so = numbered-some 98 name 1 3 two b own some in
          ap (λ k. Some (Backup k)) so.1
          ∙ sym (if-false _ _ (not-alone 112) ∙ if-false _ _ (numbered-false 97 name 0 2 (λ long same. omega arith)) ∙ if-true _ _ so.0)

      pub names-no-backup : None ≡ number_within 1 3 (get_or name 1 0) → None ≡ player_of name
      unfolding player_of
      names-no-backup none =
          sym (if-false _ _ (not-alone 112) ∙ if-false _ _ (numbered-false 97 name 0 2 (λ long same. omega arith))
          ∙ if-false _ _ (numbered-none 98 name 1 3 two b none) ∙ if-false _ _ (not-alone 108))

  -- a name of another length, or with another letter
  pub names-none : (length name ≡ 1 → (get_or name 0 0 ≡ 112 → ⊥) × (get_or name 0 0 ≡ 108 → ⊥))
      → (length name ≡ 2 → (get_or name 0 0 ≡ 97 → ⊥) × (get_or name 0 0 ≡ 98 → ⊥)) → None ≡ player_of name
  unfolding player_of
  names-none one two =
      sym (if-false _ _ (letter-false 112 name (λ e. (one e).0)) ∙ if-false _ _ (numbered-false 97 name 0 2 (λ e. (two e).0))
      ∙ if-false _ _ (numbered-false 98 name 1 3 (λ e. (two e).1)) ∙ if-false _ _ (letter-false 108 name (λ e. (one e).1)))
