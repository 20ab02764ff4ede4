-- The set of a list's distinct senders has just those members, and reaches a threshold exactly when so many distinct senders stand in the list: a set
-- that has every member of another is at least as large, bit by bit.
-- Assumes nothing.
use mathlib.Core.Path.{◌≡◌, refl, sym, ap, ◌∙◌}
use mathlib.Core.Bool.{true}
use mathlib.Core.List.{List, [], ◌∷◌}
use mathlib.Core.Logic.{◌↔◌, ⊎_elim}
use Prim.Native.Nat.{ℕ, zero, suc, ◌%◌, ◌^◌, ◌≤◌, ◌<◌}
use native.Mathlib.Nat.{mod-eq_of_lt, mod-one}
use native.Mathlib.Omega.{arith}
use native.Mathlib.Decide.{ℕ_discrete}
use lib.Count.{ones}
use Rattle.quorum.specs.Quorum.{bit, Member, within, size}
use Rattle.quorum.specs.Voters.{Mem, newest, older, sender_set}
use Rattle.quorum.specs.Promises.{SendersReach}
use Rattle.quorum.proofs.Bits.{bit-below-2, ones_below}
use Rattle.quorum.proofs.Laws.{within-iff, reaches-iff, empty-within, empty-bit, with-member-in, with-member-cases, with-member-keeps, with-member-within}
use Rattle.quorum.proofs.Voters.{listed, set-of}

-- ---- more members, a larger size

fewer-ones : (bound first second : ℕ) → ((member : ℕ) → Member member first → Member member second) → ones (first % 2 ^ bound) ≤ ones (second % 2 ^ bound)
fewer-ones zero first second more = let none : first % 2 ^ 0 ≡ second % 2 ^ 0 = mod-one first ∙ sym (mod-one second) in omega (arith, ap ones none)
fewer-ones (suc bound) first second more = go (fewer-ones bound first second more) (ℕ_discrete (bit bound first) 1)
  where
    go : ones (first % 2 ^ bound) ≤ ones (second % 2 ^ bound) → Dec (Member bound first) → ones (first % 2 ^ suc bound) ≤ ones (second % 2 ^ suc bound)
    go below (yes present) = omega (arith, ones_below bound first, ones_below bound second, present, more bound present)
    go below (no absent) = omega (arith, ones_below bound first, ones_below bound second, absent, bit-below-2 bound first)

pub size-rises : (acceptors first second : ℕ) → within acceptors first ≡ true → within acceptors second ≡ true
    → ((member : ℕ) → Member member first → Member member second) → size first ≤ size second
size-rises acceptors first second first-inside second-inside more =
    let small : first % 2 ^ acceptors ≡ first = mod-eq_of_lt ((within-iff acceptors first).0 first-inside) in
    let large : second % 2 ^ acceptors ≡ second = mod-eq_of_lt ((within-iff acceptors second).0 second-inside) in
    omega (arith, fewer-ones acceptors first second more, ap ones small, ap ones large)

-- ---- the set of a list's senders, each below M

module _ (acceptors : ℕ) (few : acceptors ≤ 8) where
  pub senders-within : (senders : List ℕ) → ((sender : ℕ) → Mem sender senders → sender < acceptors) → within acceptors (sender_set senders) ≡ true
  unfolding sender_set
  senders-within [] known = empty-within acceptors
  senders-within (sender ∷ others) known =
      with-member-within acceptors (sender_set others) sender (senders-within others (λ other listed. known other (older listed))) (known sender (newest refl))

  stands-in : (senders : List ℕ) → ((sender : ℕ) → Mem sender senders → sender < acceptors) → (sender : ℕ) → Mem sender senders → Member sender (sender_set senders)
  unfolding sender_set
  stands-in [] known sender nowhere = elim nowhere [ ]
  stands-in (first ∷ others) known sender (newest same) = rw same (with-member-in (sender_set others) first (omega (arith, known first (newest refl))))
  stands-in (first ∷ others) known sender (older listed) =
      with-member-keeps (sender_set others) first sender (stands-in others (λ other there. known other (older there)) sender listed)

  is-sender : (senders : List ℕ) (sender : ℕ) → Member sender (sender_set senders) → Mem sender senders
  unfolding sender_set
  is-sender [] sender present = absurd (omega (arith, empty-bit sender, present))
  is-sender (first ∷ others) sender present =
      ⊎_elim (λ same. newest same) (λ there. older (is-sender others sender there)) (with-member-cases (sender_set others) first sender present)

  module _ (senders : List ℕ) (known : (sender : ℕ) → Mem sender senders → sender < acceptors) where
    pub senders-are : (sender : ℕ) → Mem sender senders ↔ Member sender (sender_set senders)
    senders-are sender = (stands-in senders known sender, is-sender senders sender)

pub senders-reach : SendersReach
senders-reach acceptors few senders known threshold = (
  λ reached.
      let q = listed acceptors (sender_set senders) inside in
      record {
        chosen = q.voters;
        distinct = q.names.distinct;
        stand = λ sender there. (are sender).1 ((q.names.members sender).0 there);
        enough = omega (arith, q.names.count, (reaches-iff threshold (sender_set senders)).0 reached);
      },
  λ d.
      let q = set-of acceptors d.chosen d.distinct (λ sender there. known sender (d.stand sender there)) in
      let larger = size-rises acceptors q.set (sender_set senders) q.names.inside inside
      (λ sender present. (are sender).0 (d.stand sender ((q.names.members sender).1 present))) in
      (reaches-iff threshold (sender_set senders)).1 (omega (arith, larger, q.names.count, d.enough)),
)
  where
    inside : within acceptors (sender_set senders) ≡ true
    inside = senders-within acceptors few senders known

    are : (sender : ℕ) → Mem sender senders ↔ Member sender (sender_set senders)
    are = senders-are acceptors few senders known
