-- The numbers of refusals: that one is among those of a list is computed, and the reader's are among those of every packet and say to send nothing.
-- Assumes nothing.
use Prim.Native.Nat.{ℕ}
use mathlib.Core.Path.{◌≡◌, refl, subst}
use mathlib.Core.Bool.{Bool, true, false, ◌||◌, false≢true}
use mathlib.Core.Logic.{⊎_elim}
use mathlib.Core.List.{List, [], ◌∷◌}
use lib.Dec.{eqb}
use borrow.Author.Tests.{eqb-true}
use Rattle.basics.specs.Verdict.{says_send}
use Rattle.basics.proofs.Ladder.{or_cases}
use Rattle.wire.specs.Packet.{read_packet}
use Rattle.wire.proofs.Laws.{RefusedBy, reader-refuses}
use Rattle.player.specs.Promises.{OneOf, first, later, packet_refusals}

-- that a number is one of a list is computed
abbrev pub is_one_of : ℕ → List ℕ → Bool
is_one_of number [] = false
is_one_of number (other ∷ others) = eqb number other || is_one_of number others

pub one_of : (number : ℕ) (numbers : List ℕ) → is_one_of number numbers ≡ true → OneOf number numbers
one_of number [] e = absurd (false≢true e)
one_of number (other ∷ others) e =
    ⊎_elim (λ same. subst (λ n. OneOf number (n ∷ others)) (eqb-true number other same) first) (λ rest. later (one_of number others rest))
    (or_cases (eqb number other) (is_one_of number others) e)

-- those by which a packet is malformed
pub reader-numbers : (others : List ℕ) (p : List ℕ) → RefusedBy (λ number. OneOf number (packet_refusals others)) (read_packet p)
reader-numbers others =
    let numbers = packet_refusals others in
    reader-refuses (λ number. OneOf number numbers) (one_of 1 numbers refl) (one_of 2 numbers refl) (one_of 3 numbers refl) (one_of 4 numbers refl) (one_of 5 numbers refl)

-- none of them says to send
pub reader-quiet : (p : List ℕ) → RefusedBy (λ number. says_send number ≡ false) (read_packet p)
unfolding says_send
reader-quiet = reader-refuses (λ number. says_send number ≡ false) refl refl refl refl refl
