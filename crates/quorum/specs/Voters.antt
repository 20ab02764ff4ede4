-- Lists of distinct voters, and the sets that they make up.
-- Assumes nothing.
use Rattle.std.specs.Prelude.{◌≡◌, true, List, [], ◌∷◌, ◌↔◌, ℕ, ◌≤◌, ◌<◌, length}
use Rattle.quorum.specs.Quorum.{Member, with_member, within, size}

-- The entry stands in the list.
pub data Mem {A : Type 0} (entry : A) : List A → Type 0 where
  newest : {first : A} {others : List A} → entry ≡ first → Mem entry (first ∷ others)
  older : {first : A} {others : List A} → Mem entry others → Mem entry (first ∷ others)

-- No number stands twice in the list.
abbrev pub Distinct : List ℕ → Type 0
Distinct [] = Unit {0}
Distinct (voter ∷ others) = (Mem voter others → ⊥) × Distinct others

-- The list names the members of a set within M, each once: there are as many as the set's size says.
pub record Names (acceptors set : ℕ) (voters : List ℕ) : Type 0 where
  pub inside : within acceptors set ≡ true
  pub distinct : Distinct voters
  pub known : (voter : ℕ) → Mem voter voters → voter < acceptors
  pub members : (voter : ℕ) → Mem voter voters ↔ Member voter set
  pub count : length voters ≡ size set

-- The set of a list's distinct senders: each is in it once, however often it stands in the list.
unfoldable pub sender_set : (senders : List ℕ) → ℕ
sender_set [] = 0
sender_set (sender ∷ others) = with_member (sender_set others) sender

-- At least so many distinct senders stand in the list.
pub record DistinctSenders (threshold : ℕ) (senders : List ℕ) : Type 0 where
  pub chosen : List ℕ
  pub distinct : Distinct chosen
  pub stand : (sender : ℕ) → Mem sender chosen → Mem sender senders
  pub enough : threshold ≤ length chosen
