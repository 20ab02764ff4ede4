-- What is promised of majorities and sets: two majorities share an acceptor, and a set's count of ones is its number of distinct acceptors. All is said once, over M.
-- Assumes nothing.
use Rattle.std.specs.Prelude.{◌≡◌, true, List, ◌↔◌, ℕ, ◌+◌, ◌*◌, ◌≤◌, ◌<◌, length}
use Rattle.quorum.specs.Quorum.{majority, Member, within, size, reaches, Quorum, Shared}
use Rattle.quorum.specs.Voters.{Mem, Distinct, Names, sender_set, DistinctSenders}

-- ---- majorities

-- Majority is 2, 3 and 4 of 3, 5 and 7.
abbrev pub Majorities : Type 0
Majorities = (majority 3 ≡ 2) × (majority 5 ≡ 3) × (majority 7 ≡ 4)

-- As many as majority are more than half, and as many as are more than half are majority.
abbrev pub MajorityIff : Type 0
MajorityIff = (acceptors count : ℕ) → (acceptors < 2 * count) ↔ (majority acceptors ≤ count)

-- Two sets within M whose sizes add up to more than M share an acceptor.
abbrev pub Share : Type 0
Share = (acceptors first second : ℕ) → within acceptors first ≡ true → within acceptors second ≡ true → acceptors < size first + size second → Shared first second

-- Two sets within M that both reach majority share an acceptor: for all M and any two sets.
abbrev pub QuorumsShare : (acceptors first second : ℕ) → Type 0
QuorumsShare acceptors first second = Quorum acceptors first → Quorum acceptors second → Shared first second

-- ---- distinct voters

-- A list that names the members of a set, and a set whose members a list names.
pub record Listed (acceptors set : ℕ) : Type 0 where
  pub voters : List ℕ
  pub names : Names acceptors set voters

pub record SetOf (acceptors : ℕ) (voters : List ℕ) : Type 0 where
  pub set : ℕ
  pub names : Names acceptors set voters

-- Every set within M has a list of its members, each once, as long as its size.
abbrev pub SetIsListed : Type 0
SetIsListed = (acceptors set : ℕ) → within acceptors set ≡ true → Listed acceptors set

-- Every list of distinct acceptors has a set.
abbrev pub ListHasSet : Type 0
ListHasSet = (acceptors : ℕ) (voters : List ℕ) → Distinct voters → ((voter : ℕ) → Mem voter voters → voter < acceptors) → SetOf acceptors voters

-- Whatever list has exactly the members of a set within M, each once, is as long as the set's size says.
abbrev pub ExactList : Type 0
ExactList = (acceptors set : ℕ) (voters : List ℕ) → within acceptors set ≡ true → Distinct voters → ((voter : ℕ) → Mem voter voters ↔ Member voter set)
    → Names acceptors set voters

-- The voters are more than half of the acceptors exactly when their set is within M and reaches majority: for all M, sets and lists.
abbrev pub HalfIff : (acceptors set : ℕ) → (voters : List ℕ) → Type 0
HalfIff acceptors set voters = Names acceptors set voters → (acceptors < 2 * length voters) ↔ Quorum acceptors set

-- The set of a list's senders, each below M, reaches a threshold exactly when so many distinct senders stand in the list.
abbrev pub SendersReach : Type 0
SendersReach = (acceptors : ℕ) → acceptors ≤ 8 → (senders : List ℕ) → ((sender : ℕ) → Mem sender senders → sender < acceptors) → (threshold : ℕ)
    → (reaches threshold (sender_set senders) ≡ true) ↔ DistinctSenders threshold senders
