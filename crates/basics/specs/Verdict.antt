-- The verdicts, and the number that stands for each where a call answers a number. Refusals keep the paper's numbers, which lie below all of these.
-- Assumes nothing.
use Rattle.std.specs.Prelude.{ℕ, Bool, false, ◌||◌, List, [], ◌∷◌, ◌==◌}
use Rattle.basics.specs.declared.Verdict.{Verdict}
use Rattle.basics.specs.declared.Verdict.TheVariants.{ToAcceptors, ToLeader, ToLearners, Hold, Decided, Done, NotYet, NoHole}

abbrev pub verdict_number : Verdict → ℕ
verdict_number ToAcceptors = 101
verdict_number ToLeader = 102
verdict_number ToLearners = 103
verdict_number Hold = 104
verdict_number Decided = 105
verdict_number Done = 106
verdict_number NotYet = 107
verdict_number NoHole = 108

-- The number stands for one of these verdicts.
abbrev pub is_one_of_these : List Verdict → (number : ℕ) → Bool
is_one_of_these [] number = false
is_one_of_these (verdict ∷ others) number = number == verdict_number verdict || is_one_of_these others number

-- To acceptors, to leader, to learners: the packet as it is at exit is to be sent.
abbrev pub sending_verdicts : List Verdict
sending_verdicts = ToAcceptors ∷ ToLeader ∷ ToLearners ∷ []

unfoldable pub says_send : (number : ℕ) → Bool
says_send = is_one_of_these sending_verdicts

-- A number that stands for a verdict. Every other answer is a refusal.
unfoldable pub is_verdict : (number : ℕ) → Bool
is_verdict = is_one_of_these (ToAcceptors ∷ ToLeader ∷ ToLearners ∷ Hold ∷ Decided ∷ Done ∷ NotYet ∷ NoHole ∷ [])
