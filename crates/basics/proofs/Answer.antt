-- Laws of answers: a refusal is known by its number, for each number is one refusal's; and it is no verdict's, so that an answer is known by its number; and the `?` passes a refusal on as it is.
-- Assumes nothing.
use Rattle.std.proofs.Common.{◌≡◌, ℕ, ◌<◌, ◌≤◌, arith, Result, Ok, Err, eqb, sym, refl, ap, ◌∙◌}
use Rattle.std.specs.Result.{IsErr, IsErrAnd}
use Rattle.basics.specs.declared.Refusal.{Refusal}
use Rattle.basics.specs.declared.Refusal.TheVariants as refusal
use Rattle.basics.specs.declared.Verdict.{Verdict}
use Rattle.basics.specs.declared.Verdict.TheVariants as verdict
use Rattle.basics.specs.Ladder.{when◌then◌else◌}
use Rattle.basics.specs.Answer.{answer_number}
use Rattle.basics.specs.Refusal.{refusal_number}
use Rattle.basics.specs.Verdict.{verdict_number}

-- the refusal that has the number
pub refusal-by-number : ℕ → Refusal
unfolding when◌then◌else◌
refusal-by-number n =
    when eqb n 1 then refusal.WrongLength else
    when eqb n 2 then refusal.WrongMark else
    when eqb n 3 then refusal.WrongVersion else
    when eqb n 4 then refusal.UnknownType else
    when eqb n 5 then refusal.BrokenField else
    when eqb n 6 then refusal.WrongKind else
    when eqb n 7 then refusal.NotAllowed else
    when eqb n 8 then refusal.InstanceBeyond else
    when eqb n 9 then refusal.SenderBeyond else
    when eqb n 10 then refusal.RoundBelow else
    when eqb n 11 then refusal.NotAsked else
    when eqb n 12 then refusal.NoInstanceLeft else
    when eqb n 13 then refusal.OtherValue else
    when eqb n 14 then refusal.AlreadyDecided else
    when eqb n 15 then refusal.AlreadyCounted else
    when eqb n 16 then refusal.NoRoundLeft else
    when eqb n 17 then refusal.ImpossibleCell else
    when eqb n 21 then refusal.WrongFrameLength else
    when eqb n 22 then refusal.WrongFrameHeader else
    when eqb n 23 then refusal.WrongIpv4Checksum else
    when eqb n 24 then refusal.WrongUdpHeader else
    when eqb n 25 then refusal.WrongUdpChecksum else
    when eqb n 30 then refusal.UnsoundLedger else
    when eqb n 31 then refusal.MalformedEntry else
    when eqb n 32 then refusal.PassExists else
    when eqb n 33 then refusal.LedgerFull else
    when eqb n 34 then refusal.UnknownPass else
    when eqb n 35 then refusal.DayPast else
    when eqb n 36 then refusal.ScanNotNewer else
    refusal.NoRideLeft

pub by-number : (r : Refusal) → refusal-by-number (refusal_number r) ≡ r
unfolding when◌then◌else◌ refusal-by-number
by-number refusal.WrongLength = refl
by-number refusal.WrongMark = refl
by-number refusal.WrongVersion = refl
by-number refusal.UnknownType = refl
by-number refusal.BrokenField = refl
by-number refusal.WrongKind = refl
by-number refusal.NotAllowed = refl
by-number refusal.InstanceBeyond = refl
by-number refusal.SenderBeyond = refl
by-number refusal.RoundBelow = refl
by-number refusal.NotAsked = refl
by-number refusal.NoInstanceLeft = refl
by-number refusal.OtherValue = refl
by-number refusal.AlreadyDecided = refl
by-number refusal.AlreadyCounted = refl
by-number refusal.NoRoundLeft = refl
by-number refusal.ImpossibleCell = refl
by-number refusal.WrongFrameLength = refl
by-number refusal.WrongFrameHeader = refl
by-number refusal.WrongIpv4Checksum = refl
by-number refusal.WrongUdpHeader = refl
by-number refusal.WrongUdpChecksum = refl
by-number refusal.UnsoundLedger = refl
by-number refusal.MalformedEntry = refl
by-number refusal.PassExists = refl
by-number refusal.LedgerFull = refl
by-number refusal.UnknownPass = refl
by-number refusal.DayPast = refl
by-number refusal.ScanNotNewer = refl
by-number refusal.NoRideLeft = refl

pub refusal-known : (one other : Refusal) → refusal_number one ≡ refusal_number other → one ≡ other
refusal-known one other same = sym (by-number one) ∙ ap refusal-by-number same ∙ by-number other

-- what a `?` gives back where its value is a refusal, of which its clause says so much
pub passed-on : {T : Type 0} (answer : Result T Refusal) (r : Refusal) → IsErr answer × IsErrAnd answer (λ other. other ≡ r) → answer ≡ Err r
passed-on (Ok value) r told = absurd told.1
passed-on (Err other) r told = ap Err told.1

-- a refusal's number lies below every verdict's
pub refusal-below : (r : Refusal) → refusal_number r < 101
refusal-below refusal.WrongLength = omega arith
refusal-below refusal.WrongMark = omega arith
refusal-below refusal.WrongVersion = omega arith
refusal-below refusal.UnknownType = omega arith
refusal-below refusal.BrokenField = omega arith
refusal-below refusal.WrongKind = omega arith
refusal-below refusal.NotAllowed = omega arith
refusal-below refusal.InstanceBeyond = omega arith
refusal-below refusal.SenderBeyond = omega arith
refusal-below refusal.RoundBelow = omega arith
refusal-below refusal.NotAsked = omega arith
refusal-below refusal.NoInstanceLeft = omega arith
refusal-below refusal.OtherValue = omega arith
refusal-below refusal.AlreadyDecided = omega arith
refusal-below refusal.AlreadyCounted = omega arith
refusal-below refusal.NoRoundLeft = omega arith
refusal-below refusal.ImpossibleCell = omega arith
refusal-below refusal.WrongFrameLength = omega arith
refusal-below refusal.WrongFrameHeader = omega arith
refusal-below refusal.WrongIpv4Checksum = omega arith
refusal-below refusal.WrongUdpHeader = omega arith
refusal-below refusal.WrongUdpChecksum = omega arith
refusal-below refusal.UnsoundLedger = omega arith
refusal-below refusal.MalformedEntry = omega arith
refusal-below refusal.PassExists = omega arith
refusal-below refusal.LedgerFull = omega arith
refusal-below refusal.UnknownPass = omega arith
refusal-below refusal.DayPast = omega arith
refusal-below refusal.ScanNotNewer = omega arith
refusal-below refusal.NoRideLeft = omega arith

pub verdict-above : (v : Verdict) → 101 ≤ verdict_number v
verdict-above verdict.ToAcceptors = omega arith
verdict-above verdict.ToLeader = omega arith
verdict-above verdict.ToLearners = omega arith
verdict-above verdict.Hold = omega arith
verdict-above verdict.Decided = omega arith
verdict-above verdict.Done = omega arith
verdict-above verdict.NotYet = omega arith
verdict-above verdict.NoHole = omega arith

-- the verdict that has the number
verdict-by-number : ℕ → Verdict
unfolding when◌then◌else◌
verdict-by-number n =
    when eqb n 101 then verdict.ToAcceptors else
    when eqb n 102 then verdict.ToLeader else
    when eqb n 103 then verdict.ToLearners else
    when eqb n 104 then verdict.Hold else
    when eqb n 105 then verdict.Decided else
    when eqb n 106 then verdict.Done else
    when eqb n 107 then verdict.NotYet else
    verdict.NoHole

verdict-back : (v : Verdict) → verdict-by-number (verdict_number v) ≡ v
unfolding when◌then◌else◌ verdict-by-number
verdict-back verdict.ToAcceptors = refl
verdict-back verdict.ToLeader = refl
verdict-back verdict.ToLearners = refl
verdict-back verdict.Hold = refl
verdict-back verdict.Decided = refl
verdict-back verdict.Done = refl
verdict-back verdict.NotYet = refl
verdict-back verdict.NoHole = refl

-- and so an answer is known by its number
pub answer-known : (one other : Result Verdict Refusal) → answer_number one ≡ answer_number other → one ≡ other
answer-known (Ok v) (Ok w) same = ap Ok (sym (verdict-back v) ∙ ap verdict-by-number same ∙ verdict-back w)
answer-known (Ok v) (Err r) same = absurd (omega (arith, verdict-above v, refusal-below r, same))
answer-known (Err r) (Ok v) same = absurd (omega (arith, verdict-above v, refusal-below r, same))
answer-known (Err r) (Err other) same = ap Err (refusal-known r other same)
