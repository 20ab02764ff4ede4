-- The refusals, and the paper's number for each.
-- Assumes nothing.
use Rattle.std.specs.Prelude.{ℕ}
use Rattle.basics.specs.declared.Refusal.{Refusal}
use Rattle.basics.specs.declared.Refusal.TheVariants as refusal

abbrev pub refusal_number : Refusal → ℕ
refusal_number refusal.WrongLength = 1
refusal_number refusal.WrongMark = 2
refusal_number refusal.WrongVersion = 3
refusal_number refusal.UnknownType = 4
refusal_number refusal.BrokenField = 5
refusal_number refusal.WrongKind = 6
refusal_number refusal.NotAllowed = 7
refusal_number refusal.InstanceBeyond = 8
refusal_number refusal.SenderBeyond = 9
refusal_number refusal.RoundBelow = 10
refusal_number refusal.NotAsked = 11
refusal_number refusal.NoInstanceLeft = 12
refusal_number refusal.OtherValue = 13
refusal_number refusal.AlreadyDecided = 14
refusal_number refusal.AlreadyCounted = 15
refusal_number refusal.NoRoundLeft = 16
refusal_number refusal.ImpossibleCell = 17
refusal_number refusal.WrongFrameLength = 21
refusal_number refusal.WrongFrameHeader = 22
refusal_number refusal.WrongIpv4Checksum = 23
refusal_number refusal.WrongUdpHeader = 24
refusal_number refusal.WrongUdpChecksum = 25
refusal_number refusal.UnsoundLedger = 30
refusal_number refusal.MalformedEntry = 31
refusal_number refusal.PassExists = 32
refusal_number refusal.LedgerFull = 33
refusal_number refusal.UnknownPass = 34
refusal_number refusal.DayPast = 35
refusal_number refusal.ScanNotNewer = 36
refusal_number refusal.NoRideLeft = 37
