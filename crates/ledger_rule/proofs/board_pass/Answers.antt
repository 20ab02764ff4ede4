-- `ledger_rule::board_pass` meets its contract: each return is a way out of a boarding at its pass.
-- Assumes nothing.
use Rattle.ledger_rule.proofs.Ways.{day-past, scan-old, no-ride-left, ride-taken}
use Rattle.ledger_rule.proofs.board_pass.Goals as goal

pub returns-then-pass-day : goal.returns-then-pass-day
returns-then-pass-day c = day-past _ _ _ c.if-pass-day.true

pub returns-then-scan-pass : goal.returns-then-scan-pass
returns-then-scan-pass c = scan-old _ _ _ c.if-pass-day.false c.if-scan-pass.true

pub returns-then-pass-lt1 : goal.returns-then-pass-lt1
returns-then-pass-lt1 c =
    no-ride-left _ _ _ c.if-pass-day.false c.if-scan-pass.false c.if-pass-lt1.true

pub returns : goal.returns
returns c =
    ride-taken _ _ _ c.if-pass-day.false c.if-scan-pass.false c.if-pass-lt1.false
