-- The ways out of a boarding at its pass, by the tests that led there.
-- Assumes nothing.
use Prim.Native.Nat.{ℕ, ◌≤◌, ◌<◌}
use mathlib.Core.Path.{◌≡◌}
use borrow.Author.Tests.{le-leb, lt-leb, lt-ltb, le-ltb}
use Rattle.basics.specs.Ladder.{need◌or◌then◌}
use Rattle.passes.specs.declared.Pass.{Pass}
use Rattle.ledger_rule.specs.Rule.{ride_taken, Taken, Refused, board_pass}

module _ (p : Pass) (day scan : ℕ) where
  pub day-past : p.last_day < day → Refused 35 ≡ board_pass p day scan
  unfolding board_pass need◌or◌then◌
  day-past late = rw (lt-leb day p.last_day late)

  module _ (in-time : day ≤ p.last_day) where
    pub scan-old : scan ≤ p.last_scan → Refused 36 ≡ board_pass p day scan
    unfolding board_pass need◌or◌then◌
    scan-old old = rw (le-leb day p.last_day in-time, le-ltb p.last_scan scan old)

    module _ (newer : p.last_scan < scan) where
      pub no-ride-left : p.rides_left < 1 → Refused 37 ≡ board_pass p day scan
      unfolding board_pass need◌or◌then◌
      no-ride-left none = rw (le-leb day p.last_day in-time, lt-ltb p.last_scan scan newer, lt-leb 1 p.rides_left none)

      pub ride-taken : 1 ≤ p.rides_left → Taken (ride_taken p scan) ≡ board_pass p day scan
      unfolding board_pass need◌or◌then◌
      ride-taken some = rw (le-leb day p.last_day in-time, lt-ltb p.last_scan scan newer, le-leb 1 p.rides_left some)
