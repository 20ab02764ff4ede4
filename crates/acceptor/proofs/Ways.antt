-- Each way out of the acceptor's step is what the definitions say, by the tests that led there.
-- Assumes nothing.
use Prim.Native.Nat.{ℕ}
use Rattle.std.specs.Prelude.{Some, None}
use mathlib.Core.Path.{◌≡◌, sym, ap, ◌∙◌}
use mathlib.Core.Bool.{Bool, true, false}
use mathlib.Core.List.{List}
use lib.ListN.{length}
use Rattle.basics.specs.declared.Verdict.{Verdict}
use Rattle.basics.specs.Outcome.{outcome, lent}
use Rattle.basics.specs.Places.{At, Nowhere, placed}
use Rattle.basics.specs.Verdict.{verdict_number}
use Rattle.basics.specs.declared.Instance.{Instance}
use Rattle.basics.proofs.Places.{placed-index}
use Rattle.messages.specs.declared.Message.{Message}
use Rattle.wire.specs.Packet.{Read, Refused, packet_length, read_packet, with_message}
use Rattle.player.specs.Step.{Ruling, unchanged, sends, ruled, act}
use Rattle.player.proofs.Steps as steps
use Rattle.quorum.specs.declared.Settings.{Settings}
use Rattle.acceptor_rule.specs.declared.Cell.{Cell}
use Rattle.acceptor_rule.specs.declared.Order.{Order}
use Rattle.acceptor_rule.specs.Rule.{order_of, obey}
use Rattle.acceptor_tables.specs.Tables.{Tables, cell_at, with_cell, acceptor_allowed, Within}
use Rattle.acceptor_tables.proofs.Laws.{Allowed, allowed-tables, index-within}
use Rattle.acceptor.specs.Acceptor.{place_of, rule_of, acceptor, acceptor_step}

-- ---- what a rule came to, stored and sent

module _ (packet : List ℕ) (t : Tables) (index : ℕ) (r : Ruling Cell) where
  pub carried-sent : (verdict : Verdict) (m : Message) (c : Cell) (left : List ℕ) (next : Tables) → r ≡ sends verdict m c → length packet ≡ packet_length
      → left ≡ with_message packet m → next ≡ with_cell t index c → outcome (verdict_number verdict) (lent left next) ≡ ruled packet t (with_cell t index) r
  carried-sent verdict m c left next r-so long left_so next-so =
      rw r-so (steps.sent packet t next (with_cell t index) verdict c next-so left m long left_so)

-- ---- the step

module _ (s : Settings) (own : ℕ) (packet : List ℕ) (t : Tables) (fine : Bool) (fine-so : fine ≡ acceptor_allowed s own t) where
  pub refused-7 : fine ≡ false → unchanged packet t 7 ≡ acceptor_step s own packet t
  unfolding acceptor_step acceptor
  refused-7 no_way = steps.refused-7 (acceptor s own) packet t fine fine-so no_way

  module _ (passed : fine ≡ true) where
    pub brings : Allowed s own t
    brings = allowed-tables s own t (sym fine-so ∙ passed)

    -- the cell of a place is within allowed tables
    pub cell-within : (i : Instance) (index : ℕ) → At index ≡ placed s.instances i → Within t index
    cell-within i index stands = index-within t index brings.sized (placed-index s.instances i index (sym stands)).1

    pub malformed : (number : ℕ) → Refused number ≡ read_packet packet → unchanged packet t number ≡ acceptor_step s own packet t
    unfolding acceptor_step acceptor
    malformed number refuses = steps.malformed (acceptor s own) packet t fine fine-so passed number refuses

    module _ (m : Message) (reads : Read m ≡ read_packet packet) where
      acted : act (acceptor s own) packet t m ≡ acceptor_step s own packet t
      unfolding acceptor_step acceptor
      acted = steps.acted (acceptor s own) packet t fine fine-so passed m reads

      pub refused-6 : None ≡ order_of m → unchanged packet t 6 ≡ acceptor_step s own packet t
      unfolding acceptor act
      refused-6 none = steps.not-placed cell_at with_cell packet t (λ c. rule_of own c (order_of m)) _ 6 (ap (place_of s.instances) none) ∙ acted

      module _ (o : Order) (orders : Some o ≡ order_of m) where
        pub nowhere : (number : ℕ) → Nowhere number ≡ placed s.instances o.instance → unchanged packet t number ≡ acceptor_step s own packet t
        unfolding acceptor act
        nowhere number no_place =
            steps.not-placed cell_at with_cell packet t (λ c. rule_of own c (order_of m)) _ number (no_place ∙ ap (place_of s.instances) orders) ∙ acted

        pub there : (index : ℕ) (c : Cell) (r : Ruling Cell) → At index ≡ placed s.instances o.instance → c ≡ cell_at t index → r ≡ obey own c o
            → ruled packet t (with_cell t index) r ≡ acceptor_step s own packet t
        unfolding acceptor act
        there index c r stands c-so r-so =
            steps.placed_at cell_at with_cell packet t (λ d. rule_of own d (order_of m)) _ index c r (stands ∙ ap (place_of s.instances) orders) c-so
            (r-so ∙ ap (rule_of own c) orders)
            ∙ acted
