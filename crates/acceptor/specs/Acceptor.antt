-- Acceptor: its step, by its rules at the cells of its lent tables.
-- Assumes nothing.
use Rattle.std.specs.Prelude.{ℕ, Option, Some, None, List}
use Rattle.basics.specs.Outcome.{Outcome, Lent}
use Rattle.basics.specs.Places.{Place, Nowhere, placed}
use Rattle.messages.specs.declared.Message.{Message}
use Rattle.player.specs.Step.{Ruling, refused, Player, step}
use Rattle.quorum.specs.declared.Settings.{Settings}
use Rattle.acceptor_rule.specs.declared.Cell.{Cell}
use Rattle.acceptor_rule.specs.declared.Order.{Order}
use Rattle.acceptor_rule.specs.Rule.{order_of, obey}
use Rattle.acceptor_tables.specs.Tables.{Tables, cell_at, with_cell, acceptor_allowed}

-- Refused by 6 if neither prepare nor propose, by 8 if the instance is not below N.
abbrev pub place_of : (N : ℕ) → Option Order → Place
place_of N (Some o) = placed N o.instance
place_of N None = Nowhere 6

abbrev pub rule_of : (own : ℕ) → Cell → Option Order → Ruling Cell
rule_of own c (Some o) = obey own c o
rule_of own c None = refused 6

abbrev pub place : (N : ℕ) → Message → Place
place N m = place_of N (order_of m)

abbrev pub rule : (own : ℕ) → Cell → Message → Ruling Cell
rule own c m = rule_of own c (order_of m)

unfoldable pub acceptor : Settings → (own : ℕ) → Player Tables Cell
acceptor s own = record {
  allowed = acceptor_allowed s own;
  place = place s.instances;
  cell_at = cell_at;
  with_cell = with_cell;
  rule = rule own;
}

unfoldable pub acceptor_step : Settings → (own : ℕ) → (packet : List ℕ) → Tables → Outcome (Lent Tables)
acceptor_step s own = step (acceptor s own)
