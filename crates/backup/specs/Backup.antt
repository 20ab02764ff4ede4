-- Backup: its step and its start, by its rules at the cells of its lent tables.
-- Assumes nothing.
use Rattle.std.specs.Prelude.{ℕ, List, eqb, length}
use Rattle.basics.specs.declared.Instance.{Instance}
use Rattle.basics.specs.declared.Value.{Value}
use Rattle.basics.specs.Ladder.{need◌or◌then◌}
use Rattle.basics.specs.Outcome.{Outcome, Lent}
use Rattle.basics.specs.Places.{Place, Nowhere, placed}
use Rattle.messages.specs.declared.Message.{Message}
use Rattle.messages.specs.Message.{when_promise}
use Rattle.wire.specs.Packet.{packet_length}
use Rattle.player.specs.Step.{Ruling, refused, unchanged, Player, rule_at, step}
use Rattle.quorum.specs.declared.Settings.{Settings}
use Rattle.backup_cell.specs.declared.Cell.{Cell}
use Rattle.backup_rule.specs.Rule.{start, take_promise}
use Rattle.backup_tables.specs.Tables.{Tables, cell_at, with_cell, backup_allowed}

-- ---- the step

-- Refused by 6 if no promise, by 8 if the instance is not below N.
abbrev pub place : (N : ℕ) → Message → Place
place N = when_promise (λ sender instance round vote_round value. placed N instance) (Nowhere 6)

abbrev pub rule : (M own : ℕ) → Cell → Message → Ruling Cell
rule M own c = when_promise (take_promise M own c) (refused 6)

unfoldable pub backup : Settings → (own : ℕ) → Player Tables Cell
backup s own = record {
  allowed = backup_allowed s own;
  place = place s.instances;
  cell_at = cell_at;
  with_cell = with_cell;
  rule = rule s.acceptors own;
}

unfoldable pub backup_step : Settings → (own : ℕ) → (packet : List ℕ) → Tables → Outcome (Lent Tables)
backup_step s own = step (backup s own)

-- ---- the start

-- A start names an instance, a floor, a value and a 36-byte buffer: 7, 1, 8, 17, 16.
unfoldable pub backup_start : Settings → (own : ℕ) → Instance → (floor : ℕ) → Value → (buffer : List ℕ) → Tables → Outcome (Lent Tables)
backup_start s own instance floor value buffer t =
    need backup_allowed s own t or unchanged buffer t 7 then
    need eqb (length buffer) packet_length or unchanged buffer t 1 then
    rule_at cell_at with_cell buffer t (placed s.instances instance) λ c. start s.acceptors own c instance floor value
