-- The ways out of the functions that judge lines: each step, as it came out, picks the definition's line.
-- Assumes nothing.
use Prim.Native.Nat.{ℕ}
use mathlib.Core.Path.{◌≡◌, sym, ◌∙◌}
use mathlib.Core.List.{List}
use lib.ListN.{length, get_or}
use Rattle.std.specs.Prelude.{Option, Some, None}
use Rattle.basics.proofs.Ladder.{need-passed, need-failed}
use Rattle.bench_lines.specs.declared.Player.{Player}
use Rattle.bench_lines.specs.declared.Command.{Command}
use Rattle.bench_lines.specs.declared.Command.TheVariants.{Packet, Start}
use Rattle.bench_lines.specs.Line.{first_word, rest_of, hex_in, decimal_in, value_from, number_within, player_of, start_with, start_of, command_for, command_of}
use Rattle.bench_lines.proofs.Digits.{hex-none, hex-some, decimal-none, decimal-some}
use Rattle.bench_lines.proofs.Names.{numbered-false, numbered-none, numbered-some}

-- ---- a start

pub start-words : (name rest : List ℕ) {instance behind floor value : List ℕ} {asked : Option Command} → instance ≡ first_word rest → behind ≡ rest_of rest
    → floor ≡ first_word behind → value ≡ rest_of behind → asked ≡ start_with name instance floor value → asked ≡ start_of name rest
unfolding start_of
start-words name rest instance-so behind-so floor-so value-so so =
    so ∙ rw (value-so, floor-so, behind-so, instance-so)

module _ (name instance floor value : List ℕ) where
  pub no-starter : (length name ≡ 2 → get_or name 0 0 ≡ 115 → ⊥) → None ≡ start_with name instance floor value
  unfolding start_with
  no-starter other = sym (need-failed _ _ (numbered-false 115 name 1 3 other))

  module _ (two : length name ≡ 2) (s : get_or name 0 0 ≡ 115) where
    pub no-number : None ≡ number_within 1 3 (get_or name 1 0) → None ≡ start_with name instance floor value
    unfolding start_with
    no-number none = sym (need-failed _ _ (numbered-none 115 name 1 3 two s none))

    module _ (own : ℕ) (own-so : Some own ≡ number_within 1 3 (get_or name 1 0)) where
      pub no-instance : None ≡ decimal_in instance → None ≡ start_with name instance floor value
      unfolding start_with
      no-instance none =
          sym (need-passed _ _ (numbered-some 115 name 1 3 two s own own-so).0 ∙ need-failed _ _ (decimal-none instance none))

      module _ (first : ℕ) (first-so : Some first ≡ decimal_in instance) where
        pub no-floor : None ≡ decimal_in floor → None ≡ start_with name instance floor value
        unfolding start_with
        no-floor none =
            sym (need-passed _ _ (numbered-some 115 name 1 3 two s own own-so).0 ∙ need-passed _ _ (decimal-some instance first first-so).0
            ∙ need-failed _ _ (decimal-none floor none))

        module _ (least : ℕ) (least-so : Some least ≡ decimal_in floor) where
          pub no_value : None ≡ hex_in 16 value → None ≡ start_with name instance floor value
          unfolding start_with
          no_value none =
              sym (need-passed _ _ (numbered-some 115 name 1 3 two s own own-so).0 ∙ need-passed _ _ (decimal-some instance first first-so).0
              ∙ need-passed _ _ (decimal-some floor least least-so).0 ∙ need-failed _ _ (hex-none 16 value none))

          pub starts : (bytes : List ℕ) → Some bytes ≡ hex_in 16 value → Some (Start own first least (value_from bytes)) ≡ start_with name instance floor value
          unfolding start_with
          starts bytes bytes-so =
              let starter = numbered-some 115 name 1 3 two s own own-so in
              let an-instance = decimal-some instance first first-so in
              let a-floor = decimal-some floor least least-so in
              let a-value = hex-some 16 value bytes bytes-so in
              rw (starter.1, an-instance.1, a-floor.1, a-value.1)
              (sym (need-passed _ _ starter.0 ∙ need-passed _ _ an-instance.0 ∙ need-passed _ _ a-floor.0 ∙ need-passed _ _ a-value.0))

pub no-start : (name rest : List ℕ) → (length name ≡ 2 → get_or name 0 0 ≡ 115 → ⊥) → None ≡ start_of name rest
unfolding start_of
no-start name rest other = no-starter name _ _ _ other

-- ---- a line

module _ (line name rest : List ℕ) (name-so : name ≡ first_word line) (rest-so : rest ≡ rest_of line) where
  module _ (player : Player) (player-so : Some player ≡ player_of name) where
    pub no-packet : None ≡ hex_in 36 rest → None ≡ command_of line
    unfolding command_of command_for
    no-packet none = rw (← name-so, ← rest-so, ← player-so) (sym (need-failed _ _ (hex-none 36 rest none)))

    pub packet-taken : (packet : List ℕ) → Some packet ≡ hex_in 36 rest → Some (Packet player packet) ≡ command_of line
    unfolding command_of command_for
    packet-taken packet packet-so =
        let so = hex-some 36 rest packet packet-so in
        rw (so.1, ← name-so, ← rest-so, ← player-so) (sym (need-passed _ _ so.0))

  pub line-starts : None ≡ player_of name → (asked : Option Command) → asked ≡ start_of name rest → asked ≡ command_of line
  unfolding command_of command_for
  line-starts none asked asked-so = asked-so ∙ rw (← name-so, ← rest-so, ← none)
