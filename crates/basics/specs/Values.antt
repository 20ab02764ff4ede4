-- A value is 16 bytes, as two big-endian halves.
-- Assumes nothing.
use Rattle.std.specs.Prelude.{ℕ, Bool, ◌&&◌, ◌==◌}
use Rattle.basics.specs.declared.Value.{Value}

abbrev pub the_value : (high low : ℕ) → Value
the_value high low = record { high = high; low = low }

-- The null value is 16 zero bytes.
abbrev pub null : Value
null = the_value 0 0

abbrev pub is_null : Value → Bool
is_null v = v.high == 0 && v.low == 0

abbrev pub same_value : Value → Value → Bool
same_value v w = v.high == w.high && v.low == w.low
