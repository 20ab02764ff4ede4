-- `bench_lines::hex_in` meets its contract. The invariant: all are digits if those that are left are, and what is written, and what the digits that are left
-- stand for, are the bytes of all.
-- Assumes nothing.
use lib.ListN.{length, drop}
use Prim.Native.Nat.{◌*◌}
use mathlib.Core.Path.{◌≡◌}
use Rattle.bench_lines.proofs.Digits.{written_to}
use Rattle.bench_lines.specs.Line.{are_digits, bytes_of}
use Rattle.bench_lines.proofs.hex_in.Given as goal

abbrev pub invariant-loop-index : goal.invariant-loop-index
invariant-loop-index g l = record {
  as_long : length l.bytes ≡ g.row.N;
  digits : are_digits 16 l.text ≡ are_digits 16 (drop (2 * l.index) l.text);
  bytes : bytes_of l.text ≡ written_to l.text l.bytes l.index;
}
