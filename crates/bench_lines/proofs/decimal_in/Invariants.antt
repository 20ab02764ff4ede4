-- `bench_lines::decimal_in` meets its contract. The invariant: all are digits if those that are left are, the number goes on to the whole one, and so many
-- digits leave it below that power of ten.
-- Assumes nothing.
use lib.ListN.{drop}
use Prim.Native.Nat.{◌^◌, ◌<◌}
use mathlib.Core.Path.{◌≡◌}
use Rattle.bench_lines.specs.Line.{are_digits, number_from, number_of}
use Rattle.bench_lines.proofs.decimal_in.Given as goal

abbrev pub invariant-loop-byte : goal.invariant-loop-byte
invariant-loop-byte l = record {
  digits : are_digits 10 l.text ≡ are_digits 10 (drop l.byte-index l.text);
  goes_on : number_of l.text ≡ number_from l.number (drop l.byte-index l.text);
  below : l.number < 10 ^ l.byte-index;
}
