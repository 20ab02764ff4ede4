-- Values whose halves are numbers of 64 bits, as every value of the code is.
-- Assumes nothing.
use Rattle.std.proofs.Common.{◌^◌, ◌<◌}
use Rattle.basics.specs.declared.Value.{Value}

pub record ValueFits (v : Value) : Type 0 where
  pub high_fits : v.high < 2 ^ 64
  pub low_fits : v.low < 2 ^ 64
