-- `framing::put_address` meets its contract: an address is stored as a number of four bytes and one of two.
-- Assumes nothing.
use Rattle.std.proofs.Common.{arith, rules}
use Rattle.framing.proofs.Stores.{address-stored}
use Rattle.framing.proofs.put_address.Goals as goal

pub returns : goal.returns
returns c =
    rw (c.write-2.ensures, c.read-2.ensures, c.write.ensures, c.read.ensures)
    (address-stored c.args.frame.now c.args.at c.args.address.now c.requires (search rules)
    (λ i. search (arith, rules)))
