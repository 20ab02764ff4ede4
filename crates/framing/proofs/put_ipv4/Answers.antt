-- `framing::put_ipv4` meets its contract: its stores leave the bytes of the IPv4 header.
-- Assumes nothing.
use Rattle.framing.proofs.Stores.{ipv4-stored}
use Rattle.framing.proofs.put_ipv4.Goals as goal

pub returns : goal.returns
returns c =
    rw (
      c.write-7.ensures,
      c.write-6.ensures,
      c.write-5.ensures,
      c.write-4.ensures,
      c.write-3.ensures,
      c.write-2.ensures,
      c.write.ensures,
    )
    (ipv4-stored c.args.frame.now c.requires c.args.from c.args.to)
