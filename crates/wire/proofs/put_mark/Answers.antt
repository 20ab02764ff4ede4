-- `wire::put_mark` meets its contract: mark and kind are stored as one number.
-- Assumes nothing.
use mathlib.Core.Path.{◌∙◌}
use native.Mathlib.Omega.{arith}
use Rattle.wire.proofs.Mark.{mark-stored}
use Rattle.wire.proofs.put_mark.Goals as goal

pub returns : goal.returns
returns c =
    c.write.ensures ∙ mark-stored c.args.packet.now c.args.kind (omega arith) c.requires
