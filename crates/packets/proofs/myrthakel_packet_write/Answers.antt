-- `packets::myrthakel_packet_write` meets its contract: each refusal is a way out of `packet_write`, and past them the fields are written as by every writer.
-- Assumes nothing.
use mathlib.Core.Path.{◌∙◌}
use Rattle.packets.proofs.Ways.{write-1, write-4, write-5, written}
use Rattle.packets.proofs.myrthakel_packet_write.Goals as goal

pub returns-then-packet-ne-PACKET_LENGTH : goal.returns-then-packet-ne-PACKET_LENGTH
returns-then-packet-ne-PACKET_LENGTH c = write-1 _ _ c.if-packet-ne-PACKET_LENGTH.true

pub returns-then-kind-gt-LAST_KIND : goal.returns-then-kind-gt-LAST_KIND
returns-then-kind-gt-LAST_KIND c = write-4 _ _ c.if-packet-ne-PACKET_LENGTH.false c.if-kind-gt-LAST_KIND.true

pub returns-then-switch_number-gt-LAST_SWITCH : goal.returns-then-switch_number-gt-LAST_SWITCH
returns-then-switch_number-gt-LAST_SWITCH c = write-5 _ _ c.if-packet-ne-PACKET_LENGTH.false c.if-kind-gt-LAST_KIND.false c.if-switch_number-gt-LAST_SWITCH.true

pub returns : goal.returns
returns c =
    rw c.answer_number.ensures
    (c.write_fields.ensures ∙ written _ _ c.if-packet-ne-PACKET_LENGTH.false c.if-kind-gt-LAST_KIND.false c.if-switch_number-gt-LAST_SWITCH.false)
