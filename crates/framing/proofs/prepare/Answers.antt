-- `framing::prepare` meets its contract: each return is a way out of `frame_prepare`.
-- Assumes nothing.
use Rattle.std.proofs.Common.{arith, rules, sym}
use Rattle.basics.proofs.Answer.{passed-on}
use Rattle.wire.proofs.Laws.{read_length}
use Rattle.wire.proofs.RoundTrip.{read-packet-of}
use Rattle.framing.proofs.Ways.{malformed, refused-6, refused-21, framed, built}
use Rattle.framing.proofs.prepare.Goals as goal

pub returns-in_err-message : goal.returns-in_err-message
returns-in_err-message c = rw (passed-on _ _ c.from_residual.ensures) (malformed _ _ _ _ c.in_err-message.ensures)

pub returns-in_default : goal.returns-in_default
returns-in_default c = refused-6 _ _ _ _ c.in_ok-message.ensures c.in_default.not-Prepare

pub returns-then-frame-ne-FRAME_LENGTH : goal.returns-then-frame-ne-FRAME_LENGTH
returns-then-frame-ne-FRAME_LENGTH c = refused-21 _ _ _ _ c.in_ok-message.ensures _ _ c.in-Prepare.is c.if-frame-ne-FRAME_LENGTH.true

pub returns : goal.returns
returns c =
    framed _ _ _ _ c.in_ok-message.ensures _ _ c.in-Prepare.is _ c.if-frame-ne-FRAME_LENGTH.false
    (built _ c.args.addresses.now.ethernet_to.now c.args.addresses.now.ethernet_from.now _ _ _ _ c.if-frame-ne-FRAME_LENGTH.false c.put_ethernet.ensures.long.0 c.put_ethernet.ensures.long.1
    _ _ _ _ _ _ _ (read-packet-of _ _ (λ i. search (arith, rules)) (sym c.in_ok-message.ensures)) (read_length _ _ (sym c.in_ok-message.ensures))
    c.put_ethernet.ensures.stored c.put_ipv4.ensures c.put_udp.ensures c.put_message.ensures c.set_checksums.ensures)
