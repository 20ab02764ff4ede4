-- Framing a started prepare, which has come in no frame, is a call of its own, given addresses and ports.
-- Assumes nothing.
use Rattle.std.specs.Prelude.{ℕ, List, eqb, length}
use Rattle.basics.specs.declared.Verdict.TheVariants.{Done}
use Rattle.basics.specs.Ladder.{need◌or◌then◌}
use Rattle.basics.specs.Outcome.{Outcome, outcome}
use Rattle.basics.specs.Verdict.{verdict_number}
use Rattle.messages.specs.Message.{when_prepare}
use Rattle.wire.specs.Packet.{Reading, Read, Refused, read_packet}
use Rattle.frames.specs.Frame.{frame_length}
use Rattle.frames.specs.Header.{Header, frame_of}

-- Time to live 64, other free IPv4 fields zero.
abbrev pub addressed : (ethernet_to ethernet_from : List ℕ) → (ip_from ip_to port_from port_to : ℕ) → Header
addressed ethernet_to ethernet_from ip_from ip_to port_from port_to = record {
  ethernet_to = ethernet_to;
  ethernet_from = ethernet_from;
  service = 0;
  identification = 0;
  flags = 0;
  time_to_live = 64;
  ip_from = ip_from;
  ip_to = ip_to;
  port_from = port_from;
  port_to = port_to;
}

-- What a reading leaves of the buffer: refused by its number, by 6 unless it is a prepare, and then the buffer by 21.
unfoldable pub prepare_framed : Header → (packet frame : List ℕ) → Reading → Outcome (List ℕ)
prepare_framed h p f (Read m) =
    when_prepare (λ instance round. need eqb (length f) frame_length or outcome 21 f then outcome (verdict_number Done) (frame_of h p)) (outcome 6 f) m
prepare_framed h p f (Refused number) = outcome number f

-- Framing a started prepare: the packet refused by 1 to 6, then the buffer by 21.
unfoldable pub frame_prepare : Header → (packet frame : List ℕ) → Outcome (List ℕ)
frame_prepare h p f = prepare_framed h p f (read_packet p)
