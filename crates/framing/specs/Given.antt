-- The addresses as the code holds them.
-- Assumes nothing.
use Rattle.frames.specs.Header.{Header}
use Rattle.framing.specs.declared.Addresses.{Addresses}
use Rattle.framing.specs.Framing.{addressed}

-- The header that they make.
abbrev pub header : Addresses → Header
header a = addressed a.ethernet_to.now a.ethernet_from.now a.ip_from a.ip_to a.port_from a.port_to
