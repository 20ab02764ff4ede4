-- The header fields of a frame that are free, and the frame of such fields and a packet.
-- Assumes nothing.
use Rattle.std.specs.Prelude.{ℕ, ◌*◌, ◌/◌, ◌^◌, ◌<◌, ◌≡◌, List, [], ◌∷◌, ◌++◌, length, get_or}
use Rattle.numbers.specs.BigEndian.{to_bytes, bytes_at, number_at, Bytes}
use Rattle.frames.specs.Frame.{ether_type, first_byte, total_length, udp_length, protocol, sealed}

-- An Ethernet address is six bytes. Flags are the reserved bit and don't-fragment: what is above the low 14 bits of bytes 20-21.
pub record Header : Type 0 where
  pub ethernet_to : List ℕ
  pub ethernet_from : List ℕ
  pub service : ℕ
  pub identification : ℕ
  pub flags : ℕ
  pub time_to_live : ℕ
  pub ip_from : ℕ
  pub ip_to : ℕ
  pub port_from : ℕ
  pub port_to : ℕ

-- The fields where they stand.
unfoldable pub header_in : (frame : List ℕ) → Header
header_in f = record {
  ethernet_to = bytes_at f 0 6;
  ethernet_from = bytes_at f 6 6;
  service = get_or f 15 0;
  identification = number_at f 18 2;
  flags = number_at f 20 2 / 16384;
  time_to_live = get_or f 22 0;
  ip_from = number_at f 26 4;
  ip_to = number_at f 30 4;
  port_from = number_at f 34 2;
  port_to = number_at f 36 2;
}

-- The bytes of the three headers, each checksum left zero.
abbrev pub ethernet_bytes : (to from : List ℕ) → List ℕ
ethernet_bytes to from = to ++ from ++ to_bytes 2 ether_type

abbrev pub ipv4_bytes : (service identification flags time_to_live from to : ℕ) → List ℕ
ipv4_bytes service identification flags time_to_live from to =
    (first_byte ∷ service ∷ []) ++ to_bytes 2 total_length ++ to_bytes 2 identification ++ to_bytes 2 (flags * 16384) ++ (time_to_live ∷ protocol ∷ [])
    ++ to_bytes 2 0 ++ to_bytes 4 from ++ to_bytes 4 to

abbrev pub udp_bytes : (from to : ℕ) → List ℕ
udp_bytes from to = to_bytes 2 from ++ to_bytes 2 to ++ to_bytes 2 udp_length ++ to_bytes 2 0

abbrev pub header_bytes : Header → List ℕ
header_bytes h =
    ethernet_bytes h.ethernet_to h.ethernet_from ++ ipv4_bytes h.service h.identification h.flags h.time_to_live h.ip_from h.ip_to
    ++ udp_bytes h.port_from h.port_to

-- The frame of a header and a packet.
unfoldable pub frame_of : Header → (packet : List ℕ) → List ℕ
frame_of h p = sealed (header_bytes h ++ p)

-- Each field fits where it stands.
pub record Fitting (h : Header) : Type 0 where
  pub to_long : length h.ethernet_to ≡ 6
  pub to_is_bytes : Bytes h.ethernet_to
  pub from_long : length h.ethernet_from ≡ 6
  pub from_bytes : Bytes h.ethernet_from
  pub service_fits : h.service < 2 ^ 8
  pub identification_fits : h.identification < 2 ^ 16
  pub flags_fit : h.flags < 2 ^ 2
  pub time_to_live_fits : h.time_to_live < 2 ^ 8
  pub ip_from_fits : h.ip_from < 2 ^ 32
  pub ip_to_fits : h.ip_to < 2 ^ 32
  pub port_from_fits : h.port_from < 2 ^ 16
  pub port_to_fits : h.port_to < 2 ^ 16
