-- What is promised of every call, stated once for all players.
-- Assumes nothing.
use Rattle.std.specs.Prelude.{ℕ, ◌≡◌, Bool, true, false, List, ◌∷◌}
use Rattle.numbers.specs.BigEndian.{Bytes}
use Rattle.basics.specs.Places.{At}
use Rattle.basics.specs.Verdict.{is_verdict, says_send}
use Rattle.basics.specs.Outcome.{Outcome, outcome, Lent, lent}
use Rattle.messages.specs.declared.Message.{Message}
use Rattle.wire.specs.Packet.{Read, read_packet, Kept}
use Rattle.player.specs.Step.{unchanged, Player}

-- A call on a packet, or on a buffer for one, and on lent tables.
abbrev pub Call : Type 0 → Type 0
Call Tables = (packet : List ℕ) → Tables → Outcome (Lent Tables)

-- The number is one of the list.
pub data OneOf (number : ℕ) : List ℕ → Type 0 where
  first : {others : List ℕ} → OneOf number (number ∷ others)
  later : {other : ℕ} {others : List ℕ} → OneOf number others → OneOf number (other ∷ others)

-- The order for a packet begins with these, for every player.
abbrev pub packet_refusals : (others : List ℕ) → List ℕ
packet_refusals others = 7 ∷ 1 ∷ 2 ∷ 3 ∷ 4 ∷ 5 ∷ 6 ∷ others

-- An outcome that is a refusal by one of the numbers, with packet and tables as they came, or has one of the verdicts.
pub data ActsOrRefuses {Tables : Type 0} (refusals verdicts : List ℕ) (packet : List ℕ) (tables : Tables) : Outcome (Lent Tables) → Type 0 where
  refuses : {number : ℕ} → OneOf number refusals → ActsOrRefuses refusals verdicts packet tables (unchanged packet tables number)
  acts : {verdict : ℕ} {left : List ℕ} {next : Tables} → OneOf verdict verdicts → ActsOrRefuses refusals verdicts packet tables (outcome verdict (lent left next))

-- The packet's message has its cell at the index.
pub record UsesCell {Tables Cell : Type 0} (player : Player Tables Cell) (packet : List ℕ) (index : ℕ) : Type 0 where
  pub message : Message
  pub reads : read_packet packet ≡ Read message
  pub stands : player.place message ≡ At index

module _ {Tables : Type 0} (call : Call Tables) where
  -- "either acts or refuses by the numbered table"
  abbrev pub NumbersAre : (refusals verdicts : List ℕ) → Type 0
  NumbersAre refusals verdicts = (packet : List ℕ) (tables : Tables) → ActsOrRefuses refusals verdicts packet tables (call packet tables)

  -- "A refusal leaves packet and tables byte for byte as they came."
  abbrev pub RefusalKeepsAll : Type 0
  RefusalKeepsAll = (packet : List ℕ) (tables : Tables) → is_verdict (call packet tables).answer ≡ false
      → call packet tables ≡ unchanged packet tables (call packet tables).answer

  module _ {Cell : Type 0} (cell_at : Tables → (index : ℕ) → Cell) where
    -- "One cell per instance": the call changes no cell but the one that it uses.
    abbrev pub OtherCellsStay : (uses : List ℕ → (index : ℕ) → Type 0) → Type 0
    OtherCellsStay uses = (packet : List ℕ) (tables : Tables) (other : ℕ) → (uses packet other → ⊥)
        → cell_at (call packet tables).left.tables other ≡ cell_at tables other

    -- A possible cell stays possible.
    abbrev pub PossibleStays : (possible : Cell → Bool) → Type 0
    PossibleStays possible = (packet : List ℕ) (tables : Tables) (index : ℕ) → possible (cell_at tables index) ≡ true
        → possible (cell_at (call packet tables).left.tables index) ≡ true

  -- What is sent keeps the packet table, if the tables' numbers fit their widths.
  abbrev pub SendsKept : (Fitting : Tables → Type 0) → Type 0
  SendsKept Fitting = (packet : List ℕ) (tables : Tables) → Bytes packet → Fitting tables → says_send (call packet tables).answer ≡ true
      → Kept (call packet tables).left.packet

  -- And then they still fit.
  abbrev pub FittingStays : (Fitting : Tables → Type 0) → Type 0
  FittingStays Fitting = (packet : List ℕ) (tables : Tables) → Bytes packet → Fitting tables → Fitting (call packet tables).left.tables
