-- A step on a frame, said once for all players: 7, then 21 to 25, then the step on the packet within, and both checksums set anew.
-- Assumes nothing.
use Rattle.std.specs.Prelude.{ℕ, List, eqb}
use Rattle.basics.specs.declared.Verdict.TheVariants.{Done}
use Rattle.basics.specs.Ladder.{need◌or◌then◌}
use Rattle.basics.specs.Outcome.{Outcome, outcome, Lent, lent}
use Rattle.basics.specs.Verdict.{verdict_number}
use Rattle.player.specs.Step.{unchanged, Player, step}
use Rattle.frames.specs.Frame.{packet_in, with_packet, frame_check, sealed}

-- What a packet's step leaves, in the frame that the packet came in; other header fields stay.
abbrev pub in_frame : {Tables : Type 0} → (frame : List ℕ) → Outcome (Lent Tables) → Outcome (Lent Tables)
in_frame frame o = outcome o.answer (lent (sealed (with_packet frame o.left.packet)) o.left.tables)

module _ {Tables Cell : Type 0} (player : Player Tables Cell) (port : ℕ) (frame : List ℕ) (tables : Tables) where
  unfoldable pub framed : Outcome (Lent Tables)
  framed =
      need player.allowed tables or unchanged frame tables 7 then
      need eqb (frame_check port frame) (verdict_number Done) or unchanged frame tables (frame_check port frame) then
      in_frame frame (step player (packet_in frame) tables)
