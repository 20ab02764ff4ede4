-- By which number a packet that is not read, and a message that has no place, are refused: what the code answers has the number that the definition gives.
-- Assumes nothing.
use Rattle.std.specs.Prelude.{ℕ, ◌≡◌, Result, Ok, Err}
use Rattle.basics.specs.declared.Refusal.{Refusal}
use Rattle.basics.specs.Places.{placed, nowhere_of}
use Rattle.basics.specs.Refusal.{refusal_number}
use Rattle.basics.proofs.place_of.Reads as place_of
use Rattle.wire.specs.Packet.{read_packet, refusal_of}
use Rattle.wire.proofs.read_packet.Reads as read-packet
use Rattle.tightness.specs.Exported.{Does}

-- A refusal's number; 0 where nothing is refused.
abbrev pub refused_by : {A : Type 0} → Result A Refusal → ℕ
refused_by (Ok found) = 0
refused_by (Err refusal) = refusal_number refusal

pub record RefusedByNumber : Type 2 where
  -- "an instance not below N is 8", and a place has no number
  pub of_place_of : Does place_of.Learnt λ _ (N, (instance, _)) answer _. refused_by answer ≡ nowhere_of (placed N instance)
  -- "refused by 1 to 5", and a message has no number
  pub of_read_packet : Does read-packet.Learnt λ _ (packet, _) answer _. refused_by answer ≡ refusal_of (read_packet packet.now)
