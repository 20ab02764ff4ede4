-- The packet's part of a frame as the code lends it, and as it comes back.
-- Assumes nothing.
use Prim.Native.Nat.{ℕ, ◌+◌}
use mathlib.Core.Path.{◌≡◌, sym, ap, ◌∙◌}
use mathlib.Core.List.{List, ◌++◌, append_assoc}
use native.Mathlib.Omega.{arith}
use lib.ListN.{length, take, drop}
use lib.Seq.{sets-eq, drop-drop}
use borrow.Rule.Slice.PartMut.{put_mid}
use Rattle.numbers.proofs.Bytes.{bytes_at-part}
use Rattle.wire.specs.Packet.{packet_length}
use Rattle.frames.specs.Frame.{frame_length, packet_in, with_packet}

pub part-lent : (f : List ℕ) → length f ≡ frame_length → take packet_length (drop 42 f) ≡ packet_in f
part-lent f long = sym (bytes_at-part f 42 packet_length (omega arith))

pub part-back : (f p : List ℕ) → length f ≡ frame_length → length p ≡ packet_length → put_mid 42 packet_length f p ≡ with_packet f p
part-back f p long p-long =
    let end : 42 + length p ≡ 42 + packet_length = omega arith in
    sym (sets-eq p f 42 (omega arith) ∙ ap (λ at. take 42 f ++ p ++ drop at f) end
    ∙ append_assoc (take 42 f) p (drop (42 + packet_length) f) ∙ ap (λ rest. take 42 f ++ (p ++ rest)) (sym (drop-drop packet_length 42 f)))
