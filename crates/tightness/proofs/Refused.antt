-- The number of a refusal is that of what the answer comes to, by cases of the answer, and what the answer comes to is what the definition says.
-- Assumes nothing.
use Rattle.std.proofs.Common.{◌≡◌, ℕ, Result, Ok, Err, refl, ap, ◌∙◌}
use Rattle.basics.specs.declared.Refusal.{Refusal}
use Rattle.basics.specs.Places.{place_of, nowhere_of}
use Rattle.messages.specs.declared.Message.{Message}
use Rattle.wire.specs.Packet.{reading_of, refusal_of}
use Rattle.tightness.specs.Refused.{RefusedByNumber, refused_by}

nowhere-number : (answer : Result ℕ Refusal) → refused_by answer ≡ nowhere_of (place_of answer)
nowhere-number (Ok index) = refl
nowhere-number (Err refusal) = refl

refusal-number : (answer : Result Message Refusal) → refused_by answer ≡ refusal_of (reading_of answer)
refusal-number (Ok message) = refl
refusal-number (Err refusal) = refl

pub refused-by-number : RefusedByNumber
refused-by-number = record {
  of_place_of = λ _ _ answer _ told. nowhere-number answer ∙ ap nowhere_of told;
  of_read_packet = λ _ _ answer _ told. refusal-number answer ∙ ap refusal_of told;
}
