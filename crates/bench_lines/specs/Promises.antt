-- What a line of the bench can be: a line is a command exactly if it has one of the paper's forms, and then it is the one that the form names.
-- Assumes nothing.
use Rattle.std.specs.Prelude.{ℕ, ◌+◌, ◌≤◌, ◌<◌, ◌≡◌, true, ◌↔◌, Some, None, List, [], ◌∷◌, ◌++◌, length}
use Rattle.bench_lines.specs.declared.Player.{Player}
use Rattle.bench_lines.specs.declared.Player.TheVariants.{Primary, Acceptor, Backup, Learner}
use Rattle.bench_lines.specs.declared.Command.{Command}
use Rattle.bench_lines.specs.declared.Command.TheVariants.{Packet, Start}
use Rattle.bench_lines.specs.Line.{primary_letter, acceptor_letter, backup_letter, learner_letter, start_letter}
use Rattle.bench_lines.specs.Line.{space, is_hex, bytes_of, number_of, is_decimal, value_of, command_of, buffer_after, meaning, meaning_of}

-- The byte of a decimal digit.
abbrev pub digit_byte : (number : ℕ) → ℕ
digit_byte number = 48 + number

-- p, a0 to a2, b1 to b3, l
pub data PlayerName : (name : List ℕ) → Player → Type 0 where
  the_primary : PlayerName (primary_letter ∷ []) Primary
  an_acceptor : (own : ℕ) → own ≤ 2 → PlayerName (acceptor_letter ∷ digit_byte own ∷ []) (Acceptor own)
  a_backup : (own : ℕ) → 1 ≤ own → own ≤ 3 → PlayerName (backup_letter ∷ digit_byte own ∷ []) (Backup own)
  the_learner : PlayerName (learner_letter ∷ []) Learner

-- The forms of a line, with what each asks for.
pub data Form : (line : List ℕ) → Command → Type 0 where
  -- a player, a space, 72 hex digits
  packet_line : (name digits : List ℕ) (player : Player) → PlayerName name player → is_hex 72 digits ≡ true
      → Form (name ++ (space ∷ digits)) (Packet player (bytes_of digits))
  -- s1 to s3, and behind a space each two decimal 32-bit numbers and 32 hex digits
  start_line : (own : ℕ) → 1 ≤ own → own ≤ 3 → (instance floor value : List ℕ) → is_decimal instance ≡ true → is_decimal floor ≡ true → is_hex 32 value ≡ true
      → Form (start_letter ∷ digit_byte own ∷ space ∷ (instance ++ (space ∷ (floor ++ (space ∷ value)))))
      (Start own (number_of instance) (number_of floor) (value_of value))

-- A line is a command exactly if it has one of the forms, and then the one that the form names.
abbrev pub CommandExactly : Type 0
CommandExactly = (line : List ℕ) (command : Command) → (command_of line ≡ Some command) ↔ Form line command

-- The same where a buffer is lent: the command is told, and the buffer holds its packet; a start leaves it as it was.
abbrev pub MeaningExactly : Type 0
MeaningExactly =
    (line buffer : List ℕ) (command : Command) (packet : List ℕ)
    → (meaning_of line buffer ≡ meaning (Some command) packet) ↔ (Form line command × (packet ≡ buffer_after (Some command) buffer))

-- A bad line, one that is no command, leaves the buffer as it was.
abbrev pub BadKeepsBuffer : Type 0
BadKeepsBuffer = (line buffer : List ℕ) → (meaning_of line buffer).command ≡ None → meaning_of line buffer ≡ meaning None buffer

-- A line of more than 75 bytes is bad, and so are its first 128 bytes where it has more: the bench keeps no more than those.
abbrev pub LongIsBad : Type 0
LongIsBad = (line buffer : List ℕ) → 75 < length line → meaning_of line buffer ≡ meaning None buffer
