-- What a line of the bench means. "a player (p, a0 to a2, b1 to b3, l), a space, 72 hex digits (either case, here and below)"; "A line `s1 INST FLOOR VALUE` (s1 to s3; two
-- decimal 32-bit numbers, 32 hex digits) starts that backup"; "A line of another form prints `? bad -`." A line is a list of bytes, without its newline.
-- Assumes nothing.
use Rattle.std.specs.Prelude.{ℕ, ◌+◌, ◌-◌, ◌*◌, Bool, true, ◌&&◌, Option, Some, None, unwrap_or, List, [], ◌∷◌, eqb, leb, ltb, length, get_or}
use Rattle.numbers.specs.BigEndian.{number_at}
use Rattle.basics.specs.Ladder.{when◌then◌else◌, need◌or◌then◌}
use Rattle.basics.specs.Values.{the_value}
use Rattle.basics.specs.declared.Value.{Value}
use Rattle.bench_lines.specs.declared.Player.{Player}
use Rattle.bench_lines.specs.declared.Player.TheVariants.{Primary, Acceptor, Backup, Learner}
use Rattle.bench_lines.specs.declared.Command.{Command}
use Rattle.bench_lines.specs.declared.Command.TheVariants.{Packet, Start}

-- ---- the bytes that have a meaning, besides digits

abbrev pub space : ℕ
space = 32

-- p
abbrev pub primary_letter : ℕ
primary_letter = 112

-- a
abbrev pub acceptor_letter : ℕ
acceptor_letter = 97

-- b
abbrev pub backup_letter : ℕ
backup_letter = 98

-- l
abbrev pub learner_letter : ℕ
learner_letter = 108

-- s
abbrev pub start_letter : ℕ
start_letter = 115

-- ---- words: a space ends one

unfoldable pub first_word : (line : List ℕ) → List ℕ
first_word [] = []
first_word (byte ∷ bytes) = when eqb byte space then [] else byte ∷ first_word bytes

-- What stands behind the first space; nothing where there is none.
unfoldable pub rest_of : (line : List ℕ) → List ℕ
rest_of [] = []
rest_of (byte ∷ bytes) = when eqb byte space then bytes else rest_of bytes

-- ---- digits

-- 0 to 9, A to F, a to f: a hex digit's number, of either case.
unfoldable pub digit_in : (byte : ℕ) → Option ℕ
digit_in byte =
    when leb 48 byte && leb byte 57 then Some (byte - 48)
    else when leb 65 byte && leb byte 70 then Some (byte - 65 + 10)
    else when leb 97 byte && leb byte 102 then Some (byte - 97 + 10)
    else None

-- The same, and 16 for any other byte.
abbrev pub digit_of : (byte : ℕ) → ℕ
digit_of byte = unwrap_or (digit_in byte) 16

-- Each byte is a digit of the base.
unfoldable pub are_digits : (base : ℕ) → (text : List ℕ) → Bool
are_digits base [] = true
are_digits base (byte ∷ bytes) = ltb (digit_of byte) base && are_digits base bytes

-- So many hex digits.
unfoldable pub is_hex : (count : ℕ) → (text : List ℕ) → Bool
is_hex count text = eqb (length text) count && are_digits 16 text

-- The bytes that hex digits stand for, two digits each.
unfoldable pub bytes_of : (text : List ℕ) → List ℕ
bytes_of [] = []
bytes_of (high ∷ []) = []
bytes_of (high ∷ low ∷ others) = (digit_of high * 16 + digit_of low) ∷ bytes_of others

-- So many bytes, of two hex digits each.
unfoldable pub hex_in : (count : ℕ) → (text : List ℕ) → Option (List ℕ)
hex_in count text = need is_hex (2 * count) text or None then Some (bytes_of text)

-- A number that goes on with decimal digits.
unfoldable pub number_from : (number : ℕ) → (text : List ℕ) → ℕ
number_from number [] = number
number_from number (byte ∷ bytes) = number_from (number * 10 + digit_of byte) bytes

abbrev pub number_of : (text : List ℕ) → ℕ
number_of text = number_from 0 text

-- A decimal 32-bit number: one to ten digits, and at most 4,294,967,295.
unfoldable pub is_decimal : (text : List ℕ) → Bool
is_decimal text = (leb 1 (length text) && leb (length text) 10) && (are_digits 10 text && leb (number_of text) 4294967295)

-- The number of a text that is one.
unfoldable pub decimal_in : (text : List ℕ) → Option ℕ
decimal_in text = need is_decimal text or None then Some (number_of text)

-- 16 bytes, as two big-endian halves.
abbrev pub value_from : (bytes : List ℕ) → Value
value_from bytes = the_value (number_at bytes 0 8) (number_at bytes 8 8)

-- The value of 32 hex digits.
abbrev pub value_of : (text : List ℕ) → Value
value_of text = value_from (bytes_of text)

-- ---- names

-- The letter alone.
unfoldable pub is_letter : (letter : ℕ) → (name : List ℕ) → Bool
is_letter letter name = eqb (length name) 1 && eqb (get_or name 0 0) letter

-- The number behind the letter.
abbrev pub own_of : (name : List ℕ) → ℕ
own_of name = digit_of (get_or name 1 0)

-- The letter and a number of these.
unfoldable pub is_numbered : (letter first last : ℕ) → (name : List ℕ) → Bool
is_numbered letter first last name = eqb (length name) 2 && eqb (get_or name 0 0) letter && leb first (own_of name) && leb (own_of name) last

-- The number of a digit, if it is one of these.
unfoldable pub number_within : (first last : ℕ) → (byte : ℕ) → Option ℕ
number_within first last byte = need leb first (digit_of byte) && leb (digit_of byte) last or None then Some (digit_of byte)

-- p, a0 to a2, b1 to b3, l
unfoldable pub player_of : (name : List ℕ) → Option Player
player_of name =
    when is_letter primary_letter name then Some Primary
    else when is_numbered acceptor_letter 0 2 name then Some (Acceptor (own_of name))
    else when is_numbered backup_letter 1 3 name then Some (Backup (own_of name))
    else when is_letter learner_letter name then Some Learner
    else None

-- ---- lines

-- s1 to s3, two decimal 32-bit numbers, 32 hex digits.
unfoldable pub start_with : (name instance floor value : List ℕ) → Option Command
start_with name instance floor value =
    need is_numbered start_letter 1 3 name or None then
    need is_decimal instance or None then
    need is_decimal floor or None then
    need is_hex 32 value or None then
    Some (Start (own_of name) (number_of instance) (number_of floor) (value_of value))

-- Behind the name stand the words `INST FLOOR VALUE`.
unfoldable pub start_of : (name rest : List ℕ) → Option Command
start_of name rest = start_with name (first_word rest) (first_word (rest_of rest)) (rest_of (rest_of rest))

-- A player is given 72 hex digits, whose bytes are the packet; what has another name may be a start.
unfoldable pub command_for : (named : Option Player) → (name rest : List ℕ) → Option Command
command_for (Some player) name rest = need is_hex 72 rest or None then Some (Packet player (bytes_of rest))
command_for None name rest = start_of name rest

-- What a line asks for: nothing where it has another form.
unfoldable pub command_of : (line : List ℕ) → Option Command
command_of line = command_for (player_of (first_word line)) (first_word line) (rest_of line)

-- What stands in a buffer that is lent with a line: a player's packet, or, of a start or a line of another form, what it held.
unfoldable pub buffer_after : (asked : Option Command) → (buffer : List ℕ) → List ℕ
buffer_after (Some (Packet player packet)) buffer = packet
buffer_after (Some (Start own instance floor value)) buffer = buffer
buffer_after None buffer = buffer

-- What a line asks for, and what then stands in the buffer that is lent with it.
pub record Meaning : Type 0 where
  pub command : Option Command
  pub packet : List ℕ

abbrev pub meaning : Option Command → (packet : List ℕ) → Meaning
meaning command packet = record { command = command; packet = packet }

unfoldable pub meaning_of : (line buffer : List ℕ) → Meaning
meaning_of line buffer = meaning (command_of line) (buffer_after (command_of line) buffer)

-- ---- lines of a delivered list, a value to each

-- 32 hex digits: their bytes.
abbrev pub listed_in : (line : List ℕ) → Option (List ℕ)
listed_in line = hex_in 16 line
