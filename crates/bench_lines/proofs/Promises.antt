-- A line is a command exactly if it has one of the forms. From the forms: a name and digits have no space, so a line is cut where the form joins it.
-- To the forms: a line that has something behind its first space is the first word, the space and that, and a test that passed says what the word is.
-- Assumes nothing.
use Prim.Native.Nat.{ℕ, zero, suc, ◌≤◌, ◌<◌}
use mathlib.Core.Path.{◌≡◌, refl, sym, ap, subst, ◌∙◌}
use mathlib.Core.Bool.{true, false, ◌&&◌, false≢true}
use mathlib.Core.List.{List, [], ◌∷◌, ◌++◌}
use native.Mathlib.Omega.{arith}
use lib.Dec.{eqb, leb, ltb}
use lib.ListN.{length, get_or, length-append}
use borrow.Author.Tests.{eqb-true, leb-true, ltb-true, ne_eqb}
use Rattle.basics.specs.Ladder.{when◌then◌else◌, need◌or◌then◌}
use Rattle.basics.proofs.Ladder.{by-test, if-elim, need-elim, both_true}
use Rattle.std.specs.Prelude.{Option, Some, None, unwrap_or}
use Rattle.bench_lines.specs.declared.Player.{Player}
use Rattle.bench_lines.specs.declared.Player.TheVariants.{Primary, Acceptor, Backup, Learner}
use Rattle.bench_lines.specs.declared.Command.{Command}
use Rattle.bench_lines.specs.declared.Command.TheVariants.{Packet, Start}
use Rattle.bench_lines.specs.Line.{space, first_word, rest_of, digit_in, digit_of, are_digits, is_hex, bytes_of, number_of, is_decimal, value_of}
use Rattle.bench_lines.specs.Line.{primary_letter, acceptor_letter, backup_letter, learner_letter, start_letter}
use Rattle.bench_lines.specs.Line.{is_letter, is_numbered, own_of, player_of, start_with, start_of, command_for, command_of, buffer_after, meaning_of}
use Rattle.bench_lines.specs.Promises.{digit_byte, PlayerName, the_primary, an_acceptor, a_backup, the_learner, Form, packet_line, start_line}
use Rattle.bench_lines.specs.Promises.{CommandExactly, MeaningExactly, BadKeepsBuffer, LongIsBad}
use Rattle.bench_lines.proofs.Words.{word-ends, rest-begins, word-goes-on, rest-later}
use Rattle.bench_lines.proofs.Digits.{hex-brings, decimal-brings, decimal-digits}

-- ---- cutting what was joined

-- a digit is no space
no-space : (base byte : ℕ) → base ≤ 16 → digit_of byte < base → eqb byte space ≡ false
unfolding digit_in when◌then◌else◌
no-space base byte few small = ne_eqb byte space (λ same. let sixteen : digit_of byte ≡ 16 = ap digit_of same in omega arith)

module _ (base : ℕ) (few : base ≤ 16) (rest : List ℕ) where
  digits-are-a-word : (text : List ℕ) → are_digits base text ≡ true → first_word (text ++ (space ∷ rest)) ≡ text
  unfolding are_digits
  digits-are-a-word [] all = word-ends space rest refl
  digits-are-a-word (byte ∷ bytes) all =
      let parts = both_true (ltb (digit_of byte) base) (are_digits base bytes) all in
      word-goes-on byte (bytes ++ (space ∷ rest)) (no-space base byte few (ltb-true (digit_of byte) base parts.0))
      ∙ ap (λ others. byte ∷ others) (digits-are-a-word bytes parts.1)

  rest-of-digits : (text : List ℕ) → are_digits base text ≡ true → rest_of (text ++ (space ∷ rest)) ≡ rest
  unfolding are_digits
  rest-of-digits [] all = rest-begins space rest refl
  rest-of-digits (byte ∷ bytes) all =
      let parts = both_true (ltb (digit_of byte) base) (are_digits base bytes) all in
      rest-later byte (bytes ++ (space ∷ rest)) (no-space base byte few (ltb-true (digit_of byte) base parts.0)) ∙ rest-of-digits bytes parts.1

-- what a name is, where something stands behind it
record Named (name rest : List ℕ) (player : Player) : Type 0 where
  first : first_word (name ++ (space ∷ rest)) ≡ name
  behind : rest_of (name ++ (space ∷ rest)) ≡ rest
  named : player_of name ≡ Some player
  short : length name ≤ 2

named-so : (name rest : List ℕ) (player : Player) → PlayerName name player → Named name rest player
unfolding first_word rest_of player_of is_letter is_numbered digit_in when◌then◌else◌
named-so name rest player the_primary = record { first = refl; behind = refl; named = refl; short = omega arith }
named-so name rest player (an_acceptor zero most) = record { first = refl; behind = refl; named = refl; short = omega arith }
named-so name rest player (an_acceptor (suc zero) most) = record { first = refl; behind = refl; named = refl; short = omega arith }
named-so name rest player (an_acceptor (suc (suc zero)) most) = record { first = refl; behind = refl; named = refl; short = omega arith }
named-so name rest player (an_acceptor (suc (suc (suc own))) most) = absurd (omega arith)
named-so name rest player (a_backup zero least most) = absurd (omega arith)
named-so name rest player (a_backup (suc zero) least most) = record { first = refl; behind = refl; named = refl; short = omega arith }
named-so name rest player (a_backup (suc (suc zero)) least most) = record { first = refl; behind = refl; named = refl; short = omega arith }
named-so name rest player (a_backup (suc (suc (suc zero))) least most) = record { first = refl; behind = refl; named = refl; short = omega arith }
named-so name rest player (a_backup (suc (suc (suc (suc own)))) least most) = absurd (omega arith)
named-so name rest player the_learner = record { first = refl; behind = refl; named = refl; short = omega arith }

-- what s1 to s3 are, where something stands behind them
record Starter (own : ℕ) (rest : List ℕ) : Type 0 where
  first : first_word (start_letter ∷ digit_byte own ∷ space ∷ rest) ≡ start_letter ∷ digit_byte own ∷ []
  behind : rest_of (start_letter ∷ digit_byte own ∷ space ∷ rest) ≡ rest
  no-player : player_of (start_letter ∷ digit_byte own ∷ []) ≡ None
  starter : is_numbered start_letter 1 3 (start_letter ∷ digit_byte own ∷ []) ≡ true
  number : own_of (start_letter ∷ digit_byte own ∷ []) ≡ own

starter-so : (own : ℕ) (rest : List ℕ) → 1 ≤ own → own ≤ 3 → Starter own rest
unfolding first_word rest_of player_of is_letter is_numbered digit_in when◌then◌else◌
starter-so zero rest least most = absurd (omega arith)
starter-so (suc zero) rest least most = record { first = refl; behind = refl; no-player = refl; starter = refl; number = refl }
starter-so (suc (suc zero)) rest least most = record { first = refl; behind = refl; no-player = refl; starter = refl; number = refl }
starter-so (suc (suc (suc zero))) rest least most = record { first = refl; behind = refl; no-player = refl; starter = refl; number = refl }
starter-so (suc (suc (suc (suc own)))) rest least most = absurd (omega arith)

-- ---- from a form to what it means

means : (line : List ℕ) (command : Command) → Form line command → command_of line ≡ Some command
unfolding command_of command_for start_of start_with need◌or◌then◌
means line command (packet_line name digits player player-so hex) =
    let so = named-so name digits player player-so in rw (so.first, so.behind, so.named, hex)
means line command (start_line own least most instance floor value instance-so floor-so value-so) =
    let so = starter-so own (instance ++ (space ∷ (floor ++ (space ∷ value)))) least most in
    let digits = decimal-digits instance instance-so in
    let floor-digits = decimal-digits floor floor-so in
    let word = digits-are-a-word 10 (omega arith) (floor ++ (space ∷ value)) instance digits in
    let behind = rest-of-digits 10 (omega arith) (floor ++ (space ∷ value)) instance digits in
    let word₂ = digits-are-a-word 10 (omega arith) value floor floor-digits in
    let behind₂ = rest-of-digits 10 (omega arith) value floor floor-digits in
    rw (so.first, so.behind, so.no-player, so.starter, word, behind, word₂, behind₂, instance-so, floor-so, value-so, so.number)

-- ---- from what a line means to its form

-- a line with something behind its first space is joined of both
joined : (line : List ℕ) → 0 < length (rest_of line) → first_word line ++ (space ∷ rest_of line) ≡ line
unfolding rest_of
joined [] some = absurd (omega arith)
joined (byte ∷ bytes) some =
    by-test (eqb byte space) (λ ends. rw (word-ends byte bytes ends, rest-begins byte bytes ends, eqb-true byte space ends))
    (λ goes_on. rw (word-goes-on byte bytes goes_on, rest-later byte bytes goes_on)
    (ap (λ others. byte ∷ others) (joined bytes (rw (rest-later byte bytes goes_on) at some))))

-- only where a line is longer is something behind its first space
longer : (line : List ℕ) → 0 < length (rest_of line) → 0 < length line
unfolding rest_of
longer [] some = some
longer (byte ∷ bytes) some = omega arith

-- a digit below ten is its byte
digit-byte : (byte : ℕ) → digit_of byte ≤ 9 → byte ≡ digit_byte (digit_of byte)
unfolding digit_in
digit-byte byte =
    if-elim its-byte _ _ _ (λ in-0-9 few. let h = leb-true 48 byte (both_true (leb 48 byte) (leb byte 57) in-0-9).0 in omega arith)
    (λ _. if-elim its-byte _ _ _ (λ _ few. absurd (omega arith))
    (λ _. if-elim its-byte _ _ _ (λ _ few. absurd (omega arith)) (λ _ few. absurd (omega arith))))
  where
    its-byte : Option ℕ → Type 0
    its-byte o = unwrap_or o 16 ≤ 9 → byte ≡ digit_byte (unwrap_or o 16)

letter-alone : (letter : ℕ) (name : List ℕ) → is_letter letter name ≡ true → name ≡ letter ∷ []
unfolding is_letter
letter-alone letter [] test = absurd (false≢true test)
letter-alone letter (byte ∷ []) test = ap (λ k. k ∷ []) (eqb-true byte letter test)
letter-alone letter (byte ∷ byte₂ ∷ others) test =
    let parts = both_true (eqb (length (byte ∷ byte₂ ∷ others)) 1) (eqb byte letter) test in
    let long = eqb-true (length (byte ∷ byte₂ ∷ others)) 1 parts.0 in absurd (omega arith)

-- what a letter and a number of these are
record Numbered (letter first last : ℕ) (name : List ℕ) : Type 0 where
  written : name ≡ letter ∷ digit_byte (own_of name) ∷ []
  least : first ≤ own_of name
  most : own_of name ≤ last

numbered-so : (letter first last : ℕ) (name : List ℕ) → last ≤ 9 → is_numbered letter first last name ≡ true → Numbered letter first last name
unfolding is_numbered
numbered-so letter first last name few test =
    let last-part = both_true (eqb (length name) 2 && eqb (get_or name 0 0) letter && leb first (own_of name)) (leb (own_of name) last) test in
    let first_part = both_true (eqb (length name) 2 && eqb (get_or name 0 0) letter) (leb first (own_of name)) last-part.0 in
    let letter-part = both_true (eqb (length name) 2) (eqb (get_or name 0 0) letter) first_part.0 in
    let at_most = leb-true (own_of name) last last-part.1 in
    let two = pair_of name (eqb-true (length name) 2 letter-part.0) in
    record {
      written = two ∙ ap (λ k. k ∷ get_or name 1 0 ∷ []) (eqb-true (get_or name 0 0) letter letter-part.1)
          ∙ ap (λ k. letter ∷ k ∷ []) (digit-byte (get_or name 1 0) (omega arith));
      least = leb-true first (own_of name) first_part.1;
      most = at_most;
    }
  where
    pair_of : (bytes : List ℕ) → length bytes ≡ 2 → bytes ≡ get_or bytes 0 0 ∷ get_or bytes 1 0 ∷ []
    pair_of [] two = absurd (omega arith)
    pair_of (byte ∷ []) two = absurd (omega arith)
    pair_of (byte ∷ byte₂ ∷ []) two = refl
    pair_of (byte ∷ byte₂ ∷ byte₃ ∷ others) two = absurd (omega arith)

module _ (name : List ℕ) where
  abbrev named_as : Option Player → Type 0
  named_as named = (player : Player) → named ≡ Some player → PlayerName name player

  player-named : named_as (player_of name)
  unfolding player_of
  player-named =
      if-elim named_as (is_letter primary_letter name) _ _
      (λ test player e. rw (letter-alone primary_letter name test, ← some-same Primary player e) the_primary)
      (λ _. if-elim named_as (is_numbered acceptor_letter 0 2 name) _ _
      (λ test player e.
      let so = numbered-so acceptor_letter 0 2 name (omega arith) test in
      rw (← some-same (Acceptor (own_of name)) player e)
      (subst (λ n. PlayerName n (Acceptor (own_of name))) (sym so.written) (an_acceptor (own_of name) so.most)))
      (λ _. if-elim named_as (is_numbered backup_letter 1 3 name) _ _
      (λ test player e.
      let so = numbered-so backup_letter 1 3 name (omega arith) test in
      rw (← some-same (Backup (own_of name)) player e)
      (subst (λ n. PlayerName n (Backup (own_of name))) (sym so.written) (a_backup (own_of name) so.least so.most)))
      (λ _. if-elim named_as (is_letter learner_letter name) _ _
      (λ test player e. rw (letter-alone learner_letter name test, ← some-same Learner player e) the_learner) (λ _ player e. absurd cc))))
    where
      some-same : (x y : Player) → Some x ≡ Some y → x ≡ y
      some-same x y e = cc

module _ (line : List ℕ) where
  abbrev formed : Option Command → Type 0
  formed asked = (command : Command) → asked ≡ Some command → Form line command

  abbrev name : List ℕ
  name = first_word line

  abbrev rest : List ℕ
  rest = rest_of line

  none-formed : formed None
  none-formed command e = absurd cc

  the-same : (found : Command) → Form line found → formed (Some found)
  the-same found form command e = subst (Form line) (let same : found ≡ command = cc in same) form

  packet-formed : (player : Player) → player_of name ≡ Some player → is_hex 72 rest ≡ true → Form line (Packet player (bytes_of rest))
  packet-formed player player-so hex =
      subst (λ bytes. Form bytes (Packet player (bytes_of rest))) (joined line (omega (arith, (hex-brings 72 rest hex).0)))
      (packet_line name rest player (player-named name player player-so) hex)

  start-formed : formed (start_of name rest)
  unfolding start_of start_with
  start-formed =
      let instance = first_word rest in
      let floor = first_word (rest_of rest) in
      let value = rest_of (rest_of rest) in
      need-elim formed (is_numbered start_letter 1 3 name) _ _ none-formed
      (λ starter. need-elim formed (is_decimal instance) _ _ none-formed
      (λ instance-so. need-elim formed (is_decimal floor) _ _ none-formed
      (λ floor-so. need-elim formed (is_hex 32 value) _ _ none-formed
      (λ value-so.
      let so = numbered-so start_letter 1 3 name (omega arith) starter in
      the-same _ (subst (λ bytes. Form bytes (Start (own_of name) (number_of instance) (number_of floor) (value_of value))) (start-joined value-so so.written)
      (start_line (own_of name) so.least so.most instance floor value instance-so floor-so value-so))))))
    where
      start-joined : is_hex 32 (rest_of (rest_of rest)) ≡ true → name ≡ start_letter ∷ digit_byte (own_of name) ∷ []
          → start_letter ∷ digit_byte (own_of name) ∷ space
          ∷ (first_word rest ++ (space ∷ (first_word (rest_of rest) ++ (space ∷ rest_of (rest_of rest))))) ≡ line
      start-joined value-so written =
          let third = joined (rest_of rest) (omega (arith, (hex-brings 32 (rest_of (rest_of rest)) value-so).0)) in
          let second = joined rest (longer (rest_of rest) (omega (arith, (hex-brings 32 (rest_of (rest_of rest)) value-so).0))) in
          let first = joined line (longer rest (longer (rest_of rest) (omega (arith, (hex-brings 32 (rest_of (rest_of rest)) value-so).0)))) in
          rw (third, second) (ap (λ bytes. bytes ++ (space ∷ rest)) (sym written) ∙ first)

  line-formed : (named : Option Player) → player_of name ≡ named → formed (command_for named name rest)
  unfolding command_for
  line-formed (Some player) so = need-elim formed (is_hex 72 rest) _ _ none-formed (λ hex. the-same _ (packet-formed player so hex))
  line-formed None so = start-formed

  has-form : formed (command_of line)
  unfolding command_of
  has-form = line-formed (player_of name) refl

command-exactly : CommandExactly
command-exactly line command = (has-form line command, means line command)

-- ---- the buffer that is lent with a line

meaning-exactly : MeaningExactly
unfolding meaning_of
meaning-exactly line buffer command packet = (
  λ so. let found : command_of line ≡ Some command = ap (λ m. m.command) so in
      (has-form line command found, sym (ap (λ m. m.packet) so) ∙ ap (λ asked. buffer_after asked buffer) found),
  λ formed. let found = means line command formed.0 in rw (found, formed.1),
)

-- ---- bad lines

bad-keeps-buffer : BadKeepsBuffer
unfolding meaning_of buffer_after
bad-keeps-buffer line buffer bad = rw bad

form-is-short : (line : List ℕ) (command : Command) → Form line command → length line ≤ 75
form-is-short line command (packet_line name digits player player-so hex) =
    simp length-append (omega (arith, (named-so name digits player player-so).short, (hex-brings 72 digits hex).0))
form-is-short line command (start_line own least most instance floor value instance-so floor-so value-so) =
    simp length-append (omega (arith, (decimal-brings instance instance-so).0, (decimal-brings floor floor-so).0, (hex-brings 32 value value-so).0))

long-is-bad : LongIsBad
unfolding meaning_of
long-is-bad line buffer long = bad-keeps-buffer line buffer (none-left (command_of line) refl)
  where
    none-left : (asked : Option Command) → command_of line ≡ asked → command_of line ≡ None
    none-left None so = so
    none-left (Some command) so = absurd (let short = form-is-short line command (has-form line command so) in omega arith)
