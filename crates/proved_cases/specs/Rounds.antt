-- The change request's table of rounds: who owns a round, and the round that each backup takes above it when it is started on a fresh cell. M = 3, N = 8,
-- instance 0, and a value ending in 2a.
-- Assumes nothing.
use Rattle.std.specs.Prelude.{ℕ, ◌≡◌, List, [], ◌∷◌, map, eqb, get_or, replicate}
use Rattle.basics.specs.declared.Verdict.TheVariants.{ToAcceptors}
use Rattle.basics.specs.Ladder.{when◌then◌else◌}
use Rattle.basics.specs.Rounds.{the_instance, the_round, nobody, owner_of}
use Rattle.basics.specs.Values.{the_value}
use Rattle.basics.specs.Verdict.{verdict_number}
use Rattle.quorum.specs.Settings.{settings}
use Rattle.backup_tables.specs.Tables.{fresh_tables}
use Rattle.backup.specs.Backup.{backup_start}

-- A row: a round, or any number; its owner; and the next round of backups 1, 2 and 3 above it, or the refusal 16.
pub record Row : Type 0 where
  pub number : ℕ
  pub owner : ℕ
  pub next_of_1 : ℕ
  pub next_of_2 : ℕ
  pub next_of_3 : ℕ

abbrev row : (number owner next_of_1 next_of_2 next_of_3 : ℕ) → Row
row number owner next_of_1 next_of_2 next_of_3 = record { number = number; owner = owner; next_of_1 = next_of_1; next_of_2 = next_of_2; next_of_3 = next_of_3 }

abbrev rows : List Row
rows =
    row 0 0 1 2 3
    ∷ row 1 1 5 2 3
    ∷ row 2 2 5 6 3
    ∷ row 3 3 5 6 7
    ∷ row 4 nobody 5 6 7
    ∷ row 4294967288 nobody 4294967289 4294967290 4294967291
    ∷ row 4294967290 2 4294967293 4294967294 4294967291
    ∷ row 4294967291 3 4294967293 4294967294 16
    ∷ row 4294967293 1 16 4294967294 16
    ∷ row 4294967294 2 16 16 16
    ∷ row 4294967295 nobody 16 16 16
    ∷ []

-- The round that stands in the cell after a start with this floor, or the refusal.
abbrev next : (own floor : ℕ) → ℕ
next own floor =
    let started = backup_start (settings 3 8) own (the_instance 0) floor (the_value 0 0x2a) (replicate 36 0) (fresh_tables 8) in
    when eqb started.answer (verdict_number ToAcceptors) then get_or started.left.tables.rounds 0 0 else started.answer

-- Each row is what the definitions give for its number.
abbrev pub RoundCases : Type 0
RoundCases = map (λ r. row r.number (owner_of (the_round r.number)) (next 1 r.number) (next 2 r.number) (next 3 r.number)) rows ≡ rows
