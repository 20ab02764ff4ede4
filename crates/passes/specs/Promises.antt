-- What is promised of the ledger's table: sound is just what refusal 30 leaves, place by place.
-- Assumes nothing.
use Rattle.std.specs.Prelude.{ℕ, ◌≤◌, ◌<◌, ◌≡◌, true, ◌↔◌, length}
use Rattle.entries.specs.Entry.{most_rides}
use Rattle.passes.specs.Passes.{Table, pass_at, most_passes, sound}

-- Not "30 ledger table of wrong size, with a pass twice, or with rides left above 40". Of places past the count nothing is asked.
pub record SoundTable (t : Table) : Type 0 where
  pub of_passes : length t.columns.passes ≡ most_passes
  pub of_rides_left : length t.columns.rides_left ≡ most_passes
  pub of_last_days : length t.columns.last_days ≡ most_passes
  pub of_last_scans : length t.columns.last_scans ≡ most_passes
  pub few : t.count ≤ most_passes
  pub none_twice : (first second : ℕ) → first < second → second < t.count → (pass_at t.columns first).number ≡ (pass_at t.columns second).number → ⊥
  pub rides_fit : (place : ℕ) → place < t.count → (pass_at t.columns place).rides_left ≤ most_rides

abbrev pub SoundExactly : Type 0
SoundExactly = (t : Table) → (sound t ≡ true) ↔ SoundTable t
