-- Tables set fresh by a call, said once for every player: whatever their content, they are left as a run begins with them.
-- Assumes nothing.
use Rattle.std.specs.Prelude.{◌≡◌, Bool, true, ◌⊎◌, ◌↔◌}
use Rattle.basics.specs.declared.Verdict.TheVariants.{Done}
use Rattle.basics.specs.Ladder.{need◌or◌then◌}
use Rattle.basics.specs.Outcome.{Outcome, outcome}
use Rattle.basics.specs.Verdict.{verdict_number}

module _ {Tables : Type 0} where
  -- 7 where settings or sizes are not allowed, and then the tables are left as they came; else done, and they are left fresh.
  unfoldable pub set_fresh : (allowed : Bool) → (before fresh : Tables) → Outcome Tables
  set_fresh allowed before fresh =
      need allowed or outcome 7 before then
      outcome (verdict_number Done) fresh

  -- What is promised of a call that sets tables fresh: it answers 7 or done alone, done exactly where they are allowed; 7 keeps them, and done leaves them fresh.
  pub record SetsFresh (call : (before : Tables) → Outcome Tables) (allowed : Tables → Bool) (fresh : Tables) : Type 0 where
    pub numbers_are : (t : Tables) → ((call t).answer ≡ 7) ⊎ ((call t).answer ≡ verdict_number Done)
    pub done_exactly : (t : Tables) → ((call t).answer ≡ verdict_number Done) ↔ (allowed t ≡ true)
    pub refusal_keeps_all : (t : Tables) → (call t).answer ≡ 7 → (call t).left ≡ t
    pub done_leaves_fresh : (t : Tables) → (call t).answer ≡ verdict_number Done → (call t).left ≡ fresh
