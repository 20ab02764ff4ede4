-- What a call answers and leaves: one record for every call.
-- Assumes nothing.
use Rattle.std.specs.Prelude.{ℕ, List}

-- The answer is a verdict's number or a refusal's; left is the content at exit of what was lent to be changed.
pub record Outcome (Left : Type 0) : Type 0 where
  pub answer : ℕ
  pub left : Left

abbrev pub outcome : {Left : Type 0} → (answer : ℕ) → Left → Outcome Left
outcome answer left = record { answer = answer; left = left }

-- A packet, or a buffer, and tables lent beside it.
pub record Lent (Tables : Type 0) : Type 0 where
  pub packet : List ℕ
  pub tables : Tables

abbrev pub lent : {Tables : Type 0} → (packet : List ℕ) → Tables → Lent Tables
lent packet tables = record { packet = packet; tables = tables }
