-- Primary: its step, by its rule at its one cell. The primary's record is kept by its caller and updated by each request: it is lent as a slice of one
-- number, or by reference.
-- Assumes nothing.
use Rattle.std.specs.Prelude.{ℕ, Result, Ok, Err, ◌^◌, Bool, ◌&&◌, List, [], ◌∷◌, eqb, length, get_or, set}
use Rattle.basics.specs.declared.Refusal.{Refusal}
use Rattle.basics.specs.declared.Verdict.TheVariants.{ToAcceptors}
use Rattle.basics.specs.Refusal.{refusal_number}
use Rattle.basics.specs.Verdict.{verdict_number}
use Rattle.basics.specs.Places.{Place, At, Nowhere}
use Rattle.basics.specs.Outcome.{Outcome, outcome, Lent, lent}
use Rattle.basics.specs.Rounds.{the_instance}
use Rattle.messages.specs.declared.Message.{Message}
use Rattle.messages.specs.Message.{when_request}
use Rattle.player.specs.Step.{Ruling, refused, Player, step}
use Rattle.quorum.specs.declared.Settings.{Settings}
use Rattle.quorum.specs.Settings.{allowed}
use Rattle.columns.specs.Columns.{Below}
use Rattle.columns.specs.Fresh.{set_fresh}
use Rattle.primary_rule.specs.declared.Cell.{Cell}
use Rattle.primary_rule.specs.Rule.{cell, fresh_cell, take_request}

-- ---- the record as a slice of one number

abbrev pub cell_at : (next : List ℕ) → (index : ℕ) → Cell
cell_at next index = cell (the_instance (get_or next index 0))

abbrev pub with_cell : (next : List ℕ) → (index : ℕ) → Cell → List ℕ
with_cell next index c = set next index c.next.0

-- M and N are allowed, and the slice has one number.
unfoldable pub is_allowed : Settings → (next : ℕ) → Bool
is_allowed s next = allowed s && eqb next 1

abbrev pub primary_allowed : Settings → (next : List ℕ) → Bool
primary_allowed s next = is_allowed s (length next)

-- The fresh record: the next instance is 0.
abbrev pub fresh_record : List ℕ
fresh_record = fresh_cell.next.0 ∷ []

-- The record as a run begins with it, whatever it held; 7 where it is not allowed.
unfoldable pub primary_fresh : Settings → (next : List ℕ) → Outcome (List ℕ)
primary_fresh s next = set_fresh (primary_allowed s next) next fresh_record

-- Its number fits its width, as that of a lent slice does.
abbrev pub Fitting : (next : List ℕ) → Type 0
Fitting next = Below (2 ^ 32) next

-- ---- the step

-- Refused by 6 if not a request. The one cell stands at 0: a request has no instance of its own, so 8 is never given.
abbrev pub place : Message → Place
place = when_request (λ switch value. At 0) (Nowhere 6)

abbrev pub rule : (N : ℕ) → Cell → Message → Ruling Cell
rule N c = when_request (λ switch value. take_request N c value) (refused 6)

unfoldable pub primary : Settings → Player (List ℕ) Cell
primary s = record {
  allowed = primary_allowed s;
  place = place;
  cell_at = cell_at;
  with_cell = with_cell;
  rule = rule s.instances;
}

unfoldable pub primary_step : Settings → (packet next : List ℕ) → Outcome (Lent (List ℕ))
primary_step s = step (primary s)

-- ---- the record by reference

-- What is lent is the cell itself, which has its size.
unfoldable pub primary_by_reference : Settings → Player Cell Cell
primary_by_reference s = record {
  allowed = λ c. allowed s;
  place = place;
  cell_at = λ c index. c;
  with_cell = λ c index next. next;
  rule = rule s.instances;
}

unfoldable pub primary_request : Settings → (packet : List ℕ) → Cell → Outcome (Lent Cell)
primary_request s = step (primary_by_reference s)

-- What each answer of the code comes to: a refusal leaves the cell as it was.
abbrev pub stepped : (before : Cell) → (packet : List ℕ) → Result Cell Refusal → Outcome (Lent Cell)
stepped before packet (Ok next) = outcome (verdict_number ToAcceptors) (lent packet next)
stepped before packet (Err refusal) = outcome (refusal_number refusal) (lent packet before)

-- What is left of the record, as a slice of one number.
abbrev pub as_slice : Outcome (Lent Cell) → Outcome (Lent (List ℕ))
as_slice o = outcome o.answer (lent o.left.packet (o.left.tables.next.0 ∷ []))
