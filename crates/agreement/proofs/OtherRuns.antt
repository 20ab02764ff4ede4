-- Runs of another kind agree, too, where each of their calls is some calls of a kind that agrees: such a run is one of the other kind, on the same boxes.
-- Assumes nothing.
use Rattle.quorum.specs.declared.Settings.{Settings}
use Rattle.agreement.specs.Run.{Boxes, Later, now, and_then}
use Rattle.agreement.specs.Agreement.{Agreement}
use Rattle.agreement.proofs.Runs.{joined-runs}

module _ {Calls Others : Boxes → Boxes → Type 0} (are : (w u : Boxes) → Others w u → Later Calls w u) where
  pub as-calls : {w u : Boxes} → Later Others w u → Later Calls w u
  as-calls now = now
  as-calls (and_then before call) = joined-runs (as-calls before) (are _ _ call)

  pub agree-too : {s : Settings} → Agreement Calls s → Agreement Others s
  agree-too agreed = record {
    decided_once = λ begun later. agreed.decided_once (as-calls begun) (as-calls later);
    keeps_saying = λ begun later. agreed.keeps_saying (as-calls begun) (as-calls later);
    said_is_decided = λ begun. agreed.said_is_decided (as-calls begun);
    decided_was_wanted = λ begun. agreed.decided_was_wanted (as-calls begun);
    null_was_started = λ begun. agreed.null_was_started (as-calls begun);
    votes_are_own = λ begun. agreed.votes_are_own (as-calls begun);
    one_list = λ begun later. agreed.one_list (as-calls begun) (as-calls later);
    never_nothing = λ ok begun. agreed.never_nothing ok (as-calls begun);
    never_by_7_or_17 = λ ok begun. agreed.never_by_7_or_17 ok (as-calls begun);
    always_by_7 = λ never begun. agreed.always_by_7 never (as-calls begun);
  }
