-- Demand 3, by one proof over M and N: in a run the boxes represent sound slots, so what is decided there is one value, which was wanted, and a learner's
-- decided cell holds it. Where something is decided, something was sent, and so M and N are allowed.
-- Assumes nothing.
use Prim.Native.Nat.{ℕ, ◌<◌}
use mathlib.Core.Path.{◌≡◌, refl, sym, ap, ◌∙◌, subst}
use mathlib.Core.Bool.{true, false≢true}
use mathlib.Core.Logic.{◌⊎◌, inl, inr}
use native.Mathlib.Omega.{arith}
use Rattle.basics.specs.declared.Instance.{Instance}
use Rattle.basics.specs.declared.Value.{Value}
use Rattle.basics.specs.Rounds.{the_instance}
use Rattle.basics.specs.Values.{null}
use Rattle.basics.proofs.Ladder.{by-test}
use Rattle.wire.proofs.Laws.{read-message, request-value}
use Rattle.quorum.specs.declared.Settings.{Settings}
use Rattle.quorum.specs.Settings.{allowed}
use Rattle.quorum.specs.Voters.{Mem}
use Rattle.learner_cell.specs.declared.Cell.{Cell}
use Rattle.learner_cell.specs.Cell.{is_decided, value_of, possible}
use Rattle.learner_tables.specs.Tables.{cell_at}
use Rattle.agreement.specs.Run.{by_start, Boxes, Call, Later, Run, Decided, WantedFor, requested, started, nothing, not_yet, says, said}
use Rattle.agreement.specs.Agreement.{Agreed, Agreement, Demand3}
use Rattle.agreement.proofs.WellFormed.{run-well-formed}
use Rattle.agreement.proofs.Runs.{run-represents, joined-runs, stays-frozen}
use Rattle.learner_tables.proofs.Laws.{sized-allowed}
use Rattle.agreement.proofs.Saying.{spoken, speaks, waits}
use Rattle.agreement.proofs.Deciding.{vote-named, named, decided-inside, decided_once, decided-wanted, decided-sent, cell-decided, stays-decided}
use Rattle.agreement.proofs.Delivering.{one-prefix}
use Rattle.agreement.proofs.Refusals as refusals
use Rattle.agreement.proofs.NotAllowed.{always_by_7, sent-allowed}

-- what a learner can say of an instance below N
data Saying (s : Settings) (w : Boxes) (which : ℕ) (i : Instance) : Type 0 where
  waiting : said s w which i ≡ not_yet → Saying s w which i
  speaking : (v : Value) → said s w which i ≡ says v → Saying s w which i

module _ (s : Settings) where
  module _ {w : Boxes} (begun : Run (Call s) s w) where
    saying : allowed s ≡ true → (which : ℕ) (i : Instance) → i.0 < s.instances → Saying s w which i
    saying ok which i below =
        let t = w.learner which in
        let formed = (run-well-formed begun).learners which in
        let set-up = sized-allowed s t ok formed.sized in
        let fine = formed.cells i.0 below in
        by-test (is_decided s.acceptors (cell_at t i.0))
        (λ decided. speaking _ (speaks s t i _ (record { set-up = set-up; below = below; fine = fine; decided = decided; value = refl })))
        (λ open-still. waiting (waits s t i set-up below fine open-still))

    said_is_decided : (which : ℕ) (i : Instance) (v : Value) → said s w which i ≡ says v → Decided s w i v
    said_is_decided which i v e =
        let h = spoken s (w.learner which) i v e in
        subst (Decided s w i) h.value (cell-decided (run-represents begun) which i h.below h.fine h.decided)

    never_nothing : allowed s ≡ true → (which : ℕ) (i : Instance) → i.0 < s.instances → said s w which i ≡ nothing → ⊥
    never_nothing ok which i below e = go (saying ok which i below)
      where
        go : Saying s w which i → ⊥
        go (waiting other) = let z : ◌≡◌ {A = ℕ} 0 1 = cc in omega arith
        go (speaking v other) = let z : ◌≡◌ {A = ℕ} 0 1 = cc in omega arith

    -- a value is decided only where something was sent
    decided-allowed : {i : Instance} {v : Value} → Decided s w i v → allowed s ≡ true
    decided-allowed d = let x = decided-sent (run-represents begun) d in sent-allowed begun x.0 x.1

    null_was_started : (i : Instance) → WantedFor w.wanted i null → (own : ℕ) × Mem (by_start own i null) w.wanted
    null_was_started i (requested p switch reads _) = absurd (false≢true (request-value switch null (read-message p _ reads)))
    null_was_started i (started own there) = (own, there)

  module _ {w u : Boxes} (begun : Run (Call s) s w) (later : Later (Call s) w u) where
    agreed : (i : Instance) (v : Value) → Decided s w i v → Agreed s u i v
    agreed i v d = record {
      still = still;
      alone = λ other e. decided_once (run-represents whole) e still;
      learners = λ which. go which (saying whole (decided-allowed begun d) which i (decided-inside (run-represents whole) still));
    }
      where
        whole : Run (Call s) s u
        whole = joined-runs begun later

        still : Decided s u i v
        still = stays-decided later d

        go : (which : ℕ) → Saying s u which i → (said s u which i ≡ not_yet) ⊎ (said s u which i ≡ says v)
        go which (waiting e) = inl e
        go which (speaking x e) = inr (e ∙ ap says (decided_once (run-represents whole) (said_is_decided whole which i x e) still))

    keeps_saying : (which : ℕ) (i : Instance) (v : Value) → said s w which i ≡ says v → said s u which i ≡ says v
    keeps_saying which i v e =
        let h = spoken s (w.learner which) i v e in
        let same = sym (stays-frozen {s = s} which i.0 h.decided later) in
        let ok = decided-allowed begun (said_is_decided begun which i v e) in
        speaks s (u.learner which) i v (record {
          set-up = sized-allowed s (u.learner which) ok ((run-well-formed (joined-runs begun later)).learners which).sized;
          below = h.below;
          fine = subst (λ c. possible s.acceptors c ≡ true) same h.fine;
          decided = subst (λ c. is_decided s.acceptors c ≡ true) same h.decided;
          value = subst (λ (c : Cell). value_of s.acceptors c ≡ v) same h.value;
        })

    -- where two learners have decided an instance they hold one value
    same-cells : (first second i : ℕ) → i < s.instances → is_decided s.acceptors (cell_at (w.learner first) i) ≡ true
        → is_decided s.acceptors (cell_at (u.learner second) i) ≡ true → value_of s.acceptors (cell_at (w.learner first) i)
        ≡ value_of s.acceptors (cell_at (u.learner second) i)
    same-cells first second i below d e =
        let whole = joined-runs begun later in
        decided_once (run-represents whole)
        (stays-decided later (cell-decided (run-represents begun) first (the_instance i) below (((run-well-formed begun).learners first).cells i below) d))
        (cell-decided (run-represents whole) second (the_instance i) below (((run-well-formed whole).learners second).cells i below) e)

  agrees : Agreement (Call s) s
  agrees = record {
    decided_once = agreed;
    keeps_saying = keeps_saying;
    said_is_decided = said_is_decided;
    decided_was_wanted = λ begun i v. decided-wanted (run-represents begun);
    null_was_started = λ begun i d. null_was_started begun i (decided-wanted (run-represents begun) d);
    votes_are_own = λ begun x there switch i r v reads. named (vote-named (run-represents begun) x there switch i r v reads);
    one_list = λ {w} {u} begun later first second.
        one-prefix s.acceptors (w.learner first) (u.learner second) 0 s.instances (λ i below. same-cells begun later first second i (omega arith));
    never_nothing = λ ok begun. never_nothing begun ok;
    never_by_7_or_17 = λ ok begun. refusals.never_by_7_or_17 ok (run-well-formed begun);
    always_by_7 = always_by_7 s;
  }

pub agreement : Demand3
agreement = agrees
