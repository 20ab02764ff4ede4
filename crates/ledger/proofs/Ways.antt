-- The ways out of a sale, of a boarding and of the call, by the tests that led there. A table that holds the passes in use is as it came, so a refusal leaves
-- it.
-- Assumes nothing.
use Prim.Native.Nat.{ℕ, ◌+◌, ◌≤◌, ◌<◌}
use mathlib.Core.Path.{◌≡◌, sym, ap, ◌∙◌}
use mathlib.Core.Bool.{Bool, true, false}
use mathlib.Core.List.{List, [], ◌∷◌, ◌++◌}
use native.Mathlib.Omega.{arith}
use lib.ListN.{length}
use borrow.Author.Tests.{leb-false}
use Rattle.std.specs.Prelude.{Option, Some, None}
use Rattle.std.specs.Option.{is_some}
use Rattle.basics.specs.Ladder.{need◌or◌then◌}
use Rattle.basics.specs.Outcome.{Outcome, outcome}
use Rattle.basics.proofs.Ladder.{need-passed}
use Rattle.entries.specs.Entry.{Entry, Null, Malformed, Sale, Boarding, entry_in}
use Rattle.passes.specs.declared.Pass.{Pass}
use Rattle.passes.specs.Passes.{Table, table, pass_at, with_pass, in_use, holding, most_passes, numbers_of, among, find, is_full, sound}
use Rattle.passes.proofs.Laws.{sound-brings, holding-in-use, holding-longer, holding-set, in-use-length, pass-in-use, known-where-found, found-none, found-some}
use Rattle.ledger_rule.specs.Rule.{Boarded, Taken, Refused, sold, boarded, skipped, opened, sell, board_pass, boarded_at, pass_of, board, rule}
use Rattle.ledger.specs.Ledger.{carried_out, enter}

-- ---- a sound table

pub room-for-one : (count : ℕ) (full : Bool) → full ≡ is_full count → full ≡ false → count < most_passes
unfolding is_full
room-for-one count full full-so room = leb-false most_passes count (sym full-so ∙ room)

module _ (t : Table) (sound-so : sound t ≡ true) where
  few : t.count ≤ most_passes
  few = (sound-brings t sound-so).few

  keeps : (answer : ℕ) → outcome answer t ≡ carried_out t (outcome answer (in_use t))
  keeps answer = ap (outcome answer) (sym (holding-in-use t.columns (sound-brings t sound-so).long t.count few))

  module _ (number : ℕ) where
    -- ---- a sale

    module _ (rides last_day : ℕ) (found : Option ℕ) (found-so : found ≡ find t 0 number) (known : Bool) (known-so : known ≡ is_some found) where
      stands : among number (numbers_of (in_use t)) ≡ known
      stands = known-where-found t number ∙ sym (ap is_some found-so) ∙ sym known-so

      pub sale-of-known : known ≡ true → outcome 32 t ≡ carried_out t (sell (in_use t) number rides last_day)
      unfolding sell need◌or◌then◌
      sale-of-known so = keeps 32 ∙ rw (stands, so)

      module _ (unknown : known ≡ false) (full : Bool) (full-so : full ≡ is_full t.count) where
        pub sale-when-full : full ≡ true → outcome 33 t ≡ carried_out t (sell (in_use t) number rides last_day)
        unfolding sell need◌or◌then◌
        sale-when-full so = keeps 33 ∙ rw (stands, unknown, in-use-length t, ← full-so, so)

        pub sale-taken : full ≡ false → (stored : Table) → stored ≡ table (with_pass t.columns t.count (opened number rides last_day)) t.count
            → outcome sold (table stored.columns (stored.count + 1)) ≡ carried_out t (sell (in_use t) number rides last_day)
        unfolding sell need◌or◌then◌
        sale-taken room stored stored-so =
            let ps = in_use t in
            let o = opened number rides last_day in
            let long = (sound-brings t sound-so).long in
            let ruled : sell ps number rides last_day ≡ outcome sold (ps ++ o ∷ []) = rw (stands, unknown, in-use-length t, ← full-so, room) in
            let held = holding-longer t.columns long ps o (omega (arith, in-use-length t, room-for-one t.count full full-so room)) in
            let there : table (with_pass (holding t.columns ps).columns (length ps) o) (length ps + 1)
            ≡ table (with_pass t.columns t.count o) (t.count + 1) =
            λ i. table (with_pass (holding-in-use t.columns long t.count few i).columns (in-use-length t i) o) (in-use-length t i + 1) in
            ap (λ u. outcome sold (table u.columns (u.count + 1))) stored-so ∙ ap (outcome sold) (sym (held ∙ there))
            ∙ ap (carried_out t) (sym ruled)

    -- ---- a boarding

    module _ (day scan : ℕ) where
      pub boarding-of-unknown : find t 0 number ≡ None → outcome 34 t ≡ carried_out t (board (in_use t) number day scan)
      unfolding board need◌or◌then◌
      boarding-of-unknown nowhere = keeps 34 ∙ rw (found-none t number nowhere)

      module _ (place : ℕ) (there : find t 0 number ≡ Some place) (p : Pass) (p-so : p ≡ pass_at t.columns place) where
        -- the boarding is that of the pass which was read
        ruled-there : (came-to : Boarded) → came-to ≡ board_pass p day scan → board (in_use t) number day scan ≡ boarded_at (in_use t) place came-to
        unfolding board
        ruled-there came-to came-so =
            let at = found-some t number place there in
            let read = sym (p-so ∙ pass-in-use t.columns t.count place at.low) in
            need-passed _ _ at.known
            ∙ ap (λ k. boarded_at (in_use t) k (board_pass (pass_of (in_use t) k) day scan)) (sym at.first)
            ∙ ap (λ q. boarded_at (in_use t) place (board_pass q day scan)) read ∙ ap (boarded_at (in_use t) place) (sym came-so)

        pub boarding-refused : (refusal : ℕ) → Refused refusal ≡ board_pass p day scan → outcome refusal t ≡ carried_out t (board (in_use t) number day scan)
        unfolding boarded_at
        boarding-refused refusal so = keeps refusal ∙ ap (carried_out t) (sym (ruled-there (Refused refusal) so))

        pub boarding-taken : (next : Pass) → Taken next ≡ board_pass p day scan → (left : Table) → left ≡ table (with_pass t.columns place next) t.count
            → outcome boarded left ≡ carried_out t (board (in_use t) number day scan)
        unfolding boarded_at
        boarding-taken next so left left_so =
            let ps = in_use t in
            let long = (sound-brings t sound-so).long in
            let low = (found-some t number place there).low in
            let held = holding-set t.columns long ps place next (omega (arith, low, in-use-length t)) in
            let stored : table (with_pass (holding t.columns ps).columns place next) (length ps) ≡ table (with_pass t.columns place next) t.count =
            λ i. table (with_pass (holding-in-use t.columns long t.count few i).columns place next) (in-use-length t i) in
            ap (outcome boarded) left_so ∙ ap (outcome boarded) (sym (held ∙ stored)) ∙ ap (carried_out t) (sym (ruled-there (Taken next) so))

-- ---- the call

pub table-sound : (t : Table) (fine : Bool) → fine ≡ sound t → fine ≡ true → sound t ≡ true
table-sound t fine fine-so passed = sym fine-so ∙ passed

module _ (value : List ℕ) (t : Table) (fine : Bool) (fine-so : fine ≡ sound t) where
  pub table-unsound : fine ≡ false → outcome 30 t ≡ enter value t
  unfolding enter need◌or◌then◌
  table-unsound other = rw (← fine-so, other)

  module _ (passed : fine ≡ true) where
    in_order : sound t ≡ true
    in_order = table-sound t fine fine-so passed

    by-rule : (e : Entry) → e ≡ entry_in value → enter value t ≡ carried_out t (rule (in_use t) e)
    unfolding enter need◌or◌then◌
    by-rule e e-so = rw (in_order, ← e-so)

    pub entry-malformed : Malformed ≡ entry_in value → outcome 31 t ≡ enter value t
    unfolding rule
    entry-malformed so = keeps t in_order 31 ∙ sym (by-rule Malformed so)

    pub entry-null : Null ≡ entry_in value → outcome skipped t ≡ enter value t
    unfolding rule
    entry-null so = keeps t in_order skipped ∙ sym (by-rule Null so)

    module _ (left : Outcome Table) (number : ℕ) where
      pub entry-sale : (rides last_day : ℕ) → Sale number rides last_day ≡ entry_in value
          → left ≡ carried_out t (sell (in_use t) number rides last_day) → left ≡ enter value t
      unfolding rule
      entry-sale rides last_day so left_so = left_so ∙ sym (by-rule (Sale number rides last_day) so)

      pub entry-boarding : (day scan : ℕ) → Boarding number day scan ≡ entry_in value
          → left ≡ carried_out t (board (in_use t) number day scan) → left ≡ enter value t
      unfolding rule
      entry-boarding day scan so left_so = left_so ∙ sym (by-rule (Boarding number day scan) so)
