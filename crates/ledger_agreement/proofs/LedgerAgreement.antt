-- Of two learners' ledgers one is the other's after as many entries, since of their delivered lists one is the front of the other (`one_list`); what is spent
-- behind the front stays spent in the rest. The 16 bytes at each place that delivery wrote are the value's, by going along the values.
-- Assumes nothing.
use Prim.Native.Nat.{ℕ, zero, suc, ◌+◌, ◌*◌, ◌≤◌, ◌<◌}
use mathlib.Core.Path.{◌≡◌, refl, sym, ap, ◌∙◌, subst}
use mathlib.Core.List.{List, [], ◌∷◌, ◌++◌, map}
use mathlib.Core.Logic.{◌⊎◌, inl, inr}
use native.Mathlib.Omega.{arith}
use lib.ListN.{length, get_or, take, drop, take-append-drop}
use lib.Seq.{take_all, get_or-append-add}
use Rattle.numbers.specs.BigEndian.{bytes_at}
use Rattle.basics.specs.declared.Value.{Value}
use Rattle.basics.specs.declared.Verdict.TheVariants.{Done}
use Rattle.basics.specs.Outcome.{Outcome, Lent}
use Rattle.basics.specs.Values.{null}
use Rattle.basics.specs.Verdict.{verdict_number}
use Rattle.basics.proofs.Ladder.{need-elim}
use Rattle.quorum.specs.declared.Settings.{Settings}
use Rattle.columns.specs.Walks.{cells_from}
use Rattle.learner_tables.specs.Tables.{cells}
use Rattle.learner_delivery.specs.Delivery.{delivered, value_bytes, written_to, deliver}
use Rattle.passes.specs.Passes.{Table, pass_at, in_use}
use Rattle.ledger.specs.Ledger.{enter, replay, answers}
use Rattle.ledger.specs.Promises.{Spent}
use Rattle.ledger.proofs.Promises.{front-then-rest, spent-stays, same-passes-alike, fresh-sound, sound-stays}
use Rattle.agreement.specs.Run.{Boxes, Call}
use Rattle.agreement.specs.Agreement.{Prefix, at_its_end, same_value, Agreement}
use Rattle.agreement.proofs.Agreement.{agreement}
use Rattle.frame_agreement.specs.FrameRun.{FrameCall}
use Rattle.frame_agreement.proofs.Agreement.{frame-agreement}
use Rattle.ledger_agreement.specs.LedgerAgreement.{bytes_of, list_of, read_by, ledger_from, AnsweredSoFar, Moments, later, earlier}
use Rattle.ledger_agreement.specs.LedgerAgreement.{BegunAlike, FreshBeginAlike, LedgersAlike, AgreementBringsOneLedger, OneLedger, OneLedgerOverFrames}
use Rattle.ledger_agreement.specs.LedgerAgreement.{Holds, DeliveredIsFed, FedIsListOf}

-- ---- lists of which one is the front of the other

-- the shorter one is as many entries of the longer one;
as_many : {shorter longer : List Value} → Prefix shorter longer → map bytes_of shorter ≡ take (length (map bytes_of shorter)) (map bytes_of longer)
as_many at_its_end = refl
as_many (same_value {value = value} p) = ap (λ rest. bytes_of value ∷ rest) (as_many p)

-- and where the longer one is not longer, they are the same
no_longer : {shorter longer : List Value} → Prefix shorter longer → length (map bytes_of longer) ≤ length (map bytes_of shorter)
    → map bytes_of longer ≡ take (length (map bytes_of longer)) (map bytes_of shorter)
no_longer (at_its_end {longer = []}) low = refl
no_longer (at_its_end {longer = value ∷ values}) low = absurd (omega arith)
no_longer (same_value {value = value} p) low = ap (λ rest. bytes_of value ∷ rest) (no_longer p (omega arith))

either_way : {one other : List Value} → Prefix one other ⊎ Prefix other one → length (map bytes_of one) ≤ length (map bytes_of other)
    → map bytes_of one ≡ take (length (map bytes_of one)) (map bytes_of other)
either_way (inl p) low = as_many p
either_way (inr p) low = no_longer p low

turned_round : {A B : Type 0} → A ⊎ B → B ⊎ A
turned_round (inl a) = inr a
turned_round (inr b) = inl b

so_far : (count : ℕ) (t : Table) (values : List (List ℕ)) → answers t (take count values) ≡ take count (answers t values)
unfolding answers
so_far zero t values = refl
so_far (suc count) t [] = refl
so_far (suc count) t (value ∷ values) = ap (λ rest. (enter value t).answer ∷ rest) (so_far count (enter value t).left values)

pub answered-so-far : AnsweredSoFar
answered-so-far count s w which t = so_far count t (list_of s w which)

-- ---- the lists of two learners

module _ {Calls : Boxes → Boxes → Type 0} {s : Settings} (agrees : Agreement Calls s) where
  front : {w u : Boxes} → Moments Calls s w u → (first second : ℕ) → read_by s w first ≤ read_by s u second
      → list_of s w first ≡ take (read_by s w first) (list_of s u second)
  front (later begun more) first second low = either_way (agrees.one_list begun more first second) low
  front (earlier begun more) first second low = either_way (turned_round (agrees.one_list begun more second first)) low

  whole : {w u : Boxes} → Moments Calls s w u → (first second : ℕ) → read_by s w first ≡ read_by s u second → list_of s w first ≡ list_of s u second
  whole {w} {u} moments first second long =
      front moments first second (omega arith) ∙ take_all (read_by s w first) (list_of s u second) (omega arith)

-- ---- their ledgers

pub fresh-begin-alike : FreshBeginAlike
unfolding cells_from
fresh-begin-alike t v fresh-t fresh_v = record {
  first_sound = fresh-sound t fresh-t;
  second_sound = fresh-sound v fresh_v;
  same_passes = ap (cells_from (pass_at t.columns) 0) fresh-t.none_in_use ∙ sym (ap (cells_from (pass_at v.columns) 0) fresh_v.none_in_use);
}

module _ (t v : Table) (alike : BegunAlike t v) where
  -- behind one list they are alike
  alike-behind : {list other : List (List ℕ)} → list ≡ other → LedgersAlike (ledger_from t list) (ledger_from v other)
  alike-behind {list} same-list =
      let same = same-passes-alike t v list alike.first_sound alike.second_sound alike.same_passes in
      subst (λ values. LedgersAlike (ledger_from t list) (ledger_from v values)) same-list
      (record { same_passes = same.same_passes; same_answers = same.same_answers })

  -- what is spent behind a list's front is spent behind the list
  spent-behind : {list : List (List ℕ)} (values : List (List ℕ)) (count : ℕ) → list ≡ take count values → (number : ℕ)
      → Spent number (replay t list) → Spent number (replay v values)
  spent-behind values count is_front number spent =
      let before = take count values in
      let rest = drop count values in
      let there = moved (alike-behind is_front).same_passes spent in
      let still = spent-stays number (replay v before) rest (sound-stays v before alike.second_sound).still there in
      subst (Spent number) (sym (front-then-rest v before rest).same_table ∙ ap (replay v) (take-append-drop count values)) still
    where
      moved : {one other : Table} → in_use one ≡ in_use other → Spent number one → Spent number other
      moved same spent = record { known = rw same at spent.known; none_left = rw same at spent.none_left }

pub agreement-brings-one-ledger : AgreementBringsOneLedger
agreement-brings-one-ledger Calls s agrees w u moments first second =
    let begins = front agrees moments first second in
    let is = whole agrees moments first second in
    record {
      after_as_many = λ low t. ap (ledger_from t) (begins low);
      after_as_many_alike = λ low t v alike. alike-behind t v alike (begins low);
      equally_long = λ long t. ap (ledger_from t) (is long);
      equally_long_alike = λ long t v alike. alike-behind t v alike (is long);
      spent_there_too = λ low t v alike. spent-behind t v alike (list_of s u second) (read_by s w first) (begins low);
    }

pub one-ledger : OneLedger
one-ledger s = agreement-brings-one-ledger (Call s) s (agreement s)

pub one-ledger-over-frames : OneLedgerOverFrames
one-ledger-over-frames s = agreement-brings-one-ledger (FrameCall s) s (frame-agreement s)

-- ---- the bytes that delivery writes

-- bytes behind a front
behind : (front rest : List ℕ) (at width : ℕ) → bytes_at (front ++ rest) (length front + at) width ≡ bytes_at rest at width
behind front rest at zero = refl
behind front rest at (suc width) =
    let next : length front + at + 1 ≡ length front + (at + 1) = omega arith in
    rw (get_or-append-add front rest at 0, next) (ap (λ bytes. get_or rest at 0 ∷ bytes) (behind front rest (at + 1) width))

each-value : (values : List Value) (rest : List ℕ) (i : ℕ) → i < length values → bytes_at (value_bytes values ++ rest) (16 * i) 16 ≡ bytes_of (get_or values i null)
unfolding value_bytes
each-value [] rest i low = absurd (omega arith)
each-value (value ∷ values) rest zero low = refl
each-value (value ∷ values) rest (suc i) low =
    let place : 16 * suc i ≡ 16 + 16 * i = omega arith in
    rw place (behind (bytes_of value) (value_bytes values ++ rest) (16 * i) 16 ∙ each-value values rest i (omega arith))

-- where what stands at each index from one on is known, so is what is fed
all-fed : (fed_at : ℕ → List ℕ) (values : List Value) (index : ℕ) → ((i : ℕ) → i < length values → fed_at (index + i) ≡ bytes_of (get_or values i null))
    → cells_from fed_at index (length values) ≡ map bytes_of values
unfolding cells_from
all-fed fed_at [] index each = refl
all-fed fed_at (value ∷ values) index each =
    let here : index ≡ index + 0 = omega arith in
    let next : (i : ℕ) → suc index + i ≡ index + suc i = λ i. omega arith in
    ap (λ (bytes : List ℕ). bytes ∷ cells_from fed_at (suc index) (length values)) (ap fed_at here ∙ each 0 (omega arith))
    ∙ ap (λ rest. bytes_of value ∷ rest) (all-fed fed_at values (suc index) (λ i low. ap fed_at (next i) ∙ each (suc i) (omega arith)))

holds : (buffer : List ℕ) (values : List Value) → Holds (written_to buffer values) values
holds buffer values = record { count = refl; each = each; fed = all-fed at values 0 (λ i low. ap at (from-0 i) ∙ each i low) }
  where
    rest : List ℕ
    rest = drop (length (value_bytes values)) buffer

    at : ℕ → List ℕ
    at i = bytes_at (value_bytes values ++ rest) (16 * i) 16

    from-0 : (i : ℕ) → 0 + i ≡ i
    from-0 i = omega arith

    each : (i : ℕ) → i < length values → at i ≡ bytes_of (get_or values i null)
    each = each-value values rest

pub delivered-is-fed : DeliveredIsFed
unfolding deliver
delivered-is-fed s t buffer count =
    let list = delivered s.acceptors (cells s t) in
    let Done-holds : Outcome (Lent ℕ) → Type 0 = λ o. o.answer ≡ verdict_number Done → Holds o.left list in
    need-elim Done-holds _ _ _ (λ e. absurd (omega arith)) λ _. need-elim Done-holds _ _ _ (λ e. absurd (omega arith)) λ _.
    need-elim Done-holds _ _ _ (λ e. absurd (omega arith)) λ _ _. holds buffer list

pub fed-is-list-of : FedIsListOf
fed-is-list-of s w which buffer count done = (delivered-is-fed s (w.learner which) buffer count done).fed
