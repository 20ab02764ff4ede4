-- One ledger at every reader: what is claimed of the ledgers that learners' delivered lists make, in every run; and that what delivery writes is that list.
-- Both are made of the definitions that the calls' own contracts cite.
-- Assumes nothing.
use Rattle.std.specs.Prelude.{ℕ, ◌*◌, ◌≤◌, ◌<◌, ◌≡◌, true, List, ◌++◌, map, length, get_or, take}
use Rattle.numbers.specs.BigEndian.{to_bytes, bytes_at}
use Rattle.basics.specs.declared.Value.{Value}
use Rattle.basics.specs.declared.Verdict.TheVariants.{Done}
use Rattle.basics.specs.Outcome.{Lent}
use Rattle.basics.specs.Values.{null}
use Rattle.basics.specs.Verdict.{verdict_number}
use Rattle.quorum.specs.declared.Settings.{Settings}
use Rattle.columns.specs.Walks.{cells_from}
use Rattle.learner_tables.specs.Tables.{Tables, cells}
use Rattle.learner_delivery.specs.Delivery.{delivered, deliver}
use Rattle.passes.specs.Passes.{Table, in_use, sound, Fresh}
use Rattle.ledger.specs.Ledger.{replay, answers}
use Rattle.ledger.specs.Promises.{Spent}
use Rattle.agreement.specs.Run.{Boxes, Call, Later, Run}
use Rattle.agreement.specs.Agreement.{delivered_by, Agreement}
use Rattle.frame_agreement.specs.FrameRun.{FrameCall}

-- ---- the ledger of a learner

-- A value as the ledger is fed it: the 16 bytes that delivery writes.
abbrev pub bytes_of : Value → List ℕ
bytes_of value = to_bytes 8 value.high ++ to_bytes 8 value.low

-- What a learner's ledger is fed: its delivered list.
abbrev pub list_of : Settings → Boxes → (which : ℕ) → List (List ℕ)
list_of s w which = map bytes_of (delivered_by s w which)

-- How many entries it has read.
abbrev pub read_by : Settings → Boxes → (which : ℕ) → ℕ
read_by s w which = length (list_of s w which)

-- A ledger: its table, and all that it answered.
pub record Ledger : Type 0 where
  pub table : Table
  pub answered : List ℕ

-- The ledger that a list makes of a table.
abbrev pub ledger_from : Table → (values : List (List ℕ)) → Ledger
ledger_from t values = record { table = replay t values; answered = answers t values }

-- The ledger that a learner's delivered list makes of a table;
abbrev pub ledger_of : Settings → Boxes → (which : ℕ) → Table → Ledger
ledger_of s w which t = ledger_from t (list_of s w which)

-- and what that was after so many entries.
abbrev pub ledger_after : (count : ℕ) → Settings → Boxes → (which : ℕ) → Table → Ledger
ledger_after count s w which t = ledger_from t (take count (list_of s w which))

-- By then it had given as many of its answers.
abbrev pub AnsweredSoFar : Type 0
AnsweredSoFar =
    (count : ℕ) (s : Settings) (w : Boxes) (which : ℕ) (t : Table) → (ledger_after count s w which t).answered ≡ take count (ledger_of s w which t).answered

-- ---- two ledgers

-- Two moments of one run, whichever is the later; they may be one.
pub data Moments (Calls : Boxes → Boxes → Type 0) (s : Settings) : Boxes → Boxes → Type 0 where
  later : {w u : Boxes} → Run Calls s w → Later Calls w u → Moments Calls s w u
  earlier : {w u : Boxes} → Run Calls s w → Later Calls w u → Moments Calls s u w

-- Two tables to begin with, at two readers: sound, and with the same passes in use, whatever else their columns hold.
pub record BegunAlike (t v : Table) : Type 0 where
  pub first_sound : sound t ≡ true
  pub second_sound : sound v ≡ true
  pub same_passes : in_use t ≡ in_use v

-- So are two fresh ones.
abbrev pub FreshBeginAlike : Type 0
FreshBeginAlike = (t v : Table) → Fresh t → Fresh v → BegunAlike t v

-- Two ledgers alike: the same passes in use and the same answers, whatever else their columns hold.
pub record LedgersAlike (one other : Ledger) : Type 0 where
  pub same_passes : in_use one.table ≡ in_use other.table
  pub same_answers : one.answered ≡ other.answered

-- What is claimed of the ledgers of two learners, the first as the boxes w have it and the second as the boxes u have it.
pub record OneIsTheOthers (s : Settings) (w u : Boxes) (first second : ℕ) : Type 0 where
  -- "one is the other's after as many entries": the one that has not read further, from any table at the beginning,
  pub after_as_many : read_by s w first ≤ read_by s u second → (t : Table) → ledger_of s w first t ≡ ledger_after (read_by s w first) s u second t
  -- and alike, where each has its own table at the beginning;
  pub after_as_many_alike : read_by s w first ≤ read_by s u second → (t v : Table) → BegunAlike t v
      → LedgersAlike (ledger_of s w first t) (ledger_after (read_by s w first) s u second v)
  -- "equally long lists make equal tables and answers", from any table at the beginning,
  pub equally_long : read_by s w first ≡ read_by s u second → (t : Table) → ledger_of s w first t ≡ ledger_of s u second t
  -- and alike, where each has its own table at the beginning;
  pub equally_long_alike : read_by s w first ≡ read_by s u second → (t v : Table) → BegunAlike t v
      → LedgersAlike (ledger_of s w first t) (ledger_of s u second v)
  -- "a pass that one has sold and that has no ride left there is known to, and has none left in, every ledger that has read at least as far".
  pub spent_there_too : read_by s w first ≤ read_by s u second → (t v : Table) → BegunAlike t v
      → (number : ℕ) → Spent number (ledger_of s w first t).table → Spent number (ledger_of s u second v).table

-- It is claimed of every two learners, at one moment of a run or at two.
abbrev pub LedgerAgreement : (Calls : Boxes → Boxes → Type 0) → Settings → Type 0
LedgerAgreement Calls s = (w u : Boxes) → Moments Calls s w u → (first second : ℕ) → OneIsTheOthers s w u first second

-- It is so in every kind of run that has agreement:
abbrev pub AgreementBringsOneLedger : Type 1
AgreementBringsOneLedger = (Calls : Boxes → Boxes → Type 0) (s : Settings) → Agreement Calls s → LedgerAgreement Calls s

-- in runs of packets,
abbrev pub OneLedger : Type 0
OneLedger = (s : Settings) → LedgerAgreement (Call s) s

-- and in runs over frames.
abbrev pub OneLedgerOverFrames : Type 0
OneLedgerOverFrames = (s : Settings) → LedgerAgreement (FrameCall s) s

-- ---- the bytes that delivery writes

-- What a host feeds its ledger: 16 bytes after 16 bytes of the buffer, as often as the count beside it says.
abbrev pub fed_from : Lent ℕ → List (List ℕ)
fed_from written = cells_from (λ i. bytes_at written.packet (16 * i) 16) 0 written.tables

-- A buffer with these values in it, and their count beside it.
pub record Holds (written : Lent ℕ) (values : List Value) : Type 0 where
  pub count : written.tables ≡ length values
  -- "the 16 bytes at place 16i of what delivery wrote are the i-th value's entry",
  pub each : (i : ℕ) → i < length values → bytes_at written.packet (16 * i) 16 ≡ bytes_of (get_or values i null)
  -- and so what is fed are the values.
  pub fed : fed_from written ≡ map bytes_of values

-- Where delivery is done, it leaves its list so.
abbrev pub DeliveredIsFed : Type 0
DeliveredIsFed =
    (s : Settings) (t : Tables) (buffer : List ℕ) (count : ℕ) → (deliver s t buffer count).answer ≡ verdict_number Done
    → Holds (deliver s t buffer count).left (delivered s.acceptors (cells s t))

-- Of a learner in a run that is the list which its ledger is made of.
abbrev pub FedIsListOf : Type 0
FedIsListOf =
    (s : Settings) (w : Boxes) (which : ℕ) (buffer : List ℕ) (count : ℕ) → (deliver s (w.learner which) buffer count).answer ≡ verdict_number Done
    → fed_from (deliver s (w.learner which) buffer count).left ≡ list_of s w which
