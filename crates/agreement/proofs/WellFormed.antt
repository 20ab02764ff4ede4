-- In a run every table keeps its size, its numbers fit their widths and its cells stay possible, and what was sent is bytes: each call keeps what its
-- player promises.
-- Assumes nothing.
use Prim.Native.Nat.{ℕ, ◌<◌}
use mathlib.Core.Path.{◌≡◌, refl, sym, ap, ◌∙◌, subst}
use mathlib.Core.Bool.{Bool, true}
use mathlib.Core.List.{List, [], ◌∷◌}
use lib.Dec.{lit<}
use Rattle.numbers.specs.BigEndian.{Bytes}
use Rattle.basics.specs.Verdict.{says_send}
use Rattle.basics.proofs.Ladder.{if-elim}
use Rattle.wire.proofs.Laws.{packet-bytes}
use Rattle.basics.specs.Outcome.{Outcome, Lent}
use Rattle.basics.specs.Rounds.{the_instance}
use Rattle.player.specs.Step.{Ruling, refused, sends, counts, Player, ruled, step}
use Rattle.player.proofs.Steps.{step-elim}
use Rattle.quorum.specs.declared.Settings.{Settings}
use Rattle.quorum.specs.Voters.{Mem}
use Rattle.primary_rule.specs.Rule as primary_rule
use Rattle.primary_rule.proofs.Laws as primary-rule
use Rattle.primary.specs.Primary.{primary_step, primary_request, primary_by_reference, as_slice}
use Rattle.primary.specs.Primary as primaries
use Rattle.primary.proofs.Laws.{slice-is-the-record}
use Rattle.primary.proofs.Promises as primary
use Rattle.acceptor_rule.specs.Rule as acceptor_rule
use Rattle.acceptor_rule.proofs.Laws as acceptor-rule
use Rattle.acceptor_tables.specs.Tables as acceptors
use Rattle.acceptor_tables.proofs.Laws as acceptor-tables
use Rattle.acceptor.specs.Acceptor.{acceptor, acceptor_step}
use Rattle.acceptor.proofs.Promises as acceptor-laws
use Rattle.backup_cell.specs.Cell as backup_cell
use Rattle.backup_cell.proofs.Laws as backup-cell
use Rattle.backup_tables.specs.Tables as backups
use Rattle.backup_tables.proofs.Laws as backup-tables
use Rattle.backup.specs.Backup.{backup, backup_step, backup_start}
use Rattle.backup.proofs.Laws.{start-elim}
use Rattle.backup.proofs.Promises as backup-laws
use Rattle.learner_cell.specs.Cell as learner_cell
use Rattle.learner_cell.proofs.Laws as learner-cell
use Rattle.learner_tables.specs.Tables as learners
use Rattle.learner_tables.proofs.Laws as learner-tables
use Rattle.learner.specs.Learner.{learner, learner_step}
use Rattle.learner.proofs.Promises as learner-laws
use Rattle.learner.proofs.Promises.{learner-sized-stays}
use Rattle.agreement.specs.Run.{Caller, Sent, sent, Boxes, fresh_boxes, primary_record, sending, after_primary, Handed, Call, Later, now, and_then, Run}
use Rattle.agreement.specs.Run as run
use Rattle.agreement.proofs.Families.{nowhere, extend, put_all}
use Rattle.agreement.proofs.Calls.Reading.{reads-keep}

-- Tables of N cells.
pub record WellFormedTables {Tables Cell : Type 0} (N : ℕ) (Sized : ℕ → Tables → Type 0) (Fitting : Tables → Type 0) (cell_at : Tables → ℕ → Cell) (possible : Cell → Bool)
    (t : Tables) : Type 0 where
  pub sized : Sized N t
  pub fitting : Fitting t
  pub cells : (i : ℕ) → i < N → possible (cell_at t i) ≡ true

-- The primary's one number.
pub record WellFormedPrimary (N : ℕ) (held : List ℕ) : Type 0 where
  pub next : ℕ
  pub is : held ≡ next ∷ []
  pub fits : primary-rule.CellFits (primary_rule.cell (the_instance next))
  pub possible : primary_rule.possible N (primary_rule.cell (the_instance next)) ≡ true

-- All boxes.
pub record WellFormed (s : Settings) (w : Boxes) : Type 0 where
  pub primary : WellFormedPrimary s.instances w.primary
  pub acceptors : (own : ℕ) → WellFormedTables s.instances acceptors.Sized acceptors.Fitting acceptors.cell_at acceptor_rule.possible (w.acceptor own)
  pub backups : (own : ℕ) → WellFormedTables s.instances backups.Sized backups.Fitting backups.cell_at (backup_cell.possible s.acceptors own) (w.backup own)
  pub learners : (which : ℕ) → WellFormedTables s.instances learners.Sized learners.Fitting learners.cell_at (learner_cell.possible s.acceptors) (w.learner which)
  pub bytes : (x : Sent) → Mem x w.packets → Bytes x.packet

pub fresh-well-formed : (s : Settings) → WellFormed s (fresh_boxes s.instances)
fresh-well-formed s =
    let N = s.instances in
    record {
      primary = record { next = 0; is = refl; fits = record { next_fits = lit< tt }; possible = primary-rule.fresh-possible N };
      acceptors = λ _. record {
        sized = acceptor-tables.fresh-sized N;
        fitting = acceptor-tables.fresh-fitting N;
        cells = λ i below. ap acceptor_rule.possible (acceptor-tables.fresh_cells N i below) ∙ acceptor-rule.fresh-possible;
      };
      backups = λ own. record {
        sized = backup-tables.fresh-sized N;
        fitting = backup-tables.fresh-fitting N;
        cells = λ i below. ap (backup_cell.possible s.acceptors own) (backup-tables.fresh_cells N i below) ∙ backup-cell.fresh-possible s.acceptors own;
      };
      learners = λ _. record {
        sized = learner-tables.fresh-sized N;
        fitting = learner-tables.fresh-fitting N;
        cells = λ i below. ap (learner_cell.possible s.acceptors) (learner-tables.fresh_cells N i below) ∙ learner-cell.fresh-possible s.acceptors;
      };
      bytes = λ x. nowhere;
    }

-- ---- what is sent is bytes

module _ {Tables Cell : Type 0} (packet : List ℕ) (tables : Tables) (bytes : Bytes packet) where
  ruled-bytes : (store : Cell → Tables) (r : Ruling Cell) → Bytes (ruled packet tables store r).left.packet
  unfolding ruled
  ruled-bytes store (refused number) = bytes
  ruled-bytes store (sends verdict m c) = packet-bytes m
  ruled-bytes store (counts verdict c) = bytes

  step-bytes : (player : Player Tables Cell) → Bytes (step player packet tables).left.packet
  step-bytes player =
      step-elim player packet tables (λ o. Bytes o.left.packet) bytes (λ _ _. bytes) (λ _ _ _ _. bytes)
      (λ _ m _ index _. ruled-bytes (player.with_cell tables index) (player.rule (player.cell_at tables index) m))

-- what holds of the packet at exit and of all that was sent before holds of all that was sent
pub sending-all : {Tables : Type 0} (P : Sent → Type 0) (by : Caller) (o : Outcome (Lent Tables)) (packets : List Sent) → (says_send o.answer ≡ true → P (sent by o.left.packet))
    → ((x : Sent) → Mem x packets → P x) → (x : Sent) → Mem x (sending by o packets) → P x
sending-all P by o packets new before = if-elim (λ l. (x : Sent) → Mem x l → P x) _ _ _ (λ e. extend (new e) before) (λ _. before)

-- ---- the primary's two forms

-- a record lent by reference is stepped as the slice of its one number
pub request-is-step : (s : Settings) (w : Boxes) → WellFormedPrimary s.instances w.primary → (p : List ℕ)
    → primary_step s p w.primary ≡ as_slice (primary_request s p (primary_record w))
request-is-step s w formed p =
    let is = formed.is in
    ap (primary_step s p) is ∙ slice-is-the-record s p formed.next ∙ ap (λ l. as_slice (primary_request s p (primaries.cell_at l 0))) (sym is)

-- ---- each call keeps them

module _ {s : Settings} {w : Boxes} (formed : WellFormed s w) where
  pub handed-bytes : {p : List ℕ} → Handed w p → Bytes p
  handed-bytes (run.Handed.request bytes switch value reads) = bytes
  handed-bytes (run.Handed.malformed bytes unread) = bytes
  handed-bytes (run.Handed.copy by there) = formed.bytes _ there

  primary-well-formed : (p : List ℕ) → Handed w p → WellFormed s (after_primary w p (primary_step s p w.primary))
  unfolding primary_request
  primary-well-formed p h =
      let before = formed.primary in
      let held = primary_rule.cell (the_instance before.next) in
      let steps = ap (primary_step s p) before.is ∙ slice-is-the-record s p before.next in
      record {
        primary = record {
          next = (primary_request s p held).left.tables.next.0;
          is = ap (λ (o : Outcome (Lent (List ℕ))). o.left.tables) steps;
          fits = primary.request-fitting-stays s p held (handed-bytes h) before.fits;
          possible = primary.request-possible-stays s p held 0 before.possible;
        };
        acceptors = formed.acceptors;
        backups = formed.backups;
        learners = formed.learners;
        bytes = sending-all (λ x. Bytes x.packet) _ (primary_step s p w.primary) w.packets
            (λ _. rw steps (step-bytes p held (handed-bytes h) (primary_by_reference s))) formed.bytes;
      }

  pub call-well-formed : {u : Boxes} → Call s w u → WellFormed s u
  unfolding acceptor_step backup_step learner_step
  call-well-formed (run.Call.primary_steps p h) = primary-well-formed p h
  call-well-formed (run.Call.primary_requests p h) =
      subst (λ o. WellFormed s (after_primary w p o)) (request-is-step s w formed.primary p) (primary-well-formed p h)
  call-well-formed (run.Call.acceptor_steps own p h) =
      let t = w.acceptor own in
      let before = formed.acceptors own in
      record {
        primary = formed.primary;
        acceptors =
            put_all (λ _ u. WellFormedTables s.instances acceptors.Sized acceptors.Fitting acceptors.cell_at acceptor_rule.possible u)
            (record {
              sized = acceptor-laws.acceptor-sized-stays s own p t before.sized;
              fitting = acceptor-laws.acceptor-fitting-stays s own p t (handed-bytes h) before.fitting;
              cells = λ i below. acceptor-laws.acceptor-possible-stays s own p t i (before.cells i below);
            })
            formed.acceptors;
        backups = formed.backups;
        learners = formed.learners;
        bytes =
            sending-all (λ x. Bytes x.packet) _ (acceptor_step s own p t) w.packets (λ _. step-bytes p t (handed-bytes h) (acceptor s own))
            formed.bytes;
      }
  call-well-formed (run.Call.backup_steps own p h) =
      let t = w.backup own in
      let before = formed.backups own in
      record {
        primary = formed.primary;
        acceptors = formed.acceptors;
        backups =
            put_all (λ b u. WellFormedTables s.instances backups.Sized backups.Fitting backups.cell_at (backup_cell.possible s.acceptors b) u)
            (record {
              sized = backup-laws.backup-sized-stays s own p t before.sized;
              fitting = backup-laws.backup-fitting-stays s own p t (handed-bytes h) before.fitting;
              cells = λ i below. backup-laws.backup-possible-stays s own p t i (before.cells i below);
            })
            formed.backups;
        learners = formed.learners;
        bytes = sending-all (λ x. Bytes x.packet) _ (backup_step s own p t) w.packets (λ _. step-bytes p t (handed-bytes h) (backup s own)) formed.bytes;
      }
  call-well-formed (run.Call.backup_starts own i floor v buffer given) =
      let t = w.backup own in
      let before = formed.backups own in
      let bytes = given.bytes in
      record {
        primary = formed.primary;
        acceptors = formed.acceptors;
        backups =
            put_all (λ b u. WellFormedTables s.instances backups.Sized backups.Fitting backups.cell_at (backup_cell.possible s.acceptors b) u)
            (record {
              sized = backup-laws.start-sized-stays s own i floor v buffer t before.sized;
              fitting =
                  backup-laws.start-fitting-stays s own i floor v given.instance_fits (record { high_fits = given.high_fits; low_fits = given.low_fits }) buffer t bytes
                  before.fitting;
              cells = λ n below. backup-laws.start-possible-stays s own i floor v buffer t n (before.cells n below);
            })
            formed.backups;
        learners = formed.learners;
        bytes =
            sending-all (λ x. Bytes x.packet) _ (backup_start s own i floor v buffer t) w.packets
            (λ _. start-elim s own i floor v buffer t (λ o. Bytes o.left.packet) bytes bytes bytes (λ _ index _. ruled-bytes buffer t bytes (backups.with_cell t index) _))
            formed.bytes;
      }
  call-well-formed (run.Call.learner_steps which p h) =
      let t = w.learner which in
      let before = formed.learners which in
      record {
        primary = formed.primary;
        acceptors = formed.acceptors;
        backups = formed.backups;
        learners =
            put_all (λ _ u. WellFormedTables s.instances learners.Sized learners.Fitting learners.cell_at (learner_cell.possible s.acceptors) u)
            (record {
              sized = learner-sized-stays s p t before.sized;
              fitting = learner-laws.learner-fitting-stays s p t (handed-bytes h) before.fitting;
              cells = λ i below. learner-laws.learner-possible-stays s p t i (before.cells i below);
            })
            formed.learners;
        bytes = sending-all (λ x. Bytes x.packet) _ (learner_step s p t) w.packets (λ _. step-bytes p t (handed-bytes h) (learner s)) formed.bytes;
      }
  call-well-formed (run.Call.only_reads reads) = subst (WellFormed s) (reads-keep reads) formed

pub later-well-formed : {s : Settings} {w u : Boxes} → WellFormed s w → Later (Call s) w u → WellFormed s u
later-well-formed formed now = formed
later-well-formed formed (and_then before call) = call-well-formed (later-well-formed formed before) call

pub run-well-formed : {s : Settings} {w : Boxes} → Run (Call s) s w → WellFormed s w
run-well-formed {s} begun = later-well-formed (fresh-well-formed s) begun
