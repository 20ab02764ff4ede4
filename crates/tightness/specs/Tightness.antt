-- How tight each promise is: for every input, refusals included, it leaves one possible answer and one possible content of each packet and table. A call's
-- promise is `Learnt`, what the checker lets a caller learn of it, so nothing is said here of a copy. What is lent by `&` cannot change.
-- Assumes nothing.
use Rattle.std.specs.Prelude.{◌≡◌}
use contract.Lifetimes.{Lfts}
use mir.Syntax.{Dict}
use Rattle.std.specs.Borrow.{MutBor}
use Rattle.std.specs.declared.clone.Clone
use Rattle.std.specs.declared.cmp.PartialEq
use denote.RattleType.{RattleType}
use denote.Param.Laws.{Laws, IsCopy}
use denote.Builtin.{u16, u32, u64}
use denote.Triple.Clauses.{AtExit}
use denote.Triple.Entry.{Args, Res}
use Rattle.basics.specs.Outcome.{outcome, lent}
use Rattle.columns.specs.declared.Item
use Rattle.quorum.specs.Settings.{settings}
use Rattle.primary.specs.Primary.{primary_request}
use Rattle.numbers.specs.contracts.number.U16Number.TheImpl as number-u16
use Rattle.numbers.specs.contracts.number.U32Number.TheImpl as number-u32
use Rattle.numbers.specs.contracts.number.U64Number.TheImpl as number-u64
use Rattle.numbers.proofs.read.Reads as read-number
use Rattle.numbers.proofs.write.Reads as write-number
use Rattle.basics.proofs.is_none.Reads as is_none
use Rattle.basics.proofs.owner.Reads as owner
use Rattle.basics.proofs.owned_or_0.Reads as owned-or-0
use Rattle.basics.proofs.owned_not_0.Reads as owned-not-0
use Rattle.basics.proofs.at_most.Reads as at_most
use Rattle.basics.proofs.same_round.Reads as same-round
use Rattle.basics.proofs.is_null.Reads as is-null
use Rattle.basics.proofs.same_value.Reads as same_value
use Rattle.basics.proofs.is_vote_up_to.Reads as is-vote-up-to
use Rattle.basics.proofs.place_of.Reads as place_of
use Rattle.basics.proofs.verdict_number.Reads as verdict-number
use Rattle.basics.proofs.refusal_number.Reads as refusal-number
use Rattle.basics.proofs.answer_number.Reads as answer-number
use Rattle.messages.proofs.keeps_table.Reads as keeps-table
use Rattle.messages.proofs.message_of.Reads as message-of
use Rattle.messages.proofs.fields_of.Reads as fields-of
use Rattle.wire.proofs.read_packet.Reads as read-packet
use Rattle.wire.proofs.put_message.Reads as put-message
use Rattle.wire.proofs.write_fields.Reads as write-fields
use Rattle.wire.proofs.write_packet.Reads as write-packet
use Rattle.packets.proofs.myrthakel_packet_write.Reads as packet-write
use Rattle.packets.proofs.myrthakel_packet_read.Reads as packet-read
use Rattle.checksum.proofs.sum_onto.Reads as sum-onto
use Rattle.checksum.proofs.complement.Reads as complement
use Rattle.frames.proofs.check.Reads as check
use Rattle.frames.proofs.myrthakel_frame_check.Reads as frame-check
use Rattle.frames.proofs.set_checksums.Reads as set-checksums
use Rattle.frames.proofs.myrthakel_frame_seal.Reads as frame-seal
use Rattle.framing.proofs.myrthakel_frame_prepare.Reads as frame-prepare
use Rattle.quorum.proofs.settings_allowed.Reads as settings-allowed
use Rattle.quorum.proofs.majority.Reads as majority
use Rattle.quorum.proofs.has_member.Reads as has-member
use Rattle.quorum.proofs.with_member.Reads as with-member
use Rattle.quorum.proofs.size.Reads as size
use Rattle.quorum.proofs.is_within.Reads as is_Within
use Rattle.quorum.proofs.reaches.Reads as reaches
use Rattle.quorum.proofs.reaches_majority.Reads as reaches-majority
use Rattle.columns.proofs.item_at.Reads as column-item-at
use Rattle.columns.proofs.put_item.Reads as column-put-item
use Rattle.columns.proofs.fill.Reads as column-fill
use Rattle.columns.proofs.round_at.Reads as column-round-at
use Rattle.columns.proofs.put_round.Reads as column-put-round
use Rattle.columns.proofs.fill_rounds.Reads as column-fill-rounds
use Rattle.columns.proofs.value_at.Reads as column-value-at
use Rattle.columns.proofs.put_value.Reads as column-put-value
use Rattle.primary_rule.proofs.fresh_cell.Reads as primary-fresh-cell
use Rattle.primary_rule.proofs.is_possible.Reads as primary-is-possible
use Rattle.primary_rule.proofs.take_request.Reads as take-request
use Rattle.primary.proofs.is_allowed.Reads as primary-is-allowed
use Rattle.primary.proofs.myrthakel_primary_fresh.Reads as primary_fresh
use Rattle.primary.proofs.step.Reads as primary-stepped
use Rattle.primary.proofs.step_slice.Reads as primary-slice-stepped
use Rattle.primary.proofs.myrthakel_primary_step.Reads as primary-step
use Rattle.primary.specs.contracts.myrthakel_primary_request as primary-request
use Rattle.primary_port.proofs.myrthakel_primary_frame.Reads as primary-frame
use Rattle.acceptor_rule.proofs.fresh_cell.Reads as acceptor-fresh-cell
use Rattle.acceptor_rule.proofs.is_possible.Reads as acceptor-is-possible
use Rattle.acceptor_rule.proofs.order_of.Reads as order-of
use Rattle.acceptor_rule.proofs.obey.Reads as obey
use Rattle.acceptor_tables.specs.Lent as lent_acceptor
use Rattle.acceptor_tables.proofs.is_allowed.Reads as acceptor-is-allowed
use Rattle.acceptor_tables.proofs.Tables.are_allowed.Reads as acceptor-are-allowed
use Rattle.acceptor_tables.proofs.myrthakel_acceptor_fresh.Reads as acceptor_fresh
use Rattle.acceptor.proofs.step.Reads as acceptor-stepped
use Rattle.acceptor.proofs.myrthakel_acceptor_step.Reads as acceptor-step
use Rattle.acceptor_port.proofs.myrthakel_acceptor_frame.Reads as acceptor-frame
use Rattle.backup_cell.proofs.fresh_cell.Reads as backup-fresh-cell
use Rattle.backup_cell.proofs.is_possible.Reads as backup-is-possible
use Rattle.backup_rule.proofs.start.Reads as start
use Rattle.backup_rule.proofs.take_promise.Reads as take-promise
use Rattle.backup_tables.specs.Lent as lent_backup
use Rattle.backup_tables.proofs.is_allowed.Reads as backup-is-allowed
use Rattle.backup_tables.proofs.SharedTables.cell_at.Reads as backup-shared-cell-at
use Rattle.backup_tables.proofs.Tables.are_allowed.Reads as backup-are-allowed
use Rattle.backup_tables.proofs.Tables.cell_at.Reads as backup-cell-at
use Rattle.backup_tables.proofs.Tables.store_cell.Reads as backup-store-cell
use Rattle.backup_tables.proofs.myrthakel_backup_fresh.Reads as backup_fresh
use Rattle.backup.proofs.start.Reads as backup-started
use Rattle.backup.proofs.step.Reads as backup-stepped
use Rattle.backup.proofs.myrthakel_backup_start.Reads as backup-start
use Rattle.backup.proofs.myrthakel_backup_step.Reads as backup-step
use Rattle.backup_port.proofs.myrthakel_backup_frame.Reads as backup-frame
use Rattle.learner_cell.proofs.fresh_cell.Reads as learner-fresh-cell
use Rattle.learner_cell.proofs.is_decided.Reads as is_decided
use Rattle.learner_cell.proofs.has_vote.Reads as has-vote
use Rattle.learner_cell.proofs.value_of.Reads as value_of_lem
use Rattle.learner_cell.proofs.is_possible.Reads as learner-is-possible
use Rattle.learner_cell.proofs.with_voter.Reads as with-voter
use Rattle.learner_rule.proofs.count_vote.Reads as count-vote
use Rattle.learner_tables.specs.Lent as lent_learner
use Rattle.learner_tables.proofs.is_allowed.Reads as learner-is-allowed
use Rattle.learner_tables.proofs.SharedTables.are_allowed.Reads as shared-are-allowed
use Rattle.learner_tables.proofs.SharedTables.cell_at.Reads as shared-cell-at
use Rattle.learner_tables.proofs.SharedTables.all_possible.Reads as all_possible
use Rattle.learner_tables.proofs.Tables.are_allowed.Reads as learner-are-allowed
use Rattle.learner_tables.proofs.Tables.cell_at.Reads as learner-cell-at
use Rattle.learner_tables.proofs.Tables.store_cell.Reads as learner-store-cell
use Rattle.learner_tables.proofs.myrthakel_learner_fresh.Reads as learner_fresh
use Rattle.learner.proofs.step.Reads as learner-stepped
use Rattle.learner.proofs.myrthakel_learner_step.Reads as learner-step
use Rattle.learner.proofs.answer_for.Reads as answer-for
use Rattle.learner.proofs.myrthakel_learner_answer.Reads as learner-answer
use Rattle.learner_port.proofs.myrthakel_learner_frame.Reads as learner-frame
use Rattle.learner_delivery.proofs.myrthakel_learner_deliver.Reads as learner-deliver
use Rattle.learner_holes.proofs.find_hole.Reads as find-hole
use Rattle.learner_holes.proofs.myrthakel_learner_first_hole.Reads as learner-first-hole
use Rattle.learner_file.proofs.saved_length.Reads as saved-length
use Rattle.learner_file.proofs.put_header.Reads as put-header
use Rattle.learner_file.proofs.is_marked.Reads as is-marked
use Rattle.learner_file.proofs.version_in.Reads as version-in
use Rattle.learner_file.proofs.same_settings.Reads as same-settings
use Rattle.learner_file.proofs.put_cells.Reads as put-cells
use Rattle.learner_file.proofs.saved_possible.Reads as saved-possible
use Rattle.learner_file.proofs.store_saved.Reads as store-saved
use Rattle.learner_saved.proofs.myrthakel_learner_save.Reads as learner-save
use Rattle.learner_saved.proofs.myrthakel_learner_read_saved.Reads as learner-read-saved
use Rattle.bench_lines.proofs.command_of.Reads as command-of
use Rattle.bench_lines.proofs.take_line.Reads as take-line
use Rattle.bench_lines.proofs.value_in.Reads as value_in
use Rattle.entries.proofs.entry_in.Reads as entry_in
use Rattle.passes.specs.Lent as lent_ledger
use Rattle.passes.proofs.SharedTable.pass_at.Reads as shared-pass-at
use Rattle.passes.proofs.SharedTable.find.Reads as shared-find
use Rattle.passes.proofs.SharedTable.is_sound.Reads as shared-is-sound
use Rattle.passes.proofs.SharedTable.is_full.Reads as shared-is-full
use Rattle.passes.proofs.Table.pass_at.Reads as pass-at
use Rattle.passes.proofs.Table.store_pass.Reads as store-pass
use Rattle.passes.proofs.Table.find.Reads as passes-find
use Rattle.passes.proofs.Table.is_sound.Reads as passes-is-sound
use Rattle.passes.proofs.Table.is_full.Reads as passes-is-full
use Rattle.ledger_rule.proofs.board_pass.Reads as board-pass
use Rattle.ledger.proofs.enter.Reads as ledger-entered
use Rattle.ledger.proofs.myrthakel_ledger_enter.Reads as ledger-enter

-- Two outcomes on the same arguments that both keep the promise, each an answer and the parameters at exit, have the same answer
abbrev pub OneAnswer : {Lifetimes : Type 0} {Entry Answer Exit : Lifetimes → Type 0} → (promise : (κs : Lifetimes) → Entry κs → Answer κs → Exit κs → Type 0) → Type 0
OneAnswer {Lifetimes} {Entry} {Answer} {Exit} promise =
    (κs : Lifetimes) (entry : Entry κs) (answer other : Answer κs) (exit exit' : Exit κs) → promise κs entry answer exit → promise κs entry other exit'
    → answer ≡ other

-- and the same content of what is lent to be changed.
abbrev pub OneContent : {Lifetimes : Type 0} {Entry Answer Exit Held : Lifetimes → Type 0}
    → (promise : (κs : Lifetimes) → Entry κs → Answer κs → Exit κs → Type 0) → (held : (κs : Lifetimes) → Exit κs → Held κs) → Type 0
OneContent {Lifetimes} {Entry} {Answer} {Exit} promise held =
    (κs : Lifetimes) (entry : Entry κs) (answer other : Answer κs) (exit exit' : Exit κs) → promise κs entry answer exit → promise κs entry other exit'
    → held κs exit ≡ held κs exit'

-- What a promise keeps of what was lent: the references that a struct holds.
abbrev pub Keeps : {Lifetimes : Type 0} {Entry Answer Exit : Lifetimes → Type 0}
    → (promise : (κs : Lifetimes) → Entry κs → Answer κs → Exit κs → Type 0) → (kept : (κs : Lifetimes) → Entry κs → Exit κs → Type 0) → Type 0
Keeps {Lifetimes} {Entry} {Answer} {Exit} promise kept =
    (κs : Lifetimes) (entry : Entry κs) (answer : Answer κs) (exit : Exit κs) → promise κs entry answer exit → kept κs entry exit

-- The content of the first of the parameters, of the first two, ..
abbrev pub held_1 : {A Rest : Type 0} → MutBor A × Rest → A
held_1 lent = lent.0.now

abbrev pub held_2 : {A B Rest : Type 0} → MutBor A × (MutBor B × Rest) → A × B
held_2 lent = (lent.0.now, lent.1.0.now)

abbrev pub held_3 : {A B C Rest : Type 0} → MutBor A × (MutBor B × (MutBor C × Rest)) → A × B × C
held_3 lent = (lent.0.now, lent.1.0.now, lent.1.1.0.now)

abbrev pub held_4 : {A B C D Rest : Type 0} → MutBor A × (MutBor B × (MutBor C × (MutBor D × Rest))) → A × B × C × D
held_4 lent = (lent.0.now, lent.1.0.now, lent.1.1.0.now, lent.1.1.1.0.now)

abbrev pub held_5 : {A B C D E Rest : Type 0} → MutBor A × (MutBor B × (MutBor C × (MutBor D × (MutBor E × Rest)))) → A × B × C × D × E
held_5 lent = (lent.0.now, lent.1.0.now, lent.1.1.0.now, lent.1.1.1.0.now, lent.1.1.1.1.0.now)

abbrev pub held_6 : {A B C D E F Rest : Type 0} → MutBor A × (MutBor B × (MutBor C × (MutBor D × (MutBor E × (MutBor F × Rest))))) → A × B × C × D × E × F
held_6 lent = (lent.0.now, lent.1.0.now, lent.1.1.0.now, lent.1.1.1.0.now, lent.1.1.1.1.0.now, lent.1.1.1.1.1.0.now)

abbrev pub held_7 : {A B C D E F G Rest : Type 0} → MutBor A × (MutBor B × (MutBor C × (MutBor D × (MutBor E × (MutBor F × (MutBor G × Rest)))))) → A × (B × C × D × E × F × G)
held_7 lent = (lent.0.now, held_6 lent.1)

-- What the contract of the call on a record lent by reference states (`of_primary_request` of `ExportedCalls`).
abbrev pub requested : (κs : Lfts 2) → Args primary-request.signature κs → Res primary-request.signature κs → AtExit primary-request.ended κs → Type 0
requested κs entry answer exit =
    outcome answer (lent exit.1.1.0.now exit.1.1.1.0.now)
    ≡ primary_request (settings entry.0 entry.1.0) entry.1.1.0.now entry.1.1.1.0.now

-- A type that a generic function may be called at: what it holds, how it is copied and cloned, and the table by which its clone is called.
pub record Copied : Type 2 where
  pub held : RattleType
  pub laws : Laws held
  pub copied : IsCopy held
  pub clones : Clone.Ghosts held.Denot
  pub clones_table : Dict

-- Every public call of the library, and a generic one at every type.
pub record EveryCall : Type 2 where
  -- numbers: a read of each kind and a write of any kind, whatever the checker knows of its type and of copies of it
  pub of_read_u16 : (laws : _) (copy : _) (kind : _) (clone : _) (copies : _) → OneAnswer (read-number.Learnt u16 laws copy number-u16.ghosts kind clone copies)
  pub of_read_u32 : (laws : _) (copy : _) (kind : _) (clone : _) (copies : _) → OneAnswer (read-number.Learnt u32 laws copy number-u32.ghosts kind clone copies)
  pub of_read_u64 : (laws : _) (copy : _) (kind : _) (clone : _) (copies : _) → OneAnswer (read-number.Learnt u64 laws copy number-u64.ghosts kind clone copies)
  pub of_write : (type : _) (laws : _) (copy : _) (number : _) (kind : _) (clone : _) (copies : _)
      → OneContent (write-number.Learnt type laws copy number kind clone copies) (λ κs exit. held_1 exit)
  -- basics
  pub of_is_none : OneAnswer is_none.Learnt
  pub of_owner : OneAnswer owner.Learnt
  pub of_owned_or_0 : OneAnswer owned-or-0.Learnt
  pub of_owned_not_0 : OneAnswer owned-not-0.Learnt
  pub of_at_most : OneAnswer at_most.Learnt
  pub of_same_round : OneAnswer same-round.Learnt
  pub of_is_null : OneAnswer is-null.Learnt
  pub of_same_value : OneAnswer same_value.Learnt
  pub of_is_vote_up_to : OneAnswer is-vote-up-to.Learnt
  pub of_place_of : OneAnswer place_of.Learnt
  pub of_verdict_number : OneAnswer verdict-number.Learnt
  pub of_refusal_number : OneAnswer refusal-number.Learnt
  pub of_answer_number : OneAnswer answer-number.Learnt
  -- messages
  pub of_keeps_table : OneAnswer keeps-table.Learnt
  pub of_message_of : OneAnswer message-of.Learnt
  pub of_fields_of : OneAnswer fields-of.Learnt
  -- wire
  pub of_read_packet : OneAnswer read-packet.Learnt
  pub of_put_message : OneContent put-message.Learnt (λ κs exit. held_1 exit)
  pub of_write_fields : OneAnswer write-fields.Learnt × OneContent write-fields.Learnt (λ κs exit. held_1 exit)
  pub of_write_packet : OneAnswer write-packet.Learnt × OneContent write-packet.Learnt (λ κs exit. held_1 exit)
  -- packets
  pub of_packet_write : OneAnswer packet-write.Learnt × OneContent packet-write.Learnt (λ κs exit. held_1 exit.1.1.1.1.1.1.1)
  pub of_packet_read : OneAnswer packet-read.Learnt × OneContent packet-read.Learnt (λ κs exit. held_7 exit.1)
  -- checksum
  pub of_sum_onto : OneAnswer sum-onto.Learnt
  pub of_complement : OneAnswer complement.Learnt
  -- frames
  pub of_check : OneAnswer check.Learnt
  pub of_frame_check : OneAnswer frame-check.Learnt
  pub of_set_checksums : OneContent set-checksums.Learnt (λ κs exit. held_1 exit)
  pub of_frame_seal : OneAnswer frame-seal.Learnt × OneContent frame-seal.Learnt (λ κs exit. held_1 exit)
  -- framing
  pub of_frame_prepare : OneAnswer frame-prepare.Learnt × OneContent frame-prepare.Learnt (λ κs exit. held_1 exit.1.1.1.1.1.1.1)
  -- quorum
  pub of_settings_allowed : OneAnswer settings-allowed.Learnt
  pub of_majority : OneAnswer majority.Learnt
  pub of_has_member : OneAnswer has-member.Learnt
  pub of_with_member : OneAnswer with-member.Learnt
  pub of_size : OneAnswer size.Learnt
  pub of_is_within : OneAnswer is_Within.Learnt
  pub of_reaches : OneAnswer reaches.Learnt
  pub of_reaches_majority : OneAnswer reaches-majority.Learnt
  -- columns
  pub of_column_item_at : (of : Copied) → OneAnswer (column-item-at.Learnt of.held of.laws of.copied of.clones of.clones_table)
  pub of_column_put_item : (of : Copied) → OneContent (column-put-item.Learnt of.held of.laws of.copied of.clones of.clones_table) (λ κs exit. held_1 exit)
  pub of_column_fill : (of : Copied) (items : Item.Ghosts of.held.Denot) (items_table : Dict) (equals : PartialEq.Ghosts of.held.Denot) (equals_table : Dict)
      → OneContent (column-fill.Learnt of.held of.laws of.copied items items_table of.clones of.clones_table equals equals_table) (λ κs exit. held_1 exit)
  pub of_column_round_at : OneAnswer column-round-at.Learnt
  pub of_column_put_round : OneContent column-put-round.Learnt (λ κs exit. held_1 exit)
  pub of_column_fill_rounds : OneContent column-fill-rounds.Learnt (λ κs exit. held_1 exit)
  pub of_column_value_at : OneAnswer column-value-at.Learnt
  pub of_column_put_value : OneContent column-put-value.Learnt (λ κs exit. held_1 exit)
  -- primary_rule
  pub of_primary_fresh_cell : OneAnswer primary-fresh-cell.Learnt
  pub of_primary_is_possible : OneAnswer primary-is-possible.Learnt
  pub of_take_request : OneAnswer take-request.Learnt
  -- primary
  pub of_primary_is_allowed : OneAnswer primary-is-allowed.Learnt
  pub of_primary_fresh : OneAnswer primary_fresh.Learnt × OneContent primary_fresh.Learnt (λ κs exit. held_1 exit.1.1)
  pub of_primary_stepped : OneAnswer primary-stepped.Learnt × OneContent primary-stepped.Learnt (λ κs exit. held_1 exit.1.1)
  pub of_primary_slice_stepped : OneAnswer primary-slice-stepped.Learnt × OneContent primary-slice-stepped.Learnt (λ κs exit. held_2 exit.1)
  pub of_primary_step : OneAnswer primary-step.Learnt × OneContent primary-step.Learnt (λ κs exit. held_2 exit.1.1)
  pub of_primary_request : OneAnswer requested × OneContent requested (λ κs exit. held_2 exit.1.1)
  -- primary_port
  pub of_primary_frame : OneAnswer primary-frame.Learnt × OneContent primary-frame.Learnt (λ κs exit. held_2 exit.1.1.1)
  -- acceptor_rule
  pub of_acceptor_fresh_cell : OneAnswer acceptor-fresh-cell.Learnt
  pub of_acceptor_is_possible : OneAnswer acceptor-is-possible.Learnt
  pub of_order_of : OneAnswer order-of.Learnt
  pub of_obey : OneAnswer obey.Learnt
  -- acceptor_tables
  pub of_acceptor_is_allowed : OneAnswer acceptor-is-allowed.Learnt
  pub of_acceptor_are_allowed : OneAnswer acceptor-are-allowed.Learnt
  pub of_acceptor_fresh : OneAnswer acceptor_fresh.Learnt × OneContent acceptor_fresh.Learnt (λ κs exit. held_3 exit.1.1)
  -- acceptor
  pub of_acceptor_stepped : OneAnswer acceptor-stepped.Learnt × OneContent acceptor-stepped.Learnt (λ κs exit. lent exit.1.1.0.now (lent_acceptor.tables_behind exit.1.1.1.0.now))
      × Keeps acceptor-stepped.Learnt (λ κs entry exit. lent_acceptor.SameReferences entry.1.1.1.0.now exit.1.1.1.0.now)
  pub of_acceptor_step : OneAnswer acceptor-step.Learnt × OneContent acceptor-step.Learnt (λ κs exit. held_4 exit.1.1.1)
  -- acceptor_port
  pub of_acceptor_frame : OneAnswer acceptor-frame.Learnt × OneContent acceptor-frame.Learnt (λ κs exit. held_4 exit.1.1.1.1)
  -- backup_cell
  pub of_backup_fresh_cell : OneAnswer backup-fresh-cell.Learnt
  pub of_backup_is_possible : OneAnswer backup-is-possible.Learnt
  -- backup_rule
  pub of_start : OneAnswer start.Learnt
  pub of_take_promise : OneAnswer take-promise.Learnt
  -- backup_tables
  pub of_backup_is_allowed : OneAnswer backup-is-allowed.Learnt
  pub of_backup_shared_cell_at : OneAnswer backup-shared-cell-at.Learnt
  pub of_backup_are_allowed : OneAnswer backup-are-allowed.Learnt
  pub of_backup_cell_at : OneAnswer backup-cell-at.Learnt
  pub of_backup_store_cell : OneContent backup-store-cell.Learnt (λ κs exit. lent_backup.tables_behind exit.0.now)
      × Keeps backup-store-cell.Learnt (λ κs entry exit. lent_backup.SameReferences entry.0.now exit.0.now)
  pub of_backup_fresh : OneAnswer backup_fresh.Learnt × OneContent backup_fresh.Learnt (λ κs exit. held_6 exit.1.1)
  -- backup
  pub of_backup_started : OneAnswer backup-started.Learnt × OneContent backup-started.Learnt (λ κs exit. lent exit.1.1.1.1.1.0.now (lent_backup.tables_behind exit.1.1.1.1.1.1.0.now))
      × Keeps backup-started.Learnt (λ κs entry exit. lent_backup.SameReferences entry.1.1.1.1.1.1.0.now exit.1.1.1.1.1.1.0.now)
  pub of_backup_stepped : OneAnswer backup-stepped.Learnt × OneContent backup-stepped.Learnt (λ κs exit. lent exit.1.1.0.now (lent_backup.tables_behind exit.1.1.1.0.now))
      × Keeps backup-stepped.Learnt (λ κs entry exit. lent_backup.SameReferences entry.1.1.1.0.now exit.1.1.1.0.now)
  pub of_backup_start : OneAnswer backup-start.Learnt × OneContent backup-start.Learnt (λ κs exit. held_7 exit.1.1.1.1.1.1.1)
  pub of_backup_step : OneAnswer backup-step.Learnt × OneContent backup-step.Learnt (λ κs exit. held_7 exit.1.1.1)
  -- backup_port
  pub of_backup_frame : OneAnswer backup-frame.Learnt × OneContent backup-frame.Learnt (λ κs exit. held_7 exit.1.1.1.1)
  -- learner_cell
  pub of_learner_fresh_cell : OneAnswer learner-fresh-cell.Learnt
  pub of_is_decided : OneAnswer is_decided.Learnt
  pub of_has_vote : OneAnswer has-vote.Learnt
  pub of_value_of : OneAnswer value_of_lem.Learnt
  pub of_learner_is_possible : OneAnswer learner-is-possible.Learnt
  pub of_with_voter : OneAnswer with-voter.Learnt
  -- learner_rule
  pub of_count_vote : OneAnswer count-vote.Learnt
  -- learner_tables
  pub of_learner_is_allowed : OneAnswer learner-is-allowed.Learnt
  pub of_shared_are_allowed : OneAnswer shared-are-allowed.Learnt
  pub of_shared_cell_at : OneAnswer shared-cell-at.Learnt
  pub of_learner_are_allowed : OneAnswer learner-are-allowed.Learnt
  pub of_learner_cell_at : OneAnswer learner-cell-at.Learnt
  pub of_learner_store_cell : OneContent learner-store-cell.Learnt (λ κs exit. lent_learner.tables_behind exit.0.now)
      × Keeps learner-store-cell.Learnt (λ κs entry exit. lent_learner.SameReferences entry.0.now exit.0.now)
  pub of_all_possible : OneAnswer all_possible.Learnt
  pub of_learner_fresh : OneAnswer learner_fresh.Learnt × OneContent learner_fresh.Learnt (λ κs exit. held_3 exit.1.1)
  -- learner
  pub of_learner_stepped : OneAnswer learner-stepped.Learnt × OneContent learner-stepped.Learnt (λ κs exit. lent_learner.tables_behind exit.1.1.0.now)
      × Keeps learner-stepped.Learnt (λ κs entry exit. lent_learner.SameReferences entry.1.1.0.now exit.1.1.0.now)
  pub of_learner_step : OneAnswer learner-step.Learnt × OneContent learner-step.Learnt (λ κs exit. held_3 exit.1.1.1)
  pub of_answer_for : OneAnswer answer-for.Learnt
  pub of_learner_answer : OneAnswer learner-answer.Learnt × OneContent learner-answer.Learnt (λ κs exit. held_2 exit.1.1.1.1.1.1)
  -- learner_port
  pub of_learner_frame : OneAnswer learner-frame.Learnt × OneContent learner-frame.Learnt (λ κs exit. held_3 exit.1.1.1.1)
  -- learner_delivery
  pub of_learner_deliver : OneAnswer learner-deliver.Learnt × OneContent learner-deliver.Learnt (λ κs exit. held_2 exit.1.1.1.1.1)
  -- learner_holes
  pub of_find_hole : OneAnswer find-hole.Learnt
  pub of_learner_first_hole : OneAnswer learner-first-hole.Learnt × OneContent learner-first-hole.Learnt (λ κs exit. held_1 exit.1.1.1.1.1)
  -- learner_file
  pub of_saved_length : OneAnswer saved-length.Learnt
  pub of_put_header : OneContent put-header.Learnt (λ κs exit. held_1 exit)
  pub of_is_marked : OneAnswer is-marked.Learnt
  pub of_version_in : OneAnswer version-in.Learnt
  pub of_same_settings : OneAnswer same-settings.Learnt
  pub of_put_cells : OneContent put-cells.Learnt (λ κs exit. held_1 exit)
  pub of_saved_possible : OneAnswer saved-possible.Learnt
  pub of_store_saved : OneContent store-saved.Learnt (λ κs exit. lent_learner.tables_behind exit.0.now)
      × Keeps store-saved.Learnt (λ κs entry exit. lent_learner.SameReferences entry.0.now exit.0.now)
  -- learner_saved
  pub of_learner_save : OneAnswer learner-save.Learnt × OneContent learner-save.Learnt (λ κs exit. held_1 exit.1.1.1.1.1)
  pub of_learner_read_saved : OneAnswer learner-read-saved.Learnt × OneContent learner-read-saved.Learnt (λ κs exit. held_3 exit.1.1.1)
  -- bench_lines
  pub of_command_of : OneAnswer command-of.Learnt
  pub of_take_line : OneAnswer take-line.Learnt × OneContent take-line.Learnt (λ κs exit. held_1 exit.1)
  pub of_value_in : OneAnswer value_in.Learnt
  -- entries
  pub of_entry_in : OneAnswer entry_in.Learnt
  -- passes
  pub of_shared_pass_at : OneAnswer shared-pass-at.Learnt
  pub of_shared_find : OneAnswer shared-find.Learnt
  pub of_shared_is_sound : OneAnswer shared-is-sound.Learnt
  pub of_shared_is_full : OneAnswer shared-is-full.Learnt
  pub of_pass_at : OneAnswer pass-at.Learnt
  pub of_store_pass : OneContent store-pass.Learnt (λ κs exit. lent_ledger.table_behind exit.0.now)
      × Keeps store-pass.Learnt (λ κs entry exit. lent_ledger.SameReferences entry.0.now exit.0.now)
  pub of_passes_find : OneAnswer passes-find.Learnt
  pub of_passes_is_sound : OneAnswer passes-is-sound.Learnt
  pub of_passes_is_full : OneAnswer passes-is-full.Learnt
  -- ledger_rule
  pub of_board_pass : OneAnswer board-pass.Learnt
  -- ledger
  pub of_ledger_entered : OneAnswer ledger-entered.Learnt × OneContent ledger-entered.Learnt (λ κs exit. lent_ledger.table_behind exit.1.0.now)
      × Keeps ledger-entered.Learnt (λ κs entry exit. lent_ledger.SameReferences entry.1.0.now exit.1.0.now)
  pub of_ledger_enter : OneAnswer ledger-enter.Learnt × OneContent ledger-enter.Learnt (λ κs exit. held_5 exit.1)
