-- Every public call's promise is tight: each is an equation between what is seen and what the definition says of the arguments, so two outcomes that keep
-- it are equal to the same. Where the answer stands in the equation by its ruling, the ruling tells the answer.
-- Assumes nothing.
use Rattle.std.proofs.Common.{◌≡◌, ℕ, ◌≤◌, List, Option, Some, None, Result, Ok, Err, eqb, refl, sym, ap, ◌∙◌, arith}
use Rattle.basics.specs.declared.Instance.{Instance}
use Rattle.basics.specs.declared.Refusal.{Refusal}
use Rattle.basics.specs.declared.Refusal.TheVariants.{WrongLength}
use Rattle.basics.specs.declared.Value.{Value}
use Rattle.basics.specs.declared.Verdict.{Verdict}
use Rattle.basics.specs.Answer.{answer_number}
use Rattle.basics.specs.Ladder.{when◌then◌else◌}
use Rattle.basics.specs.Outcome.{Outcome, outcome, Lent}
use Rattle.basics.specs.Places.{Place, At, Nowhere, place_of}
use Rattle.basics.specs.Verdict.{verdict_number}
use Rattle.basics.proofs.Answer.{refusal-by-number, by-number, refusal-known, refusal-below, answer-known}
use Rattle.messages.specs.declared.Message.{Message}
use Rattle.wire.specs.Packet.{Reading, Read, Refused, reading_of}
use Rattle.messages.specs.declared.Fields.{Fields}
use Rattle.player.specs.Step.{Ruling, refused, sends, counts}
use Rattle.primary_rule.specs.declared.Cell as primary_cells
use Rattle.primary_rule.specs.declared.Sent as primary_sent
use Rattle.primary_rule.specs.Rule as primary_rule
use Rattle.primary.specs.Primary.{stepped}
use Rattle.acceptor_rule.specs.declared.Cell as acceptor_cells
use Rattle.acceptor_rule.specs.declared.Obeyed as acceptor_obeyed
use Rattle.acceptor_rule.specs.declared.Obeyed.TheVariants as acceptors
use Rattle.acceptor_rule.specs.Rule as acceptor_rule
use Rattle.backup_cell.specs.declared.Cell as backup_cells
use Rattle.backup_rule.specs.declared.Taken as backup_taken
use Rattle.backup_rule.specs.declared.Taken.TheVariants as backups
use Rattle.backup_rule.specs.Rule as backup_rule
use Rattle.backup_tables.specs.Tables.{Tables}
use Rattle.learner_cell.specs.declared.Cell as learner_cells
use Rattle.learner_rule.specs.declared.Counted as learner_counted
use Rattle.learner_rule.specs.Rule as learner_rule
use Rattle.learner.specs.Learner as learner
use Rattle.learner_holes.specs.Holes as holes
use Rattle.entries.specs.declared.Entry as well_formed_entry
use Rattle.entries.specs.declared.Entry.TheVariants as well_formed
use Rattle.entries.specs.Entry as entry
use Rattle.passes.specs.declared.Pass.{Pass}
use Rattle.passes.specs.Passes.{Table}
use Rattle.ledger_rule.specs.Rule as boarding
use Rattle.ledger.specs.declared.Entered.{Entered}
use Rattle.ledger.specs.declared.Entered.TheVariants as entering
use Rattle.ledger.specs.Ledger.{entered_number, entering_number}
use Rattle.tightness.specs.Tightness.{EveryCall}

equal : {A : Type 0} {one other same : A} → one ≡ same → other ≡ same → one ≡ other
equal p q = p ∙ sym q

-- what is seen of two that are equal to the same
seen : {A B : Type 0} (part : A → B) {one other same : A} → one ≡ same → other ≡ same → part one ≡ part other
seen part p q = ap part (equal p q)

-- where a ruling gives back the answer that it is of, it tells it
told : {Answer Said : Type 0} (ruling_of : Answer → Said) (back : Said → Answer) → ((answer : Answer) → back (ruling_of answer) ≡ answer)
    → (one other : Answer) {same : Said} → ruling_of one ≡ same → ruling_of other ≡ same → one ≡ other
told ruling_of back gives_back one other p q = sym (gives_back one) ∙ seen back p q ∙ gives_back other

-- so does the number of an answer, of an outcome too
answered : (one other : Result Verdict Refusal) {same : ℕ} → answer_number one ≡ same → answer_number other ≡ same → one ≡ other
answered one other p q = answer-known one other (equal p q)

outcome-answered : {Left : Type 0} {left left' : Left} {same : Outcome Left} (one other : Result Verdict Refusal)
    → outcome (answer_number one) left ≡ same → outcome (answer_number other) left' ≡ same → one ≡ other
outcome-answered one other p q = answer-known one other (seen (λ o. o.answer) p q)

-- the answers that have the readings, the places and the rulings
read_back : Reading → Result Message Refusal
read_back (Read m) = Ok m
read_back (Refused number) = Err (refusal-by-number number)

read-back : (answer : Result Message Refusal) → read_back (reading_of answer) ≡ answer
unfolding read_back
read-back (Ok m) = refl
read-back (Err r) = ap Err (by-number r)

place_back : Place → Result ℕ Refusal
place_back (At index) = Ok index
place_back (Nowhere number) = Err (refusal-by-number number)

place-back : (answer : Result ℕ Refusal) → place_back (place_of answer) ≡ answer
unfolding place_back
place-back (Ok index) = refl
place-back (Err r) = ap Err (by-number r)

request_ruled : Ruling primary_cells.Cell → Result primary_sent.Sent Refusal
request_ruled (refused number) = Err (refusal-by-number number)
request_ruled (sends verdict message cell) = Ok (record { cell = cell; message = message })
request_ruled (counts verdict cell) = Err WrongLength

request-ruled : (answer : Result primary_sent.Sent Refusal) → request_ruled (primary_rule.ruling_of answer) ≡ answer
unfolding request_ruled
request-ruled (Ok sent) = refl
request-ruled (Err r) = ap Err (by-number r)

-- a step of the primary's cell tells its answer, and leaves the packet that it says
stepped-known : (before : primary_cells.Cell) (left left' : List ℕ) {same : Outcome (Lent primary_cells.Cell)} (one other : Result primary_cells.Cell Refusal)
    → stepped before left one ≡ same → stepped before left' other ≡ same → one ≡ other
stepped-known before left left' (Ok c) (Ok d) p q = ap Ok (seen (λ o. o.left.tables) p q)
stepped-known before left left' (Ok c) (Err r) p q = absurd (omega (arith, refusal-below r, seen (λ o. o.answer) p q))
stepped-known before left left' (Err r) (Ok c) p q = absurd (omega (arith, refusal-below r, seen (λ o. o.answer) p q))
stepped-known before left left' (Err r) (Err other) p q = ap Err (refusal-known r other (seen (λ o. o.answer) p q))

stepped-packet : (before : primary_cells.Cell) (left : List ℕ) (answer : Result primary_cells.Cell Refusal) → (stepped before left answer).left.packet ≡ left
stepped-packet before left (Ok c) = refl
stepped-packet before left (Err r) = refl

order_ruled : Ruling acceptor_cells.Cell → Result acceptor_obeyed.Obeyed Refusal
order_ruled (refused number) = Err (refusal-by-number number)
order_ruled (sends verdict message cell) = Ok (when eqb (verdict_number verdict) 102 then acceptors.Promised cell message else acceptors.Voted cell message)
order_ruled (counts verdict cell) = Err WrongLength

order-ruled : (answer : Result acceptor_obeyed.Obeyed Refusal) → order_ruled (acceptor_rule.ruling_of answer) ≡ answer
unfolding order_ruled when◌then◌else◌
order-ruled (Ok (acceptors.Promised cell message)) = refl
order-ruled (Ok (acceptors.Voted cell message)) = refl
order-ruled (Err r) = ap Err (by-number r)

promise_ruled : Ruling backup_cells.Cell → Result backup_taken.Taken Refusal
promise_ruled (refused number) = Err (refusal-by-number number)
promise_ruled (sends verdict message cell) = Ok (backups.Sent cell message)
promise_ruled (counts verdict cell) = Ok (backups.Held cell)

promise-ruled : (answer : Result backup_taken.Taken Refusal) → promise_ruled (backup_rule.ruling_of answer) ≡ answer
unfolding promise_ruled
promise-ruled (Ok (backups.Sent cell message)) = refl
promise-ruled (Ok (backups.Held cell)) = refl
promise-ruled (Err r) = ap Err (by-number r)

vote_ruled : Ruling learner_cells.Cell → Result learner_counted.Counted Refusal
vote_ruled (refused number) = Err (refusal-by-number number)
vote_ruled (sends verdict message cell) = Err WrongLength
vote_ruled (counts verdict cell) = Ok (record { verdict = verdict; cell = cell })

vote-ruled : (answer : Result learner_counted.Counted Refusal) → vote_ruled (learner_rule.ruling_of answer) ≡ answer
unfolding vote_ruled
vote-ruled (Ok counted) = refl
vote-ruled (Err r) = ap Err (by-number r)

-- and those that have what a learner says, its holes, a boarding's and an entry's
said_back : learner.Answer → Result (Option Value) Refusal
said_back (learner.Decided value) = Ok (Some value)
said_back learner.NotYet = Ok None
said_back (learner.Refused number) = Err (refusal-by-number number)

said-back : (answer : Result (Option Value) Refusal) → said_back (learner.answer_of answer) ≡ answer
unfolding said_back
said-back (Ok (Some value)) = refl
said-back (Ok None) = refl
said-back (Err r) = ap Err (by-number r)

hole_back : holes.Hole → Result (Option Instance) Refusal
hole_back (holes.Found i) = Ok (Some i)
hole_back holes.NoHole = Ok None
hole_back (holes.Refused number) = Err (refusal-by-number number)

hole-back : (answer : Result (Option Instance) Refusal) → hole_back (holes.hole_of answer) ≡ answer
unfolding hole_back
hole-back (Ok (Some i)) = refl
hole-back (Ok None) = refl
hole-back (Err r) = ap Err (by-number r)

boarded_back : boarding.Boarded → Result Pass Refusal
boarded_back (boarding.Taken p) = Ok p
boarded_back (boarding.Refused number) = Err (refusal-by-number number)

boarded-back : (answer : Result Pass Refusal) → boarded_back (boarding.boarded_of answer) ≡ answer
unfolding boarded_back
boarded-back (Ok p) = refl
boarded-back (Err r) = ap Err (by-number r)

entry_back : entry.Entry → Option well_formed_entry.Entry
entry_back entry.Null = Some well_formed.Null
entry_back entry.Malformed = None
entry_back (entry.Sale pass rides last_day) = Some (well_formed.Sale pass rides last_day)
entry_back (entry.Boarding pass day scan) = Some (well_formed.Boarding pass day scan)

entry-back : (answer : Option well_formed_entry.Entry) → entry_back (entry.entry_read answer) ≡ answer
unfolding entry_back
entry-back (Some well_formed.Null) = refl
entry-back (Some (well_formed.Sale pass rides last_day)) = refl
entry-back (Some (well_formed.Boarding pass day scan)) = refl
entry-back None = refl

-- what became of an entry, by its number
entered_back : ℕ → Entered
entered_back n = when eqb n 109 then entering.Sold else when eqb n 110 then entering.Boarded else entering.Skipped

entered-back : (e : Entered) → entered_back (entered_number e) ≡ e
unfolding entered_back when◌then◌else◌
entered-back entering.Sold = refl
entered-back entering.Boarded = refl
entered-back entering.Skipped = refl

entered-above : (e : Entered) → 109 ≤ entered_number e
entered-above entering.Sold = omega arith
entered-above entering.Boarded = omega arith
entered-above entering.Skipped = omega arith

entering-known : (one other : Result Entered Refusal) → entering_number one ≡ entering_number other → one ≡ other
entering-known (Ok e) (Ok f) same = ap Ok (sym (entered-back e) ∙ ap entered_back same ∙ entered-back f)
entering-known (Ok e) (Err r) same = absurd (omega (arith, entered-above e, refusal-below r, same))
entering-known (Err r) (Ok e) same = absurd (omega (arith, entered-above e, refusal-below r, same))
entering-known (Err r) (Err other) same = ap Err (refusal-known r other same)

-- a backup's six columns
abbrev backup_columns : Tables → List ℕ × List ℕ × List ℕ × List ℕ × List ℕ × List ℕ
backup_columns t = (t.rounds, t.phases, t.sets, t.best_vote_rounds, t.best_values, t.own_values)

-- a ledger's four columns and its count
abbrev ledger_columns : Table → List ℕ × List ℕ × List ℕ × List ℕ × ℕ
ledger_columns t = (t.columns.passes, t.columns.rides_left, t.columns.last_days, t.columns.last_scans, t.count)

-- a packet's seven fields
abbrev field_numbers : Fields → ℕ × (ℕ × ℕ × ℕ × ℕ × ℕ × ℕ)
field_numbers f = (f.kind, (f.switch, f.instance.0, f.round.0, f.vote_round.0, f.value.high, f.value.low))

pub every_call : EveryCall
every_call = record {
  of_read_u16 = λ _ _ _ _ _ _ _ _ _ _ _. equal;
  of_read_u32 = λ _ _ _ _ _ _ _ _ _ _ _. equal;
  of_read_u64 = λ _ _ _ _ _ _ _ _ _ _ _. equal;
  of_write = λ _ _ _ _ _ _ _ _ _ _ _ _ _. equal;
  of_is_none = λ _ _ _ _ _ _. equal;
  of_owner = λ _ _ _ _ _ _. equal;
  of_owned_or_0 = λ _ _ _ _ _ _. equal;
  of_owned_not_0 = λ _ _ _ _ _ _. equal;
  of_at_most = λ _ _ _ _ _ _. equal;
  of_same_round = λ _ _ _ _ _ _. equal;
  of_is_null = λ _ _ _ _ _ _. equal;
  of_same_value = λ _ _ _ _ _ _. equal;
  of_is_vote_up_to = λ _ _ _ _ _ _. equal;
  of_place_of = λ _ _ answer other _ _. told place_of place_back place-back answer other;
  of_verdict_number = λ _ _ _ _ _ _. equal;
  of_refusal_number = λ _ _ _ _ _ _. equal;
  of_answer_number = λ _ _ _ _ _ _. equal;
  of_keeps_table = λ _ _ _ _ _ _. equal;
  of_message_of = λ _ _ _ _ _ _. equal;
  of_fields_of = λ _ _ _ _ _ _. equal;
  of_read_packet = λ _ _ answer other _ _. told reading_of read_back read-back answer other;
  of_put_message = λ _ _ _ _ _ _. equal;
  of_write_fields = (λ _ _ answer other _ _. outcome-answered answer other, λ _ _ _ _ _ _. seen (λ o. o.left));
  of_write_packet = (λ _ _ answer other _ _. outcome-answered answer other, λ _ _ _ _ _ _. seen (λ o. o.left));
  of_packet_write = (λ _ _ _ _ _ _. seen (λ o. o.answer), λ _ _ _ _ _ _. seen (λ o. o.left));
  of_packet_read = (λ _ _ _ _ _ _. seen (λ o. o.answer), λ _ _ _ _ _ _. seen (λ o. field_numbers o.left));
  of_sum_onto = λ _ _ _ _ _ _. equal;
  of_complement = λ _ _ _ _ _ _. equal;
  of_check = λ _ _ answer other _ _. answered answer other;
  of_frame_check = λ _ _ _ _ _ _. equal;
  of_set_checksums = λ _ _ _ _ _ _. equal;
  of_frame_seal = (λ _ _ _ _ _ _. seen (λ o. o.answer), λ _ _ _ _ _ _. seen (λ o. o.left));
  of_frame_prepare = (λ _ _ _ _ _ _. seen (λ o. o.answer), λ _ _ _ _ _ _. seen (λ o. o.left));
  of_settings_allowed = λ _ _ _ _ _ _. equal;
  of_majority = λ _ _ _ _ _ _. equal;
  of_has_member = λ _ _ _ _ _ _. equal;
  of_with_member = λ _ _ _ _ _ _. equal;
  of_size = λ _ _ _ _ _ _. equal;
  of_is_within = λ _ _ _ _ _ _. equal;
  of_reaches = λ _ _ _ _ _ _. equal;
  of_reaches_majority = λ _ _ _ _ _ _. equal;
  of_column_item_at = λ _ _ _ _ _ _ _. equal;
  of_column_put_item = λ _ _ _ _ _ _ _. equal;
  of_column_fill = λ _ _ _ _ _ _ _ _ _ _ _. equal;
  of_column_round_at = λ _ _ _ _ _ _. equal;
  of_column_put_round = λ _ _ _ _ _ _. equal;
  of_column_fill_rounds = λ _ _ _ _ _ _. equal;
  of_column_value_at = λ _ _ _ _ _ _. equal;
  of_column_put_value = λ _ _ _ _ _ _. equal;
  of_primary_fresh_cell = λ _ _ _ _ _ _. equal;
  of_primary_is_possible = λ _ _ _ _ _ _. equal;
  of_take_request = λ _ _ answer other _ _. told primary_rule.ruling_of request_ruled request-ruled answer other;
  of_primary_is_allowed = λ _ _ _ _ _ _. equal;
  of_primary_fresh = (λ _ _ _ _ _ _. seen (λ o. o.answer), λ _ _ _ _ _ _. seen (λ o. o.left));
  of_primary_stepped = (
    λ _ _ answer other _ _. stepped-known _ _ _ answer other,
    λ _ _ answer other _ _ p q. sym (stepped-packet _ _ answer) ∙ seen (λ o. o.left.packet) p q ∙ stepped-packet _ _ other,
  );
  of_primary_slice_stepped = (λ _ _ answer other _ _. outcome-answered answer other, λ _ _ _ _ _ _. seen (λ o. (o.left.packet, o.left.tables)));
  of_primary_step = (λ _ _ _ _ _ _. seen (λ o. o.answer), λ _ _ _ _ _ _. seen (λ o. (o.left.packet, o.left.tables)));
  of_primary_request = (λ _ _ _ _ _ _. seen (λ o. o.answer), λ _ _ _ _ _ _. seen (λ o. (o.left.packet, o.left.tables)));
  of_primary_frame = (λ _ _ _ _ _ _. seen (λ o. o.answer), λ _ _ _ _ _ _. seen (λ o. (o.left.packet, o.left.tables)));
  of_acceptor_fresh_cell = λ _ _ _ _ _ _. equal;
  of_acceptor_is_possible = λ _ _ _ _ _ _. equal;
  of_order_of = λ _ _ _ _ _ _. equal;
  of_obey = λ _ _ answer other _ _. told acceptor_rule.ruling_of order_ruled order-ruled answer other;
  of_acceptor_is_allowed = λ _ _ _ _ _ _. equal;
  of_acceptor_are_allowed = λ _ _ _ _ _ _. equal;
  of_acceptor_fresh = (λ _ _ _ _ _ _. seen (λ o. o.answer), λ _ _ _ _ _ _. seen (λ o. (o.left.rounds, o.left.vote_rounds, o.left.values)));
  of_acceptor_stepped = (
    λ _ _ answer other _ _ kept kept-too. outcome-answered answer other kept.0 kept-too.0,
    λ _ _ _ _ _ _ kept kept-too. seen (λ o. o.left) kept.0 kept-too.0,
    λ _ _ _ _ kept. kept.1,
  );
  of_acceptor_step = (λ _ _ _ _ _ _. seen (λ o. o.answer), λ _ _ _ _ _ _. seen (λ o. (o.left.packet, o.left.tables.rounds, o.left.tables.vote_rounds, o.left.tables.values)));
  of_acceptor_frame = (λ _ _ _ _ _ _. seen (λ o. o.answer), λ _ _ _ _ _ _. seen (λ o. (o.left.packet, o.left.tables.rounds, o.left.tables.vote_rounds, o.left.tables.values)));
  of_backup_fresh_cell = λ _ _ _ _ _ _. equal;
  of_backup_is_possible = λ _ _ _ _ _ _. equal;
  of_start = λ _ _ answer other _ _. told backup_rule.ruling_of promise_ruled promise-ruled answer other;
  of_take_promise = λ _ _ answer other _ _. told backup_rule.ruling_of promise_ruled promise-ruled answer other;
  of_backup_is_allowed = λ _ _ _ _ _ _. equal;
  of_backup_shared_cell_at = λ _ _ _ _ _ _. equal;
  of_backup_are_allowed = λ _ _ _ _ _ _. equal;
  of_backup_cell_at = λ _ _ _ _ _ _. equal;
  of_backup_store_cell = (λ _ _ _ _ _ _ kept kept-too. equal kept.0 kept-too.0, λ _ _ _ _ kept. kept.1);
  of_backup_fresh = (λ _ _ _ _ _ _. seen (λ o. o.answer), λ _ _ _ _ _ _. seen (λ o. backup_columns o.left));
  of_backup_started = (
    λ _ _ answer other _ _ kept kept-too. outcome-answered answer other kept.0 kept-too.0,
    λ _ _ _ _ _ _ kept kept-too. seen (λ o. o.left) kept.0 kept-too.0,
    λ _ _ _ _ kept. kept.1,
  );
  of_backup_stepped = (
    λ _ _ answer other _ _ kept kept-too. outcome-answered answer other kept.0 kept-too.0,
    λ _ _ _ _ _ _ kept kept-too. seen (λ o. o.left) kept.0 kept-too.0,
    λ _ _ _ _ kept. kept.1,
  );
  of_backup_start = (λ _ _ _ _ _ _. seen (λ o. o.answer), λ _ _ _ _ _ _. seen (λ o. (o.left.packet, backup_columns o.left.tables)));
  of_backup_step = (λ _ _ _ _ _ _. seen (λ o. o.answer), λ _ _ _ _ _ _. seen (λ o. (o.left.packet, backup_columns o.left.tables)));
  of_backup_frame = (λ _ _ _ _ _ _. seen (λ o. o.answer), λ _ _ _ _ _ _. seen (λ o. (o.left.packet, backup_columns o.left.tables)));
  of_learner_fresh_cell = λ _ _ _ _ _ _. equal;
  of_is_decided = λ _ _ _ _ _ _. equal;
  of_has_vote = λ _ _ _ _ _ _. equal;
  of_value_of = λ _ _ _ _ _ _. equal;
  of_learner_is_possible = λ _ _ _ _ _ _. equal;
  of_with_voter = λ _ _ _ _ _ _. equal;
  of_count_vote = λ _ _ answer other _ _. told learner_rule.ruling_of vote_ruled vote-ruled answer other;
  of_learner_is_allowed = λ _ _ _ _ _ _. equal;
  of_shared_are_allowed = λ _ _ _ _ _ _. equal;
  of_shared_cell_at = λ _ _ _ _ _ _. equal;
  of_learner_are_allowed = λ _ _ _ _ _ _. equal;
  of_learner_cell_at = λ _ _ _ _ _ _. equal;
  of_learner_store_cell = (λ _ _ _ _ _ _ kept kept-too. equal kept.0 kept-too.0, λ _ _ _ _ kept. kept.1);
  of_all_possible = λ _ _ _ _ _ _. equal;
  of_learner_fresh = (λ _ _ _ _ _ _. seen (λ o. o.answer), λ _ _ _ _ _ _. seen (λ o. (o.left.rounds, o.left.sets, o.left.values)));
  of_learner_stepped = (
    λ _ _ answer other _ _ kept kept-too. outcome-answered answer other kept.0 kept-too.0,
    λ _ _ _ _ _ _ kept kept-too. seen (λ o. o.left.tables) kept.0 kept-too.0,
    λ _ _ _ _ kept. kept.1,
  );
  of_learner_step = (λ _ _ _ _ _ _. seen (λ o. o.answer), λ _ _ _ _ _ _. seen (λ o. (o.left.tables.rounds, o.left.tables.sets, o.left.tables.values)));
  of_answer_for = λ _ _ answer other _ _. told learner.answer_of said_back said-back answer other;
  of_learner_answer = (λ _ _ _ _ _ _. seen (λ o. o.answer), λ _ _ _ _ _ _. seen (λ o. (o.left.high, o.left.low)));
  of_learner_frame = (λ _ _ _ _ _ _. seen (λ o. o.answer), λ _ _ _ _ _ _. seen (λ o. (o.left.tables.rounds, o.left.tables.sets, o.left.tables.values)));
  of_learner_deliver = (λ _ _ _ _ _ _. seen (λ o. o.answer), λ _ _ _ _ _ _. seen (λ o. (o.left.packet, o.left.tables)));
  of_find_hole = λ _ _ answer other _ _. told holes.hole_of hole_back hole-back answer other;
  of_learner_first_hole = (λ _ _ _ _ _ _. seen (λ o. o.answer), λ _ _ _ _ _ _. seen (λ o. o.left));
  of_saved_length = λ _ _ _ _ _ _. equal;
  of_put_header = λ _ _ _ _ _ _. equal;
  of_is_marked = λ _ _ _ _ _ _. equal;
  of_version_in = λ _ _ _ _ _ _. equal;
  of_same_settings = λ _ _ _ _ _ _. equal;
  of_put_cells = λ _ _ _ _ _ _. equal;
  of_saved_possible = λ _ _ _ _ _ _. equal;
  of_store_saved = (λ _ _ _ _ _ _ kept kept-too. equal kept.0 kept-too.0, λ _ _ _ _ kept. kept.1);
  of_learner_save = (λ _ _ _ _ _ _. seen (λ o. o.answer), λ _ _ _ _ _ _. seen (λ o. o.left.packet));
  of_learner_read_saved = (λ _ _ _ _ _ _. seen (λ o. o.answer), λ _ _ _ _ _ _. seen (λ o. (o.left.tables.rounds, o.left.tables.sets, o.left.tables.values)));
  of_command_of = λ _ _ _ _ _ _. seen (λ o. o);
  of_take_line = (λ _ _ _ _ _ _. seen (λ o. o.command), λ _ _ _ _ _ _. seen (λ o. o.packet));
  of_value_in = λ _ _ _ _ _ _. seen (λ o. o);
  of_entry_in = λ _ _ answer other _ _. told entry.entry_read entry_back entry-back answer other;
  of_shared_pass_at = λ _ _ _ _ _ _. equal;
  of_shared_find = λ _ _ _ _ _ _. equal;
  of_shared_is_sound = λ _ _ _ _ _ _. equal;
  of_shared_is_full = λ _ _ _ _ _ _. equal;
  of_pass_at = λ _ _ _ _ _ _. equal;
  of_store_pass = (λ _ _ _ _ _ _ kept kept-too. equal kept.0 kept-too.0, λ _ _ _ _ kept. kept.1);
  of_passes_find = λ _ _ _ _ _ _. equal;
  of_passes_is_sound = λ _ _ _ _ _ _. equal;
  of_passes_is_full = λ _ _ _ _ _ _. equal;
  of_board_pass = λ _ _ answer other _ _. told boarding.boarded_of boarded_back boarded-back answer other;
  of_ledger_entered = (
    λ _ _ answer other _ _ kept kept-too. entering-known answer other (seen (λ o. o.answer) kept.0 kept-too.0),
    λ _ _ _ _ _ _ kept kept-too. seen (λ o. o.left) kept.0 kept-too.0,
    λ _ _ _ _ kept. kept.1,
  );
  of_ledger_enter = (λ _ _ _ _ _ _. seen (λ o. o.answer), λ _ _ _ _ _ _. seen (λ o. ledger_columns o.left));
}
