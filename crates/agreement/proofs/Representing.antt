-- When boxes represent slots, one for every instance number: the cell at an instance's place in the lent tables is its slot's, each packet sent reads as a
-- message that its slot knows, and what is proposed there was wanted. Of slots that have no place nothing is said. N stands in this bridge and in the calls that keep it, and not in the slots.
-- Assumes nothing.
use Prim.Native.Nat.{ℕ, ◌≤◌}
use mathlib.Core.Path.{◌≡◌, refl, sym, ap, ◌∙◌, subst}
use mathlib.Core.Bool.{true, false}
use mathlib.Core.List.{List, ◌∷◌}
use native.Mathlib.Omega.{arith}
use lib.ListN.{get_or}
use Rattle.basics.specs.declared.Instance.{Instance}
use Rattle.basics.specs.declared.Round.{Round}
use Rattle.basics.specs.declared.Value.{Value}
use Rattle.basics.specs.Rounds.{the_instance}
use Rattle.basics.specs.Verdict.{says_send}
use Rattle.basics.specs.Places.{At, placed}
use Rattle.basics.proofs.Places.{PlacedBy, placed-once}
use Rattle.messages.specs.declared.Message.{Message}
use Rattle.messages.specs.declared.Message.TheVariants as kind
use Rattle.wire.specs.Packet.{Read, read_packet, packet_of}
use Rattle.wire.proofs.Laws.{Writable, RefusedBy, written-reads}
use Rattle.basics.specs.Outcome.{Outcome, Lent}
use Rattle.player.specs.Step.{unchanged, Player, ruled, step}
use Rattle.player.proofs.Numbers.{reader-quiet}
use Rattle.player.proofs.Steps.{step-elim}
use Rattle.quorum.specs.declared.Settings.{Settings}
use Rattle.quorum.specs.Voters.{Mem, older}
use Rattle.acceptor_tables.specs.Tables as acceptors
use Rattle.backup_cell.specs.Cell.{asking}
use Rattle.backup_tables.specs.Tables as backups
use Rattle.learner_tables.specs.Tables as learners
use Rattle.agreement.specs.Run.{Caller, acceptor, Sent, sent, Wanted, Boxes, put, Handed, VoteSent, WantedFor, requested, started}
use Rattle.agreement.specs.Run as run
use Rattle.agreement.proofs.Families.{extend, put-elim, put_all, put_same, put_other}
use Rattle.agreement.proofs.Slot.{Slot, Promise, Propose, Vote, promise, propose, vote, Sound, Unopened}

-- ---- packets and slots

-- A message that was sent by that caller stands in its slot.
pub data Knows (slots : ℕ → Slot) (by : Caller) : Message → Type 0 where
  a-prepare : {i : Instance} {r : Round} → Knows slots by (kind.Prepare i r)
  a-promise : {a : ℕ} {i : Instance} {r b : Round} {v : Value} → Mem (promise a r b v) (slots i.0).promises → Knows slots by (kind.Promise a i r b v)
  a-propose : {i : Instance} {r : Round} {v : Value} → Mem (propose r v) (slots i.0).proposes → Knows slots by (kind.Propose i r v)
  a-vote : {a : ℕ} {i : Instance} {r : Round} {v : Value} → Mem (vote a r v) (slots i.0).votes → by ≡ acceptor a → Knows slots by (kind.Vote a i r v)

-- A packet reads as a message that its slot knows.
pub record Known (slots : ℕ → Slot) (x : Sent) : Type 0 where
  pub message : Message
  pub reads : read_packet x.packet ≡ Read message
  pub knows : Knows slots x.by message

-- Every packet sent is known, and every vote of a slot was sent in a packet, by its acceptor's call.
pub record Told (packets : List Sent) (slots : ℕ → Slot) : Type 0 where
  pub known : (x : Sent) → Mem x packets → Known slots x
  pub votes : (i : Instance) (x : Vote) → Mem x (slots i.0).votes → VoteSent packets x.sender i x.round x.value

-- ---- what was wanted

-- What a slot proposed was wanted for it, and so was the own value of each backup that asks.
pub record Wants (wanted : List Wanted) (slots : ℕ → Slot) : Type 0 where
  pub proposes : (i : ℕ) (x : Propose) → Mem x (slots i).proposes → WantedFor wanted (the_instance i) x.value
  pub owns : (i b : ℕ) → ((slots i).backup b).phase ≡ asking → WantedFor wanted (the_instance i) ((slots i).backup b).own_value

-- what was wanted stays so
pub wanted-still : {before after : List Wanted} {i : Instance} {v : Value} → ((x : Wanted) → Mem x before → Mem x after) → WantedFor before i v → WantedFor after i v
wanted-still up (requested packet switch reads there) = requested packet switch reads (up _ there)
wanted-still up (started own there) = started own (up _ there)

-- ---- boxes and slots

-- The cells of an instance stand at this index.
abbrev pub PlacedAt : (N i index : ℕ) → Type 0
PlacedAt N i index = placed N (the_instance i) ≡ At index

-- The boxes represent slots, all of them sound.
pub record Represents (s : Settings) (w : Boxes) : Type 0 where
  pub slots : ℕ → Slot
  pub acceptors : (a i index : ℕ) → PlacedAt s.instances i index → acceptors.cell_at (w.acceptor a) index ≡ (slots i).acceptor a
  pub backups : (b i index : ℕ) → PlacedAt s.instances i index → backups.cell_at (w.backup b) index ≡ (slots i).backup b
  pub learners : (l i index : ℕ) → PlacedAt s.instances i index → learners.cell_at (w.learner l) index ≡ (slots i).learner l
  pub told : Told w.packets slots
  pub wants : Wants w.wanted slots
  pub sound : (i : ℕ) → Sound s.acceptors (slots i)
  -- what has no place is not voted for
  pub has-place : (i : ℕ) (x : Vote) → Mem x (slots i).votes → (index : ℕ) × PlacedAt s.instances i index
  -- the primary's next instance and those after it have no propose of round 0
  pub unopened : (i : ℕ) → get_or w.primary 0 0 ≤ i → Unopened (slots i)

-- ---- what is handed over

-- a request, or a message that its slot knows
pub data Met (slots : ℕ → Slot) (m : Message) : Type 0 where
  asked : (switch : ℕ) (value : Value) → m ≡ kind.Request switch value → Met slots m
  known : (by : Caller) → Knows slots by m → Met slots m

pub met : {s : Settings} {w : Boxes} (h : Represents s w) {p : List ℕ} {m : Message} → Handed w p → read_packet p ≡ Read m → Met h.slots m
met h (run.Handed.request bytes switch value asks) reads = asked switch value (cc)
met h (run.Handed.malformed bytes unread) reads = let no_way = unread.refuses in let z : ◌≡◌ {A = ℕ} 0 1 = cc in absurd (omega arith)
met h {m = m} (run.Handed.copy by there) reads =
    let k = h.told.known _ there in
    let same : k.message ≡ m = cc k.reads in
    known by (subst (Knows h.slots by) same k.knows)

module _ {slots : ℕ → Slot} {i : Instance} where
  pub met-promise : {a : ℕ} {r b : Round} {v : Value} → Met slots (kind.Promise a i r b v) → Mem (promise a r b v) (slots i.0).promises
  met-promise (asked switch value e) = let z : ◌≡◌ {A = ℕ} 0 1 = cc in absurd (omega arith)
  met-promise (known by (a-promise m)) = m

  pub met-propose : {r : Round} {v : Value} → Met slots (kind.Propose i r v) → Mem (propose r v) (slots i.0).proposes
  met-propose (asked switch value e) = let z : ◌≡◌ {A = ℕ} 0 1 = cc in absurd (omega arith)
  met-propose (known by (a-propose m)) = m

  pub met-vote : {a : ℕ} {r : Round} {v : Value} → Met slots (kind.Vote a i r v) → Mem (vote a r v) (slots i.0).votes
  met-vote (asked switch value e) = let z : ◌≡◌ {A = ℕ} 0 1 = cc in absurd (omega arith)
  met-vote (known by (a-vote m own)) = m

-- ---- one slot moves

-- What was sent about an instance stays so.
pub record Grows (before after : Slot) : Type 0 where
  pub promises : (x : Promise) → Mem x before.promises → Mem x after.promises
  pub proposes : (x : Propose) → Mem x before.proposes → Mem x after.proposes
  pub votes : (x : Vote) → Mem x before.votes → Mem x after.votes

module _ {packets : List Sent} {slots : ℕ → Slot} (told : Told packets slots) (j : ℕ) (next : Slot) (grows : Grows (slots j) next) where
  abbrev after : ℕ → Slot
  after = put slots j next

  -- what stood in a slot's list stands there
  still : {A : Type 0} (list : Slot → List A) → ((x : A) → Mem x (list (slots j)) → Mem x (list next)) → (n : ℕ) (x : A) → Mem x (list (slots n)) → Mem x (list (after n))
  still list up n x = put-elim (λ k (y : Slot). Mem x (list (slots k)) → Mem x (list y)) (up x) (λ _ _ m. m) n

  knows_more : {by : Caller} {m : Message} → Knows slots by m → Knows after by m
  knows_more a-prepare = a-prepare
  knows_more (a-promise {i = i} m) = a-promise (still (λ (x : Slot). x.promises) grows.promises i.0 _ m)
  knows_more (a-propose {i = i} m) = a-propose (still (λ (x : Slot). x.proposes) grows.proposes i.0 _ m)
  knows_more (a-vote {i = i} m own) = a-vote (still (λ (x : Slot). x.votes) grows.votes i.0 _ m) own

  known-still : (x : Sent) → Mem x packets → Known after x
  known-still x there = let k = told.known x there in record { message = k.message; reads = k.reads; knows = knows_more k.knows }

  -- a call that sends nothing
  pub told_same : ((x : Vote) → Mem x next.votes → Mem x (slots j).votes) → Told packets after
  told_same no_more = record {
    known = known-still;
    votes = λ i x.
        put-elim (λ n (y : Slot). Mem x y.votes → VoteSent packets x.sender (the_instance n) x.round x.value)
        (λ m. told.votes (the_instance j) x (no_more x m)) (λ n _. told.votes (the_instance n) x) i.0;
  }

  module _ (by : Caller) (m : Message) (writable : Writable m) where
    abbrev more : List Sent
    more = sent by (packet_of m) ∷ packets

    pub vote-still : {a : ℕ} {i : Instance} {r : Round} {v : Value} → VoteSent packets a i r v → VoteSent more a i r v
    vote-still x = record { packet = x.packet; switch = x.switch; reads = x.reads; was_sent = older x.was_sent }

    -- a call that sends a message
    pub told_more : Knows after by m → ((x : Vote) → Mem x next.votes → VoteSent more x.sender (the_instance j) x.round x.value) → Told more after
    told_more knows votes-there = record {
      known = extend (record { message = m; reads = written-reads m writable; knows = knows }) known-still;
      votes = λ i x.
          put-elim (λ n (y : Slot). Mem x y.votes → VoteSent more x.sender (the_instance n) x.round x.value) (votes-there x)
          (λ n _ there. vote-still (told.votes (the_instance n) x there)) i.0;
    }

-- what is proposed and asked in the slot that moves was wanted
pub wants-moved : {before after : List Wanted} {slots : ℕ → Slot} → Wants before slots → (j : ℕ) (next : Slot) → ((x : Wanted) → Mem x before → Mem x after)
    → ((x : Propose) → Mem x next.proposes → WantedFor after (the_instance j) x.value)
    → ((b : ℕ) → (next.backup b).phase ≡ asking → WantedFor after (the_instance j) (next.backup b).own_value) → Wants after (put slots j next)
wants-moved {after = after} wants j next up proposes owns = record {
  proposes = put_all (λ i (y : Slot). (x : Propose) → Mem x y.proposes → WantedFor after (the_instance i) x.value) proposes
      (λ i x m. wanted-still up (wants.proposes i x m));
  owns = put_all (λ i (y : Slot). (b : ℕ) → (y.backup b).phase ≡ asking → WantedFor after (the_instance i) (y.backup b).own_value) owns
      (λ i b asks. wanted-still up (wants.owns i b asks));
}

-- the cells of one kind of player
module _ (N : ℕ) {Tables Cell : Type 0} (cell_at : Tables → ℕ → Cell) (cells : Slot → ℕ → Cell) (slots : ℕ → Slot) (tables : ℕ → Tables)
    (stand : (a i index : ℕ) → PlacedAt N i index → cell_at (tables a) index ≡ cells (slots i) a) (j : ℕ) (next : Slot) where
  -- those that the call does not touch
  pub cells_same : ((a : ℕ) → cells next a ≡ cells (slots j) a) → (a i index : ℕ) → PlacedAt N i index → cell_at (tables a) index ≡ cells (put slots j next i) a
  cells_same same a =
      put-elim (λ i x. (index : ℕ) → PlacedAt N i index → cell_at (tables a) index ≡ cells x a) (λ index at. stand a j index at ∙ sym (same a)) (λ i _. stand a i)

  -- those of the caller's kind: its own at the instance's place, and no other, since two instances have two places
  pub cells-moved : (own : ℕ) (t : Tables) (c : Cell) (spot : ℕ) → PlacedAt N j spot → ((a : ℕ) → cells next a ≡ put (cells (slots j)) own c a) → cell_at t spot ≡ c
      → ((index : ℕ) → (spot ≡ index → ⊥) → cell_at t index ≡ cell_at (tables own) index)
      → (a i index : ℕ) → PlacedAt N i index → cell_at (put tables own t a) index ≡ cells (put slots j next i) a
  cells-moved own t c spot here is there apart =
      put-elim (λ a u. (i index : ℕ) → PlacedAt N i index → cell_at u index ≡ cells (put slots j next i) a)
      (put-elim (λ i x. (index : ℕ) → PlacedAt N i index → cell_at t index ≡ cells x own)
      (λ index at. ap (cell_at t) (same_spot index at) ∙ there ∙ sym (is own ∙ put_same (cells (slots j)) own c))
      (λ i differs index at. apart index (λ same. differs (placed-once N (the_instance j) (the_instance i) index (here ∙ ap At same) at)) ∙ stand own i index at))
      (λ a other. put-elim (λ i x. (index : ℕ) → PlacedAt N i index → cell_at (tables a) index ≡ cells x a)
      (λ index at. stand a j index at ∙ sym (is a ∙ put_other (cells (slots j)) own c a other)) (λ i _. stand a i))
    where
      same_spot : (index : ℕ) → PlacedAt N j index → index ≡ spot
      same_spot index at = let same : index ≡ spot = cc in same

-- what stays where one slot moves
module _ {s : Settings} {w : Boxes} (h : Represents s w) (j : ℕ) (next : Slot) where
  pub acceptors-same : ((a : ℕ) → next.acceptor a ≡ (h.slots j).acceptor a) → (a i index : ℕ) → PlacedAt s.instances i index
      → acceptors.cell_at (w.acceptor a) index ≡ (put h.slots j next i).acceptor a
  acceptors-same = cells_same s.instances acceptors.cell_at (λ (x : Slot). x.acceptor) h.slots w.acceptor h.acceptors j next

  pub backups-same : ((b : ℕ) → next.backup b ≡ (h.slots j).backup b) → (b i index : ℕ) → PlacedAt s.instances i index
      → backups.cell_at (w.backup b) index ≡ (put h.slots j next i).backup b
  backups-same = cells_same s.instances backups.cell_at (λ (x : Slot). x.backup) h.slots w.backup h.backups j next

  pub learners-same : ((l : ℕ) → next.learner l ≡ (h.slots j).learner l) → (l i index : ℕ) → PlacedAt s.instances i index
      → learners.cell_at (w.learner l) index ≡ (put h.slots j next i).learner l
  learners-same = cells_same s.instances learners.cell_at (λ (x : Slot). x.learner) h.slots w.learner h.learners j next

  pub all_sound : Sound s.acceptors next → (i : ℕ) → Sound s.acceptors (put h.slots j next i)
  all_sound new = put_all (λ _ x. Sound s.acceptors x) new h.sound

  pub still_placed : ((x : Vote) → Mem x next.votes → (index : ℕ) × PlacedAt s.instances j index) → (i : ℕ) (x : Vote) → Mem x (put h.slots j next i).votes
      → (index : ℕ) × PlacedAt s.instances i index
  still_placed new = put_all (λ i (y : Slot). (x : Vote) → Mem x y.votes → (index : ℕ) × PlacedAt s.instances i index) new h.has-place

  pub unopened-still : (Unopened (h.slots j) → Unopened next) → (i : ℕ) → get_or w.primary 0 0 ≤ i → Unopened (put h.slots j next i)
  unopened-still new = put_all (λ i x. get_or w.primary 0 0 ≤ i → Unopened x) (λ low. new (h.unopened j low)) h.unopened

-- ---- a step, by whether it rules

module _ {Tables Cell : Type 0} (player : Player Tables Cell) (packet : List ℕ) (tables : Tables) (Q : Outcome (Lent Tables) → Type 0) where
  pub step-acts : ((number : ℕ) → says_send number ≡ false → Q (unchanged packet tables number)) → ((m : Message) → PlacedBy (λ n. says_send n ≡ false) (player.place m))
      → (player.allowed tables ≡ true → (m : Message) → read_packet packet ≡ Read m → (index : ℕ) → player.place m ≡ At index
      → Q (ruled packet tables (player.with_cell tables index) (player.rule (player.cell_at tables index) m)))
      → Q (step player packet tables)
  unfolding says_send
  step-acts refuses places rules =
      step-elim player packet tables Q (refuses 7 refl) (λ number e. refuses number (subst (RefusedBy (λ n. says_send n ≡ false)) e (reader-quiet packet)))
      (λ m _ number e. refuses number (subst (PlacedBy (λ n. says_send n ≡ false)) e (places m))) rules
