-- Demand 3: what is claimed of every run, whatever its settings. The claim is made of a kind of run, which is the relation of its calls.
-- Assumes nothing.
use Rattle.std.specs.Prelude.{ℕ, ◌≤◌, ◌<◌, ◌≡◌, true, false, List, [], ◌∷◌, ◌⊎◌}
use Rattle.basics.specs.declared.Instance.{Instance}
use Rattle.basics.specs.declared.Round.{Round}
use Rattle.basics.specs.declared.Value.{Value}
use Rattle.basics.specs.Values.{null}
use Rattle.messages.specs.declared.Message.TheVariants.{Vote}
use Rattle.wire.specs.Packet.{Read, read_packet}
use Rattle.quorum.specs.declared.Settings.{Settings}
use Rattle.quorum.specs.Settings.{allowed}
use Rattle.quorum.specs.Voters.{Mem}
use Rattle.primary_rule.specs.declared.Cell as primary_cells
use Rattle.primary.specs.Primary.{primary_step, primary_request}
use Rattle.acceptor_tables.specs.Tables as acceptor_tables
use Rattle.acceptor.specs.Acceptor.{acceptor_step}
use Rattle.backup_tables.specs.Tables as backup_tables
use Rattle.backup.specs.Backup.{backup_step, backup_start}
use Rattle.learner_tables.specs.Tables as learner_tables
use Rattle.learner_tables.specs.Tables.{cells}
use Rattle.learner.specs.Learner as answers
use Rattle.learner.specs.Learner.{learner_step, answer_for}
use Rattle.learner_holes.specs.Holes as holes
use Rattle.learner_delivery.specs.Delivery.{delivered, deliver}
use Rattle.learner_holes.specs.Holes.{find_hole}
use Rattle.learner_saved.specs.Saved.{save}
use Rattle.agreement.specs.Run.{acceptor, Sent, by_start, Boxes, primary_record, Call, Later, Run, Decided, WantedFor, nothing, not_yet, says, said}

-- Of a value that was decided for an instance, at this moment or any time before: it is decided still, no other value is decided for that instance, and
-- each learner says "not yet" or that value.
pub record Agreed (s : Settings) (w : Boxes) (instance : Instance) (value : Value) : Type 0 where
  pub still : Decided s w instance value
  pub alone : (other : Value) → Decided s w instance other → other ≡ value
  pub learners : (which : ℕ) → (said s w which instance ≡ not_yet) ⊎ (said s w which instance ≡ says value)

-- The list that a learner's delivery writes.
abbrev pub delivered_by : Settings → Boxes → (which : ℕ) → List Value
delivered_by s w which = delivered s.acceptors (cells s (w.learner which))

-- The first list is the front of the second.
pub data Prefix : List Value → List Value → Type 0 where
  at_its_end : {longer : List Value} → Prefix [] longer
  same_value : {value : Value} {shorter longer : List Value} → Prefix shorter longer → Prefix (value ∷ shorter) (value ∷ longer)

-- A call's number that is neither 7 nor 17: settings, own number and tables were allowed, and no cell impossible.
pub record Neither7Nor17 (number : ℕ) : Type 0 where
  pub not_7 : number ≡ 7 → ⊥
  pub not_17 : number ≡ 17 → ⊥

-- No player refuses by 7 or 17, whatever the packet, the buffer and what a start is given. (A hole call has no other refusals.)
pub record NeverBy7Or17 (s : Settings) (w : Boxes) : Type 0 where
  pub primary : (p : List ℕ) → Neither7Nor17 (primary_step s p w.primary).answer
  pub requests : (p : List ℕ) → Neither7Nor17 (primary_request s p (primary_record w)).answer
  pub acceptors : (own : ℕ) (p : List ℕ) → own < s.acceptors → Neither7Nor17 (acceptor_step s own p (w.acceptor own)).answer
  pub backups : (own : ℕ) (p : List ℕ) → 1 ≤ own → own ≤ 3 → Neither7Nor17 (backup_step s own p (w.backup own)).answer
  pub starts : (own : ℕ) (instance : Instance) (floor : ℕ) (value : Value) (buffer : List ℕ) → 1 ≤ own → own ≤ 3
      → Neither7Nor17 (backup_start s own instance floor value buffer (w.backup own)).answer
  pub learners : (which : ℕ) (p : List ℕ) → Neither7Nor17 (learner_step s p (w.learner which)).answer
  pub answers : (which : ℕ) (instance : Instance) (number : ℕ) → answer_for s instance (w.learner which) ≡ answers.Refused number → Neither7Nor17 number
  pub deliveries : (which : ℕ) (buffer : List ℕ) (count : ℕ) → Neither7Nor17 (deliver s (w.learner which) buffer count).answer
  pub savings : (which : ℕ) (buffer : List ℕ) → Neither7Nor17 (save s buffer (w.learner which)).answer
  pub holes : (which number : ℕ) → find_hole s (w.learner which) ≡ holes.Refused number → ⊥

-- Every call is refused by 7, whatever its packet and its tables; and nothing was sent.
pub record AlwaysBy7 (s : Settings) (w : Boxes) : Type 0 where
  pub primary : (p next : List ℕ) → (primary_step s p next).answer ≡ 7
  pub requests : (p : List ℕ) (c : primary_cells.Cell) → (primary_request s p c).answer ≡ 7
  pub acceptors : (own : ℕ) (p : List ℕ) (t : acceptor_tables.Tables) → (acceptor_step s own p t).answer ≡ 7
  pub backups : (own : ℕ) (p : List ℕ) (t : backup_tables.Tables) → (backup_step s own p t).answer ≡ 7
  pub starts : (own : ℕ) (instance : Instance) (floor : ℕ) (value : Value) (buffer : List ℕ) (t : backup_tables.Tables)
      → (backup_start s own instance floor value buffer t).answer ≡ 7
  pub learners : (p : List ℕ) (t : learner_tables.Tables) → (learner_step s p t).answer ≡ 7
  pub answers : (instance : Instance) (t : learner_tables.Tables) → answer_for s instance t ≡ answers.Refused 7
  pub deliveries : (t : learner_tables.Tables) (buffer : List ℕ) (count : ℕ) → (deliver s t buffer count).answer ≡ 7
  pub holes : (t : learner_tables.Tables) → find_hole s t ≡ holes.Refused 7
  pub savings : (buffer : List ℕ) (t : learner_tables.Tables) → (save s buffer t).answer ≡ 7
  pub nothing_sent : w.packets ≡ []

-- Agreement, of runs whose calls are these.
pub record Agreement (Calls : Boxes → Boxes → Type 0) (s : Settings) : Type 0 where
  -- A decided value stays decided, and no other value is ever decided for that instance, however the run goes on; each learner says "not yet" or that value.
  pub decided_once : {w u : Boxes} → Run Calls s w → Later Calls w u → (instance : Instance) (value : Value) → Decided s w instance value
      → Agreed s u instance value
  -- Having said a value, a learner says that value for ever.
  pub keeps_saying : {w u : Boxes} → Run Calls s w → Later Calls w u → (which : ℕ) (instance : Instance) (value : Value) → said s w which instance ≡ says value
      → said s u which instance ≡ says value
  -- What a learner says is decided.
  pub said_is_decided : {w : Boxes} → Run Calls s w → (which : ℕ) (instance : Instance) (value : Value) → said s w which instance ≡ says value
      → Decided s w instance value
  -- What is decided was wanted
  pub decided_was_wanted : {w : Boxes} → Run Calls s w → (instance : Instance) (value : Value) → Decided s w instance value
      → WantedFor w.wanted instance value
  -- and null, which no request carries, was named by a start.
  pub null_was_started : {w : Boxes} → Run Calls s w → (instance : Instance) → Decided s w instance null
      → (own : ℕ) × Mem (by_start own instance null) w.wanted
  -- A vote packet carries the number of the acceptor whose call sent it.
  pub votes_are_own : {w : Boxes} → Run Calls s w → (x : Sent) → Mem x w.packets → (switch : ℕ) (instance : Instance) (round : Round) (value : Value)
      → read_packet x.packet ≡ Read (Vote switch instance round value) → x.by ≡ acceptor switch
  -- Of two learners' delivered lists one is a prefix of the other, at one moment or at two.
  pub one_list : {w u : Boxes} → Run Calls s w → Later Calls w u → (first second : ℕ)
      → Prefix (delivered_by s w first) (delivered_by s u second) ⊎ Prefix (delivered_by s u second) (delivered_by s w first)
  -- Where M and N are allowed, below N a learner's answer is never a refusal,
  pub never_nothing : allowed s ≡ true → {w : Boxes} → Run Calls s w → (which : ℕ) (instance : Instance) → instance.0 < s.instances
      → said s w which instance ≡ nothing → ⊥
  -- and no player refuses by 7 or 17;
  pub never_by_7_or_17 : allowed s ≡ true → {w : Boxes} → Run Calls s w → NeverBy7Or17 s w
  -- where they are not, every call is refused by 7, and nothing is ever sent.
  pub always_by_7 : allowed s ≡ false → {w : Boxes} → Run Calls s w → AlwaysBy7 s w

-- The theorem, of runs whose calls are the players' own.
abbrev pub Demand3 : Type 0
Demand3 = (s : Settings) → Agreement (Call s) s
