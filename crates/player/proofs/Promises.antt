-- The promises that are made of every call, for a step of any player, each from the facts of that player's own rule, place and tables.
-- Assumes nothing.
use Prim.Native.Nat.{ℕ}
use mathlib.Core.Path.{◌≡◌, refl, sym, ap, ◌∙◌, subst}
use mathlib.Core.Bool.{Bool, true, false, false≢true}
use mathlib.Core.List.{List}
use native.Mathlib.Decide.{ℕ_discrete}
use Rattle.basics.specs.Places.{At}
use Rattle.basics.specs.declared.Verdict.{Verdict}
use Rattle.basics.specs.declared.Verdict.TheVariants.{ToAcceptors, ToLeader, ToLearners, Hold, Decided, Done, NotYet, NoHole}
use Rattle.basics.specs.Verdict.{verdict_number, is_verdict, says_send}
use Rattle.basics.proofs.Places.{PlacedBy}
use Rattle.messages.specs.declared.Message.{Message}
use Rattle.messages.specs.Table.{keeps_table}
use Rattle.messages.specs.Message.{fields_of}
use Rattle.wire.specs.Packet.{Read, Kept, read_packet, packet_of}
use Rattle.wire.proofs.Laws.{Writable, RefusedBy, read-message, read-writable, written-reads}
use Rattle.wire.proofs.RoundTrip.{read_kept}
use Rattle.player.specs.Step.{unchanged, Ruling, refused, sends, counts, Player, ruled, step}
use Rattle.player.specs.Promises.{OneOf, first, ActsOrRefuses, refuses, acts, NumbersAre, RefusalKeepsAll, OtherCellsStay, PossibleStays, SendsKept, FittingStays, UsesCell, packet_refusals}
use Rattle.player.proofs.Numbers.{reader-numbers, reader-quiet}
use Rattle.player.proofs.Steps.{step-elim}

-- ---- what a ruling and a place hold

module _ {Cell : Type 0} where
  -- the number by which a ruling refuses, or that of its verdict, is one of those
  abbrev pub RuledBy : (refusals verdicts : List ℕ) → Ruling Cell → Type 0
  RuledBy refusals verdicts (refused number) = OneOf number refusals
  RuledBy refusals verdicts (sends verdict m c) = OneOf (verdict_number verdict) verdicts
  RuledBy refusals verdicts (counts verdict c) = OneOf (verdict_number verdict) verdicts

  -- the next cell of a ruling, if it has one, is such a one
  abbrev pub NextCell : (Cell → Type 0) → Ruling Cell → Type 0
  NextCell Such (refused number) = Unit {0}
  NextCell Such (sends verdict m c) = Such c
  NextCell Such (counts verdict c) = Such c

  -- what a ruling sends is such a message, and where it sends none its number does not say to
  abbrev pub SendsOnly : (Message → Type 0) → Ruling Cell → Type 0
  SendsOnly Such (refused number) = says_send number ≡ false
  SendsOnly Such (sends verdict m c) = Such m
  SendsOnly Such (counts verdict c) = says_send (verdict_number verdict) ≡ false

verdict-is : (v : Verdict) → is_verdict (verdict_number v) ≡ true
unfolding is_verdict
verdict-is ToAcceptors = refl
verdict-is ToLeader = refl
verdict-is ToLearners = refl
verdict-is Hold = refl
verdict-is Decided = refl
verdict-is Done = refl
verdict-is NotYet = refl
verdict-is NoHole = refl

-- ---- what comes of a ruling

module _ {Tables Cell : Type 0} (packet : List ℕ) (tables : Tables) (store : Cell → Tables) where
  pub ruled-keeps : (r : Ruling Cell) → is_verdict (ruled packet tables store r).answer ≡ false
      → ruled packet tables store r ≡ unchanged packet tables (ruled packet tables store r).answer
  unfolding ruled
  ruled-keeps (refused number) e = refl
  ruled-keeps (sends verdict m c) e = absurd (false≢true (sym e ∙ verdict-is verdict))
  ruled-keeps (counts verdict c) e = absurd (false≢true (sym e ∙ verdict-is verdict))

  pub ruled-numbers : (refusals verdicts : List ℕ) (r : Ruling Cell) → RuledBy refusals verdicts r → ActsOrRefuses refusals verdicts packet tables (ruled packet tables store r)
  unfolding ruled
  ruled-numbers refusals verdicts (refused number) one = refuses one
  ruled-numbers refusals verdicts (sends verdict m c) one = acts one
  ruled-numbers refusals verdicts (counts verdict c) one = acts one

  -- what holds of the tables, and of the tables with the next cell, if there is one, holds of the tables afterwards
  pub ruled-tables : (Holds : Tables → Type 0) → Holds tables → (r : Ruling Cell) → NextCell (λ c. Holds (store c)) r → Holds (ruled packet tables store r).left.tables
  unfolding ruled
  ruled-tables Holds before (refused number) next = before
  ruled-tables Holds before (sends verdict m c) next = next
  ruled-tables Holds before (counts verdict c) next = next

  pub ruled-sends : (r : Ruling Cell) → SendsOnly Writable r → says_send (ruled packet tables store r).answer ≡ true → Kept (ruled packet tables store r).left.packet
  unfolding ruled
  ruled-sends (refused number) quiet says = absurd (false≢true (sym quiet ∙ says))
  ruled-sends (sends verdict m c) fine says = read_kept (packet_of m) m (written-reads m fine)
  ruled-sends (counts verdict c) quiet says = absurd (false≢true (sym quiet ∙ says))

-- what holds of every cell holds of the next one, and so does what follows from what holds of it
pub next-cell : {Cell : Type 0} (Such Other : Cell → Type 0) → ((c : Cell) → Such c → Other c) → (r : Ruling Cell) → NextCell Such r → NextCell Other r
next-cell Such Other follows (refused number) such = tt
next-cell Such Other follows (sends verdict m c) such = follows c such
next-cell Such Other follows (counts verdict c) such = follows c such

pub any-cell : {Cell : Type 0} (Such : Cell → Type 0) → ((c : Cell) → Such c) → (r : Ruling Cell) → NextCell Such r
any-cell Such all (refused number) = tt
any-cell Such all (sends verdict m c) = all c
any-cell Such all (counts verdict c) = all c

-- a possible cell stored at an index leaves every possible cell possible
pub stored-possible : {Tables Cell : Type 0} (cell_at : Tables → ℕ → Cell) (possible : Cell → Bool) (before after : Tables) (used index : ℕ) (c : Cell)
    → cell_at after used ≡ c → ((used ≡ index → ⊥) → cell_at after index ≡ cell_at before index) → possible (cell_at before index) ≡ true → possible c ≡ true
    → possible (cell_at after index) ≡ true
stored-possible cell_at possible before after used index c back apart fine next = go (ℕ_discrete used index)
  where
    go : Dec (used ≡ index) → possible (cell_at after index) ≡ true
    go (yes same) = ap (λ i. possible (cell_at after i)) (sym same) ∙ ap possible back ∙ next
    go (no differs) = ap possible (apart differs) ∙ fine

-- ---- the promises, of a step of any player

module _ {Tables Cell : Type 0} (player : Player Tables Cell) where
  -- needs no fact of the player: what is not a ruling with a verdict is unchanged
  pub refusal_keeps_all : RefusalKeepsAll (step player)
  refusal_keeps_all packet tables =
      step-elim player packet tables (λ o. is_verdict o.answer ≡ false → o ≡ unchanged packet tables o.answer) (λ _. refl) (λ number _ _. refl)
      (λ m _ number _ _. refl) (λ _ m _ index _. ruled-keeps packet tables (player.with_cell tables index) (player.rule (player.cell_at tables index) m))

  module _ (others verdicts : List ℕ) (places : (m : Message) → PlacedBy (λ n. OneOf n (packet_refusals others)) (player.place m))
      (rules : (c : Cell) (m : Message) → RuledBy (packet_refusals others) verdicts (player.rule c m)) where
    pub numbers_are : NumbersAre (step player) (packet_refusals others) verdicts
    numbers_are packet tables =
        step-elim player packet tables (ActsOrRefuses (packet_refusals others) verdicts packet tables) (refuses first)
        (λ number e. refuses (subst (RefusedBy (λ n. OneOf n (packet_refusals others))) e (reader-numbers others packet)))
        (λ m _ number e. refuses (subst (PlacedBy (λ n. OneOf n (packet_refusals others))) e (places m)))
        (λ _ m _ index _. ruled-numbers packet tables (player.with_cell tables index) (packet_refusals others) verdicts _ (rules (player.cell_at tables index) m))

  -- what holds of the tables, and of the tables with the next cell wherever the rule gives one, holds afterwards
  module _ (Holds : Tables → Type 0) (packet : List ℕ) (tables : Tables)
      (rules : (m : Message) (i : ℕ) → player.allowed tables ≡ true → read_packet packet ≡ Read m → player.place m ≡ At i → Holds tables
      → NextCell (λ c. Holds (player.with_cell tables i c)) (player.rule (player.cell_at tables i) m)) where
    pub tables-hold : Holds tables → Holds (step player packet tables).left.tables
    tables-hold before =
        step-elim player packet tables (λ o. Holds o.left.tables) before (λ number _. before) (λ m _ number _. before)
        (λ allowed m reads index stands. ruled-tables packet tables (player.with_cell tables index) Holds before _ (rules m index allowed reads stands before))

  module _ (apart : (t : Tables) (i j : ℕ) (c : Cell) → (i ≡ j → ⊥) → player.cell_at (player.with_cell t i c) j ≡ player.cell_at t j) where
    pub other_cells_stay : OtherCellsStay (step player) player.cell_at (UsesCell player)
    other_cells_stay packet tables other unused =
        tables-hold (λ t. player.cell_at t other ≡ player.cell_at tables other) packet tables
        (λ m i _ reads stands _. any-cell (λ c. player.cell_at (player.with_cell tables i c) other ≡ player.cell_at tables other)
        (λ c. apart tables i other c (λ same. unused (record { message = m; reads = reads; stands = stands ∙ ap At same }))) (player.rule (player.cell_at tables i) m)) refl

    module _ (there : (t : Tables) (m : Message) (i : ℕ) (c : Cell) → player.allowed t ≡ true → player.place m ≡ At i → player.cell_at (player.with_cell t i c) i ≡ c)
        (possible : Cell → Bool)
        (next : (c : Cell) (m : Message) → keeps_table (fields_of m) ≡ true → NextCell (λ d. possible d ≡ true) (player.rule c m)) where
      pub possible_stays : PossibleStays (step player) player.cell_at possible
      possible_stays packet tables index =
          tables-hold (λ t. possible (player.cell_at t index) ≡ true) packet tables
          (λ m i allowed reads stands before. next-cell (λ c. possible c ≡ true) (λ c. possible (player.cell_at (player.with_cell tables i c) index) ≡ true)
          (λ c fine. stored-possible player.cell_at possible tables (player.with_cell tables i c) i index c (there tables m i c allowed stands) (apart tables i index c) before fine)
          (player.rule (player.cell_at tables i) m) (next (player.cell_at tables i) m (read-message packet m reads)))

  module _ (Fitting : Tables → Type 0)
      (rules : (t : Tables) (m : Message) (i : ℕ) → player.allowed t ≡ true → Fitting t → Writable m → SendsOnly Writable (player.rule (player.cell_at t i) m))
      (places : (m : Message) → PlacedBy (λ n. says_send n ≡ false) (player.place m)) where
    pub sends_kept : SendsKept (step player) Fitting
    unfolding says_send
    sends_kept packet tables bytes fits =
        step-elim player packet tables (λ o. says_send o.answer ≡ true → Kept o.left.packet) (λ e. absurd (false≢true e))
        (λ number e says. absurd (false≢true (sym (subst (RefusedBy (λ n. says_send n ≡ false)) e (reader-quiet packet)) ∙ says)))
        (λ m _ number e says. absurd (false≢true (sym (subst (PlacedBy (λ n. says_send n ≡ false)) e (places m)) ∙ says)))
        (λ allowed m reads index _. ruled-sends packet tables (player.with_cell tables index) _ (rules tables m index allowed fits (read-writable packet m bytes reads)))

  module _ (Fitting : Tables → Type 0)
      (rules : (t : Tables) (m : Message) (i : ℕ) → player.allowed t ≡ true → Fitting t → Writable m
      → NextCell (λ c. Fitting (player.with_cell t i c)) (player.rule (player.cell_at t i) m)) where
    pub fitting_stays : FittingStays (step player) Fitting
    fitting_stays packet tables bytes =
        tables-hold Fitting packet tables (λ m i allowed reads _ before. rules tables m i allowed before (read-writable packet m bytes reads))
