-- One elimination law for each kind of message: what holds of what is done with the kind, and of what is done otherwise, holds of the choice.
-- With these no proof of a player goes by all the kinds, so that a new kind is felt here alone.
-- Assumes nothing.
use Prim.Native.Nat.{ℕ}
use mathlib.Core.Path.{◌≡◌, refl}
use mathlib.Core.List.{[], ◌∷◌}
use mathlib.Core.Logic.{⊎_elim}
use denote.Enum.Declared.{tag_of}
use types.Run.{OneOf}
use borrow.Author.Tests.{eqb-false}
use Rattle.basics.specs.declared.Instance.{Instance}
use Rattle.basics.specs.declared.Round.{Round}
use Rattle.basics.specs.declared.Value.{Value}
use Rattle.messages.specs.declared.Message.{Message}
use Rattle.messages.specs.declared.Message.TheVariants.{Request, Prepare, Promise, Propose, Vote}
use Rattle.messages.specs.contracts.Message.{the_type}
use Rattle.messages.specs.Message.{when_request, when_prepare, when_promise, when_propose, when_vote}

module _ {A : Type 0} (P : A → Type 0) where
  pub request-elim : (here : ℕ → Value → A) (other : A) (m : Message)
      → ((switch : ℕ) → (value : Value) → m ≡ Request switch value → P (here switch value)) → P other → P (when_request here other m)
  unfolding when_request
  request-elim here other (Request s v) yea nay = yea s v refl
  request-elim here other (Prepare i r) yea nay = nay
  request-elim here other (Promise s i r b v) yea nay = nay
  request-elim here other (Propose i r v) yea nay = nay
  request-elim here other (Vote s i r v) yea nay = nay

  pub prepare-elim : (here : Instance → Round → A) (other : A) (m : Message)
      → ((instance : Instance) → (round : Round) → m ≡ Prepare instance round → P (here instance round)) → P other → P (when_prepare here other m)
  unfolding when_prepare
  prepare-elim here other (Request s v) yea nay = nay
  prepare-elim here other (Prepare i r) yea nay = yea i r refl
  prepare-elim here other (Promise s i r b v) yea nay = nay
  prepare-elim here other (Propose i r v) yea nay = nay
  prepare-elim here other (Vote s i r v) yea nay = nay

  pub promise-elim : (here : ℕ → Instance → Round → Round → Value → A) (other : A) (m : Message)
      → ((sender : ℕ) → (instance : Instance) → (round vote_round : Round) → (value : Value)
      → m ≡ Promise sender instance round vote_round value → P (here sender instance round vote_round value))
      → P other → P (when_promise here other m)
  unfolding when_promise
  promise-elim here other (Request s v) yea nay = nay
  promise-elim here other (Prepare i r) yea nay = nay
  promise-elim here other (Promise s i r b v) yea nay = yea s i r b v refl
  promise-elim here other (Propose i r v) yea nay = nay
  promise-elim here other (Vote s i r v) yea nay = nay

  pub propose-elim : (here : Instance → Round → Value → A) (other : A) (m : Message)
      → ((instance : Instance) → (round : Round) → (value : Value) → m ≡ Propose instance round value → P (here instance round value)) → P other → P (when_propose here other m)
  unfolding when_propose
  propose-elim here other (Request s v) yea nay = nay
  propose-elim here other (Prepare i r) yea nay = nay
  propose-elim here other (Promise s i r b v) yea nay = nay
  propose-elim here other (Propose i r v) yea nay = yea i r v refl
  propose-elim here other (Vote s i r v) yea nay = nay

  pub vote-elim : (here : ℕ → Instance → Round → Value → A) (other : A) (m : Message)
      → ((sender : ℕ) → (instance : Instance) → (round : Round) → (value : Value) → m ≡ Vote sender instance round value → P (here sender instance round value)) → P other → P (when_vote here other m)
  unfolding when_vote
  vote-elim here other (Request s v) yea nay = nay
  vote-elim here other (Prepare i r) yea nay = nay
  vote-elim here other (Promise s i r b v) yea nay = nay
  vote-elim here other (Propose i r v) yea nay = nay
  vote-elim here other (Vote s i r v) yea nay = yea s i r v refl

-- the else of `let Message::Request { .. } = message`: a message with another tag is no request
pub no-request : {A : Type 0} (here : ℕ → Value → A) (other : A) (m : Message) → OneOf (1 ∷ 2 ∷ 3 ∷ 4 ∷ []) (tag_of the_type m) → other ≡ when_request here other m
unfolding when_request
no-request here other (Request s v) tag =
    absurd (⊎_elim (eqb-false 0 1 refl) (⊎_elim (eqb-false 0 2 refl) (⊎_elim (eqb-false 0 3 refl) (eqb-false 0 4 refl))) tag)
no-request here other (Prepare i r) tag = refl
no-request here other (Promise s i r b v) tag = refl
no-request here other (Propose i r v) tag = refl
no-request here other (Vote s i r v) tag = refl

-- and so of `let Message::Prepare { .. } = message`
pub no-prepare : {A : Type 0} (here : Instance → Round → A) (other : A) (m : Message) → OneOf (0 ∷ 2 ∷ 3 ∷ 4 ∷ []) (tag_of the_type m) → other ≡ when_prepare here other m
unfolding when_prepare
no-prepare here other (Request s v) tag = refl
no-prepare here other (Prepare i r) tag =
    absurd (⊎_elim (eqb-false 1 0 refl) (⊎_elim (eqb-false 1 2 refl) (⊎_elim (eqb-false 1 3 refl) (eqb-false 1 4 refl))) tag)
no-prepare here other (Promise s i r b v) tag = refl
no-prepare here other (Propose i r v) tag = refl
no-prepare here other (Vote s i r v) tag = refl

-- and so of `let Message::Promise { .. } = message`
pub no-promise : {A : Type 0} (here : ℕ → Instance → Round → Round → Value → A) (other : A) (m : Message) → OneOf (0 ∷ 1 ∷ 3 ∷ 4 ∷ []) (tag_of the_type m)
    → other ≡ when_promise here other m
unfolding when_promise
no-promise here other (Request s v) tag = refl
no-promise here other (Prepare i r) tag = refl
no-promise here other (Promise s i r b v) tag =
    absurd (⊎_elim (eqb-false 2 0 refl) (⊎_elim (eqb-false 2 1 refl) (⊎_elim (eqb-false 2 3 refl) (eqb-false 2 4 refl))) tag)
no-promise here other (Propose i r v) tag = refl
no-promise here other (Vote s i r v) tag = refl

-- and so of `let Message::Vote { .. } = message`
pub no-vote : {A : Type 0} (here : ℕ → Instance → Round → Value → A) (other : A) (m : Message) → OneOf (0 ∷ 1 ∷ 2 ∷ 3 ∷ []) (tag_of the_type m)
    → other ≡ when_vote here other m
unfolding when_vote
no-vote here other (Request s v) tag = refl
no-vote here other (Prepare i r) tag = refl
no-vote here other (Promise s i r b v) tag = refl
no-vote here other (Propose i r v) tag = refl
no-vote here other (Vote s i r v) tag =
    absurd (⊎_elim (eqb-false 4 0 refl) (⊎_elim (eqb-false 4 1 refl) (⊎_elim (eqb-false 4 2 refl) (eqb-false 4 3 refl))) tag)
