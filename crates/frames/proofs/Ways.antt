-- Each way out of checking and sealing is what the definitions say, by the tests that led there.
-- Assumes nothing.
use Prim.Native.Nat.{ℕ}
use mathlib.Core.Path.{◌≡◌, sym, ◌∙◌}
use mathlib.Core.Bool.{Bool, true, false, ◌&&◌}
use mathlib.Core.List.{List}
use lib.Dec.{eqb}
use lib.ListN.{length}
use borrow.Author.Tests.{eq-eqb, ne_eqb}
use Rattle.numbers.specs.BigEndian.{number_at, with_number_at}
use Rattle.basics.specs.declared.Verdict.TheVariants.{Done}
use Rattle.basics.specs.Ladder.{need◌or◌then◌}
use Rattle.basics.specs.Outcome.{outcome}
use Rattle.basics.specs.Verdict.{verdict_number}
use Rattle.basics.proofs.Ladder.{if-true, if-false}
use Rattle.frames.specs.Frame.{frame_length, udp_length, ipv4_checksum, udp_checksum, carries_udp, frame_check, sealed, frame_seal}

-- ---- checking

module _ (port : ℕ) (f : List ℕ) where
  pub refused-21 : (length f ≡ frame_length → ⊥) → 21 ≡ frame_check port f
  unfolding frame_check need◌or◌then◌
  refused-21 other = rw (ne_eqb (length f) frame_length other)

  module _ (long : length f ≡ frame_length) (carries : Bool) (Carries-so : carries ≡ carries_udp f) where
    pub refused-22 : carries ≡ false → 22 ≡ frame_check port f
    unfolding frame_check need◌or◌then◌
    refused-22 wrong = rw (eq-eqb (length f) frame_length long, ← Carries-so, wrong)

    module _ (right : carries ≡ true) (field computed : ℕ) (field-so : field ≡ number_at f 24 2) (computed-so : computed ≡ ipv4_checksum f) where
      pub refused-23 : (field ≡ computed → ⊥) → 23 ≡ frame_check port f
      unfolding frame_check need◌or◌then◌
      refused-23 other = rw (eq-eqb (length f) frame_length long, ← Carries-so, right, ← field-so, ← computed-so, ne_eqb field computed other)

      module _ (same : field ≡ computed) (size to : ℕ) (size-so : size ≡ number_at f 38 2) (to-so : to ≡ number_at f 36 2) where
        -- past the IPv4 header only UDP's is left
        at-udp : (need eqb size udp_length && eqb to port or 24 then need eqb (number_at f 40 2) (udp_checksum f) or 25 then verdict_number Done) ≡ frame_check port f
        unfolding frame_check need◌or◌then◌
        at-udp =
            rw (eq-eqb (length f) frame_length long, ← Carries-so, right, ← field-so, ← computed-so, eq-eqb field computed same, ← size-so, ← to-so)

        pub refused-24 : (eqb size udp_length && eqb to port) ≡ false → 24 ≡ frame_check port f
        unfolding need◌or◌then◌
        refused-24 other = rw other at at-udp

        module _ (here : (eqb size udp_length && eqb to port) ≡ true) (sum due : ℕ) (sum-so : sum ≡ number_at f 40 2) (due-so : due ≡ udp_checksum f) where
          pub refused-25 : (sum ≡ due → ⊥) → 25 ≡ frame_check port f
          unfolding need◌or◌then◌
          refused-25 other = rw (here, ← sum-so, ← due-so, ne_eqb sum due other) at at-udp

          pub passes : (answer : ℕ) → sum ≡ due → answer ≡ verdict_number Done → answer ≡ frame_check port f
          unfolding need◌or◌then◌
          passes answer equal answer-so =
              answer-so ∙ (rw (here, ← sum-so, ← due-so, eq-eqb sum due equal) at at-udp)

-- ---- setting the checksums, and the call that does

module _ (f : List ℕ) where
  pub stays : (length f ≡ frame_length → ⊥) → f ≡ sealed f
  unfolding sealed
  stays other = sym (if-false _ f (ne_eqb (length f) frame_length other))

  pub stored : length f ≡ frame_length → with_number_at (with_number_at f 24 2 (ipv4_checksum f)) 40 2 (udp_checksum f) ≡ sealed f
  unfolding sealed
  stored long = sym (if-true _ f (eq-eqb (length f) frame_length long))

  pub seal-21 : (length f ≡ frame_length → ⊥) → outcome 21 f ≡ frame_seal f
  unfolding frame_seal need◌or◌then◌
  seal-21 other = rw (ne_eqb (length f) frame_length other)

  module _ (long : length f ≡ frame_length) (carries : Bool) (Carries-so : carries ≡ carries_udp f) where
    pub seal-22 : carries ≡ false → outcome 22 f ≡ frame_seal f
    unfolding frame_seal need◌or◌then◌
    seal-22 wrong = rw (eq-eqb (length f) frame_length long, ← Carries-so, wrong)

    module _ (right : carries ≡ true) (size : ℕ) (size-so : size ≡ number_at f 38 2) where
      pub seal-24 : (size ≡ udp_length → ⊥) → outcome 24 f ≡ frame_seal f
      unfolding frame_seal need◌or◌then◌
      seal-24 other = rw (eq-eqb (length f) frame_length long, ← Carries-so, right, ← size-so, ne_eqb size udp_length other)

      pub seals : (answer : ℕ) (left : List ℕ) → size ≡ udp_length → left ≡ sealed f → answer ≡ verdict_number Done → outcome answer left ≡ frame_seal f
      unfolding frame_seal need◌or◌then◌
      seals answer left same left_so answer-so =
          rw (eq-eqb (length f) frame_length long, ← Carries-so, right, ← size-so, eq-eqb size udp_length same, left_so, answer-so)
