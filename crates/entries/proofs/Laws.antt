-- What the reading of an entry has judged: a sale that is read has no more rides than a sale may have.
-- Assumes nothing.
use Prim.Native.Nat.{ℕ, ◌≤◌}
use mathlib.Core.Path.{◌≡◌}
use mathlib.Core.Bool.{true, ◌&&◌}
use mathlib.Core.List.{List}
use lib.Dec.{eqb, leb}
use lib.ListN.{length}
use borrow.Author.Tests.{leb-true}
use Rattle.basics.proofs.Ladder.{if-elim, need-elim, both_true}
use Rattle.entries.specs.declared.Fields.{Fields}
use Rattle.entries.specs.Entry.{Entry, Null, Malformed, Sale, Boarding}
use Rattle.entries.specs.Entry.{entry_length, most_rides, fields_in, is_null, is_sale, is_boarding, entry_of, entry_in}

unfoldable pub FewRides : Entry → Type 0
FewRides Null = Unit {0}
FewRides Malformed = Unit {0}
FewRides (Sale pass rides last_day) = rides ≤ most_rides
FewRides (Boarding pass day scan) = Unit {0}

few-of-sale : (f : Fields) → is_sale f ≡ true → f.rides ≤ most_rides
unfolding is_sale
few-of-sale f so =
    let a = both_true (eqb f.kind 1 && leb 1 f.rides && leb f.rides most_rides && eqb f.scan 0) (eqb f.rest 0) so in
    let b = both_true (eqb f.kind 1 && leb 1 f.rides && leb f.rides most_rides) (eqb f.scan 0) a.0 in
    leb-true f.rides most_rides (both_true (eqb f.kind 1 && leb 1 f.rides) (leb f.rides most_rides) b.0).1

pub few-rides : (value : List ℕ) → FewRides (entry_in value)
unfolding entry_in entry_of FewRides
few-rides value =
    let f = fields_in value in
    need-elim FewRides (eqb (length value) entry_length) _ _ tt λ _.
    if-elim FewRides (is_null f) _ _ (λ _. tt) λ _.
    if-elim FewRides (is_sale f) _ _ (few-of-sale f) λ _.
    if-elim FewRides (is_boarding f) _ _ (λ _. tt) λ _.
    tt
