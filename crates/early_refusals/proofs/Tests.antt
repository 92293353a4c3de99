-- A test that the code makes, as the negation of the definition's: an answer read back, a refusal by one test, a reason's number.
-- Assumes nothing.
use mathlib.Core.Path.{◌≡◌, refl, sym, ◌∙◌}
use mathlib.Core.Bool.{Bool, true, false, not}
use mathlib.Core.Logic.{◌≢◌}
use Prim.Native.Nat.{ℕ}
use lib.Dec.{eqb}
use borrow.Author.Tests.{not-true, not-false, eqb-false}
use Rattle.calls.specs.Refusals.{is_accepted, unless}
use Rattle.early_refusals.specs.declared.refusal.Refusal.{Refusal}
use Rattle.early_refusals.specs.declared.refusal.Refusal.TheVariants.{Rows, Ids, Records, Booked, Short, Unsound, Shape, IdOutside, IdRepeated, IdBooked, IdNotBooked, Count, RowOutside, RowOrder, BookFull, FactorFull, AskedOutside, ListEnds, Limits, Window}
use Rattle.early_refusals.specs.Refusal.{number_of}

-- ---- an answer that is the negation of a test

pub is-out : {x : Bool} (z : Bool) → x ≡ not z → x ≡ true → z ≡ false
is-out z e t = not-true z (sym e ∙ t)

pub is-in : {x : Bool} (z : Bool) → x ≡ not z → x ≡ false → z ≡ true
is-in z e t = not-false z (sym e ∙ t)

-- ---- a refusal by one test

pub unless-accepted : (z : Bool) (n p : ℕ) → eqb n 0 ≡ false → is_accepted (unless z n p) ≡ z
unless-accepted true n p e = refl
unless-accepted false n p e = e

-- ---- the number of a reason

-- is never 0
pub number-some : (e : Refusal) → eqb (number_of e) 0 ≡ false
number-some Rows = refl
number-some Ids = refl
number-some Records = refl
number-some Booked = refl
number-some Short = refl
number-some Unsound = refl
number-some Shape = refl
number-some IdOutside = refl
number-some IdRepeated = refl
number-some IdBooked = refl
number-some IdNotBooked = refl
number-some Count = refl
number-some RowOutside = refl
number-some RowOrder = refl
number-some BookFull = refl
number-some FactorFull = refl
number-some AskedOutside = refl
number-some ListEnds = refl
number-some Limits = refl
number-some Window = refl

pub number-not0 : (e : Refusal) → number_of e ≢ 0
number-not0 e = eqb-false (number_of e) 0 (number-some e)
