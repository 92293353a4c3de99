-- The numbers of the reasons for a refusal, as the reference has them, and of what a function answers that may refuse: 0 says that it does not.
-- Assumes nothing: these are definitions.
use Rattle.std.specs.Prelude.{ℕ, Result, Ok, Err}
use Rattle.early_refusals.specs.declared.refusal.Refusal.{Refusal}
use Rattle.early_refusals.specs.declared.refusal.Refusal.TheVariants.{Rows, Ids, Records, Booked, Short, Unsound, Shape, IdOutside, IdRepeated, IdBooked, IdNotBooked, Count, RowOutside, RowOrder, BookFull, FactorFull, AskedOutside, ListEnds, Limits, Window}

-- the number of a reason
abbrev pub number_of : Refusal → ℕ
number_of Rows = 1
number_of Ids = 2
number_of Records = 3
number_of Booked = 4
number_of Short = 5
number_of Unsound = 6
number_of Shape = 7
number_of IdOutside = 8
number_of IdRepeated = 9
number_of IdBooked = 10
number_of IdNotBooked = 11
number_of Count = 12
number_of RowOutside = 13
number_of RowOrder = 14
number_of BookFull = 15
number_of FactorFull = 16
number_of AskedOutside = 17
number_of ListEnds = 18
number_of Limits = 20
number_of Window = 21

-- the number of an answer: 0 where nothing is refused
abbrev pub number_in : {T : Type 0} → Result T Refusal → ℕ
number_in (Ok x) = 0
number_in (Err e) = number_of e
