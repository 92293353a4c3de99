-- What the structs stand for that cross to a host in the place of an enum: an opening's answer and a reading. The other entries answer by structs already.
-- Assumes nothing: these are definitions.
use Rattle.std.specs.Prelude.{◌≡◌, Option, Some, None, Result, Ok, Err, List, ℕ}
use Rattle.symbolic.specs.Grades.{Limits}
use Rattle.tables.specs.Tables.{Tables, Sizes}
use Rattle.reader.specs.declared.Entry.{Entry}
use Rattle.factor.specs.declared.Factor.{Factor}
use Rattle.early_refusals.specs.Refusal.{number_of}
use Rattle.factor.specs.Entries.{Opening, OpenStep}
use Rattle.crossing.specs.declared.Opened.{Opened}
use Rattle.crossing.specs.declared.Read.{Read}

-- ---- openings

-- a record of zeros
abbrev pub no_factor : Factor
no_factor = record { m = 0; n = 0; f = 0; c = 0; free = 0; book_free = 0; grade2 = 0; grade3 = 0; grade4 = 0; clock = 0 }

-- the struct of an answer: accepted, number 0 and the record; refused, the number and a record of zeros
abbrev pub opened_from : Result Factor ℕ → Opened
opened_from (Ok x) = record { number = 0; factor = x }
opened_from (Err n) = record { number = n; factor = no_factor }

-- an opening's answer with the number of its refusal, which is not 0
abbrev pub numbered : Opening → Result Factor ℕ
numbered (Ok x) = Ok x
numbered (Err e) = Err (number_of e)

-- OPEN: the struct stands for an answer of the entry, and has zeros where it says nothing
pub record OpenedStep (asked : Sizes) (limits : Limits) (t : Tables) (work : List ℕ) (r : Opened) (t' : Tables) (work' : List ℕ) : Type 0 where
  pub answer : Opening
  pub step : OpenStep asked limits t work answer t' work'
  pub plain : r ≡ opened_from (numbered answer)
  -- number 0 says that the opening was accepted, and the struct has its record
  pub accepted : r.number ≡ 0 → answer ≡ Ok r.factor

-- ---- readings

-- the struct of a reading: row, multiplicity and the record after it; the end is row 0
abbrev pub read_from : Option Entry → Read
read_from (Some e) = record { row = e.row; multiplicity = e.count; next = e.after.0 }
read_from None = record { row = 0; multiplicity = 0; next = 0 }
