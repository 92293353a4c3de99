-- The public entries' records as the definitions of calls/ have them: the factor as sizes, limits, free heads and clock, tables, answers. A contract is `Transition`
-- of the entry's call over these (`OpenStep`, `ReadStep`), and nothing else. Assumes nothing: these are definitions.
use Rattle.std.specs.Prelude.{Result, Ok, Err, List, ℕ}
use Rattle.symbolic.specs.Grades.{Limits, limits_of}
use Rattle.tables.specs.Tables.{Tables, Sizes, State, sizes_of}
use Rattle.calls.specs.Calls.{opening, Lent, work_only, Call, call_of}
use Rattle.calls.specs.Steps.{Answer, World, Transition}
use Rattle.factor.specs.declared.Factor.{Factor}
use Rattle.early_refusals.specs.declared.refusal.Refusal.{Refusal}
use Rattle.early_refusals.specs.Refusal.{number_of}

-- the record of sizes, limits, free heads and clock that a factor is
abbrev pub state_of : Factor → State
state_of x =
    record {
      sizes = sizes_of x.m x.n x.f x.c;
      limits = limits_of x.grade2 x.grade3 x.grade4;
      free = x.free;
      book_free = x.book_free;
      clock = x.clock;
    }

-- a factor with the tables that are lent to its entries
abbrev pub world_of : Factor → Tables → World
world_of x t = record { state = state_of x; tables = t }

-- what an opening gives: a factor, or what refuses it
abbrev pub Opening : Type 0
Opening = Result Factor Refusal

-- an opening's answer: accepted, all numbers are 0; refused, the number
abbrev pub opening_answer : Opening → Answer
opening_answer (Ok x) = record { number = 0; position = 0; touched = 0; entries = 0; grade = 0; row = 0; value = 0 }
opening_answer (Err e) = record { number = number_of e; position = 0; touched = 0; entries = 0; grade = 0; row = 0; value = 0 }

-- the record after an opening: "after a refused opening the record from before it serves on"
abbrev pub state_after : Opening → State → State
state_after (Ok x) s = state_of x
state_after (Err e) s = s

-- OPEN, whatever record there was before
abbrev pub OpenStep : (asked : Sizes) (limits : Limits) (t : Tables) (work : List ℕ) (r : Opening) (t' : Tables) (work' : List ℕ) → Type 0
OpenStep l g t w r t' w' =
    (s : State) → Transition (record { state = s; tables = t }) (call_of (opening l g) (work_only w)) (opening_answer r) (work_only w') (record { state = state_after r s; tables = t' })

-- a check or a question: record and tables are as before
abbrev pub ReadStep : World → Call → Answer → Lent → Type 0
ReadStep u k a x = Transition u k a x u
