-- A call: which entry, with its numbers and read lists, and the lists that are lent to be written. Document 01's "Calls", by kind: a change of the columns, a
-- question, an opening, a check. What a change does is `effect` (Changes.antt), what a question answers is `response` (Questions.antt), each one function: a
-- new one is a constructor here and a clause there. Assumes nothing: these are definitions.
use Rattle.std.specs.Prelude.{Bool, true, false, List, [], ℕ, ◌*◌, eqb}
use Rattle.lists.specs.Lists.{pick}
use Rattle.symbolic.specs.Grades.{Limits, are_limits, limits_for}
use Rattle.tables.specs.Tables.{Sizes}

-- ---- which entry

-- "Add: a list of ids, a list of row counts, and the rows of all columns one after another. Remove: a list of ids."; document 02: an addition's first and second
-- minutes, by position, and "Setting the clock, forward or back"
pub data Change : Type 0 where
  adding : (ids row_counts rows firsts seconds : List ℕ) → Change
  removing : (ids : List ℕ) → Change
  setting : (minute : ℕ) → Change

-- "Parent of j. Path of j. Column j"; document 02: the next row of a column from a row on, in place of "Multiplicity of row i in column j"; the columns
-- that meet a row, the common row of some rows
pub data Question : Type 0 where
  ask_next_row : (row column : ℕ) → Question
  ask_parent : (column : ℕ) → Question
  ask_path : (column : ℕ) → Question
  ask_column : (column : ℕ) → Question
  ask_meets : (row : ℕ) → Question
  ask_common : (rows : List ℕ) → Question

-- an entry with its numbers; place: where a question's list is written from on, 0 for a question that has none
pub data Entry : Type 0 where
  opening : (asked : Sizes) (limits : Limits) → Entry
  changing : (change : Change) → Entry
  checking : Entry
  asking : (question : Question) (place : ℕ) → Entry

-- ---- what is lent

-- the work table, a change's lists for touched columns and labels, a question's list; a call without such a list has []
pub record Lent : Type 0 where
  pub work : List ℕ
  pub touched : List ℕ
  pub labels : List ℕ
  pub list : List ℕ

-- the lists of a call that has a work table alone
abbrev pub work_only : (work : List ℕ) → Lent
work_only w = record { work = w; touched = []; labels = []; list = [] }

-- the lists of a change
abbrev pub report_lists : (work touched labels : List ℕ) → Lent
report_lists w a b = record { work = w; touched = a; labels = b; list = [] }

-- the lists of a question that writes a list
abbrev pub work_and_list : (work list : List ℕ) → Lent
work_and_list w xs = record { work = w; touched = []; labels = []; list = xs }

-- lent lists with another work table, otherwise as they are
abbrev pub with_work : Lent → (work : List ℕ) → Lent
with_work x w = record { work = w; touched = x.touched; labels = x.labels; list = x.list }

-- an entry with everything lent to it
pub record Call : Type 0 where
  pub entry : Entry
  pub lent : Lent

-- an entry and what is lent to it, as a call
abbrev pub call_of : Entry → Lent → Call
call_of e x = record { entry = e; lent = x }

-- ---- by kind

-- a change is a batch: columns added or removed
abbrev pub is_batch : Change → Bool
is_batch (adding is ns rs ps qs) = true
is_batch (removing is) = true
is_batch (setting t) = false

-- an entry is an opening
abbrev pub is_opening : Entry → Bool
is_opening (opening l g) = true
is_opening (changing c) = false
is_opening checking = false
is_opening (asking q p) = false

-- an entry is a change
abbrev pub is_change : Entry → Bool
is_change (opening l g) = false
is_change (changing c) = true
is_change checking = false
is_change (asking q p) = false

-- "Opening with F = 0 shall mean 32 × m"
abbrev pub default_records : (m : ℕ) → ℕ
default_records m = 32 * m

-- the sizes that an opening gets for those it asks
abbrev pub with_default : Sizes → Sizes
with_default l = record { m = l.m; n = l.n; f = pick (eqb l.f 0) (default_records l.m) l.f; c = l.c }

-- the sizes of a call: an opening brings its own, which stay if it is accepted; the others have the record's
abbrev pub sizes_after : Sizes → Entry → Sizes
sizes_after l (opening k g) = with_default k
sizes_after l (changing c) = l
sizes_after l checking = l
sizes_after l (asking q p) = l

-- the limits of a call: likewise
abbrev pub limits_after : Limits → Entry → Limits
limits_after g (opening l h) = limits_for h
limits_after g (changing c) = g
limits_after g checking = g
limits_after g (asking q p) = g

-- "The first must be at least 2 and each must exceed the one before": an opening's limits do; the other calls hand over none
abbrev pub keeps_rule : Entry → Bool
keeps_rule (opening l g) = are_limits (limits_for g)
keeps_rule (changing c) = true
keeps_rule checking = true
keeps_rule (asking q p) = true
