-- Document 01's instances as one table, over the definitions that the entries' contracts cite: effect, factor_for, accepted_by, touched_by, labels_by,
-- entries_by, grade_of, path_list, column_list; then instances of document 02's limits, factor records, questions, windows and clock changes. proofs/Instances.antt has the terms, by computing.
-- Assumes nothing: these are definitions.
use Rattle.std.specs.Prelude.{◌≡◌, true, false, List, [], ◌∷◌, ℕ, replicate}
use Rattle.lists.specs.Lists.{up_from}
use Rattle.symbolic.specs.Columns.{is_inside, Register}
use Rattle.symbolic.specs.Factor.{factor_for, parent_of}
use Rattle.symbolic.specs.Grades.{Limits, limits_of, old_limits, grade_of}
use Rattle.symbolic.specs.Meeting.{common_of}
use Rattle.windows.specs.Windowed.{are_sound}
use Rattle.tables.specs.Tables.{Tables, Sizes, State, sizes_of, tables_of}
use Rattle.calls.specs.Refusals.{Refusal, refusal, accepted, work_for}
use Rattle.calls.specs.Calls.{Change, adding, removing, setting, ask_next_row, ask_parent, ask_meets, ask_common, opening, changing, checking, asking, call_of, work_only, with_default}
use Rattle.calls.specs.Changes.{effect, touched_by, labels_by, entries_by, register_after}
use Rattle.calls.specs.Questions.{path_list, column_list, meets_list}
use Rattle.calls.specs.Numbers.{sound_refusal, ask_refusal, refusal_of}
use Rattle.calls.specs.Steps.{accepted_by}
use Rattle.history.specs.Example.{add_all, add, add_in, answered, valued_at, valued}

-- ---- the changes: lent lists play no part here

-- sizes with given m and F, and with ids and book records enough for every instance
abbrev pub sizes_with : (m f : ℕ) → Sizes
sizes_with m f = record { m = m; n = 8; f = f; c = 64 }

-- the register of an accepted opening
abbrev pub opened : (m : ℕ) → Register
opened m = register_after (record { m = 0; clock = 0; columns = [] }) (opening (sizes_with m 0) (limits_of 0 0 0))

-- the register after a change
abbrev pub after : Register → Change → Register
after r c = (effect r c).register

-- the number and position of a change
abbrev pub refusal_by : Sizes → Register → Change → Refusal
refusal_by l r c = (effect r c).refusal l

-- "add 1 1 3", "add 2 1 4", "add 3 2 3", one after another
abbrev pub listed : Register
listed =
    after (after (after (opened 5) (add_all (1 ∷ []) (2 ∷ []) (1 ∷ 3 ∷ []))) (add_all (2 ∷ []) (2 ∷ []) (1 ∷ 4 ∷ [])))
    (add_all (3 ∷ []) (2 ∷ []) (2 ∷ 3 ∷ []))

-- "The three columns as one batch"
abbrev pub three : Change
three = add_all (1 ∷ 2 ∷ 3 ∷ []) (2 ∷ 2 ∷ 2 ∷ []) (1 ∷ 3 ∷ 1 ∷ 4 ∷ 2 ∷ 3 ∷ [])

-- "{1,3} twice under two ids, one removed"
abbrev pub one_left : Register
one_left = after (after (opened 3) (add_all (4 ∷ 7 ∷ []) (2 ∷ 2 ∷ []) (1 ∷ 3 ∷ 1 ∷ 3 ∷ []))) (removing (7 ∷ []))

-- {1, .., 22}, {23} and {24}: 253 + 1 + 1 entries
abbrev pub entries255 : Change
entries255 = add_all (1 ∷ 2 ∷ 3 ∷ []) (22 ∷ 1 ∷ 1 ∷ []) (up_from 1 24)

-- {1, .., 22} and {23, 24}: 253 + 3 entries
abbrev pub entries256 : Change
entries256 = add_all (1 ∷ 2 ∷ []) (22 ∷ 2 ∷ []) (up_from 1 24)

-- column j as the listing has it: its parent, then row and multiplicity, entry after entry
abbrev pub ColumnIs : Register → (j parent : ℕ) → (entries : List ℕ) → Type 0
ColumnIs r j p es = (parent_of (factor_for r) j ≡ p) × (column_list r j ≡ es)

-- ---- THE STARRED INSTANCES

-- "The starred instances are one table, proved by one theorem over the definitions."
pub record StarredInstances : Type 0 where
  -- 1. "Fresh, m = 1: L_1 is 1:1, parent 0"
  pub fresh : ColumnIs (opened 1) 1 0 (1 ∷ 1 ∷ [])
  -- 2. "The state listed above, row by row"
  pub state-1 : ColumnIs listed 1 3 (1 ∷ 3 ∷ 3 ∷ 1 ∷ 4 ∷ 1 ∷ [])
  pub state-2 : ColumnIs listed 2 3 (2 ∷ 2 ∷ 3 ∷ 1 ∷ [])
  pub state-3 : ColumnIs listed 3 4 (3 ∷ 3 ∷ 4 ∷ 1 ∷ [])
  pub state-4 : ColumnIs listed 4 0 (4 ∷ 2 ∷ [])
  pub state-5 : ColumnIs listed 5 0 (5 ∷ 1 ∷ [])
  -- 3. "The three columns as one batch: touched 1 2 3 4, labels 2 3 3 3, entries 8"
  pub batch-touched : touched_by (opened 5) three ≡ 1 ∷ 2 ∷ 3 ∷ 4 ∷ []
  pub batch-labels : labels_by (opened 5) three ≡ 2 ∷ 3 ∷ 3 ∷ 3 ∷ []
  pub batch-entries : entries_by (opened 5) three ≡ 8
  pub batch-answer : accepted_by old_limits (opened 5) (changing three) ≡ answered 0 0 4 8 1
  pub batch-register : after (opened 5) three ≡ listed
  -- 4. "Then remove 2: touched 1 3 4"; document 02: "Case 4 then reports 6"; "L_1 is 1:2 3:1, L_3 is 3:3 with parent 0, L_4 is 4:1"
  pub removal-touched : touched_by listed (removing (2 ∷ [])) ≡ 1 ∷ 3 ∷ 4 ∷ []
  pub removal-entries : entries_by listed (removing (2 ∷ [])) ≡ 6
  pub removal-answer : accepted_by old_limits listed (changing (removing (2 ∷ []))) ≡ answered 0 0 3 6 1
  pub removal-1 : ColumnIs (after listed (removing (2 ∷ []))) 1 3 (1 ∷ 2 ∷ 3 ∷ 1 ∷ [])
  pub removal-3 : ColumnIs (after listed (removing (2 ∷ []))) 3 0 (3 ∷ 3 ∷ [])
  pub removal-4 : ColumnIs (after listed (removing (2 ∷ []))) 4 0 (4 ∷ 1 ∷ [])
  -- 5. "{1,3} twice under two ids, one removed: L_1 is 1:2 3:1, L_3 is 3:2"
  pub twice-1 : ColumnIs one_left 1 3 (1 ∷ 2 ∷ 3 ∷ 1 ∷ [])
  pub twice-3 : ColumnIs one_left 3 0 (3 ∷ 2 ∷ [])
  -- 6. "{5} alone: L_5 is 5:2"
  pub alone : ColumnIs (after (opened 5) (add_all (1 ∷ []) (1 ∷ []) (5 ∷ []))) 5 0 (5 ∷ 2 ∷ [])
  -- 7. "Case 3 with F = 9 is accepted, with F = 8 refused by 16"
  pub room-9 : refusal_by (sizes_with 5 9) (opened 5) three ≡ accepted
  pub room-8 : refusal_by (sizes_with 5 8) (opened 5) three ≡ refusal 16 0
  -- 8. "255 entries give grade 1, 256 give 2": by the old limits
  pub grade-1 : grade_of old_limits 255 ≡ 1
  pub grade-2 : grade_of old_limits 256 ≡ 2
  pub answer-255 : accepted_by old_limits (opened 24) (changing entries255) ≡ answered 0 0 24 255 1
  pub answer-256 : accepted_by old_limits (opened 24) (changing entries256) ≡ answered 0 0 24 256 2

-- ---- the ninth: run by a test program, and computed here too

-- the instance that has no star
pub record NinthInstance : Type 0 where
  -- "Removing every column gives the fresh patterns"
  pub emptied : factor_for (after listed (removing (1 ∷ 2 ∷ 3 ∷ []))) ≡ factor_for (opened 5)
  -- "Removing 3 3 in case 2: 9 at position 2"
  pub repeated : refusal_by (sizes_with 5 9) listed (removing (3 ∷ 3 ∷ [])) ≡ refusal 9 2
  -- "Rows 4 4: 14"
  pub equal-rows : refusal_by (sizes_with 5 9) listed (add_all (4 ∷ []) (2 ∷ []) (4 ∷ 4 ∷ [])) ≡ refusal 14 1
  -- "Path of 1 in case 2: 1 3 4"
  pub path : path_list listed 1 ≡ 1 ∷ 3 ∷ 4 ∷ []

-- ---- limits

-- tables of no place, too short for any call
abbrev pub no_tables : Tables
no_tables = tables_of [] [] [] [] [] [] [] [] []

-- a record with given limits
abbrev pub record_with : Limits → State
record_with g = record { sizes = sizes_with 5 9; limits = g; free = 0; book_free = 0; clock = 0 }

-- the number of an opening with given sizes and limits, where no table is long enough
abbrev pub opening_by : Sizes → (grade2 grade3 grade4 : ℕ) → Refusal
opening_by l a b c = refusal_of (record_with old_limits) no_tables (call_of (opening l (limits_of a b c)) (work_only []))

-- what an opening's limits are refused by, what they give, and what they are in a later record
pub record LimitInstances : Type 0 where
  -- "Limits that break this get 20 at opening", before 5; "Three zeros mean the old ones"
  pub opening-000 : opening_by (sizes_with 5 9) 0 0 0 ≡ refusal 5 0
  pub opening-007 : opening_by (sizes_with 5 9) 0 0 7 ≡ refusal 20 0
  pub opening-012 : opening_by (sizes_with 5 9) 0 1 2 ≡ refusal 20 0
  pub opening-123 : opening_by (sizes_with 5 9) 1 2 3 ≡ refusal 20 0
  pub opening-223 : opening_by (sizes_with 5 9) 2 2 3 ≡ refusal 20 0
  pub opening-232 : opening_by (sizes_with 5 9) 2 3 2 ≡ refusal 20 0
  pub opening-234 : opening_by (sizes_with 5 9) 2 3 4 ≡ refusal 5 0
  pub opening-most : opening_by (sizes_with 5 9) 2 3 4294967295 ≡ refusal 5 0
  -- "after 4"
  pub opening-1 : opening_by (sizes_of 0 8 9 64) 1 2 3 ≡ refusal 1 0
  pub opening-2 : opening_by (sizes_of 5 0 9 64) 1 2 3 ≡ refusal 2 0
  pub opening-3 : opening_by (sizes_of 5 8 4 64) 1 2 3 ≡ refusal 3 0
  pub opening-4 : opening_by (sizes_of 5 8 9 0) 1 2 3 ≡ refusal 4 0
  -- "every grade is read from them"
  pub answer-255 : accepted_by (limits_of 2 255 256) (opened 24) (changing entries255) ≡ answered 0 0 24 255 3
  pub answer-256 : accepted_by (limits_of 2 255 256) (opened 24) (changing entries256) ≡ answered 0 0 24 256 4
  -- of a removal too: the touched columns have 6 entries before case 4's removal and 4 after it
  pub answer-removal : accepted_by (limits_of 2 6 7) listed (changing (removing (2 ∷ []))) ≡ answered 0 0 3 6 3
  pub answer-beyond : accepted_by (limits_of 4194304 4194305 4294967295) (opened 24) (changing entries256) ≡ answered 0 0 24 256 1
  -- "later they, and zeros, are unsound": in a change and a question too, and after 5
  pub later-000 : (t : Tables) → sound_refusal (record_with (limits_of 0 0 0)) t checking ≡ refusal 6 0
  pub later-change : (t : Tables) → sound_refusal (record_with (limits_of 0 0 0)) t (changing three) ≡ refusal 6 0
  pub later-question : (t : Tables) → sound_refusal (record_with (limits_of 0 0 0)) t (asking (ask_parent 1) 0) ≡ refusal 6 0
  pub later-short : refusal_of (record_with (limits_of 0 0 0)) no_tables (call_of checking (work_only [])) ≡ refusal 5 0
  pub later-123 : (t : Tables) → sound_refusal (record_with (limits_of 1 2 3)) t checking ≡ refusal 6 0
  pub later-233 : (t : Tables) → sound_refusal (record_with (limits_of 2 3 3)) t checking ≡ refusal 6 0

-- ---- factor records

-- tables for one row, one id and one book record, with places for some factor records
abbrev pub tables_for : (places : ℕ) → Tables
tables_for p = tables_of (0 ∷ []) (0 ∷ []) (replicate p 0) (replicate p 0) (replicate p 0) (0 ∷ []) (0 ∷ []) (0 ∷ []) (0 ∷ 0 ∷ [])

-- a work table for some factor records
abbrev pub work_table : (places : ℕ) → List ℕ
work_table p = replicate (work_for (sizes_of 1 1 p 1)) 0

-- the number of an opening with one row, one id, one book record and a given F, in tables for some factor records and a work table for as many or others
abbrev pub opening_in : (places work f : ℕ) → Refusal
opening_in p w f = refusal_of (record_with old_limits) (tables_for p) (call_of (opening (sizes_of 1 1 f 1) (limits_of 0 0 0)) (work_only (work_table w)))

-- what F = 0 means at an opening and in a record
pub record RecordInstances : Type 0 where
  -- "Opening with F = 0 shall mean 32 × m"
  pub default-1 : with_default (sizes_of 1 1 0 1) ≡ sizes_of 1 1 32 1
  pub default-most : with_default (sizes_of 4096 1 0 1) ≡ sizes_of 4096 1 131072 1
  pub enough : opening_in 32 32 0 ≡ accepted
  pub one-short : opening_in 31 32 0 ≡ refusal 5 0
  pub work-short : opening_in 32 31 0 ≡ refusal 5 0
  -- "Hosts that lent tables for 16 × m and left F at 0 would now get 5, so our planner will name 16 × m"
  pub left-at-0 : opening_in 16 16 0 ≡ refusal 5 0
  pub named-16 : opening_in 16 16 16 ≡ accepted
  -- 1 comes first: an m out of range has no default that matters
  pub rows-0 : opening_by (sizes_of 0 1 0 1) 0 0 0 ≡ refusal 1 0
  pub rows-4097 : opening_by (sizes_of 4097 1 0 1) 0 0 0 ≡ refusal 1 0
  pub rows-most : opening_by (sizes_of 4294967295 1 0 1) 0 0 0 ≡ refusal 1 0
  -- the default of the largest m is in range
  pub rows-4096 : opening_by (sizes_of 4096 1 0 1) 0 0 0 ≡ refusal 5 0
  -- in a record 0 is 3, though the tables have the default's places
  pub in-record :
      refusal_of (record { sizes = sizes_of 1 1 0 1; limits = old_limits; free = 0; book_free = 0; clock = 0 }) (tables_for 32) (call_of checking (work_only (work_table 32))) ≡ refusal 3 0

-- ---- the columns that meet a row, the common row of some rows

-- what the questions of a delivery run give in the listed state, and the order of their refusals
pub record MeetingInstances : Type 0 where
  -- "all factor columns whose pattern holds it, ascending": row i's own column is the last
  pub meets-1 : meets_list listed 1 ≡ 1 ∷ []
  pub meets-2 : meets_list listed 2 ≡ 2 ∷ []
  pub meets-3 : meets_list listed 3 ≡ 1 ∷ 2 ∷ 3 ∷ []
  pub meets-4 : meets_list listed 4 ≡ 1 ∷ 3 ∷ 4 ∷ []
  pub meets-5 : meets_list listed 5 ≡ 5 ∷ []
  -- "with the number of places filled"
  pub places : accepted_by old_limits listed (asking (ask_meets 4) 2) ≡ valued 3
  -- "the smallest row that lies on all their paths, or 0 where there is none"
  pub common-12 : common_of (factor_for listed) (1 ∷ 2 ∷ []) ≡ 3
  pub common-31 : common_of (factor_for listed) (3 ∷ 1 ∷ []) ≡ 3
  pub common-124 : common_of (factor_for listed) (1 ∷ 2 ∷ 4 ∷ []) ≡ 4
  pub common-15 : common_of (factor_for listed) (1 ∷ 5 ∷ []) ≡ 0
  pub common-125 : common_of (factor_for listed) (1 ∷ 2 ∷ 5 ∷ []) ≡ 0
  pub common-answer : accepted_by old_limits listed (asking (ask_common (1 ∷ 2 ∷ [])) 0) ≡ valued 3
  -- a path starts with its own row: one row alone gives itself, and so does a row named again
  pub common-1 : common_of (factor_for listed) (1 ∷ []) ≡ 1
  pub common-55 : common_of (factor_for listed) (5 ∷ 5 ∷ []) ≡ 5
  pub common-212 : common_of (factor_for listed) (2 ∷ 1 ∷ 2 ∷ []) ≡ 3
  -- "An empty or longer list of rows falls under 7": 64 rows are not too many, repeated or not
  pub rows-0 : ask_refusal listed (ask_common []) 0 [] ≡ refusal 7 0
  pub rows-64 : ask_refusal listed (ask_common (replicate 64 5)) 0 [] ≡ accepted
  pub rows-65 : ask_refusal listed (ask_common (replicate 65 5)) 0 [] ≡ refusal 7 0
  -- "a row out of range under 17", whichever of the rows it is
  pub row-0 : ask_refusal listed (ask_meets 0) 0 (replicate 6 9) ≡ refusal 17 0
  pub row-6 : ask_refusal listed (ask_meets 6) 0 (replicate 6 9) ≡ refusal 17 0
  pub rows-16 : ask_refusal listed (ask_common (1 ∷ 6 ∷ [])) 0 [] ≡ refusal 17 0
  pub rows-01 : ask_refusal listed (ask_common (0 ∷ 1 ∷ [])) 0 [] ≡ refusal 17 0
  -- "a short answer list under 18": three columns have room from place 3 of six on, not from place 4 on, nor past the end
  pub place-3 : ask_refusal listed (ask_meets 4) 3 (replicate 6 9) ≡ accepted
  pub place-4 : ask_refusal listed (ask_meets 4) 4 (replicate 6 9) ≡ refusal 18 0
  pub place-7 : ask_refusal listed (ask_meets 5) 7 (replicate 6 9) ≡ refusal 18 0
  -- "in that order": 65 rows out of range give 7, a row out of range with a short list 17; and 5 comes before all of them
  pub order-7 : ask_refusal listed (ask_common (replicate 65 6)) 0 [] ≡ refusal 7 0
  pub order-17 : ask_refusal listed (ask_meets 6) 7 (replicate 6 9) ≡ refusal 17 0
  pub order-5 : refusal_of (record_with old_limits) no_tables (call_of (asking (ask_common []) 0) (work_only [])) ≡ refusal 5 0

-- ---- the next row

-- what the question for the next row gives in the listed state, where columns 1 and 3 are 1:3 3:1 4:1 and 3:3 4:1, and its refusals
pub record NextInstances : Type 0 where
  -- a row that stands; one that is absent, "the first row at or above"; "both 0 if the column ends before"
  pub stands : accepted_by old_limits listed (asking (ask_next_row 3 1) 0) ≡ valued_at 3 1
  pub absent : accepted_by old_limits listed (asking (ask_next_row 2 1) 0) ≡ valued_at 3 1
  pub ends : accepted_by old_limits listed (asking (ask_next_row 5 1) 0) ≡ valued_at 0 0
  -- for i up to j the diagonal
  pub diagonal : accepted_by old_limits listed (asking (ask_next_row 3 3) 0) ≡ valued_at 3 3
  pub below : accepted_by old_limits listed (asking (ask_next_row 1 3) 0) ≡ valued_at 3 3
  -- the parent of 3, and none for 4, a root; the last row
  pub parent : accepted_by old_limits listed (asking (ask_next_row 4 3) 0) ≡ valued_at 4 1
  pub root : accepted_by old_limits listed (asking (ask_next_row 5 4) 0) ≡ valued_at 0 0
  pub last : accepted_by old_limits listed (asking (ask_next_row 5 5) 0) ≡ valued_at 5 1
  -- 17 for a row or a column outside 1 to 5; 5 itself is within
  pub row-0 : ask_refusal listed (ask_next_row 0 1) 0 [] ≡ refusal 17 0
  pub row-5 : ask_refusal listed (ask_next_row 5 5) 0 [] ≡ accepted
  pub row-6 : ask_refusal listed (ask_next_row 6 1) 0 [] ≡ refusal 17 0
  pub column-0 : ask_refusal listed (ask_next_row 1 0) 0 [] ≡ refusal 17 0
  pub column-6 : ask_refusal listed (ask_next_row 1 6) 0 [] ≡ refusal 17 0

-- ---- windows and the clock

-- the number of an addition of {1} under id 1 from one minute up to another
abbrev pub window_by : (first second : ℕ) → Refusal
window_by a b = refusal_by (sizes_with 5 9) (opened 5) (add_in 1 (1 ∷ []) a b)

-- the number of an addition of two columns with a row each, where 8 ids and rows 1 to 5 are in range
abbrev pub two_by : (ids rows firsts seconds : List ℕ) → Refusal
two_by is rs ps qs = refusal_by (sizes_with 5 9) (opened 5) (adding is (1 ∷ 1 ∷ []) rs ps qs)

-- {1,3} from minute 5 up to 9, at minute 0
abbrev pub dormant : Register
dormant = after (opened 5) (add_in 1 (1 ∷ 3 ∷ []) 5 9)

-- "The three columns as one batch", the second of them from minute 5 up to 9
abbrev pub two_of_three : Change
two_of_three = adding (1 ∷ 2 ∷ 3 ∷ []) (2 ∷ 2 ∷ 2 ∷ []) (1 ∷ 3 ∷ 1 ∷ 4 ∷ 2 ∷ 3 ∷ []) (0 ∷ 5 ∷ 0 ∷ []) (0 ∷ 9 ∷ 0 ∷ [])

-- some rows up to minute 5, others from then on, at minute 0
abbrev pub relay : (leaving entering : List ℕ) → Register
relay xs ys = after (after (opened 5) (add_in 1 xs 0 5)) (add_in 2 ys 5 9)

-- windows that are refused, kept and unsound; what batches and clock changes touch by them
pub record WindowInstances : Type 0 where
  -- "A window other than 0 and 0 whose second minute is not later than its first gets 21"
  pub none : window_by 0 0 ≡ accepted
  pub from-0 : window_by 0 7 ≡ accepted
  pub to-0 : window_by 7 0 ≡ refusal 21 1
  pub empty : window_by 7 7 ≡ refusal 21 1
  pub turned : window_by 8 7 ≡ refusal 21 1
  pub one-minute : window_by 7 8 ≡ accepted
  pub all-minutes : window_by 0 4294967295 ≡ accepted
  pub last-minute : window_by 4294967294 4294967295 ≡ accepted
  pub beyond : window_by 4294967295 4294967295 ≡ refusal 21 1
  -- "after the column's rows": 13 and 14 of a column come before its 21, that before 8 of the next, and all before 12 for rows left over and 16; 7 before all
  pub order-13 : two_by (1 ∷ 2 ∷ []) (6 ∷ 1 ∷ []) (7 ∷ 7 ∷ []) (7 ∷ 7 ∷ []) ≡ refusal 13 1
  pub order-14 : refusal_by (sizes_with 5 9) (opened 5) (add_in 1 (4 ∷ 4 ∷ []) 7 7) ≡ refusal 14 1
  pub order-21 : two_by (1 ∷ 9 ∷ []) (1 ∷ 1 ∷ []) (7 ∷ 7 ∷ []) (7 ∷ 7 ∷ []) ≡ refusal 21 1
  pub order-8 : two_by (1 ∷ 9 ∷ []) (1 ∷ 1 ∷ []) (7 ∷ 7 ∷ []) (8 ∷ 7 ∷ []) ≡ refusal 8 2
  pub order-12 : two_by (1 ∷ 2 ∷ []) (1 ∷ 1 ∷ 1 ∷ []) (7 ∷ 7 ∷ []) (8 ∷ 7 ∷ []) ≡ refusal 21 2
  pub order-16 : refusal_by (sizes_with 5 5) (opened 5) (add_in 1 (1 ∷ 3 ∷ []) 7 7) ≡ refusal 21 1
  pub firsts-short : two_by (1 ∷ 9 ∷ []) (6 ∷ 6 ∷ []) (7 ∷ []) (7 ∷ 7 ∷ []) ≡ refusal 7 0
  pub seconds-short : two_by (1 ∷ 9 ∷ []) (6 ∷ 6 ∷ []) (7 ∷ 7 ∷ []) (7 ∷ []) ≡ refusal 7 0
  pub minutes-none : refusal_by (sizes_with 5 9) (opened 5) (adding (1 ∷ []) (1 ∷ []) (1 ∷ []) [] []) ≡ refusal 7 0
  -- "it counts from the first minute up to, not including, the second. Minutes 0 and 0 mean none: it always counts"
  pub at-4 : is_inside 5 9 4 ≡ false
  pub at_5 : is_inside 5 9 5 ≡ true
  pub at_8 : is_inside 5 9 8 ≡ true
  pub at_9 : is_inside 5 9 9 ≡ false
  pub always : (t : ℕ) → is_inside 0 0 t ≡ true
  pub at-0 : is_inside 0 9 0 ≡ true
  pub at_last : is_inside 5 4294967295 4294967294 ≡ true
  pub past-last : is_inside 5 4294967295 4294967295 ≡ false
  -- "In the tables it is unsound, as is anything but 0 that this .. keeps for an unbooked id": id 1 of one is booked, or not
  pub booked-none : are_sound (1 ∷ []) (0 ∷ 0 ∷ []) ≡ true
  pub booked-kept : are_sound (1 ∷ []) (7 ∷ 8 ∷ []) ≡ true
  pub booked-empty : are_sound (1 ∷ []) (7 ∷ 7 ∷ []) ≡ false
  pub free-none : are_sound (0 ∷ []) (0 ∷ 0 ∷ []) ≡ true
  pub free-kept : are_sound (0 ∷ []) (7 ∷ 8 ∷ []) ≡ false
  -- "A call that touches nothing has grade 0": an addition and a removal of a column outside its window, a clock change that moves nobody, one to the same minute
  pub added-0 : accepted_by old_limits (opened 5) (changing (add_in 1 (1 ∷ 3 ∷ []) 5 9)) ≡ answered 0 0 0 0 0
  pub removed-0 : accepted_by old_limits dormant (changing (removing (1 ∷ []))) ≡ answered 0 0 0 0 0
  pub clock-4 : accepted_by old_limits dormant (changing (setting 4)) ≡ answered 0 0 0 0 0
  pub clock-0 : accepted_by old_limits dormant (changing (setting 0)) ≡ answered 0 0 0 0 0
  pub clock-5 : accepted_by old_limits dormant (changing (setting 5)) ≡ answered 0 0 2 3 1
  -- "A batch column outside its window has no path": it keeps its position, so the third column's label is 3
  pub batch-touched : touched_by (opened 5) two_of_three ≡ 1 ∷ 2 ∷ 3 ∷ []
  pub batch-labels : labels_by (opened 5) two_of_three ≡ 1 ∷ 3 ∷ 3 ∷ []
  pub batch-entries : entries_by (opened 5) two_of_three ≡ 5
  -- "the checks on ids read booked": 10 and 11, and 15 the booked rows; 16 by what is live
  pub again : refusal_by (sizes_with 5 9) dormant (add 1 (2 ∷ [])) ≡ refusal 10 1
  pub removal : refusal_by (sizes_with 5 9) dormant (removing (1 ∷ [])) ≡ accepted
  pub other : refusal_by (sizes_with 5 9) dormant (removing (1 ∷ 2 ∷ [])) ≡ refusal 11 2
  pub booked-rows : refusal_by (sizes_of 5 8 9 3) dormant (add 2 (1 ∷ 4 ∷ [])) ≡ refusal 15 0
  pub live-rows : refusal_by (sizes_with 5 6) dormant (add 2 (1 ∷ 4 ∷ [])) ≡ accepted
  -- "Limit 16 is checked on the final patterns, after a clock change too"
  pub clock-fits : refusal_by (sizes_with 5 5) dormant (setting 4) ≡ accepted
  pub clock-16 : refusal_by (sizes_with 5 5) dormant (setting 5) ≡ refusal 16 0
  -- {1,4} does not fit beside {1,3}, and takes its place
  pub together : refusal_by (sizes_with 5 6) (after (opened 5) (add 1 (1 ∷ 3 ∷ []))) (add 2 (1 ∷ 4 ∷ [])) ≡ refusal 16 0
  pub in-turn : refusal_by (sizes_with 5 6) (relay (1 ∷ 3 ∷ []) (1 ∷ 4 ∷ [])) (setting 5) ≡ accepted
  -- "the old paths of leavers and the new paths of entrants": 1 2 and 1 3
  pub paths : touched_by (relay (1 ∷ 2 ∷ []) (1 ∷ 3 ∷ [])) (setting 5) ≡ 1 ∷ 2 ∷ 3 ∷ []
  pub zeros : labels_by (relay (1 ∷ 2 ∷ []) (1 ∷ 3 ∷ [])) (setting 5) ≡ 0 ∷ 0 ∷ 0 ∷ []
  -- "Entries take the larger of a column's sizes before and after": 2 1 1 1, then 1 1 2 1
  pub larger : accepted_by old_limits (relay (1 ∷ 2 ∷ []) (3 ∷ 4 ∷ [])) (changing (setting 5)) ≡ answered 0 0 4 6 1
  -- a leaver and an entrant with equal rows: their columns are listed and count, and the factor is the same; records may be others
  pub equal-touched : touched_by (relay (1 ∷ 3 ∷ []) (1 ∷ 3 ∷ [])) (setting 5) ≡ 1 ∷ 3 ∷ []
  pub equal-entries : entries_by (relay (1 ∷ 3 ∷ []) (1 ∷ 3 ∷ [])) (setting 5) ≡ 3
  pub equal-factor : factor_for (after (relay (1 ∷ 3 ∷ []) (1 ∷ 3 ∷ [])) (setting 5)) ≡ factor_for (relay (1 ∷ 3 ∷ []) (1 ∷ 3 ∷ []))
  -- "forward or back": the register is as it was
  pub back : after (after (relay (1 ∷ 3 ∷ []) (1 ∷ 4 ∷ [])) (setting 5)) (setting 0) ≡ relay (1 ∷ 3 ∷ []) (1 ∷ 4 ∷ [])
