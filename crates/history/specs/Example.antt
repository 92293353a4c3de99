-- Document 01's listed example, as calls: "open 5 8 9 16", "add 1 1 3", "add 2 1 4", "add 3 2 3", with one more addition among them that is refused; then
-- a check, every question, with refused ones among them, and the removal of 2, which is case 4 of the instances; then openings with limits, refused ones,
-- one of them with F = 0, after which the old ones grade on, and accepted ones; then columns with windows and clock changes, forward and back, refused ones too; and
-- what the listing shows of record and tables.
-- Assumes nothing: these are definitions.
use Rattle.std.specs.Prelude.{List, [], ◌∷◌, ◌++◌, ℕ, zero, suc, ◌-◌, length, replicate}
use Rattle.lists.specs.Lists.{at, values_at, pairs_of}
use Rattle.symbolic.specs.Grades.{Limits, limits_of}
use Rattle.tables.specs.Stored.{Stored, records_of}
use Rattle.tables.specs.Tables.{Sizes, stored_in}
use Rattle.calls.specs.Calls.{Change, adding, removing, setting, Question, ask_next_row, ask_parent, ask_path, ask_column, ask_meets, ask_common, opening, changing, checking, asking, work_only, report_lists, work_and_list, Call, call_of}
use Rattle.calls.specs.Steps.{Answer, World}
use Rattle.history.specs.Runs.{Event}

-- "open 5 8 9 16"
abbrev pub asked_sizes : Sizes
asked_sizes = record { m = 5; n = 8; f = 9; c = 16 }

-- W is 1,124; one place more, and none of them zero
abbrev pub work_lent : List ℕ
work_lent = replicate 1125 7

-- one place more than m
abbrev pub list_lent : List ℕ
list_lent = replicate 6 9

-- an addition of columns with no window
abbrev pub add_all : (ids counts rows : List ℕ) → Change
add_all is ns rs = adding is ns rs (replicate (length is) 0) (replicate (length is) 0)

-- "add id rows"
abbrev pub add : (id : ℕ) → (rows : List ℕ) → Change
add i rs = add_all (i ∷ []) (length rs ∷ []) rs

-- the same with a window
abbrev pub add_in : (id : ℕ) → (rows : List ℕ) → (first second : ℕ) → Change
add_in i rs a b = adding (i ∷ []) (length rs ∷ []) rs (a ∷ []) (b ∷ [])

-- a change with its lists
abbrev pub change : Change → Call
change c = call_of (changing c) (report_lists work_lent list_lent list_lent)

-- a question that writes no list
abbrev pub ask : Question → Call
ask q = call_of (asking q 0) (work_only work_lent)

-- a question that writes a list from a place on
abbrev pub ask_from : Question → (place : ℕ) → Call
ask_from q p = call_of (asking q p) (work_and_list work_lent list_lent)

-- an opening
abbrev pub open_with : Sizes → Limits → Call
open_with l g = call_of (opening l g) (work_only work_lent)

-- id 1 is booked when it comes a second time
abbrev pub listed_calls : List Call
listed_calls = change (add 1 (1 ∷ 3 ∷ [])) ∷ change (add 1 (2 ∷ [])) ∷ change (add 2 (1 ∷ 4 ∷ [])) ∷ change (add 3 (2 ∷ 3 ∷ [])) ∷ []

-- check; path of 1, from place 1 on; column 1, then its walk by the next row from 1, 2, 4 and 5 on; from a row 6 on; its parent; the columns that meet row 4, from
-- place 2 on; the common row of 1 and 2, and of 1 and 5; of no row; the columns that meet a row 6, and those that meet row 4 where the list has two places left;
-- removal of 2
abbrev pub later_calls : List Call
later_calls =
    call_of checking (work_only work_lent) ∷ ask_from (ask_path 1) 1 ∷ ask_from (ask_column 1) 0 ∷ ask (ask_next_row 1 1) ∷ ask (ask_next_row 2 1) ∷
    ask (ask_next_row 4 1) ∷ ask (ask_next_row 5 1) ∷ ask (ask_next_row 6 1) ∷ ask (ask_parent 1) ∷ ask_from (ask_meets 4) 2 ∷ ask (ask_common (1 ∷ 2 ∷ [])) ∷ ask (ask_common (1 ∷ 5 ∷ [])) ∷ ask (ask_common []) ∷ ask_from (ask_meets 6) 0 ∷ ask_from (ask_meets 4) 4 ∷
    change (removing (2 ∷ [])) ∷ []

-- two rows
abbrev pub last_sizes : Sizes
last_sizes = record { m = 2; n = 1; f = 3; c = 2 }

-- an opening that is refused, for its m; one for its limits; one for the tables, with F left at 0; an addition; an opening that is accepted, with limits; an
-- addition and a removal; an opening without limits, and the addition once more
abbrev pub last_calls : List Call
last_calls =
    open_with (record { m = 0; n = 8; f = 9; c = 16 }) (limits_of 2 3 4) ∷ open_with asked_sizes (limits_of 2 2 3) ∷
    open_with (record { m = 5; n = 8; f = 0; c = 16 }) (limits_of 2 3 4) ∷ change (add 4 (1 ∷ 4 ∷ [])) ∷
    open_with last_sizes (limits_of 2 3 4) ∷ change (add 1 (1 ∷ 2 ∷ [])) ∷ change (removing (1 ∷ [])) ∷ open_with last_sizes (limits_of 0 0 0) ∷
    change (add 1 (1 ∷ 2 ∷ [])) ∷ []

-- three rows, and one factor record beside their diagonals
abbrev pub clock_sizes : Sizes
clock_sizes = record { m = 3; n = 4; f = 4; c = 7 }

-- {1,3} from minute 5 up to 9, and {1,2,3} from 9 up to 12
abbrev pub add_later : Change
add_later = adding (2 ∷ 3 ∷ []) (2 ∷ 3 ∷ []) (1 ∷ 3 ∷ 1 ∷ 2 ∷ 3 ∷ []) (5 ∷ 9 ∷ []) (9 ∷ 12 ∷ [])

-- an opening; {1,2} from minute 0 up to 5, then the two later ones; a column whose window ends as it begins; the clock to minute 3, to 5 and to 9
abbrev pub clock_calls : List Call
clock_calls =
    open_with clock_sizes (limits_of 0 0 0) ∷ change (add_in 1 (1 ∷ 2 ∷ []) 0 5) ∷ change add_later ∷ change (add_in 4 (2 ∷ []) 5 5) ∷ change (setting 3) ∷
    change (setting 5) ∷ change (setting 9) ∷ []

-- at minute 5 the removal of {1,2}, whose window is past; the clock back to 0; a check
abbrev pub back_calls : List Call
back_calls = change (removing (1 ∷ [])) ∷ change (setting 0) ∷ call_of checking (work_only work_lent) ∷ []

-- number, position, touched columns, entries, grade
abbrev pub answered : (number position touched entries grade : ℕ) → Answer
answered n p t e g = record { number = n; position = p; touched = t; entries = e; grade = g; row = 0; value = 0 }

-- as the listing program prints them: ok 2 3 1, no 10 1, ok 3 6 1, ok 3 5 1
abbrev pub listed_answers : List Answer
listed_answers = answered 0 0 2 3 1 ∷ answered 10 1 0 0 0 ∷ answered 0 0 3 6 1 ∷ answered 0 0 3 5 1 ∷ []

-- the row and multiplicity that the question for the next row gives
abbrev pub valued_at : (row value : ℕ) → Answer
valued_at i v = record { number = 0; position = 0; touched = 0; entries = 0; grade = 0; row = i; value = v }

-- the value of any other question
abbrev pub valued : ℕ → Answer
valued v = valued_at 0 v

-- sound; a path of three rows, a column of three entries; its walk gives 1:3, 3:1, 4:1, then no row; refused by 17; parent 3; three columns, common row 3, none;
-- refused by 7, 17 and 18; three columns touched, which had six entries
abbrev pub later_answers : List Answer
later_answers =
    answered 0 0 0 0 0 ∷ valued 3 ∷ valued 3 ∷ valued_at 1 3 ∷ valued_at 3 1 ∷ valued_at 4 1 ∷ valued_at 0 0 ∷ answered 17 0 0 0 0 ∷ valued 3 ∷ valued 3 ∷
    valued 3 ∷ valued 0 ∷ answered 7 0 0 0 0 ∷ answered 17 0 0 0 0 ∷ answered 18 0 0 0 0 ∷ answered 0 0 3 6 1 ∷ []

-- refused by 1, 20 and 5; six entries, still of grade 1; three entries after an addition and before a removal, of grade 3 by limits 2, 3 and 4; three entries,
-- of grade 1 again
abbrev pub last_answers : List Answer
last_answers =
    answered 1 0 0 0 0 ∷ answered 20 0 0 0 0 ∷ answered 5 0 0 0 0 ∷ answered 0 0 3 6 1 ∷ answered 0 0 0 0 0 ∷ answered 0 0 2 3 3 ∷ answered 0 0 2 3 3 ∷ answered 0 0 0 0 0 ∷
    answered 0 0 2 3 1 ∷ []

-- {1,2} touches two columns with three entries; the later ones touch nothing, grade 0; refused by 21; nobody moves at minute 3; at 5 {1,2} leaves and {1,3} enters,
-- which touches three columns of 2, 1 and 1 entries; refused by 16 at minute 9
abbrev pub clock_answers : List Answer
clock_answers =
    answered 0 0 0 0 0 ∷ answered 0 0 2 3 1 ∷ answered 0 0 0 0 0 ∷ answered 21 1 0 0 0 ∷ answered 0 0 0 0 0 ∷ answered 0 0 3 4 1 ∷ answered 16 0 0 0 0 ∷ []

-- the removal touches nothing; {1,3} leaves two columns of 2 and 1 entries; sound
abbrev pub back_answers : List Answer
back_answers = answered 0 0 0 0 0 ∷ answered 0 0 2 3 1 ∷ answered 0 0 0 0 0 ∷ []

-- the lists for touched columns that the listed calls leave
abbrev pub listed_touched : List (List ℕ)
listed_touched = (1 ∷ 3 ∷ 9 ∷ 9 ∷ 9 ∷ 9 ∷ []) ∷ list_lent ∷ (1 ∷ 3 ∷ 4 ∷ 9 ∷ 9 ∷ 9 ∷ []) ∷ (2 ∷ 3 ∷ 4 ∷ 9 ∷ 9 ∷ 9 ∷ []) ∷ []

-- the lists for labels that the listed calls leave
abbrev pub listed_labels : List (List ℕ)
listed_labels = (1 ∷ 1 ∷ 9 ∷ 9 ∷ 9 ∷ 9 ∷ []) ∷ list_lent ∷ (1 ∷ 1 ∷ 1 ∷ 9 ∷ 9 ∷ 9 ∷ []) ∷ (1 ∷ 1 ∷ 1 ∷ 9 ∷ 9 ∷ 9 ∷ []) ∷ []

-- the lists for touched columns that the later calls leave: the removal, which is the sixteenth, alone has one
abbrev pub later_touched : List (List ℕ)
later_touched = replicate 15 [] ++ ((1 ∷ 3 ∷ 4 ∷ 9 ∷ 9 ∷ 9 ∷ []) ∷ [])

-- the lists for labels that the later calls leave
abbrev pub later_labels : List (List ℕ)
later_labels = replicate 15 [] ++ ((1 ∷ 1 ∷ 1 ∷ 9 ∷ 9 ∷ 9 ∷ []) ∷ [])

-- the lists of questions that the later calls leave
abbrev pub later_lists : List (List ℕ)
later_lists =
    [] ∷ (9 ∷ 1 ∷ 3 ∷ 4 ∷ 9 ∷ 9 ∷ []) ∷ (1 ∷ 3 ∷ 3 ∷ 1 ∷ 4 ∷ 1 ∷ []) ∷ [] ∷ [] ∷ [] ∷ [] ∷ [] ∷ [] ∷ (9 ∷ 9 ∷ 1 ∷ 3 ∷ 4 ∷ 9 ∷ []) ∷ [] ∷ [] ∷ [] ∷ list_lent ∷ list_lent ∷ [] ∷ []

-- the work table that calls leave: its first W places zero, the rest as lent; as lent under 1, 20 and 5; W is 1,055 for two rows, 1,075 for three
abbrev pub work_left : (w : ℕ) → List ℕ
work_left w = replicate w 0 ++ replicate (1125 - w) 7

-- the work tables that the last calls leave
abbrev pub last_work : List (List ℕ)
last_work =
    work_lent ∷ work_lent ∷ work_lent ∷ work_left 1124 ∷ work_left 1055 ∷ work_left 1055 ∷ work_left 1055 ∷ work_left 1055 ∷ work_left 1055 ∷ []

-- the lists for touched columns that the last calls leave
abbrev pub last_touched : List (List ℕ)
last_touched =
    [] ∷ [] ∷ [] ∷ (1 ∷ 3 ∷ 4 ∷ 9 ∷ 9 ∷ 9 ∷ []) ∷ [] ∷ (1 ∷ 2 ∷ 9 ∷ 9 ∷ 9 ∷ 9 ∷ []) ∷ (1 ∷ 2 ∷ 9 ∷ 9 ∷ 9 ∷ 9 ∷ []) ∷ [] ∷ (1 ∷ 2 ∷ 9 ∷ 9 ∷ 9 ∷ 9 ∷ []) ∷ []

-- the lists for labels that the last calls leave
abbrev pub last_labels : List (List ℕ)
last_labels =
    [] ∷ [] ∷ [] ∷ (1 ∷ 1 ∷ 1 ∷ 9 ∷ 9 ∷ 9 ∷ []) ∷ [] ∷ (1 ∷ 1 ∷ 9 ∷ 9 ∷ 9 ∷ 9 ∷ []) ∷ (1 ∷ 1 ∷ 9 ∷ 9 ∷ 9 ∷ 9 ∷ []) ∷ [] ∷ (1 ∷ 1 ∷ 9 ∷ 9 ∷ 9 ∷ 9 ∷ []) ∷ []

-- the lists for touched columns that the calls with windows leave
abbrev pub clock_touched : List (List ℕ)
clock_touched = [] ∷ (1 ∷ 2 ∷ 9 ∷ 9 ∷ 9 ∷ 9 ∷ []) ∷ list_lent ∷ list_lent ∷ list_lent ∷ (1 ∷ 2 ∷ 3 ∷ 9 ∷ 9 ∷ 9 ∷ []) ∷ list_lent ∷ []

-- the lists for labels: of clock changes 0
abbrev pub clock_labels : List (List ℕ)
clock_labels = [] ∷ (1 ∷ 1 ∷ 9 ∷ 9 ∷ 9 ∷ 9 ∷ []) ∷ list_lent ∷ list_lent ∷ list_lent ∷ (0 ∷ 0 ∷ 0 ∷ 9 ∷ 9 ∷ 9 ∷ []) ∷ list_lent ∷ []

-- the lists for touched columns that the calls after them leave
abbrev pub back_touched : List (List ℕ)
back_touched = list_lent ∷ (1 ∷ 3 ∷ 9 ∷ 9 ∷ 9 ∷ 9 ∷ []) ∷ [] ∷ []

-- the lists for labels that these leave
abbrev pub back_labels : List (List ℕ)
back_labels = list_lent ∷ (0 ∷ 0 ∷ 9 ∷ 9 ∷ 9 ∷ 9 ∷ []) ∷ [] ∷ []

-- the calls of a run
unfoldable pub event_calls : List Event → List Call
event_calls [] = []
event_calls (e ∷ es) = e.call ∷ event_calls es

-- the answers of a run
unfoldable pub event_answers : List Event → List Answer
event_answers [] = []
event_answers (e ∷ es) = e.answer ∷ event_answers es

-- the lists for touched columns that the calls of a run left
unfoldable pub event_touched : List Event → List (List ℕ)
event_touched [] = []
event_touched (e ∷ es) = e.left.touched ∷ event_touched es

-- the lists for labels that the calls of a run left
unfoldable pub event_labels : List Event → List (List ℕ)
event_labels [] = []
event_labels (e ∷ es) = e.left.labels ∷ event_labels es

-- the work table that each event leaves
unfoldable pub event_work : List Event → List (List ℕ)
event_work [] = []
event_work (e ∷ es) = e.left.work ∷ event_work es

-- the lists of questions that the calls of a run left
unfoldable pub event_lists : List Event → List (List ℕ)
event_lists [] = []
event_lists (e ∷ es) = e.left.list ∷ event_lists es

-- what "show prints" from the tables: "j, parent, then row:multiplicity pairs", from column j on
unfoldable pub shown_from : Stored → (j : ℕ) → ℕ → List (List ℕ)
shown_from s j zero = []
shown_from s j (suc n) = (j ∷ at s.parents j ∷ pairs_of (values_at s.rows (records_of s j)) (values_at s.counts (records_of s j))) ∷ shown_from s (suc j) n

-- "show prints a line for each j": all of them, from record and tables
abbrev pub shown : World → List (List ℕ)
shown v = shown_from (stored_in v.state v.tables) 1 v.state.sizes.m

-- the listing, row by row
abbrev pub listing : List (List ℕ)
listing =
    (1 ∷ 3 ∷ 1 ∷ 3 ∷ 3 ∷ 1 ∷ 4 ∷ 1 ∷ []) ∷ (2 ∷ 3 ∷ 2 ∷ 2 ∷ 3 ∷ 1 ∷ []) ∷ (3 ∷ 4 ∷ 3 ∷ 3 ∷ 4 ∷ 1 ∷ []) ∷ (4 ∷ 0 ∷ 4 ∷ 2 ∷ []) ∷ (5 ∷ 0 ∷ 5 ∷ 1 ∷ []) ∷ []

-- the listing after the removal of 2
abbrev pub later_listing : List (List ℕ)
later_listing = (1 ∷ 3 ∷ 1 ∷ 2 ∷ 3 ∷ 1 ∷ []) ∷ (2 ∷ 3 ∷ 2 ∷ 2 ∷ 3 ∷ 1 ∷ []) ∷ (3 ∷ 0 ∷ 3 ∷ 3 ∷ []) ∷ (4 ∷ 0 ∷ 4 ∷ 1 ∷ []) ∷ (5 ∷ 0 ∷ 5 ∷ 1 ∷ []) ∷ []

-- and after the last addition
abbrev pub last_listing : List (List ℕ)
last_listing = (1 ∷ 2 ∷ 1 ∷ 2 ∷ 2 ∷ 1 ∷ []) ∷ (2 ∷ 0 ∷ 2 ∷ 2 ∷ []) ∷ []

-- the listing at minute 5
abbrev pub clock_listing : List (List ℕ)
clock_listing = (1 ∷ 3 ∷ 1 ∷ 2 ∷ 3 ∷ 1 ∷ []) ∷ (2 ∷ 0 ∷ 2 ∷ 1 ∷ []) ∷ (3 ∷ 0 ∷ 3 ∷ 2 ∷ []) ∷ []

-- the listing back at minute 0: no column counts
abbrev pub back_listing : List (List ℕ)
back_listing = (1 ∷ 0 ∷ 1 ∷ 1 ∷ []) ∷ (2 ∷ 0 ∷ 2 ∷ 1 ∷ []) ∷ (3 ∷ 0 ∷ 3 ∷ 1 ∷ []) ∷ []
