-- Numbers 1 to 5 and 7 to 18 of document 01's "Where a call is turned down", and document 02's 20 and 21, over naturals: each group as one ordered choice, "The first
-- that applies is given". Numbers.antt has 6 and puts the groups of a call in order. Positions are from 1, and 0 where a number has none.
-- Assumes nothing: these are definitions.
use Rattle.std.specs.Prelude.{Bool, ◌&&◌, not, List, [], ◌∷◌, ℕ, suc, ◌+◌, ltb, leb, eqb, length, get_or, take, drop}
use Rattle.lists.specs.Lists.{pick, is_in, all, among, sum_of}
use Rattle.symbolic.specs.Columns.{Column, column_with, is_window, with_minutes, Register}
use Rattle.symbolic.specs.Factor.{factor_for, size_sum}
use Rattle.symbolic.specs.Change.{ids_of, added, clocked}
use Rattle.workspace.specs.Layout.{work_need}
use Rattle.tables.specs.Tables.{Tables, Sizes, long_enough}

-- ---- a refusal: its number, and "the position for the column and row checks and 0 otherwise". Accepted is 0.

-- what the checks of a call give
pub record Refusal : Type 0 where
  pub number : ℕ
  pub position : ℕ

-- a number given at a position
abbrev pub refusal : (number position : ℕ) → Refusal
refusal n p = record { number = n; position = p }

-- "Accepted is 0", at no position
abbrev pub accepted : Refusal
accepted = refusal 0 0

-- no check has refused the call
abbrev pub is_accepted : Refusal → Bool
is_accepted x = eqb x.number 0

-- "The first that applies is given": the first where it refuses, otherwise the second
abbrev pub or_else : Refusal → Refusal → Refusal
or_else x y = pick (is_accepted x) y x

-- a number at a position where a condition fails; accepted where it holds
abbrev pub unless : Bool → (number position : ℕ) → Refusal
unless z n p = pick z accepted (refusal n p)

-- ---- 1 to 4, every call: sizes

-- the largest sizes
pub record Bounds : Type 0 where
  pub m : ℕ
  pub n : ℕ
  pub f : ℕ
  pub c : ℕ

-- document 01's largest m, n, F and C
abbrev pub bounds : Bounds
bounds = record { m = 4096; n = 16384; f = 1048576; c = 262144 }

-- "1: m; 2: n; 3: F; 4: C outside its range"; F is at least m
abbrev pub sizes_refusal : Bounds → Sizes → Refusal
sizes_refusal b l =
    or_else (unless (is_in 1 b.m l.m) 1 0)
    (or_else (unless (is_in 1 b.n l.n) 2 0) (or_else (unless (is_in l.m b.f l.f) 3 0) (unless (is_in 1 b.c l.c) 4 0)))

-- ---- 20, openings: limits

-- document 02: "Limits that break this get 20 at opening, after 4"; keeps_rule: those handed over keep the rule of `are_limits` (symbolic, Grades)
abbrev pub limits_refusal : (keeps_rule : Bool) → Refusal
limits_refusal k = unless k 20 0

-- ---- 5, every call: tables

-- "needs W = .. of them"
abbrev pub work_for : Sizes → ℕ
work_for l = work_need l.m l.n l.f l.c

-- "5: some table or list needed is too short": one of the nine tables, or the work table
abbrev pub short_refusal : Sizes → Tables → (work : List ℕ) → Refusal
short_refusal l t w = unless (long_enough l t && leb (work_for l) (length w)) 5 0

-- "The lists for touched columns and labels .. need m places each"
abbrev pub lists_long : (m : ℕ) → (touched labels : List ℕ) → Bool
lists_long m ts ls = leb m (length ts) && leb m (length ls)

-- 1 to 4, 20 and 5, in this order; keeps_rule: an opening's limits keep the rule; is_long: the call's own lists are long enough
abbrev pub early_refusal : Sizes → (keeps_rule : Bool) → Tables → (work : List ℕ) → (is_long : Bool) → Refusal
early_refusal l k t w z = or_else (sizes_refusal bounds l) (or_else (limits_refusal k) (or_else (short_refusal l t w) (unless z 5 0)))

-- ---- 7 to 16 and 21, changes

-- the columns of an addition: "by position, each id enters with as many of the rows not yet used as its count says"
unfoldable pub batch_of : (ids counts rows : List ℕ) → List Column
batch_of [] ns rs = []
batch_of (i ∷ is) [] rs = []
batch_of (i ∷ is) (n ∷ ns) rs = column_with i (take n rs) ∷ batch_of is ns (drop n rs)

-- the same with their windows, by position
abbrev pub lines_of : (ids counts rows firsts seconds : List ℕ) → List Column
lines_of is ns rs ps qs = with_minutes ps qs (batch_of is ns rs)

-- an id is booked: the register has a column under it
abbrev pub in_register : Register → (id : ℕ) → Bool
in_register r i = among i (ids_of r.columns)

-- 13 or 14, row by row
unfoldable pub rows_refusal : (m position above : ℕ) → (rows : List ℕ) → Refusal
rows_refusal m p a [] = accepted
rows_refusal m p a (i ∷ is) = or_else (unless (is_in 1 m i) 13 p) (or_else (unless (ltb a i) 14 p) (rows_refusal m p i is))

-- 8 to 14 and 21, column by column; then 12 for rows left over. "21, after the column's rows". Fewer counts than ids cannot be here: 7 has excluded it
unfoldable pub columns_refusal : Register → (n position : ℕ) → (before ids counts rows firsts seconds : List ℕ) → Refusal
columns_refusal r n p bs [] ns rs ps qs = unless (eqb (length rs) 0) 12 0
columns_refusal r n p bs (i ∷ is) [] rs ps qs = refusal 7 0
columns_refusal r n p bs (i ∷ is) (k ∷ ns) rs ps qs =
    or_else (unless (is_in 1 n i) 8 p)
    (or_else (unless (not (among i bs)) 9 p)
    (or_else (unless (not (in_register r i)) 10 p)
    (or_else (unless (is_in 1 256 k && leb k (length rs)) 12 p)
    (or_else (rows_refusal r.m p 0 (take k rs))
    (or_else (unless (is_window (get_or ps 0 0) (get_or qs 0 0)) 21 p) (columns_refusal r n (suc p) (i ∷ bs) is ns (drop k rs) (drop 1 ps) (drop 1 qs)))))))

-- how many rows some columns have together, which is how many book records they need
abbrev pub row_sum : List Column → ℕ
row_sum cs = sum_of (λ (c : Column). length c.rows) cs

-- 15: book rows would exceed C; 16: the sum of all pattern sizes would exceed F
abbrev pub room_refusal : Sizes → Register → Refusal
room_refusal l r = or_else (unless (leb (row_sum r.columns) l.c) 15 0) (unless (leb (size_sum (factor_for r)) l.f) 16 0)

-- 7: 1 to 64 ids, and every "list that keeps step with the ids" is as long as they
abbrev pub keep_step : (ids counts firsts seconds : List ℕ) → Bool
keep_step is ns ps qs = is_in 1 64 (length is) && (eqb (length ns) (length is) && (eqb (length ps) (length is) && eqb (length qs) (length is)))

-- 7 to 16 and 21 of an addition, in document 01's order
abbrev pub add_refusal : Sizes → Register → (ids counts rows firsts seconds : List ℕ) → Refusal
add_refusal l r is ns rs ps qs =
    or_else (unless (keep_step is ns ps qs) 7 0)
    (or_else (columns_refusal r l.n 1 [] is ns rs ps qs) (room_refusal l (added r (lines_of is ns rs ps qs))))

-- 8, 9 or 11 of a removal, id by id; before holds the ids of the earlier positions
unfoldable pub ids_refusal : Register → (n position : ℕ) → (before ids : List ℕ) → Refusal
ids_refusal r n p bs [] = accepted
ids_refusal r n p bs (i ∷ is) =
    or_else (unless (is_in 1 n i) 8 p)
    (or_else (unless (not (among i bs)) 9 p) (or_else (unless (in_register r i) 11 p) (ids_refusal r n (suc p) (i ∷ bs) is)))

-- 7, 8, 9 or 11 of a removal, in document 01's order
abbrev pub remove_refusal : Sizes → Register → (ids : List ℕ) → Refusal
remove_refusal l r is = or_else (unless (is_in 1 64 (length is)) 7 0) (ids_refusal r l.n 1 [] is)

-- "Limit 16 is checked on the final patterns, after a clock change too"
abbrev pub clock_refusal : Sizes → Register → (minute : ℕ) → Refusal
clock_refusal l r t = unless (leb (size_sum (factor_for (clocked r t))) l.f) 16 0

-- ---- 7, 17 and 18, questions

-- "17: row or column outside 1 to m"
abbrev pub row_refusal : (m row : ℕ) → Refusal
row_refusal m i = unless (is_in 1 m i) 17 0

-- document 02: "An empty or longer list of rows falls under 7, a row out of range under 17": of up to 64 rows that are named
abbrev pub named_refusal : (m : ℕ) → (rows : List ℕ) → Refusal
named_refusal m is = or_else (unless (is_in 1 64 (length is)) 7 0) (unless (all (is_in 1 m) is) 17 0)

-- "the list ends before the answer does": the answer takes so many places from the given one on
abbrev pub room_for : (list : List ℕ) → (place places : ℕ) → Refusal
room_for xs p n = unless (leb (p + n) (length xs)) 18 0
