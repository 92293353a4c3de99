-- The theorems about calls, each a type with the sentence that it renders: what holds of record and tables (`Consistent`), what holds of one call
-- (`Justified`), demand 3, and what stands beside it. proofs/Theorems.antt has a term of each, proofs/Example.antt the one of `ConcreteRun`. NextRow.antt has
-- those of the question for the next row.
-- Assumes nothing: these are definitions.
use Rattle.std.specs.Prelude.{◌≡◌, ◌⊎◌, ◌≢◌, ◌↔◌, true, false, ◌&&◌, ◌||◌, not, List, [], ◌∷◌, ◌++◌, ℕ, ◌+◌, ◌*◌, ◌≤◌, ◌<◌, max, eqb, length, take, drop, replicate}
use Rattle.lists.specs.Lists.{pick, one, is_in, Mem, all, same, among, no_repeats, count, sum_of, at, values_at, rises, up_from}
use Rattle.symbolic.specs.Columns.{Column, smallest, holds, starting_with, in_window, Register, live}
use Rattle.symbolic.specs.Definition.{IsFactor, OnPath}
use Rattle.symbolic.specs.Factor.{factor_of, factor_for}
use Rattle.symbolic.specs.Chains.{share, ChainTo}
use Rattle.symbolic.specs.Batch.{at_position}
use Rattle.symbolic.specs.Change.{ids_of}
use Rattle.symbolic.specs.Grades.{Limits, limits_of, are_limits, limits_for, grade_of}
use Rattle.symbolic.specs.Meeting.{IsCommon}
use Rattle.book.specs.Book as book
use Rattle.tables.specs.Stored.{records_of, holds_from}
use Rattle.tables.specs.Tables.{Tables, Sizes, sizes_of, long_enough, stored_in, book_in, windows_in, is_sound}
use Rattle.tables.specs.Stays.{ColumnStays, EntriesKeep, EntriesStay, MinutesStay, TailsStay}
use Rattle.calls.specs.Refusals.{Refusal, refusal, accepted, is_accepted, or_else, bounds, sizes_refusal, short_refusal}
use Rattle.calls.specs.Calls.{Change, adding, removing, setting, ask_meets, ask_common, opening, changing, asking, Lent, with_work, Call, call_of, is_batch, is_opening, is_change, default_records}
use Rattle.calls.specs.Changes.{effect, IsExchange}
use Rattle.calls.specs.Numbers.{call_early, call_refusal}
use Rattle.calls.specs.Steps.{Answer, refused_by, accepted_by, lists_after, work_after, World, booked_in, SameBook, Transition}
use Rattle.history.specs.Runs.{Event, Run, Plain, plain_after, Begun}
use Rattle.history.specs.Example.{asked_sizes, listed_calls, listed_answers, listed_touched, listed_labels, later_calls, later_answers, later_touched, later_labels, later_lists, last_calls, last_answers, work_left, last_work, last_touched, last_labels, clock_calls, clock_answers, clock_touched, clock_labels, back_calls, back_answers, back_touched, back_labels, event_calls, event_answers, event_touched, event_labels, event_work, event_lists, shown, listing, later_listing, last_listing, clock_listing, back_listing}

-- ---- what holds of record and tables against a plain register

-- the rows of column j in the tables: those of its chain's records, in their order
abbrev pub held_rows : World → (j : ℕ) → List ℕ
held_rows v j = values_at (stored_in v.state v.tables).rows (records_of (stored_in v.state v.tables) j)

-- their multiplicities
abbrev pub held_counts : World → (j : ℕ) → List ℕ
held_counts v j = values_at (stored_in v.state v.tables).counts (records_of (stored_in v.state v.tables) j)

-- row i stands in factor column j: "if j's chain in the tables has a record of row i"
abbrev pub Stands : World → (i j : ℕ) → Type 0
Stands v i j = Mem i (held_rows v j)

-- what stands beside a key in two lists that keep step; 0 where the key has nothing
unfoldable pub value_for : (keys values : List ℕ) → (key : ℕ) → ℕ
value_for [] vs k = 0
value_for (x ∷ xs) [] k = 0
value_for (x ∷ xs) (y ∷ ys) k = pick (eqb x k) y (value_for xs ys k)

-- the multiplicity that the tables hold for row i in column j: that of the chain's record with the row, 0 when absent
abbrev pub held_count : World → (i j : ℕ) → ℕ
held_count v i j = value_for (held_rows v j) (held_counts v j) i

-- the parent that the tables hold for column j
abbrev pub held_parent : World → (j : ℕ) → ℕ
held_parent v j = at (stored_in v.state v.tables).parents j

-- the size of column j in the tables: how many records its chain has
abbrev pub held_size : World → (j : ℕ) → ℕ
held_size v j = length (records_of (stored_in v.state v.tables) j)

-- multiplicities M and parents P are document 01's for the live columns of a register
abbrev pub IsFactorOf : Register → (M : ℕ → ℕ → ℕ) (P : ℕ → ℕ) → Type 0
IsFactorOf r M P = IsFactor r.m (λ j i. starting_with j i (live r)) M P

-- what holds of record and tables after a list of calls, against the register by then
pub record Consistent (p : Plain) (v : World) : Type 0 where
  -- the sizes are in range and the limits keep the rule, the record has them and the register's clock, and the tables are long enough for the sizes
  pub in-range : sizes_refusal bounds p.sizes ≡ accepted
  pub sizes : v.state.sizes ≡ p.sizes
  pub in_order : are_limits p.limits ≡ true
  pub limits : v.state.limits ≡ p.limits
  pub clock : v.state.clock ≡ p.register.clock
  pub rows : p.register.m ≡ p.sizes.m
  pub long : long_enough p.sizes v.tables ≡ true
  -- demand 3: tables sound
  pub sound : is_sound v.state v.tables ≡ true
  -- demand 3: book = the plain register: the same columns with the same rows and windows, both ways, each id once
  pub columns : (c : Column) → Mem c (booked_in v).columns ↔ Mem c p.register.columns
  pub book-once : no_repeats (ids_of (booked_in v).columns) ≡ true
  pub register-once : no_repeats (ids_of p.register.columns) ≡ true
  -- demand 3: numbers justified: multiplicities and parents in the tables are the definition's for the register, as the declarative definition has it
  pub factor : IsFactorOf p.register (held_count v) (held_parent v)
  -- and as it is computed: chain j holds just the pattern's rows, rising, with their multiplicities
  pub stored : holds_from (stored_in v.state v.tables) (factor_for p.register) 1 p.sizes.m ≡ true
  -- demand 3: row i in column j exactly if a chain of rows leads there, of rows that share columns live at the register's clock (`LiveIs`)
  pub chains : (i j : ℕ) → 1 ≤ j → j < i → i ≤ p.sizes.m → Stands v i j ↔ ChainTo p.sizes.m (live p.register) i j

-- ---- what holds of one call against the plain register before it

-- the number and position that table lengths, sizes, register and arguments give
abbrev pub plain_refusal : Plain → Tables → Call → Refusal
plain_refusal p t k = or_else (call_early p.sizes t k) (call_refusal p.sizes p.register k)

-- j lies on the path of the smallest row of some column, in the tree of parents P
abbrev pub OnPathOf : (m : ℕ) (P : ℕ → ℕ) → List Column → (j : ℕ) → Type 0
OnPathOf m P cs j = (c : Column) × Mem c cs × (1 ≤ smallest c) × (smallest c ≤ m) × OnPath P (smallest c) j

-- "The report is the list of touched columns and their number": the lent list's front
abbrev pub reported : Event → List ℕ
reported e = take e.answer.touched e.left.touched

-- demand 3: an accepted change reports each once, ascending, exactly the columns on its paths: of those that leave in the tree before the call, of those that
-- enter in the tree after it, whatever parents P and Q meet the definition there; "A batch column outside its window has no path"
pub record ReportsJust (p : Plain) (e : Event) (c : Change) : Type 0 where
  pub counted : length (reported e) ≡ e.answer.touched
  pub ascending : rises 1 p.register.m (reported e) ≡ true
  pub exactly : (M N : ℕ → ℕ → ℕ) (P Q : ℕ → ℕ) → IsFactorOf p.register M P → IsFactorOf (effect p.register c).register N Q →
      (j : ℕ) → 1 ≤ j → j ≤ p.register.m →
      Mem j (reported e) ↔ (OnPathOf p.register.m P (effect p.register c).leave j ⊎ OnPathOf p.register.m Q (effect p.register c).enter j)

-- the labels of the reported columns, in their order: the front of the lent list
abbrev pub reported_labels : Event → List ℕ
reported_labels e = take e.answer.touched e.left.labels

-- the path of the column at position k of a batch passes through j, in the tree of parents P
abbrev pub PassesAt : (m : ℕ) (P : ℕ → ℕ) → (batch : List Column) → (j k : ℕ) → Type 0
PassesAt m P cs j k =
    (1 ≤ k) × (k ≤ length cs) × (1 ≤ smallest (at_position cs k)) × (smallest (at_position cs k) ≤ m) × OnPath P (smallest (at_position cs k)) j

-- "the largest position whose path passes through it"
abbrev pub IsLabel : (m : ℕ) (P : ℕ → ℕ) → (batch : List Column) → (j label : ℕ) → Type 0
IsLabel m P cs j k = PassesAt m P cs j k × ((i : ℕ) → PassesAt m P cs j i → i ≤ k)

-- an accepted batch gives each reported column its label: of a removal, in which none enters, in the tree before the call, of an addition, in which none leaves,
-- in the tree after it, whatever parents P and Q meet the definition there. A column outside its window keeps its position
pub record LabelsJust (p : Plain) (e : Event) (c : Change) : Type 0 where
  pub counted : length (reported_labels e) ≡ e.answer.touched
  pub largest : is_batch c ≡ true → (M N : ℕ → ℕ → ℕ) (P Q : ℕ → ℕ) → IsFactorOf p.register M P → IsFactorOf (effect p.register c).register N Q →
      (j : ℕ) → Mem j (reported e) →
      IsLabel p.register.m P (effect p.register c).leave j (value_for (reported e) (reported_labels e) j) ⊎
      IsLabel p.register.m Q (effect p.register c).enter j (value_for (reported e) (reported_labels e) j)

-- the entries that an accepted change answers, from the chains that the tables have before it (u) and after it (v)
pub record CountsJust (u : World) (e : Event) (c : Change) (v : World) : Type 0 where
  -- document 02: "Entries take the larger of a column's sizes before and after"
  pub larger : e.answer.entries ≡ sum_of (λ j. max (held_size u j) (held_size v j)) (reported e)
  -- an addition: "the sum of the sizes of the touched columns' patterns after the call"
  pub after-adding : (ids counts rows firsts seconds : List ℕ) → c ≡ adding ids counts rows firsts seconds → e.answer.entries ≡ sum_of (held_size v) (reported e)
  -- document 02: "For a removal the entries become the sum of the touched columns' sizes before the call"
  pub before-removing : (ids : List ℕ) → c ≡ removing ids → e.answer.entries ≡ sum_of (held_size u) (reported e)

-- what an accepted change may alter of record and tables, from world u to world v
pub record AltersJust (p : Plain) (u : World) (e : Event) (c : Change) (v : World) : Type 0 where
  -- of the live columns some leave, some stay and others enter
  pub exchange : IsExchange p.register (effect p.register c)
  -- demand 3: each accepted change alters no column off its paths, which are just the reported ones
  pub others : (j : ℕ) → 1 ≤ j → j ≤ p.sizes.m → (Mem j (reported e) → ⊥) →
      ColumnStays (stored_in u.state u.tables) (stored_in v.state v.tables) j
  -- document 02: "An entry standing before, between and after keeps its record": between stands the factor of the columns that stay
  pub entries : (j : ℕ) → 1 ≤ j → j ≤ p.sizes.m →
      EntriesStay (factor_of p.sizes.m (effect p.register c).stay) (stored_in u.state u.tables) (stored_in v.state v.tables) j
  -- of a batch: "An entry that stands in a column before and after a batch keeps its record"
  pub keeps : is_batch c ≡ true → (j : ℕ) → 1 ≤ j → j ≤ p.sizes.m → EntriesKeep (stored_in u.state u.tables) (stored_in v.state v.tables) j
  -- the book's column and the minutes of every id that the change does not name stay, and so do the places beyond the sizes
  pub ids : (i : ℕ) → 1 ≤ i → i ≤ p.sizes.n → among i (effect p.register c).ids ≡ false →
      book.ColumnStays (book_in u.state u.tables) (book_in v.state v.tables) i
  pub minutes : (i : ℕ) → 1 ≤ i → i ≤ p.sizes.n → among i (effect p.register c).ids ≡ false →
      MinutesStay p.sizes.n (windows_in u.state u.tables) (windows_in v.state v.tables) i
  pub tails : TailsStay p.sizes u.tables v.tables
  -- a batch leaves the clock
  pub clock : is_batch c ≡ true → v.state.clock ≡ u.state.clock

-- j lies on the path, by the parents that the tables hold, of a booked column that is inside its window at one minute and not at another
abbrev pub OnPathOnly : World → Register → (minute other j : ℕ) → Type 0
OnPathOnly v r t o j =
    (c : Column) × Mem c r.columns × (in_window t c ≡ true) × (in_window o c ≡ false) × OnPath (held_parent v) (smallest c) j

-- what an accepted clock change does beside that, from world u to world v
pub record SetsJust (p : Plain) (u : World) (e : Event) (minute : ℕ) (v : World) : Type 0 where
  -- the record has the minute, and nothing is booked or removed
  pub clock : v.state.clock ≡ minute
  pub book : SameBook u v
  -- document 02: "only factor columns on the old paths of leavers and the new paths of entrants may be altered. These are listed with label 0", by the parents
  -- that the tables hold before and after
  pub listed : (j : ℕ) → 1 ≤ j → j ≤ p.sizes.m →
      Mem j (reported e) ↔ (OnPathOnly u p.register p.register.clock minute j ⊎ OnPathOnly v p.register minute p.register.clock j)
  pub labels : reported_labels e ≡ replicate e.answer.touched 0

-- what holds of one call, from world u to world v, against the register before it
pub record Justified (p : Plain) (u : World) (e : Event) (v : World) : Type 0 where
  -- number, position and every other number, from the register, sizes and limits
  pub answer : e.answer ≡
      pick (is_accepted (plain_refusal p u.tables e.call)) (accepted_by p.limits p.register e.call.entry) (refused_by (plain_refusal p u.tables e.call))
  -- so never 6, and 1 to 4 and 20 only at openings
  pub never-unsound : e.answer.number ≢ 6
  pub at-openings : is_opening e.call.entry ≡ false → (e.answer.number ≡ 0) ⊎ ((5 ≤ e.answer.number) × (e.answer.number ≢ 20))
  -- every lent list, from the register: the report, a question's list, the work table
  pub left : e.left ≡
      pick (is_accepted (plain_refusal p u.tables e.call))
      (lists_after p.register e.call (work_after p.sizes u.tables e.call))
      (with_work e.call.lent (work_after p.sizes u.tables e.call))
  -- a refused call, a check or a question leaves record and tables, the clock too
  pub unchanged : (e.answer.number ≢ 0) ⊎ ((is_change e.call.entry || is_opening e.call.entry) ≡ false) → v ≡ u
  -- "every grade is read from" the limits; "A call that touches nothing has grade 0"
  pub graded : e.answer.grade ≡ grade_of p.limits e.answer.entries
  pub ungraded : e.answer.touched ≡ 0 → (e.answer.entries ≡ 0) × (e.answer.grade ≡ 0)
  -- 16: "the sum of all pattern sizes would exceed F", of the register after the change, by all multiplicities M that are as the definition says
  pub full : e.answer.number ≡ 16 → (c : Change) → e.call.entry ≡ changing c → (M : ℕ → ℕ → ℕ) (P : ℕ → ℕ) →
      IsFactorOf (effect p.register c).register M P → p.sizes.f < sum_of (λ j. count (λ i. not (eqb (M i j) 0)) p.register.m) (up_from 1 p.register.m)
  -- what an accepted change reports, labels, counts and alters
  pub reports : e.answer.number ≡ 0 → (c : Change) → e.call.entry ≡ changing c → ReportsJust p e c
  pub labels : e.answer.number ≡ 0 → (c : Change) → e.call.entry ≡ changing c → LabelsJust p e c
  pub counts : e.answer.number ≡ 0 → (c : Change) → e.call.entry ≡ changing c → CountsJust u e c v
  pub alters : e.answer.number ≡ 0 → (c : Change) → e.call.entry ≡ changing c → AltersJust p u e c v
  pub sets : e.answer.number ≡ 0 → (minute : ℕ) → e.call.entry ≡ changing (setting minute) → SetsJust p u e minute v

-- ---- DEMAND 3, one claim about a list of calls from an accepted opening, refused ones among them

-- "Demand 3 is a single claim about a list of calls": what holds after it, and of every call in it
abbrev pub Demand3 : Type 0
Demand3 =
    (u : World) (p : Plain) (es : List Event) (v : World) → Begun u p → Run u es v →
    Consistent (plain_after p es) v ×
    ((before after : List Event) (e : Event) (x y : World) → es ≡ before ++ (e ∷ after) → Run u before x →
    Transition x e.call e.answer e.left y → Run y after v → Justified (plain_after p before) x e y)

-- every split of a run has worlds around the call, so the second half speaks of every call
abbrev pub RunSplits : Type 0
RunSplits =
    (u v : World) (before after : List Event) (e : Event) → Run u (before ++ (e ∷ after)) v →
    (x : World) × (y : World) × (Run u before x × Transition x e.call e.answer e.left y × Run y after v)

-- ---- beside it

-- what a world holds, in place of a register
abbrev pub plain_of : World → Plain
plain_of u = record { sizes = u.state.sizes; limits = u.state.limits; register = booked_in u }

-- "On sound tables that no such list has left, what demand 3 says of an accepted batch holds too, with what they hold in place of the register", and so of a clock
-- change: an accepted change has passed 1 to 6, so that its tables are in range, long enough and sound is a conclusion here
abbrev pub AnySound : Type 0
AnySound =
    (u : World) (e : Event) (v : World) → Transition u e.call e.answer e.left v → e.answer.number ≡ 0 → is_change e.call.entry ≡ true →
    Consistent (plain_of u) u × Justified (plain_of u) u e v × Consistent (plain_after (plain_of u) (e ∷ [])) v

-- "live means booked and inside its window at the factor's clock": which rows share a live column, for the chain rule, and how many live columns with smallest row
-- j hold row i, for the multiplicities
abbrev pub LiveIs : Type 0
LiveIs =
    (r : Register) (i j : ℕ) →
    ((share (live r) i j ≡ true) ↔ ((c : Column) × Mem c r.columns × (in_window r.clock c ≡ true) × (holds c i ≡ true) × (holds c j ≡ true))) ×
    (starting_with j i (live r) ≡ sum_of (λ c. one (in_window r.clock c && (eqb (smallest c) j && holds c i))) r.columns)

-- every accepted opening leaves sound tables
abbrev pub OpeningSound : Type 0
OpeningSound =
    (u : World) (l : Sizes) (g : Limits) (w : Lent) (a : Answer) (x : Lent) (v : World) → Transition u (call_of (opening l g) w) a x v → a.number ≡ 0 →
    is_sound v.state v.tables ≡ true

-- ---- the factor records of an opening, on any tables

-- "Opening with F = 0 shall mean" the default: number, answer, lists, record and tables are those of an opening that names so many records
abbrev pub DefaultNamed : Type 0
DefaultNamed =
    (u : World) (m n c : ℕ) (g : Limits) (w : Lent) (a : Answer) (x : Lent) (v : World) →
    Transition u (call_of (opening (sizes_of m n 0 c) g) w) a x v ↔ Transition u (call_of (opening (sizes_of m n (default_records m) c) g) w) a x v

-- the default is in F's range for every m that is in its own: 3 never refuses an opening with F = 0
abbrev pub DefaultInRange : Type 0
DefaultInRange =
    (u : World) (m n c : ℕ) (g : Limits) (w : Lent) (a : Answer) (x : Lent) (v : World) → Transition u (call_of (opening (sizes_of m n 0 c) g) w) a x v → a.number ≢ 3

-- m, n and C are in range, and the limits keep the rule
pub record InOrder (m n c : ℕ) (g : Limits) : Type 0 where
  pub rows : is_in 1 bounds.m m ≡ true
  pub ids : is_in 1 bounds.n n ≡ true
  pub booked : is_in 1 bounds.c c ≡ true
  pub limits : are_limits (limits_for g) ≡ true

-- where these are in order, tables or a work table too short for the default give 5, and nothing lent changes
abbrev pub DefaultShort : Type 0
DefaultShort =
    (u : World) (m n c : ℕ) (g : Limits) (w : Lent) (a : Answer) (x : Lent) (v : World) → Transition u (call_of (opening (sizes_of m n 0 c) g) w) a x v →
    InOrder m n c g → is_accepted (short_refusal (sizes_of m n (default_records m) c) u.tables w.work) ≡ false →
    (a ≡ refused_by (refusal 5 0)) × (x ≡ w) × (v ≡ u)

-- "Hosts that lent tables for 16 × m and left F at 0 would now get 5", where these are in order, also if only the table of rows has no more places
abbrev pub LeftAtZero : Type 0
LeftAtZero =
    (u : World) (m n c : ℕ) (g : Limits) (w : Lent) (a : Answer) (x : Lent) (v : World) → Transition u (call_of (opening (sizes_of m n 0 c) g) w) a x v →
    InOrder m n c g → length u.tables.rows ≤ 16 * m → (a ≡ refused_by (refusal 5 0)) × (x ≡ w) × (v ≡ u)

-- an F that is named is kept, below the default and above it
abbrev pub NamedKept : Type 0
NamedKept =
    (u : World) (l : Sizes) (g : Limits) (w : Lent) (a : Answer) (x : Lent) (v : World) → Transition u (call_of (opening l g) w) a x v → a.number ≡ 0 →
    l.f ≢ 0 → v.state.sizes ≡ l

-- in a record 0 is outside F's range, as before: with m and n in theirs, every call but an opening is refused by 3, and nothing lent changes
abbrev pub ZeroRefused : Type 0
ZeroRefused =
    (u : World) (k : Call) (a : Answer) (x : Lent) (v : World) → Transition u k a x v → is_opening k.entry ≡ false → is_in 1 bounds.m u.state.sizes.m ≡ true →
    is_in 1 bounds.n u.state.sizes.n ≡ true → u.state.sizes.f ≡ 0 → (a ≡ refused_by (refusal 3 0)) × (x ≡ k.lent) × (v ≡ u)

-- ---- document 02's questions of a delivery run, on any tables: an accepted question has passed 1 to 6, so that they are sound is a conclusion here too

-- "written as a path is, with the number of places filled": what fills the lent list from a place on
abbrev pub filled : Event → (place : ℕ) → List ℕ
filled e p = take e.answer.value (drop p e.left.list)

-- what an accepted question for the columns that meet row i has written from place p on, against what the tables hold
pub record FilledJust (u : World) (e : Event) (i p : ℕ) : Type 0 where
  -- it has passed 17: the row is one of 1 to m
  pub row : is_in 1 u.state.sizes.m i ≡ true
  -- "with the number of places filled"
  pub counted : length (filled e p) ≡ e.answer.value
  -- "ascending", up to row i, whose own column is the last
  pub ascending : rises 1 i (filled e p) ≡ true
  pub own-last : (js : List ℕ) × (filled e p ≡ js ++ (i ∷ []))
  -- "all factor columns whose pattern holds it": those whose chain in the tables has the row
  pub exactly : (j : ℕ) → 1 ≤ j → j ≤ u.state.sizes.m → Mem j (filled e p) ↔ Stands u i j
  -- "and the rest of the list keeps its content"
  pub length-stays : length e.left.list ≡ length e.call.lent.list
  pub front-stays : take p e.left.list ≡ take p e.call.lent.list
  pub rest-stays : drop (p + e.answer.value) e.left.list ≡ drop (p + e.answer.value) e.call.lent.list

-- an accepted question for the columns that meet a row lists just those; "Neither changes a table but the work table"
abbrev pub MeetsStand : Type 0
MeetsStand =
    (u : World) (e : Event) (v : World) (i p : ℕ) → Transition u e.call e.answer e.left v → e.call.entry ≡ asking (ask_meets i) p →
    e.answer.number ≡ 0 → Consistent (plain_of u) u × (v ≡ u) × FilledJust u e i p

-- what an accepted question for the common row of some rows answers, against the parents that the tables hold
pub record CommonJust (u : World) (e : Event) (rows : List ℕ) : Type 0 where
  -- it has passed 7 and 17: "up to 64 rows", at least one, each of 1 to m
  pub few : is_in 1 64 (length rows) ≡ true
  pub in-range : all (is_in 1 u.state.sizes.m) rows ≡ true
  -- "the smallest row that lies on all their paths, or 0 where there is none"
  pub smallest-on-all : IsCommon (held_parent u) rows e.answer.value
  pub list-stays : e.left.list ≡ e.call.lent.list

-- an accepted question for the common row of some rows answers just that; "Neither changes a table but the work table"
abbrev pub CommonLies : Type 0
CommonLies =
    (u : World) (e : Event) (v : World) (rows : List ℕ) (p : ℕ) → Transition u e.call e.answer e.left v → e.call.entry ≡ asking (ask_common rows) p →
    e.answer.number ≡ 0 → Consistent (plain_of u) u × (v ≡ u) × CommonJust u e rows

-- ---- a run that is, so that nothing above is empty: the listed example, with a refused addition among the others; then a check, every question, refused
-- ones too, and a removal; then openings with limits, refused ones, one of these with F = 0, and accepted ones, and batches graded by
-- them; then columns with windows, clock changes that take a column out and let one in, move nobody, are refused and go back, and a removal of a column that
-- does not count. (No run has a record with F = 0, which `ZeroRefused` is about: `in-record` of `RecordInstances` is one.)

-- the run, with its calls, answers, lists and listings as Example.antt has them
pub record ConcreteRun : Type 0 where
  pub start : World
  pub plain : Plain
  pub events : List Event
  pub end : World
  pub begun : Begun start plain
  pub asked : begun.asked ≡ asked_sizes
  pub limits : begun.limits ≡ limits_of 0 0 0
  pub run : Run start events end
  pub calls : event_calls events ≡ listed_calls
  pub answers : event_answers events ≡ listed_answers
  pub touched : event_touched events ≡ listed_touched
  pub labels : event_labels events ≡ listed_labels
  pub shows : shown end ≡ listing
  pub later : List Event
  pub last : World
  pub later-run : Run end later last
  pub later-calls : event_calls later ≡ later_calls
  pub later-answers : event_answers later ≡ later_answers
  pub later-touched : event_touched later ≡ later_touched
  pub later-labels : event_labels later ≡ later_labels
  pub later-lists : event_lists later ≡ later_lists
  pub later-work : all (λ w. same w (work_left 1124)) (event_work later) ≡ true
  pub later-shows : shown last ≡ later_listing
  pub last-events : List Event
  pub reopened : World
  pub last-run : Run last last-events reopened
  pub last-calls : event_calls last-events ≡ last_calls
  pub last-answers : event_answers last-events ≡ last_answers
  pub last-touched : event_touched last-events ≡ last_touched
  pub last-labels : event_labels last-events ≡ last_labels
  pub last-work : event_work last-events ≡ last_work
  pub last-shows : shown reopened ≡ last_listing
  pub clock-events : List Event
  pub at_five : World
  pub clock-run : Run reopened clock-events at_five
  pub clock-calls : event_calls clock-events ≡ clock_calls
  pub clock-answers : event_answers clock-events ≡ clock_answers
  pub clock-touched : event_touched clock-events ≡ clock_touched
  pub clock-labels : event_labels clock-events ≡ clock_labels
  pub clock-work : all (λ w. same w (work_left 1075)) (event_work clock-events) ≡ true
  pub clock-stands : at_five.state.clock ≡ 5
  pub clock-shows : shown at_five ≡ clock_listing
  pub back-events : List Event
  pub at_zero : World
  pub back-run : Run at_five back-events at_zero
  pub back-calls : event_calls back-events ≡ back_calls
  pub back-answers : event_answers back-events ≡ back_answers
  pub back-touched : event_touched back-events ≡ back_touched
  pub back-labels : event_labels back-events ≡ back_labels
  pub back-stands : at_zero.state.clock ≡ 0
  pub back-shows : shown at_zero ≡ back_listing
