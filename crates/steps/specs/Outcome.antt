-- A change on sound tables that are cut to their sizes, with a work table that is zero where it writes: its answer, the report, record and tables
-- after it. Numbers 7 to 16 and 21 are still answered. Assumes nothing: these are definitions.
use Rattle.std.specs.Prelude.{◌≡◌, Bool, true, false, List, ℕ, ◌*◌, ◌≤◌, length}
use Rattle.symbolic.specs.Grades.{Limits, grade_of}
use Rattle.workspace.specs.Regions.{IsZero}
use Rattle.book.specs.Book as book
use Rattle.tables.specs.Stored.{Stored, stored_of}
use Rattle.tables.specs.Tables.{Tables, Sizes, State, is_sound}
use Rattle.calls.specs.Refusals.{Refusal, accepted, is_accepted, bounds, sizes_refusal, work_for}
use Rattle.calls.specs.Calls.{Change, changing, Lent, call_of}
use Rattle.calls.specs.Changes.{effect}
use Rattle.calls.specs.Steps.{Answer, refused_by, accepted_by, lists_after, World, booked_in, Exchanged}

-- ---- tables that are cut to their sizes: a size is a length

-- the four sizes of tables that are cut to them: their lengths
abbrev pub cut_sizes : Tables → Sizes
cut_sizes t = record { m = length t.heads; n = length t.book_heads; f = length t.next; c = length t.book_next }

-- record and tables of a factor whose tables are cut to their sizes
abbrev pub cut_world : Tables → Limits → (clock free book_free : ℕ) → World
cut_world t h o f g = record { state = record { sizes = cut_sizes t; limits = h; free = f; book_free = g; clock = o }; tables = t }

-- ---- the two halves of tables that are cut to their sizes

-- the tables of L with their free head, nothing cut off
abbrev pub stored_whole : Tables → (free : ℕ) → Stored
stored_whole t f = stored_of t.heads t.parents t.rows t.counts t.next f

-- the book's tables with its free head, nothing cut off
abbrev pub book_whole : Tables → (book_free : ℕ) → book.Book
book_whole t g = book.book_of t.book_heads t.book_rows t.book_next g

-- the number and position of a change
abbrev pub number_for : World → Change → Refusal
number_for u c = (effect (booked_in u) c).refusal u.state.sizes

-- ---- what a change asks

-- to find its refusal and plan it: sound tables of just the sizes, and a work table whose first W places are zero
pub record CanFind (u : World) (work : List ℕ) : Type 0 where
  pub in-range : sizes_refusal bounds u.state.sizes ≡ accepted
  pub heads : length u.tables.heads ≡ u.state.sizes.m
  pub parents : length u.tables.parents ≡ u.state.sizes.m
  pub rows : length u.tables.rows ≡ u.state.sizes.f
  pub counts : length u.tables.counts ≡ u.state.sizes.f
  pub next : length u.tables.next ≡ u.state.sizes.f
  pub book-heads : length u.tables.book_heads ≡ u.state.sizes.n
  pub book-rows : length u.tables.book_rows ≡ u.state.sizes.c
  pub book-next : length u.tables.book_next ≡ u.state.sizes.c
  pub windows : length u.tables.windows ≡ 2 * u.state.sizes.n
  pub sound : is_sound u.state u.tables ≡ true
  pub long : work_for u.state.sizes ≤ length work
  pub zero : IsZero work 0 (work_for u.state.sizes)

-- to write it too: the same, and lists long enough for the report
pub record CanStep (u : World) (work touched labels : List ℕ) : Type 0 where
  pub find : CanFind u work
  pub touched-long : u.state.sizes.m ≤ length touched
  pub labels-long : u.state.sizes.m ≤ length labels

-- ---- what it promises

-- the answer of an accepted change that touched so many columns, with so many entries
abbrev pub reported_by : Limits → (touched entries : ℕ) → Answer
reported_by h n e = record { number = 0; position = 0; touched = n; entries = e; grade = grade_of h e; row = 0; value = 0 }

-- a record with other free heads
abbrev pub with_heads : State → (free book_free : ℕ) → State
with_heads s f g = record { sizes = s.sizes; limits = s.limits; free = f; book_free = g; clock = s.clock }

-- a record at another minute
abbrev pub at_minute : State → (minute : ℕ) → State
at_minute s o = record { sizes = s.sizes; limits = s.limits; free = s.free; book_free = s.book_free; clock = o }

-- answer, lists (the work table as it was) and world, by the number that the register gives
abbrev pub ChangeOutcome : (is_taken : Bool) → World → Change → Lent → Answer → Lent → World → Type 0
ChangeOutcome true u c x a y v =
    (a ≡ accepted_by u.state.limits (booked_in u) (changing c)) × (y ≡ lists_after (booked_in u) (call_of (changing c) x) x.work) × Exchanged u c v
ChangeOutcome false u c x a y v = (a ≡ refused_by ((effect (booked_in u) c).refusal u.state.sizes)) × (y ≡ x) × (v ≡ u)

-- what an unchecked change promises of the lists x lent to it: accepted exactly if none of 7 to 16 and 21 applies
abbrev pub ChangeStep : World → Change → (x : Lent) → Answer → Lent → World → Type 0
ChangeStep u c x a y v = ChangeOutcome (is_accepted ((effect (booked_in u) c).refusal u.state.sizes)) u c x a y v
