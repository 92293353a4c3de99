-- Columns of A and the plain register, as document 01's "What the factor means" has them. Assumes nothing: these are definitions.
use Rattle.std.specs.Prelude.{Bool, ◌&&◌, ◌||◌, not, List, [], ◌∷◌, ℕ, ◌+◌, ltb, leb, eqb, length, get_or, drop}
use Rattle.lists.specs.Lists.{pick, one, among, rises}

-- "A column of A is a set of rows under an id": its rows rise; "A column may carry a window of two minutes on a 32-bit clock", 0 and 0 for none
pub record Column : Type 0 where
  pub id : ℕ
  pub rows : List ℕ
  pub first : ℕ
  pub second : ℕ

-- a column with no window
abbrev pub column_with : (id : ℕ) → (rows : List ℕ) → Column
column_with i rs = record { id = i; rows = rs; first = 0; second = 0 }

-- a column with a window
abbrev pub within : (first second : ℕ) → Column → Column
within a b c = record { id = c.id; rows = c.rows; first = a; second = b }

-- the smallest row of a column; 0 for a column with no row, which starts nowhere
abbrev pub smallest : Column → ℕ
smallest c = get_or c.rows 0 0

-- a column holds a row
abbrev pub holds : Column → (row : ℕ) → Bool
holds c i = among i c.rows

-- a column has a row
abbrev pub has_rows : Column → Bool
has_rows c = ltb 0 (length c.rows)

-- the columns that have a row, in their order
unfoldable pub with_rows : List Column → List Column
with_rows [] = []
with_rows (c ∷ cs) = pick (has_rows c) (c ∷ with_rows cs) (with_rows cs)

-- "Rows are 1 to m"
abbrev pub fits_rows : (m : ℕ) → Column → Bool
fits_rows m c = rises 1 m c.rows

-- "the number of live columns with smallest row j that hold i"
unfoldable pub starting_with : (j row : ℕ) → List Column → ℕ
starting_with j i [] = 0
starting_with j i (c ∷ cs) = one (eqb (smallest c) j && holds c i) + starting_with j i cs

-- ---- windows

-- "it counts from the first minute up to, not including, the second. Minutes 0 and 0 mean none: it always counts"
abbrev pub is_inside : (first second minute : ℕ) → Bool
is_inside a b t = (eqb a 0 && eqb b 0) || (leb a t && ltb t b)

-- a window that can be: none, or "A window other than 0 and 0 whose second minute is" later than its first
abbrev pub is_window : (first second : ℕ) → Bool
is_window a b = (eqb a 0 && eqb b 0) || ltb a b

-- a column is inside its window at a minute
abbrev pub in_window : (minute : ℕ) → Column → Bool
in_window t c = is_inside c.first c.second t

-- it is inside at one minute and not at another: it leaves as the clock goes from the one to the other, and enters as it goes back
abbrev pub only_at : (minute other : ℕ) → Column → Bool
only_at t u c = in_window t c && not (in_window u c)

-- it is inside at both
abbrev pub at_both : (minute other : ℕ) → Column → Bool
at_both t u c = in_window t c && in_window u c

-- a column as it counts: with its rows, or with none. Whether it does is decided, so it has no window any more
abbrev pub counted : Bool → Column → Column
counted z c = column_with c.id (pick z c.rows [])

-- the columns, each at its place: those that a choice takes with their rows, the others with none
unfoldable pub counted_by : (choice : Column → Bool) → List Column → List Column
counted_by p [] = []
counted_by p (c ∷ cs) = counted (p c) c ∷ counted_by p cs

-- columns with the minutes that two lists have for them, by position; 0 where a list has ended
unfoldable pub with_minutes : (firsts seconds : List ℕ) → List Column → List Column
with_minutes ps qs [] = []
with_minutes ps qs (c ∷ cs) = within (get_or ps 0 0) (get_or qs 0 0) c ∷ with_minutes (drop 1 ps) (drop 1 qs) cs

-- ---- the plain register

-- the plain register: m, the minute at which the clock stands, and the booked columns
pub record Register : Type 0 where
  pub m : ℕ
  pub clock : ℕ
  pub columns : List Column

-- "live means booked and inside its window at the factor's clock": some booked columns as they count, each at its place. What a later rule shortens is
-- shortened here. Proofs do not unfold it, they use it by the laws of proofs/Live.antt
unfoldable pub live_of : Register → List Column → List Column
live_of r cs = counted_by (in_window r.clock) cs

-- the "live" columns of document 01, which the definitions of the factor take, and check 6 too
abbrev pub live : Register → List Column
live r = live_of r r.columns
