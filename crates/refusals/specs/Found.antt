-- The refusals of a batch that are found before a plan is made, of a book cut to its sizes: an addition's but 16, a removal's. They read no booked window
-- and no clock, so they are stated on the booked columns with none, and hold of every register of the book (proofs/Accepted.antt). What a search for them
-- asks and promises: it reads heads and nexts alone, so a promise holds whatever the rows are.
-- Assumes nothing: these are definitions.
use Rattle.std.specs.Prelude.{◌≡◌, true, Result, Ok, Err, List, [], ◌++◌, ℕ, leb, length}
use Rattle.lists.specs.Lists.{is_in}
use Rattle.symbolic.specs.Columns.{Register}
use Rattle.book.specs.Book.{Book, book_of, columns_in, is_sound}
use Rattle.calls.specs.Refusals as calls
use Rattle.calls.specs.Refusals.{or_else, unless, columns_refusal, ids_refusal, row_sum, keep_step, batch_of}
use Rattle.early_refusals.specs.Refusal.{number_of}
use Rattle.refusals.specs.declared.Refused.{Refused}

-- a found refusal, as the definitions have it
abbrev pub found : Refused → calls.Refusal
found x = record { number = number_of x.refusal; position = x.position }

-- the same of an answer, which may refuse
abbrev pub found_in : {T : Type 0} → Result T Refused → calls.Refusal
found_in (Ok x) = calls.accepted
found_in (Err e) = found e

-- the booked columns, with no window, at minute 0
abbrev pub bare_in : (m : ℕ) → Book → Register
bare_in m b = record { m = m; clock = 0; columns = columns_in b }

-- 7 to 15 and 21 of an addition: all but the room in the factor
abbrev pub add_found : (m : ℕ) → Book → (ids counts rows firsts seconds : List ℕ) → calls.Refusal
add_found m b is ns rs ps qs =
    or_else (unless (keep_step is ns ps qs) 7 0)
    (or_else (columns_refusal (bare_in m b) (length b.heads) 1 [] is ns rs ps qs)
    (unless (leb (row_sum (columns_in b ++ batch_of is ns rs)) (length b.next)) 15 0))

-- 7 to 9 and 11 of a removal
abbrev pub remove_found : (m : ℕ) → Book → (ids : List ℕ) → calls.Refusal
remove_found m b is = or_else (unless (is_in 1 64 (length is)) 7 0) (ids_refusal (bare_in m b) (length b.heads) 1 [] is)

-- ---- what a search asks and promises

-- with some rows, the tables are a sound book
pub record HasBook (m : ℕ) (heads next : List ℕ) (free : ℕ) : Type 0 where
  pub rows : List ℕ
  pub sound : is_sound m (book_of heads rows next free) ≡ true

-- 8 to 14 and 21, then 12 for rows left over, of every book with these heads
abbrev pub ColumnsFound : (m : ℕ) → (heads ids counts list firsts seconds : List ℕ) → Result (Unit {0}) Refused → Type 0
ColumnsFound m hs is ns rs ps qs x =
    (rows next : List ℕ) (free : ℕ) → found_in x ≡ columns_refusal (bare_in m (book_of hs rows next free)) (length hs) 1 [] is ns rs ps qs

-- 7 to 15 and 21, of every sound book with these heads and nexts
abbrev pub AddFound : (m : ℕ) → (heads next : List ℕ) → (free : ℕ) → (ids counts list firsts seconds : List ℕ) → Result (Unit {0}) Refused → Type 0
AddFound m hs ns f is cs rs ps qs x =
    (rows : List ℕ) → is_sound m (book_of hs rows ns f) ≡ true → found_in x ≡ add_found m (book_of hs rows ns f) is cs rs ps qs

-- 8, 9 and 11, of every book with these heads
abbrev pub IdsFound : (heads ids : List ℕ) → Result (Unit {0}) Refused → Type 0
IdsFound hs is x =
    (m : ℕ) (rows next : List ℕ) (free : ℕ) → found_in x ≡ ids_refusal (bare_in m (book_of hs rows next free)) (length hs) 1 [] is

-- 7 to 9 and 11, of every book with these heads
abbrev pub RemoveFound : (heads ids : List ℕ) → Result (Unit {0}) Refused → Type 0
RemoveFound hs is x =
    (m : ℕ) (rows next : List ℕ) (free : ℕ) → found_in x ≡ remove_found m (book_of hs rows next free) is
