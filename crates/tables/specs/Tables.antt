-- The nine lent tables, the four sizes, the limits of the grades, the two free heads and the clock; when the tables are long enough, and when they are sound. The book
-- is read through its own definitions, the stored columns through Stored.antt. A later table or size enters here.
-- Assumes nothing: these are definitions.
use Rattle.std.specs.Prelude.{Bool, ◌&&◌, List, ℕ, ◌*◌, leb, length, take}
use Rattle.symbolic.specs.Columns.{Register, live}
use Rattle.symbolic.specs.Grades.{Limits, are_limits}
use Rattle.book.specs.Book as book
use Rattle.windows.specs.Windowed.{register_in, are_sound}
use Rattle.tables.specs.Stored.{Stored, is_sound_for}

-- "What belongs to number k stands at place k − 1, so tables need m, n, F or C places"; the windows 2n, first minutes, then second minutes
pub record Tables : Type 0 where
  pub heads : List ℕ
  pub parents : List ℕ
  pub rows : List ℕ
  -- the multiplicities
  pub counts : List ℕ
  pub next : List ℕ
  pub book_heads : List ℕ
  pub book_rows : List ℕ
  pub book_next : List ℕ
  pub windows : List ℕ

-- the four sizes
pub record Sizes : Type 0 where
  pub m : ℕ
  pub n : ℕ
  pub f : ℕ
  pub c : ℕ

-- four sizes as one
abbrev pub sizes_of : (m n f c : ℕ) → Sizes
sizes_of m n f c = record { m = m; n = n; f = f; c = c }

-- nine tables as one
abbrev pub tables_of : (heads parents rows counts next book_heads book_rows book_next windows : List ℕ) → Tables
tables_of hs ps rs cs ns bh br bn ws =
    record { heads = hs; parents = ps; rows = rs; counts = cs; next = ns; book_heads = bh; book_rows = br; book_next = bn; windows = ws }

-- the record of sizes, limits and free heads, and the minute at which the clock stands
pub record State : Type 0 where
  pub sizes : Sizes
  pub limits : Limits
  pub free : ℕ
  pub book_free : ℕ
  pub clock : ℕ

-- "tables need m, n, F or C places", the windows 2n: each has at least so many
abbrev pub long_enough : Sizes → Tables → Bool
long_enough l t =
    leb l.m (length t.heads) && leb l.m (length t.parents) && leb l.f (length t.rows) && leb l.f (length t.counts) &&
    leb l.f (length t.next) && leb l.n (length t.book_heads) && leb l.c (length t.book_rows) && leb l.c (length t.book_next) &&
    leb (2 * l.n) (length t.windows)

-- the stored columns of L, within the sizes
abbrev pub stored_in : State → Tables → Stored
stored_in s t =
    record {
      heads = take s.sizes.m t.heads;
      parents = take s.sizes.m t.parents;
      rows = take s.sizes.f t.rows;
      counts = take s.sizes.f t.counts;
      next = take s.sizes.f t.next;
      free = s.free;
    }

-- the book, within the sizes
abbrev pub book_in : State → Tables → book.Book
book_in s t =
    book.book_of (take s.sizes.n t.book_heads) (take s.sizes.c t.book_rows) (take s.sizes.c t.book_next) s.book_free

-- the windows, within the sizes
abbrev pub windows_in : State → Tables → List ℕ
windows_in s t = take (2 * s.sizes.n) t.windows

-- the register that book and windows hold at the record's clock, by rising id
abbrev pub register_of : State → Tables → Register
register_of s t = register_in s.sizes.m s.clock (book_in s t) (windows_in s t)

-- what the tables hold is sound: book and windows are, and the stored columns are the definition's for the live columns; the clock may stand at any minute
abbrev pub holds_sound : State → Tables → Bool
holds_sound s t =
    book.is_sound s.sizes.m (book_in s t) && are_sound (book_in s t).heads (windows_in s t) && is_sound_for (live (register_of s t)) (stored_in s t)

-- "Tables are sound if .."; limits that break the rule, "later they, and zeros, are unsound"
abbrev pub is_sound : State → Tables → Bool
is_sound s t = are_limits s.limits && holds_sound s t
