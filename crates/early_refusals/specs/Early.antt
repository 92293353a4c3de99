-- The four sizes and the nine tables as the definitions of numbers 1 to 5 read them; the records that an opening with F = 0 gets; the limits of the grades;
-- when the tables of L and those of the book, with its windows, are long enough, each group by itself. The numbers are in calls, Refusals.
-- Assumes nothing: these are definitions.
use Rattle.std.specs.Prelude.{Bool, ◌&&◌, List, ℕ, ◌*◌, leb, eqb, length}
use Rattle.lists.specs.Lists.{pick}
use Rattle.symbolic.specs.Grades as symbolic
use Rattle.calls.specs.Calls.{default_records}
use Rattle.calls.specs.Refusals.{Bounds}
use Rattle.early_refusals.specs.declared.limits.Limits.{Limits}

-- the four largest sizes as one record
abbrev pub largest : (m n f c : ℕ) → Bounds
largest m n f c = record { m = m; n = n; f = f; c = c }

-- the records that an opening gets for those it asks, for an m whose default fits 32 bits; number 1 refuses any other, whatever F is
abbrev pub records_for : (m f : ℕ) → ℕ
records_for m f = pick (leb (default_records m) 4294967295 && eqb f 0) (default_records m) f

-- limits, as the definitions have them
abbrev pub limits_in : Limits → symbolic.Limits
limits_in x = record { grade2 = x.grade2; grade3 = x.grade3; grade4 = x.grade4 }

-- ---- long enough: the tables of L, those of the book

-- the tables of L have places for m heads and parents, and for F rows, multiplicities and nexts
abbrev pub factor_long : (m f : ℕ) → (heads parents rows counts next : List ℕ) → Bool
factor_long m f hs ps rs cs ns =
    leb m (length hs) && leb m (length ps) && leb f (length rs) && leb f (length cs) && leb f (length ns)

-- the tables of the book have places for n heads, and for C rows and nexts, that of the windows for 2n minutes
abbrev pub book_long : (n c : ℕ) → (heads rows next windows : List ℕ) → Bool
book_long n c hs rs ns ws = leb n (length hs) && leb c (length rs) && leb c (length ns) && leb (2 * n) (length ws)
