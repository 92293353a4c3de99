-- What a sound book has, as facts (Sound) and as the test is_sound: they say the same. The rows of a fitting column. For crates above: the free chain
-- ends, every column fits, and the columns' rows and the free records fill the pool (book-full), so that `fits` says that the book's rows would
-- not exceed C (rows-room). Assumes nothing.
use mathlib.Core.Path.{◌≡◌, sym, subst}
use mathlib.Core.Bool.{Bool, true, ◌&&◌}
use mathlib.Core.List.{List}
use Prim.Native.Nat.{ℕ, ◌+◌, ◌≤◌}
use native.Mathlib.Omega.{arith}
use lib.Dec.{leb}
use lib.ListN.{length}
use borrow.Author.Tests.{leb-true, le-leb}
use Rattle.lists.specs.Lists.{is_in, all, at, times, sum_of, values_at, rises, all_zero}
use Rattle.lists.proofs.Tests.{both_ways, and_both, both-and, in-range}
use Rattle.lists.proofs.Member.{all-at, all-make}
use Rattle.lists.proofs.Place.{values-zero}
use Rattle.symbolic.specs.Columns.{Column, fits_rows}
use Rattle.pool.specs.Chains.{chain, Linked}
use Rattle.pool.specs.Whole.{is_whole, Pool}
use Rattle.pool.proofs.Whole.{whole-pool, pool-whole}
use Rattle.pool.proofs.Closed.{zero-value}
use Rattle.book.specs.Book.{Book, is_booked, column_for, columns_in, column_fits, is_sound}
use Rattle.book.proofs.Columns.{Booked, columns-mem, mem-columns, columns-length}

-- ---- a column that fits

pub record Fitting (m : ℕ) (rows : List ℕ) : Type 0 where
  pub rise : rises 1 m rows ≡ true
  pub some : 1 ≤ length rows
  pub few : length rows ≤ 256

pub fitting : (m : ℕ) (c : Column) → column_fits m c ≡ true → Fitting m c.rows
fitting m c e =
    let t : (rises 1 m c.rows ≡ true) × (is_in 1 256 (length c.rows) ≡ true) = and_both (rises 1 m c.rows) (is_in 1 256 (length c.rows)) e in
    let r : (1 ≤ length c.rows) × (length c.rows ≤ 256) = in-range 1 256 (length c.rows) t.1 in
    record { rise = t.0; some = r.0; few = r.1 }

-- ---- the test and the facts

pub record Sound (m : ℕ) (b : Book) : Type 0 where
  pub pool : Pool b.next b.heads b.free
  pub zero : (x : ℕ) → 1 ≤ times x (chain b.next b.free) → at b.rows x ≡ 0
  pub fits : (l : ℕ) → 1 ≤ l → is_booked b.heads l ≡ true → column_fits m (column_for b l) ≡ true

pub sound-of : (m : ℕ) (b : Book) → is_sound m b ≡ true → Sound m b
sound-of m b e =
    let w : Bool = is_whole b.next b.heads b.free in
    let z : Bool = all_zero (values_at b.rows (chain b.next b.free)) in
    let t : ((w && z) ≡ true) × (all (column_fits m) (columns_in b) ≡ true) = and_both (w && z) (all (column_fits m) (columns_in b)) e in
    let u : (w ≡ true) × (z ≡ true) = and_both w z t.0 in
    record {
      pool = whole-pool b.next b.heads b.free u.0;
      zero = λ x k. zero-value b.rows (chain b.next b.free) x u.1 k;
      fits = λ l p k. all-at (column_fits m) (mem-columns b l p k) t.1;
    }

pub of-sound : (m : ℕ) (b : Book) → Sound m b → is_sound m b ≡ true
of-sound m b s =
    both-and (both-and (pool-whole b.next b.heads b.free s.pool) (values-zero b.rows (chain b.next b.free) s.zero))
    (all-make (column_fits m) (columns_in b) (λ c k.
    let t : Booked b 1 (length b.heads) c = columns-mem b k in
    subst (λ (c : Column). column_fits m c ≡ true) (sym t.is) (s.fits t.id t.low t.booked)))

-- ---- what crates above cite of a sound book

pub free-linked : (m : ℕ) (b : Book) → is_sound m b ≡ true → Linked b.next b.free (chain b.next b.free)
free-linked m b e = (sound-of m b e).pool.unused

-- every column fits, and so its rows are rows
pub columns-fit : (m : ℕ) (b : Book) → is_sound m b ≡ true → all (column_fits m) (columns_in b) ≡ true
columns-fit m b e =
    let w : Bool = is_whole b.next b.heads b.free && all_zero (values_at b.rows (chain b.next b.free)) in
    (and_both w (all (column_fits m) (columns_in b)) e).1

pub columns-rows : (m : ℕ) (b : Book) → is_sound m b ≡ true → all (fits_rows m) (columns_in b) ≡ true
columns-rows m b e = all-make (fits_rows m) (columns_in b) (λ c k. (fitting m c (all-at (column_fits m) k (columns-fit m b e))).rise)

-- ---- the rows of the columns and the free records are all there are

pub book-full : (m : ℕ) (b : Book) → is_sound m b ≡ true → sum_of (λ c. length c.rows) (columns_in b) + length (chain b.next b.free) ≡ length b.next
book-full m b e = omega (arith, (sound-of m b e).pool.size, columns-length b)

-- so k more rows fit into the free records just where the book's rows would not exceed the records
pub rows-room : (m : ℕ) (b : Book) (k : ℕ) → is_sound m b ≡ true →
    leb k (length (chain b.next b.free)) ≡ leb (sum_of (λ c. length c.rows) (columns_in b) + k) (length b.next)
rows-room m b k e =
    let f : sum_of (λ c. length c.rows) (columns_in b) + length (chain b.next b.free) ≡ length b.next = book-full m b e in
    let s : ℕ = sum_of (λ c. length c.rows) (columns_in b) in
    both_ways (leb k (length (chain b.next b.free))) (leb (s + k) (length b.next))
    (λ h. le-leb (s + k) (length b.next) (omega (arith, leb-true k (length (chain b.next b.free)) h)))
    (λ h. le-leb k (length (chain b.next b.free)) (omega (arith, leb-true (s + k) (length b.next) h)))
