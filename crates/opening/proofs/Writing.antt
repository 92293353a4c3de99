-- What an opening writes, from what each step ensures of the part that it was lent: a part's front with the places beyond is the list written over
-- (`prefix-over`); the tables of L, those of the book, and all of them with the windows. Assumes nothing.
use mathlib.Core.Path.{◌≡◌, refl, sym, ap, ◌∙◌}
use mathlib.Core.List.{List, ◌++◌}
use Prim.Native.Nat.{ℕ, ◌+◌, ◌*◌, ◌≤◌, ◌<◌}
use native.Mathlib.Omega.{arith}
use lib.ListN.{length, take, drop, replicate, length-replicate}
use lib.Seq.{length-take-le}
use Rattle.lists.specs.Lists.{over, up_from}
use Rattle.lists.proofs.Rising.{up-length}
use Rattle.workspace.specs.Regions.{cleared}
use Rattle.workspace.proofs.Regions.{first-cleared}
use Rattle.pool.specs.Opening.{opened_nexts}
use Rattle.pool.proofs.Opening.{opened-length}
use Rattle.book.specs.Book.{Book, book_of}
use Rattle.book.specs.Entries.{opened}
use Rattle.tables.specs.Tables.{Tables, Sizes, tables_of}
use Rattle.tables.proofs.Tables.{Long, long-facts}
use Rattle.columns.specs.Opened.{opened_rows, opened_counts, CanOpen, Opened}
use Rattle.columns.proofs.Opened.{rows-length, counts-length}
use Rattle.calls.specs.Refusals.{work_for}
use Rattle.calls.proofs.Refusals.{InRange}
use Rattle.admission.specs.Admission.{HasPlaces}
use Rattle.opening.specs.Written.{HoldColumns, ColumnsWritten, HoldBook, BookWritten, OpeningWritten}
use Rattle.admission.proofs.Cutting.{in-range}

-- a part of n places that was written whole, and the places beyond
prefix-over : {ys : List ℕ} (new old : List ℕ) (n : ℕ) → length new ≡ n → ys ≡ new → ys ++ drop n old ≡ over new old
prefix-over new old n e q = ap (λ (l : List ℕ). l ++ drop n old) q ∙ ap (λ (k : ℕ). new ++ drop k old) (sym e)

-- ---- the tables of L

module _ {m f : ℕ} {hs ps rs cs ns : List ℕ} (h : HoldColumns m f hs ps rs cs ns) where
  heads-cut : length (take m hs) ≡ m
  heads-cut = length-take-le m hs h.heads-long

  next-cut : length (take f ns) ≡ f
  next-cut = length-take-le f ns h.next-long

  pub columns-open : CanOpen (take m hs) (take m ps) (take f rs) (take f cs) (take f ns)
  columns-open =
      record {
        parents-long = length-take-le m ps h.parents-long ∙ sym heads-cut;
        rows_long = length-take-le f rs h.rows_long ∙ sym next-cut;
        counts-long = length-take-le f cs h.counts-long ∙ sym next-cut;
        enough = omega (arith, heads-cut, next-cut, h.enough);
        rows-narrow = omega (arith, heads-cut, h.rows-narrow);
        records-narrow = omega (arith, next-cut, h.records-narrow);
      }

  pub columns-written : {hs' ps' rs' cs' ns' : List ℕ} {free : ℕ} → Opened (length (take m hs)) (length (take f ns)) hs' ps' rs' cs' ns' free →
      ColumnsWritten m f hs ps rs cs ns (hs' ++ drop m hs) (ps' ++ drop m ps) (rs' ++ drop f rs) (cs' ++ drop f cs) (ns' ++ drop f ns) free
  columns-written o =
      let a : length (take m hs) ≡ m = heads-cut in
      let b : length (take f ns) ≡ f = next-cut in
      record {
        heads-are = prefix-over (up_from 1 m) hs m (up-length 1 m) (o.heads-are ∙ ap (λ (k : ℕ). up_from 1 k) a);
        parents-are = prefix-over (replicate m 0) ps m (length-replicate {A = ℕ} m 0) (o.parents-are ∙ ap (λ (k : ℕ). replicate k 0) a);
        rows_are = prefix-over (opened_rows m f) rs f (rows-length m f h.enough) (o.rows_are ∙ rw (a, b) refl);
        counts-are = prefix-over (opened_counts m f) cs f (counts-length m f h.enough) (o.counts-are ∙ rw (a, b) refl);
        next-is = prefix-over (opened_nexts m f) ns f (opened-length m f h.enough) (o.next-is ∙ rw (a, b) refl);
        free-is = o.free-is ∙ rw (a, b) refl;
      }

-- ---- those of the book

module _ {n c : ℕ} {hs rs ns : List ℕ} (h : HoldBook n c hs rs ns) where
  book-cut : length (take c ns) ≡ c
  book-cut = length-take-le c ns h.next-long

  pub book-opens : (length (take c rs) ≡ length (take c ns)) × (length (take c ns) < 4294967295)
  book-opens = (length-take-le c rs h.rows_long ∙ sym book-cut, omega (arith, book-cut, h.records-narrow))

  pub book-written : {hs' rs' ns' : List ℕ} {free : ℕ} → book_of hs' rs' ns' free ≡ opened (length (take n hs)) (length (take c ns)) →
      BookWritten n c hs rs ns (hs' ++ drop n hs) (rs' ++ drop c rs) (ns' ++ drop c ns) free
  book-written {hs'} {rs'} {ns'} {free} e =
      let a : length (take n hs) ≡ n = length-take-le n hs h.heads-long in
      let o : book_of hs' rs' ns' free ≡ opened n c = e ∙ rw (a, book-cut) refl in
      record {
        heads-are = prefix-over (replicate n 0) hs n (length-replicate {A = ℕ} n 0) (ap (λ (b : Book). b.heads) o);
        rows_are = prefix-over (replicate c 0) rs c (length-replicate {A = ℕ} c 0) (ap (λ (b : Book). b.rows) o);
        next-is = prefix-over (opened_nexts 0 c) ns c (opened-length 0 c (omega arith)) (ap (λ (b : Book). b.next) o);
        free-is = ap (λ (b : Book). b.free) o;
      }

-- ---- all tables

module _ {l : Sizes} {t : Tables} {w : List ℕ} (a : HasPlaces l t w) where
  range : InRange l
  range = in-range l a.sizes

  places : Long l t
  places = long-facts l t a.long

  pub hold-columns : HoldColumns l.m l.f t.heads t.parents t.rows t.counts t.next
  hold-columns =
      record {
        heads-long = places.heads;
        parents-long = places.parents;
        rows_long = places.rows;
        counts-long = places.counts;
        next-long = places.next;
        enough = range.f-low;
        rows-narrow = omega (arith, range.m-high);
        records-narrow = omega (arith, range.f-high);
      }

  pub hold-book : HoldBook l.n l.c t.book_heads t.book_rows t.book_next
  hold-book =
      record {
        heads-long = places.book_heads;
        rows_long = places.book_rows;
        next-long = places.book_next;
        records-narrow = omega (arith, range.c-high);
      }

  -- the windows have two places for each id
  pub hold-windows : 0 + 2 * l.n ≤ length t.windows
  hold-windows = omega (arith, places.windows)

  pub all-written : {hs ps rs cs ns bh br bn ws x : List ℕ} {free book_free k : ℕ} →
      ColumnsWritten l.m l.f t.heads t.parents t.rows t.counts t.next hs ps rs cs ns free →
      BookWritten l.n l.c t.book_heads t.book_rows t.book_next bh br bn book_free → ws ≡ cleared t.windows 0 (2 * l.n) →
      x ≡ cleared w 0 k → k ≡ work_for l → OpeningWritten l t w (tables_of hs ps rs cs ns bh br bn ws) x free book_free
  all-written p q v e z =
      record {
        tables = λ i. record {
          heads = p.heads-are i;
          parents = p.parents-are i;
          rows = p.rows_are i;
          counts = p.counts-are i;
          next = p.next-is i;
          book_heads = q.heads-are i;
          book_rows = q.rows_are i;
          book_next = q.next-is i;
          windows = (v ∙ sym (first-cleared (2 * l.n) t.windows places.windows)) i;
        };
        left = e ∙ ap (λ (n : ℕ). cleared w 0 n) z ∙ sym (first-cleared (work_for l) w a.room);
        free-is = p.free-is;
        book-free-is = q.free-is;
      }
