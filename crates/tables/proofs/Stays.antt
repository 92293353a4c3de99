-- What stays, as tests on given tables: a column (`stays_test`), its entries' records (`keeps_test`), the places beyond a size (`beyond_test`), an id's
-- column of the book (`book_test`) and minutes (`minutes_test`); each with the law that a test that passes says so. A stored example is held to the promises by computing these.
-- Assumes nothing.
use mathlib.Core.Path.{◌≡◌, sym, ap, ◌∙◌}
use mathlib.Core.Logic.{inl, inr}
use mathlib.Core.Bool.{Bool, true, ◌&&◌, ◌||◌, not, true≢false}
use mathlib.Core.List.{List, [], ◌∷◌}
use Prim.Native.Nat.{ℕ, ◌+◌}
use lib.Dec.{eqb}
use lib.ListN.{length, get_or, drop}
use borrow.Author.Tests.{eqb-true, eq-eqb, not-true}
use Rattle.lists.specs.Lists.{Mem, first, later, all, at, values_at, same}
use Rattle.lists.proofs.Tests.{and_both, or-either}
use Rattle.lists.proofs.Member.{all-at, same-eq}
use Rattle.book.specs.Book as book
use Rattle.tables.specs.Stored.{Stored, records_of}
use Rattle.tables.specs.Stays.{ColumnStays, EntriesKeep, MinutesStay, Beyond}

-- equal values at a list of numbers are equal at each of them
pub values_same : (xs ys : List ℕ) {x : ℕ} {rs : List ℕ} → Mem x rs → values_at xs rs ≡ values_at ys rs → at xs x ≡ at ys x
unfolding values_at
values_same xs ys first e = ap (λ (l : List ℕ). get_or l 0 0) e
values_same xs ys (later {x = r} {xs = rs} m) e = values_same xs ys m (ap tail e)
  where
    tail : List ℕ → List ℕ
    tail [] = []
    tail (x ∷ xs) = xs

-- ---- a column of L

abbrev pub stays_test : (before after : Stored) (j : ℕ) → Bool
stays_test b a j =
    eqb (at a.heads j) (at b.heads j) && (eqb (at a.parents j) (at b.parents j) && (same (records_of a j) (records_of b j) &&
    (same (values_at a.rows (records_of b j)) (values_at b.rows (records_of b j)) &&
    (same (values_at a.counts (records_of b j)) (values_at b.counts (records_of b j)) &&
    same (values_at a.next (records_of b j)) (values_at b.next (records_of b j))))))

-- no two different records, one of before and one of after, hold the same row
abbrev pub keeps_test : (before after : Stored) (j : ℕ) → Bool
keeps_test b a j = all (λ (x : ℕ). all (λ (y : ℕ). not (eqb (at b.rows x) (at a.rows y)) || eqb x y) (records_of a j)) (records_of b j)

module _ (b a : Stored) (j : ℕ) where
  pub stays-passed : stays_test b a j ≡ true → ColumnStays b a j
  stays-passed z =
      let h : Bool = eqb (at a.heads j) (at b.heads j) in
      let p : Bool = eqb (at a.parents j) (at b.parents j) in
      let r : Bool = same (records_of a j) (records_of b j) in
      let i : Bool = same (values_at a.rows (records_of b j)) (values_at b.rows (records_of b j)) in
      let c : Bool = same (values_at a.counts (records_of b j)) (values_at b.counts (records_of b j)) in
      let n : Bool = same (values_at a.next (records_of b j)) (values_at b.next (records_of b j)) in
      let s : (h ≡ true) × ((p && (r && (i && (c && n)))) ≡ true) = and_both h (p && (r && (i && (c && n)))) z in
      let t : (p ≡ true) × ((r && (i && (c && n))) ≡ true) = and_both p (r && (i && (c && n))) s.1 in
      let u : (r ≡ true) × ((i && (c && n)) ≡ true) = and_both r (i && (c && n)) t.1 in
      let v : (i ≡ true) × ((c && n) ≡ true) = and_both i (c && n) u.1 in
      let w : (c ≡ true) × (n ≡ true) = and_both c n v.1 in
      record {
        head = eqb-true (at a.heads j) (at b.heads j) s.0;
        parent = eqb-true (at a.parents j) (at b.parents j) t.0;
        records = same-eq (records_of a j) (records_of b j) u.0;
        row = λ x m. values_same a.rows b.rows m (same-eq (values_at a.rows (records_of b j)) (values_at b.rows (records_of b j)) v.0);
        count = λ x m. values_same a.counts b.counts m (same-eq (values_at a.counts (records_of b j)) (values_at b.counts (records_of b j)) w.0);
        next = λ x m. values_same a.next b.next m (same-eq (values_at a.next (records_of b j)) (values_at b.next (records_of b j)) w.1);
      }

  pub keeps-passed : keeps_test b a j ≡ true → EntriesKeep b a j
  keeps-passed h x y m n e =
      elim (or-either (not (eqb (at b.rows x) (at a.rows y))) (eqb x y)
      (all-at (λ (y : ℕ). not (eqb (at b.rows x) (at a.rows y)) || eqb x y) n
      (all-at (λ (x : ℕ). all (λ (y : ℕ). not (eqb (at b.rows x) (at a.rows y)) || eqb x y) (records_of a j)) m h))) [
        | inl q ↦ absurd (true≢false (sym (eq-eqb (at b.rows x) (at a.rows y) e) ∙ not-true (eqb (at b.rows x) (at a.rows y)) q))
        | inr q ↦ eqb-true x y q
      ]

-- ---- places beyond a size

abbrev pub beyond_test : (n : ℕ) (before after : List ℕ) → Bool
beyond_test n b a = eqb (length a) (length b) && same (drop n a) (drop n b)

pub beyond-passed : (n : ℕ) (b a : List ℕ) → beyond_test n b a ≡ true → Beyond n b a
beyond-passed n b a z =
    let t : (eqb (length a) (length b) ≡ true) × (same (drop n a) (drop n b) ≡ true) = and_both (eqb (length a) (length b)) (same (drop n a) (drop n b)) z in
    record { same_length = eqb-true (length a) (length b) t.0; same-tail = same-eq (drop n a) (drop n b) t.1 }

-- ---- a column of the book

abbrev pub book_test : (before after : book.Book) (id : ℕ) → Bool
book_test b a i =
    eqb (at a.heads i) (at b.heads i) && (same (book.records_under a i) (book.records_under b i) &&
    same (values_at a.rows (book.records_under a i)) (values_at b.rows (book.records_under b i)))

pub book-passed : (b a : book.Book) (i : ℕ) → book_test b a i ≡ true → book.ColumnStays b a i
book-passed b a i z =
    let h : Bool = eqb (at a.heads i) (at b.heads i) in
    let r : Bool = same (book.records_under a i) (book.records_under b i) in
    let v : Bool = same (values_at a.rows (book.records_under a i)) (values_at b.rows (book.records_under b i)) in
    let s : (h ≡ true) × ((r && v) ≡ true) = and_both h (r && v) z in
    let t : (r ≡ true) × (v ≡ true) = and_both r v s.1 in
    record {
      head = eqb-true (at a.heads i) (at b.heads i) s.0;
      records = same-eq (book.records_under a i) (book.records_under b i) t.0;
      rows = same-eq (values_at a.rows (book.records_under a i)) (values_at b.rows (book.records_under b i)) t.1;
    }

-- ---- the minutes of an id

abbrev pub minutes_test : (n : ℕ) (before after : List ℕ) (id : ℕ) → Bool
minutes_test n b a i = eqb (at a i) (at b i) && eqb (at a (n + i)) (at b (n + i))

pub minutes-passed : (n : ℕ) (b a : List ℕ) (i : ℕ) → minutes_test n b a i ≡ true → MinutesStay n b a i
minutes-passed n b a i z =
    let t : (eqb (at a i) (at b i) ≡ true) × (eqb (at a (n + i)) (at b (n + i)) ≡ true) = and_both (eqb (at a i) (at b i)) (eqb (at a (n + i)) (at b (n + i))) z in
    record { first = eqb-true (at a i) (at b i) t.0; second = eqb-true (at a (n + i)) (at b (n + i)) t.1 }
