-- What an opening writes is sound: both pools are whole, free records are zero, no id is booked, and the stored columns are the factor of no columns
-- (`opened-sound`, `opened-columns`); the tables stay as long as they were (`opened-long`). What is written is read back by `opened-stored`,
-- `opened-book` and `opened-windows`. Assumes nothing.
use mathlib.Core.Path.{◌≡◌, refl, sym, ap, ◌∙◌, subst}
use mathlib.Core.Bool.{true}
use mathlib.Core.List.{List, [], ◌∷◌, ◌++◌, append-nil}
use Prim.Native.Nat.{ℕ, zero, suc, ◌+◌, ◌-◌, ◌*◌, ◌≤◌, ◌<◌}
use native.Mathlib.Omega.{arith}
use lib.ListN.{length, take, drop, replicate, length-replicate, get_or-replicate, get_or-append}
use lib.Seq.{take_at}
use borrow.Author.Tests.{eq-eqb}
use Rattle.lists.specs.Lists.{at, values_at, all_zero, over, up_from}
use Rattle.lists.proofs.Tests.{both-and}
use Rattle.lists.proofs.Rising.{up-length, up_at}
use Rattle.lists.proofs.Place.{over-length, padded-length, padded-back}
use Rattle.symbolic.specs.Columns.{Column, Register, live_of, live}
use Rattle.symbolic.specs.Factor.{factor_of, column_at}
use Rattle.symbolic.specs.Grades.{Limits, are_limits}
use Rattle.symbolic.proofs.Fresh.{fresh-parent, fresh-column}
use Rattle.symbolic.proofs.Live.{live-nil}
use Rattle.pool.specs.Chains.{chain, Linked}
use Rattle.pool.specs.Whole.{Pool}
use Rattle.pool.specs.Opening.{opened_nexts, free_head}
use Rattle.pool.proofs.Chains.{linked-nil, linked-cons, linked-chain}
use Rattle.pool.proofs.Opening.{opened-length, opened-used, opened-chain, pool-opened}
use Rattle.book.specs.Book as book
use Rattle.book.specs.Entries.{opened}
use Rattle.book.proofs.Opened as booked
use Rattle.windows.specs.Windowed.{windowed, are_sound}
use Rattle.windows.proofs.Windowed.{windowed-nil}
use Rattle.windows.proofs.Sound as minutes
use Rattle.tables.specs.Stored.{Stored, records_of, is_sound_for}
use Rattle.tables.specs.Tables.{Tables, Sizes, long_enough, stored_in, book_in, windows_in, register_of, is_sound}
use Rattle.tables.specs.Opening.{opened_state, opened_tables}
use Rattle.tables.proofs.Stored.{Holds, facts-sound}
use Rattle.tables.proofs.Tables.{Long, long-facts, facts-long}

-- ---- the tables within their sizes are what was written

-- the front of a list that was written over
pub take-over : (n : ℕ) (new old : List ℕ) → length new ≡ n → take n (over new old) ≡ new
take-over n new old e = take_at new (drop (length new) old) n e

abbrev pub opened_stored : Sizes → Stored
opened_stored l =
    record {
      heads = up_from 1 l.m;
      parents = replicate l.m 0;
      rows = up_from 1 l.m ++ replicate (l.f - l.m) 0;
      counts = replicate l.m 1 ++ replicate (l.f - l.m) 0;
      next = opened_nexts l.m l.f;
      free = free_head l.m l.f;
    }

module _ (l : Sizes) (g : Limits) (t : Tables) (h : l.m ≤ l.f) where
  pub opened-stored : stored_in (opened_state l g) (opened_tables l t) ≡ opened_stored l
  opened-stored =
      let a : take l.m (opened_tables l t).heads ≡ up_from 1 l.m = take-over l.m (up_from 1 l.m) t.heads (up-length 1 l.m) in
      let b : take l.m (opened_tables l t).parents ≡ replicate l.m 0 = take-over l.m (replicate l.m 0) t.parents (length-replicate l.m 0) in
      let c : take l.f (opened_tables l t).rows ≡ up_from 1 l.m ++ replicate (l.f - l.m) 0 =
      take-over l.f (up_from 1 l.m ++ replicate (l.f - l.m) 0) t.rows (padded-length (up_from 1 l.m) l.m l.f (up-length 1 l.m) h) in
      let d : take l.f (opened_tables l t).counts ≡ replicate l.m 1 ++ replicate (l.f - l.m) 0 =
      take-over l.f (replicate l.m 1 ++ replicate (l.f - l.m) 0) t.counts (padded-length (replicate l.m 1) l.m l.f (length-replicate l.m 1) h) in
      let e : take l.f (opened_tables l t).next ≡ opened_nexts l.m l.f =
      take-over l.f (opened_nexts l.m l.f) t.next (opened-length l.m l.f h) in
      λ i. record { heads = a i; parents = b i; rows = c i; counts = d i; next = e i; free = free_head l.m l.f }

  pub opened-book : book_in (opened_state l g) (opened_tables l t) ≡ opened l.n l.c
  opened-book =
      let a : take l.n (opened_tables l t).book_heads ≡ replicate l.n 0 = take-over l.n (replicate l.n 0) t.book_heads (length-replicate l.n 0) in
      let b : take l.c (opened_tables l t).book_rows ≡ replicate l.c 0 = take-over l.c (replicate l.c 0) t.book_rows (length-replicate l.c 0) in
      let c : take l.c (opened_tables l t).book_next ≡ opened_nexts 0 l.c =
      take-over l.c (opened_nexts 0 l.c) t.book_next (opened-length 0 l.c (omega arith)) in
      λ i. record { heads = a i; rows = b i; next = c i; free = free_head 0 l.c }

  pub opened-windows : windows_in (opened_state l g) (opened_tables l t) ≡ replicate (2 * l.n) 0
  opened-windows = take-over (2 * l.n) (replicate (2 * l.n) 0) t.windows (length-replicate (2 * l.n) 0)

-- ---- places

copies-place : (n v r : ℕ) → 1 ≤ r → r ≤ n → at (replicate n v) r ≡ v
copies-place n v r a b = get_or-replicate n (r - 1) v 0 (omega arith)

up-place : (n r : ℕ) → 1 ≤ r → r ≤ n → at (up_from 1 n) r ≡ r
up-place n r a b = up_at 1 n (r - 1) (omega arith) ∙ lift r a
  where
    lift : (r : ℕ) → 1 ≤ r → 1 + (r - 1) ≡ r
    lift r a = omega arith

-- a front, then zeros
front-place : (xs : List ℕ) (k r : ℕ) → 1 ≤ r → r ≤ length xs → at (xs ++ replicate k 0) r ≡ at xs r
front-place xs k r a b = get_or-append xs (replicate k 0) 0 (r - 1) (omega arith)

back-place : (xs : List ℕ) (k r : ℕ) → length xs < r → r ≤ length xs + k → at (xs ++ replicate k 0) r ≡ 0
back-place xs k r a b = padded-back xs k (r - 1) (omega arith) (omega arith)

zero-values : (xs : List ℕ) (i n : ℕ) → ((r : ℕ) → i ≤ r → r < i + n → at xs r ≡ 0) → all_zero (values_at xs (up_from i n)) ≡ true
unfolding all_zero values_at up_from
zero-values xs i zero h = refl
zero-values xs i (suc n) h =
    both-and (eq-eqb (at xs i) 0 (h i (omega arith) (omega arith))) (zero-values xs (suc i) n (λ r a b. h r (omega arith) (omega arith)))

-- ---- the factor of no columns

-- a used record is a chain of one
used-chain : (a k : ℕ) → a ≤ k → (i : ℕ) → 1 ≤ i → i ≤ a → chain (opened_nexts a k) i ≡ i ∷ []
used-chain a k h i p q =
    let N : List ℕ = opened_nexts a k in
    let e : at N i ≡ 0 = opened-used a k (i - 1) (omega arith) in
    linked-chain N i (i ∷ []) (linked-cons N i [] p (omega (arith, opened-length a k h)) (subst (λ (x : ℕ). Linked N x []) (sym e) (linked-nil N)))

module _ (l : Sizes) (h : l.m ≤ l.f) where
  heads-pool : Pool (opened_nexts l.m l.f) (up_from 1 l.m) (free_head l.m l.f)
  heads-pool =
      subst (λ (hs : List ℕ). Pool (opened_nexts l.m l.f) hs (free_head l.m l.f)) (append-nil (up_from 1 l.m))
      (pool-opened l.m l.f h 0)

  free-zero : (xs : List ℕ) → length xs ≡ l.m →
      all_zero (values_at (xs ++ replicate (l.f - l.m) 0) (chain (opened_nexts l.m l.f) (free_head l.m l.f))) ≡ true
  free-zero xs e =
      rw (opened-chain l.m l.f h) (zero-values (xs ++ replicate (l.f - l.m) 0) (suc l.m) (l.f - l.m) (λ r a b.
      back-place xs (l.f - l.m) r (omega arith) (omega arith)))

  fresh_holds : (j : ℕ) → 1 ≤ j → j ≤ l.m → Holds (opened_stored l) j (column_at (factor_of l.m []) j)
  unfolding values_at
  fresh_holds j p q =
      let S : Stored = opened_stored l in
      let k : records_of S j ≡ j ∷ [] = ap (λ (x : ℕ). chain (opened_nexts l.m l.f) x) (up-place l.m j p q) ∙ used-chain l.m l.f h j p q in
      let x : at S.rows j ≡ j = front-place (up_from 1 l.m) (l.f - l.m) j p (omega (arith, up-length 1 l.m)) ∙ up-place l.m j p q in
      let y : at S.counts j ≡ 1 =
      front-place (replicate l.m 1) (l.f - l.m) j p (omega (arith, length-replicate {A = ℕ} l.m 1)) ∙ copies-place l.m 1 j p q in
      record {
        rows = ap (λ (rs : List ℕ). values_at S.rows rs) k ∙ ap {B = List ℕ} (λ w. w ∷ []) x ∙ sym (fresh-column l.m j p q).0;
        counts = ap (λ (rs : List ℕ). values_at S.counts rs) k ∙ ap {B = List ℕ} (λ w. w ∷ []) y ∙ sym (fresh-column l.m j p q).1;
        parent = copies-place l.m 0 j p q ∙ sym (fresh-parent l.m j p q);
      }

  pub opened-stored-sound : is_sound_for [] (opened_stored l) ≡ true
  opened-stored-sound =
      facts-sound [] (opened_stored l) (record {
        pool = heads-pool;
        zero-rows = free-zero (up_from 1 l.m) (up-length 1 l.m);
        zero-counts = free-zero (replicate l.m 1) (length-replicate l.m 1);
        column = λ j p q.
            subst (λ (n : ℕ). Holds (opened_stored l) j (column_at (factor_of n []) j)) (sym (up-length 1 l.m)) (fresh_holds j p (omega (arith, up-length 1 l.m)));
      })

-- ---- all tables

module _ (l : Sizes) (g : Limits) (t : Tables) (h : l.m ≤ l.f) where
  pub opened-columns : (register_of (opened_state l g) (opened_tables l t)).columns ≡ []
  opened-columns =
      let w : List ℕ = windows_in (opened_state l g) (opened_tables l t) in
      let n : ℕ = length (book_in (opened_state l g) (opened_tables l t)).heads in
      ap (windowed w n) (ap (λ (b : book.Book). book.columns_in b) (opened-book l g t h) ∙ booked.opened-columns l.n l.c) ∙ windowed-nil w n

  opened-live : live (register_of (opened_state l g) (opened_tables l t)) ≡ []
  opened-live =
      let r : Register = register_of (opened_state l g) (opened_tables l t) in
      ap (live_of r) opened-columns ∙ live-nil r

  pub opened-sound : are_limits g ≡ true → is_sound (opened_state l g) (opened_tables l t) ≡ true
  opened-sound r =
      let b : book.is_sound l.m (book_in (opened_state l g) (opened_tables l t)) ≡ true =
      ap (λ (b : book.Book). book.is_sound l.m b) (opened-book l g t h) ∙ booked.opened-sound l.m l.n l.c in
      let s : is_sound_for (live (register_of (opened_state l g) (opened_tables l t))) (stored_in (opened_state l g) (opened_tables l t)) ≡ true =
      ap (λ (cs : List Column). is_sound_for cs (stored_in (opened_state l g) (opened_tables l t))) opened-live ∙
      ap (λ (x : Stored). is_sound_for [] x) (opened-stored l g t h) ∙ opened-stored-sound l h in
      let w : are_sound (book_in (opened_state l g) (opened_tables l t)).heads (windows_in (opened_state l g) (opened_tables l t)) ≡ true =
      ap (λ (b : book.Book). are_sound b.heads (windows_in (opened_state l g) (opened_tables l t))) (opened-book l g t h) ∙
      ap (are_sound (replicate l.n 0)) (opened-windows l g t h) ∙ minutes.opened-sound l.n in
      both-and r (both-and (both-and b w) s)

module _ (l : Sizes) (t : Tables) (h : l.m ≤ l.f) where
  pub opened-long : long_enough l t ≡ true → long_enough l (opened_tables l t) ≡ true
  opened-long z =
      let g : Long l t = long-facts l t z in
      facts-long l (opened_tables l t) (record {
        heads = stay l.m (up_from 1 l.m) t.heads (up-length 1 l.m) g.heads;
        parents = stay l.m (replicate l.m 0) t.parents (length-replicate l.m 0) g.parents;
        rows = stay l.f (up_from 1 l.m ++ replicate (l.f - l.m) 0) t.rows (padded-length (up_from 1 l.m) l.m l.f (up-length 1 l.m) h) g.rows;
        counts = stay l.f (replicate l.m 1 ++ replicate (l.f - l.m) 0) t.counts (padded-length (replicate l.m 1) l.m l.f (length-replicate l.m 1) h) g.counts;
        next = stay l.f (opened_nexts l.m l.f) t.next (opened-length l.m l.f h) g.next;
        book_heads = stay l.n (replicate l.n 0) t.book_heads (length-replicate l.n 0) g.book_heads;
        book_rows = stay l.c (replicate l.c 0) t.book_rows (length-replicate l.c 0) g.book_rows;
        book_next = stay l.c (opened_nexts 0 l.c) t.book_next (opened-length 0 l.c (omega arith)) g.book_next;
        windows = stay (2 * l.n) (replicate (2 * l.n) 0) t.windows (length-replicate (2 * l.n) 0) g.windows;
      })
    where
      stay : (n : ℕ) (new old : List ℕ) → length new ≡ n → n ≤ length old → n ≤ length (over new old)
      stay n new old e z = omega (arith, over-length new old (omega arith))
