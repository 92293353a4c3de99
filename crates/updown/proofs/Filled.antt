-- Where the columns of a batch start that count all their rows: a list of starts filled from the front (`Filling` of `lists`), from listed columns (`Summing`) and from
-- booked ones; and that these are the starts of such a batch (`whole-rows`, `whole-booked`). Assumes nothing.
use mathlib.Core.Path.{◌≡◌, refl, sym, ap, ◌∙◌, subst}
use mathlib.Core.Bool.{Bool, true, ◌&&◌}
use mathlib.Core.List.{List, [], ◌∷◌, ◌++◌}
use Prim.Native.Nat.{ℕ, zero, suc, ◌+◌, ◌≤◌, ◌<◌}
use native.Mathlib.Omega.{arith}
use lib.Dec.{eqb}
use lib.ListN.{length, get_or, take, drop, set, length-append}
use lib.Seq.{drop-cons, drop-drop, get_or-drop}
use borrow.Author.Tests.{ne_eqb}
use Rattle.lists.specs.Lists.{pick, at, rises, all, all_zero, sum_of, values_at, first}
use Rattle.lists.proofs.Tests.{and_both}
use Rattle.lists.proofs.Over.{Filling, filling-start, filling-next, filling-end}
use Rattle.lists.proofs.Rising.{rises-in}
use Rattle.symbolic.specs.Columns.{Column, smallest, fits_rows}
use Rattle.pool.specs.Chains.{chain}
use Rattle.pool.specs.Whole.{is_whole, Pool}
use Rattle.pool.proofs.Chains.{linked-head}
use Rattle.pool.proofs.Whole.{whole-pool, pool-linked}
use Rattle.book.specs.Book as book
use Rattle.book.specs.Entries.{HasHead}
use Rattle.tables.specs.Stored.{Stored}
use Rattle.updown.specs.Entries.{Booked, BookedFrom, listed_starts, booked_starts, CanAddBooked, CanEnter}

-- what was filled in is the front of the list
pub filled_within : (k : ℕ) (starts rest : List ℕ) → length starts ≡ k → k ≤ length (starts ++ rest)
filled_within k starts rest e = omega (arith, length-append starts rest)

-- ---- listed columns

listed-long : (ks xs : List ℕ) → length (listed_starts ks xs) ≡ length ks
unfolding listed_starts
listed-long [] xs = refl
listed-long (k ∷ ks) xs = ap suc (listed-long ks (drop k xs))

-- the place where the rows of the column at position k begin
pub record Summing (counts list : List ℕ) (k at : ℕ) : Type 0 where
  pub rest : drop k (listed_starts counts list) ≡ listed_starts (drop k counts) (drop at list)
  pub within : at + sum_of (λ n. n) (drop k counts) ≤ length list

pub summing_start : {counts list : List ℕ} → sum_of (λ n. n) counts ≤ length list → Summing counts list 0 0
summing_start h = record { rest = refl; within = omega arith }

module _ {counts list : List ℕ} {k at : ℕ} (s : Summing counts list k at) (l : k < length counts) where
  parts : drop k (listed_starts counts list) ≡ get_or (take (get_or counts k 0) (drop at list)) 0 0 ∷ listed_starts (drop (suc k) counts) (drop (get_or counts k 0) (drop at list))
  unfolding listed_starts
  parts = s.rest ∙ ap (λ (ks : List ℕ). listed_starts ks (drop at list)) (drop-cons counts k 0 l)

  left : sum_of (λ n. n) (drop k counts) ≡ get_or counts k 0 + sum_of (λ n. n) (drop (suc k) counts)
  unfolding sum_of
  left = ap (λ (ks : List ℕ). sum_of (λ n. n) ks) (drop-cons counts k 0 l)

  pub summing-end : at + get_or counts k 0 ≤ length list
  summing-end = omega (arith, s.within, left)

  summing-first : get_or (take (get_or counts k 0) (drop at list)) 0 0 ≡ get_or (listed_starts counts list) k 0
  summing-first =
      let z : k + 0 ≡ k = omega arith in
      sym (ap (λ (xs : List ℕ). get_or xs 0 0) parts) ∙ get_or-drop k (listed_starts counts list) 0 0 ∙ ap (λ (x : ℕ). get_or (listed_starts counts list) x 0) z

  pub summing-next : Summing counts list (k + 1) (at + get_or counts k 0)
  summing-next =
      let z : k + 1 ≡ suc k = omega arith in
      record {
        rest =
            sym (drop-drop 1 k (listed_starts counts list)) ∙ ap (λ (xs : List ℕ). drop 1 xs) parts ∙
            ap (λ (xs : List ℕ). listed_starts (drop (suc k) counts) xs) (drop-drop (get_or counts k 0) at list) ∙
            ap (λ (x : ℕ). listed_starts (drop x counts) (drop (at + get_or counts k 0) list)) (sym z);
        within = omega (arith, s.within, left, ap (λ (x : ℕ). sum_of (λ n. n) (drop x counts)) z);
      }

pub listed-filling : (counts list : List ℕ) {starts : List ℕ} → length starts ≡ length counts → Filling (listed_starts counts list) starts starts 0
listed-filling counts list {starts} e = filling-start (listed_starts counts list) starts (listed-long counts list ∙ sym e)

pub listed-filled : (counts list : List ℕ) {old starts : List ℕ} {k : ℕ} → Filling (listed_starts counts list) old starts k → length counts ≤ k → starts ≡ listed_starts counts list
listed-filled counts list f l = filling-end f (omega (arith, f.size, listed-long counts list))

pub listed-filling-next : (counts list : List ℕ) {old starts : List ℕ} {k at v : ℕ} → Summing counts list k at → k < length counts → Filling (listed_starts counts list) old starts k →
    v ≡ get_or (take (get_or counts k 0) (drop at list)) 0 0 → Filling (listed_starts counts list) old (set starts k v) (k + 1)
listed-filling-next counts list s l f e = filling-next f (omega (arith, f.size, listed-long counts list)) (sym (e ∙ summing-first s l))

-- ---- booked columns

booked-long : (b : book.Book) (ids : List ℕ) → length (booked_starts b ids) ≡ length ids
unfolding booked_starts
booked-long b [] = refl
booked-long b (i ∷ is) = ap suc (booked-long b is)

booked-value : (b : book.Book) (ids : List ℕ) (k : ℕ) → k < length ids → get_or (booked_starts b ids) k 0 ≡ smallest (book.column_for b (get_or ids k 0))
unfolding booked_starts
booked-value b [] k l = absurd (omega arith)
booked-value b (i ∷ is) zero l = refl
booked-value b (i ∷ is) (suc k) l = booked-value b is k (omega arith)

pub booked-filling : (b : book.Book) (ids : List ℕ) {starts : List ℕ} → length starts ≡ length ids → Filling (booked_starts b ids) starts starts 0
booked-filling b ids {starts} e = filling-start (booked_starts b ids) starts (booked-long b ids ∙ sym e)

pub booked-filling-next : (b : book.Book) (ids : List ℕ) {old starts : List ℕ} {k v : ℕ} → Filling (booked_starts b ids) old starts k → k < length ids → v ≡ smallest (book.column_for b (get_or ids k 0)) →
    Filling (booked_starts b ids) old (set starts k v) (k + 1)
booked-filling-next b ids {k = k} f l e = filling-next f (omega (arith, f.size, booked-long b ids)) (booked-value b ids k l ∙ sym e)

pub booked-filled : (b : book.Book) (ids : List ℕ) {old starts : List ℕ} {k : ℕ} → Filling (booked_starts b ids) old starts k → length ids ≤ k → starts ≡ booked_starts b ids
booked-filled b ids f l = filling-end f (omega (arith, f.size, booked-long b ids))

-- ---- the starts of columns that count all their rows

-- rows that rise from 1 on: none of them where the first is 0
pub whole-rows : (m : ℕ) (xs : List ℕ) → rises 1 m xs ≡ true → xs ≡ pick (eqb (get_or xs 0 0) 0) [] xs
whole-rows m [] r = refl
whole-rows m (x ∷ xs) r = rw (ne_eqb x 0 (omega (arith, (rises-in {x = x} 1 m (first {xs = xs}) r).0))) refl

pub whole-booked : (m : ℕ) (b : book.Book) (ids : List ℕ) (W : List Column) → all (fits_rows m) W ≡ true → Booked b ids W → BookedFrom b (booked_starts b ids) ids W
unfolding Booked BookedFrom booked_starts all
whole-booked m b [] [] f h = tt
whole-booked m b [] (w ∷ ws) f h = h
whole-booked m b (i ∷ is) [] f h = h
whole-booked m b (i ∷ is) (w ∷ ws) f h =
    let g : (fits_rows m w ≡ true) × (all (fits_rows m) ws ≡ true) = and_both (fits_rows m w) (all (fits_rows m) ws) f in (
      h.0 ∙ whole-rows m (book.column_for b i).rows (sym (ap (rises 1 m) h.0) ∙ g.0),
      ap (λ (xs : List ℕ). get_or xs 0 0) h.0,
      h.1,
      h.2,
      whole-booked m b is ws g.1 h.3,
    )

booked-named : (b : book.Book) (is : List ℕ) (ws : List Column) (k : ℕ) → Booked b is ws → k < length is → (1 ≤ get_or is k 0) × (get_or is k 0 ≤ length b.heads)
unfolding Booked
booked-named b [] ws k h l = absurd (omega arith)
booked-named b (i ∷ is) [] k h l = absurd h
booked-named b (i ∷ is) (w ∷ ws) zero h l = (h.1, h.2)
booked-named b (i ∷ is) (w ∷ ws) (suc k) h l = booked-named b is ws k h.3 (omega arith)

-- what filling asks of a sound book
pub whole-heads : (m : ℕ) (b : book.Book) (free : ℕ) (ids : List ℕ) (W : List Column) → Booked b ids W → book.Sized b →
    book.is_sound m (book.book_of b.heads b.rows b.next free) ≡ true → (k : ℕ) → k < length ids → HasHead b.heads b.rows (get_or ids k 0)
whole-heads m b free ids W h z s k l =
    let e = booked-named b ids W k h l in
    record { low = e.0; high = e.1; within = omega (arith, linked-head b.next (at b.heads (get_or ids k 0)) (chain b.next (at b.heads (get_or ids k 0))) (pool-linked pool (get_or ids k 0) e.0 e.1), z) }
  where
    pool : Pool b.next b.heads free
    pool =
        let zs : Bool = all_zero (values_at b.rows (chain b.next free)) in
        let fs : Bool = all (book.column_fits m) (book.columns_in (book.book_of b.heads b.rows b.next free)) in
        whole-pool b.next b.heads free (and_both (is_whole b.next b.heads free) zs (and_both (is_whole b.next b.heads free && zs) fs s).0).0

pub whole-enter : {s : Stored} {b : book.Book} {ids work starts : List ℕ} {R W : List Column} → starts ≡ booked_starts b ids → CanAddBooked s b ids work R W → CanEnter s b starts ids work R W
whole-enter {s} {b} {ids} {W = W} e c =
    record {
      can = c.can;
      booked = subst (λ (xs : List ℕ). BookedFrom b xs ids W) (sym e) (whole-booked (length s.heads) b ids W c.can.batch-fits c.booked);
      book-sized = c.book-sized;
      book-free = c.book-free;
      book-sound = c.book-sound;
    }
