-- The book's columns after an addition and a removal, for crates above: the same columns and one more, in some order (added-bag), or
-- without the id (removed-columns); and the free records that are left (added-room), so that a batch whose rows fit in all can be
-- added column by column. Assumes nothing.
use mathlib.Core.Path.{◌≡◌, sym, ap, ◌∙◌}
use mathlib.Core.List.{List, [], ◌∷◌, ◌++◌}
use Prim.Native.Nat.{ℕ, ◌+◌}
use native.Mathlib.Omega.{arith}
use lib.ListN.{length}
use Rattle.lists.specs.Lists.{sum_of}
use Rattle.lists.proofs.Sum.{sum-append}
use Rattle.symbolic.specs.Columns.{Column, column_with}
use Rattle.symbolic.specs.Change.{without, Bag}
use Rattle.pool.specs.Chains.{chain}
use Rattle.book.specs.Book.{Book, columns_in}
use Rattle.book.specs.Entries.{CanAdd, Added, CanRemove, Removed}
use Rattle.book.proofs.Columns.{Differ, differ-without, differ-sum}
use Rattle.book.proofs.Sound.{book-full}
use Rattle.book.proofs.Staying.{stays-column, stays-booked}

-- a list and one more
sum_one : (f : Column → ℕ) (cs : List Column) (c : Column) → sum_of f (cs ++ (c ∷ [])) ≡ sum_of f cs + f c
unfolding sum_of
sum_one f cs c = omega (arith, sum-append f cs (c ∷ []))

-- ---- after an addition

module _ {b after : Book} {id : ℕ} {rows : List ℕ} (q : CanAdd b id rows) (a : Added b id rows after) where
  added-differ : Differ after b id
  added-differ =
      record {
        long = a.same-heads;
        low = q.has.low;
        high = q.has.high;
        with-id = a.booked;
        without-id = q.absent;
        same-booked = λ l p h d. stays-booked (a.others l p h d);
        same-column = λ l p h d. stays-column (a.others l p h d);
      }

  added-sum : (f : Column → ℕ) → sum_of f (columns_in after) ≡ sum_of f (columns_in b) + f (column_with id rows)
  added-sum f = differ-sum added-differ f ∙ ap (λ (c : Column). sum_of f (columns_in b) + f c) a.column

  -- the old columns and the new one
  pub added-bag : Bag (columns_in after) (columns_in b ++ (column_with id rows ∷ []))
  added-bag f = added-sum f ∙ sym (sum_one f (columns_in b) (column_with id rows))

  -- so many free records less
  pub added-room : length (chain after.next after.free) + length rows ≡ length (chain b.next b.free)
  added-room =
      omega
      (arith, added-sum (λ c. length c.rows), book-full q.has.m b q.has.sound, book-full q.has.m after (a.sound q.has.m q.has.sound q.fits), a.same-records)

-- ---- after a removal

module _ {b after : Book} {id : ℕ} (q : CanRemove b id) (r : Removed b id after) where
  removed-differ : Differ b after id
  removed-differ =
      record {
        long = sym r.same-heads;
        low = q.has.low;
        high = omega (arith, q.has.high, r.same-heads);
        with-id = q.present;
        without-id = r.absent;
        same-booked = λ l p h d. sym (stays-booked (r.others l p (omega (arith, r.same-heads)) d));
        same-column = λ l p h d. sym (stays-column (r.others l p (omega (arith, r.same-heads)) d));
      }

  pub removed-columns : columns_in after ≡ without (id ∷ []) (columns_in b)
  removed-columns = differ-without removed-differ
