-- Columns that enter the book one after another: what one asks (`enter-can`), what it leaves for the rest (`enter-rest`), and the loop's invariant
-- (`Entering`: the rest of the batch can enter, and with it the columns are those at the end). Assumes nothing.
use mathlib.Core.Path.{◌≡◌, refl, sym, ap, ◌∙◌, subst}
use mathlib.Core.Logic.{◌≢◌}
use mathlib.Core.Bool.{true, false, not, true≢false}
use mathlib.Core.List.{List, [], ◌∷◌, ◌++◌, append-nil}
use Prim.Native.Nat.{ℕ, suc, ◌+◌, ◌-◌, ◌≤◌, ◌<◌}
use native.Mathlib.Omega.{arith}
use lib.ListN.{length, get_or, take, drop, length-drop, drop_of_length-le}
use lib.Seq.{drop-cons, drop-drop, length-take-le}
use borrow.Author.Tests.{not-true}
use Rattle.lists.specs.Lists.{Mem, all, among, no_repeats, sum_of}
use Rattle.lists.proofs.Tests.{and_both}
use Rattle.lists.proofs.Member.{place-mem, mem-among}
use Rattle.lists.proofs.Sum.{sum-append}
use Rattle.symbolic.specs.Columns.{Column, column_with}
use Rattle.symbolic.specs.Change.{Bag}
use Rattle.book.specs.Book.{Book, columns_in, column_fits, ColumnStays}
use Rattle.book.specs.Entries.{CanAdd, Added}
use Rattle.book.proofs.Staying.{stays-booked}
use Rattle.book.proofs.Changed.{added-bag, added-room}
use Rattle.calls.specs.Refusals.{batch_of}
use Rattle.entering.specs.Entering.{total, CanEnter, Entered}

-- ---- columns that stay, and ids that are not among others

pub book-joins : {a b c : Book} {l : ℕ} → ColumnStays a b l → ColumnStays b c l → ColumnStays a c l
book-joins s t = record { head = t.head ∙ s.head; records = t.records ∙ s.records; rows = t.rows ∙ s.rows }

-- an id past the first is another one
pub later-differs : (x : ℕ) (xs : List ℕ) (k : ℕ) → no_repeats (x ∷ xs) ≡ true → k < length xs → get_or xs k 0 ≢ x
unfolding no_repeats
later-differs x xs k d h e =
    let n : among x xs ≡ false = not-true (among x xs) (and_both (not (among x xs)) (no_repeats xs) d).0 in
    true≢false (sym (mem-among (subst (λ (y : ℕ). Mem y xs) e (place-mem xs k 0 h))) ∙ n)

pub later-distinct : (x : ℕ) (xs : List ℕ) → no_repeats (x ∷ xs) ≡ true → no_repeats xs ≡ true
unfolding no_repeats
later-distinct x xs d = (and_both (not (among x xs)) (no_repeats xs) d).1

-- ---- one column

module _ {m : ℕ} {b : Book} {id : ℕ} {ids : List ℕ} {n : ℕ} {counts list : List ℕ} (can : CanEnter m b (id ∷ ids) (n ∷ counts) list) where
  enter-fits : (column_fits m (column_with id (take n list)) ≡ true) × (all (column_fits m) (batch_of ids counts (drop n list)) ≡ true)
  unfolding batch_of all
  enter-fits = and_both (column_fits m (column_with id (take n list))) (all (column_fits m) (batch_of ids counts (drop n list))) can.fits

  enter-total : total (n ∷ counts) ≡ n + total counts
  unfolding sum_of
  enter-total = refl

  pub enter-within : n ≤ length list
  enter-within = omega (arith, enter-total, can.long)

  enter-length : length (take n list) ≡ n
  enter-length = length-take-le n list enter-within

  pub enter-can : CanAdd b id (take n list)
  enter-can =
      record {
        has = record { m = m; sized = can.sized; sound = can.sound; low = (can.named 0 (omega arith)).0; high = (can.named 0 (omega arith)).1 };
        absent = can.absent 0 (omega arith);
        fits = enter-fits.0;
        narrow = can.narrow;
        room = omega (arith, enter-length, enter-total, can.room);
      }

  module _ {after : Book} (a : Added b id (take n list) after) where
    pub enter-rest : CanEnter m after ids counts (drop n list)
    enter-rest =
        record {
          sized = a.sized;
          sound = a.sound m can.sound enter-fits.0;
          narrow = can.narrow;
          counted = omega (arith, can.counted);
          distinct = later-distinct id ids can.distinct;
          named = λ k h. let t : (1 ≤ get_or ids k 0) × (get_or ids k 0 ≤ length b.heads) = can.named (suc k) (omega arith) in (t.0, omega (arith, a.same-heads));
          absent = λ k h.
              let t : (1 ≤ get_or ids k 0) × (get_or ids k 0 ≤ length b.heads) = can.named (suc k) (omega arith) in
              stays-booked (a.others (get_or ids k 0) t.0 t.1 (later-differs id ids k can.distinct h)) ∙ can.absent (suc k) (omega arith);
          fits = enter-fits.1;
          long = omega (arith, enter-total, can.long, length-drop n list);
          room = omega (arith, enter-total, can.room, added-room enter-can a, enter-length);
        }

    pub enter-bag : Bag (columns_in after ++ batch_of ids counts (drop n list)) (columns_in b ++ batch_of (id ∷ ids) (n ∷ counts) list)
    unfolding batch_of sum_of
    enter-bag f =
        let c : Column = column_with id (take n list) in
        let rest : List Column = batch_of ids counts (drop n list) in
        omega
        (arith, added-bag enter-can a f, sum-append f (columns_in after) rest, sum-append f (columns_in b) (c ∷ rest), sum-append f (columns_in b) (c ∷ []))

-- ---- the loop

-- from place i of the ids and place a of the rows on the batch can enter
pub record Entering (m : ℕ) (b : Book) (ids counts list : List ℕ) (now : Book) (i a : ℕ) : Type 0 where
  pub within : a ≤ length list
  pub can : CanEnter m now (drop i ids) (drop i counts) (drop a list)
  pub same-heads : length now.heads ≡ length b.heads
  pub same-records : length now.next ≡ length b.next
  pub bag : Bag (columns_in now ++ batch_of (drop i ids) (drop i counts) (drop a list)) (columns_in b ++ batch_of ids counts list)
  pub others : (l : ℕ) → 1 ≤ l → l ≤ length b.heads → among l ids ≡ false → ColumnStays b now l

module _ {m : ℕ} {b : Book} {ids counts list : List ℕ} {now : Book} {i a : ℕ} (e : Entering m b ids counts list now i a) where
  pub entering-end : length ids ≤ i → Entered m b ids counts list now
  unfolding batch_of
  entering-end h =
      let none : batch_of (drop i ids) (drop i counts) (drop a list) ≡ [] =
      ap (λ (is : List ℕ). batch_of is (drop i counts) (drop a list)) (drop_of_length-le ids {i = i} h) in
      record {
        sized = e.can.sized;
        sound = e.can.sound;
        same-heads = e.same-heads;
        same-records = e.same-records;
        columns = λ f. ap (λ (cs : List Column). sum_of f cs) (sym (ap (λ (cs : List Column). columns_in now ++ cs) none ∙ append-nil (columns_in now))) ∙ e.bag f;
        others = e.others;
      }

  module _ (h : i < length ids) where
    entering-paired : i < length counts
    entering-paired = omega (arith, e.can.counted, length-drop i ids, length-drop i counts)

    turn-can : CanEnter m now (get_or ids i 0 ∷ drop (suc i) ids) (get_or counts i 0 ∷ drop (suc i) counts) (drop a list)
    turn-can =
        subst (λ (ns : List ℕ). CanEnter m now (get_or ids i 0 ∷ drop (suc i) ids) ns (drop a list)) (drop-cons counts i 0 entering-paired)
        (subst (λ (is : List ℕ). CanEnter m now is (drop i counts) (drop a list)) (drop-cons ids i 0 h) e.can)

    pub entering-fits : a + get_or counts i 0 ≤ length list
    entering-fits = omega (arith, enter-within turn-can, length-drop a list, e.within)

    same-part : take (a + get_or counts i 0 - a) (drop a list) ≡ take (get_or counts i 0) (drop a list)
    same-part = let q : a + get_or counts i 0 - a ≡ get_or counts i 0 = omega arith in ap (λ (n : ℕ). take n (drop a list)) q

    pub entering-can : CanAdd now (get_or ids i 0) (take (a + get_or counts i 0 - a) (drop a list))
    entering-can = subst (λ (rs : List ℕ). CanAdd now (get_or ids i 0) rs) (sym same-part) (enter-can turn-can)

    pub entering-turn : {after : Book} → Added now (get_or ids i 0) (take (a + get_or counts i 0 - a) (drop a list)) after →
        Entering m b ids counts list after (i + 1) (a + get_or counts i 0)
    entering-turn {after} d =
        let n : ℕ = get_or counts i 0 in
        let g : Added now (get_or ids i 0) (take n (drop a list)) after = subst (λ (rs : List ℕ). Added now (get_or ids i 0) rs after) same-part d in
        let p : suc i ≡ i + 1 = omega arith in
        let x : drop n (drop a list) ≡ drop (a + n) list = drop-drop n a list in
        record {
          within = entering-fits;
          can = subst (λ (k : ℕ). CanEnter m after (drop k ids) (drop k counts) (drop (a + n) list)) p
              (subst (λ (rs : List ℕ). CanEnter m after (drop (suc i) ids) (drop (suc i) counts) rs) x (enter-rest turn-can g));
          same-heads = g.same-heads ∙ e.same-heads;
          same-records = g.same-records ∙ e.same-records;
          bag = subst (λ (k : ℕ). Bag (columns_in after ++ batch_of (drop k ids) (drop k counts) (drop (a + n) list)) (columns_in b ++ batch_of ids counts list)) p
              (subst (λ (rs : List ℕ). Bag (columns_in after ++ batch_of (drop (suc i) ids) (drop (suc i) counts) rs) (columns_in b ++ batch_of ids counts list)) x
              (λ f. enter-bag turn-can g f ∙ sym (ap (λ (is : List ℕ). sum_of f (columns_in now ++ batch_of is (get_or counts i 0 ∷ drop (suc i) counts) (drop a list))) (drop-cons ids i 0 h)) ∙
              sym (ap (λ (ns : List ℕ). sum_of f (columns_in now ++ batch_of (drop i ids) ns (drop a list))) (drop-cons counts i 0 entering-paired)) ∙ e.bag f));
          others = λ l q r z.
              book-joins (e.others l q r z) (g.others l q (omega (arith, e.same-heads)) (λ w. true≢false (sym (mem-among (subst (λ (y : ℕ). Mem y ids) (sym w) (place-mem ids i 0 h))) ∙ z)));
        }
