-- The columns that stay, leave and enter between two minutes: what an exchange asks of them (`can-swap`). Assumes nothing.
use mathlib.Core.Path.{◌≡◌, refl, ap, subst}
use mathlib.Core.Logic.{inl, inr}
use mathlib.Core.Bool.{Bool, true, ◌&&◌}
use mathlib.Core.List.{List, ◌∷◌, ◌++◌}
use Prim.Native.Nat.{ℕ, zero, suc, ◌+◌, ◌≤◌}
use native.Mathlib.Omega.{arith}
use lib.ListN.{length}
use Rattle.lists.specs.Lists.{all}
use Rattle.lists.proofs.Tests.{cases}
use Rattle.lists.proofs.Member.{mem-either, all-at, all-make}
use Rattle.symbolic.specs.Columns.{Column, fits_rows}
use Rattle.symbolic.specs.Change.{Bag}
use Rattle.book.specs.Book.{Book, book_of, is_booked, column_for}
use Rattle.tables.specs.Stored.{Stored}
use Rattle.updown.specs.Entries.{Booked}
use Rattle.windows.specs.Windows.{counts_at, moves_from, stays_between}
use Rattle.windows.specs.Chosen.{ids_from, chosen_from, chosen_ids, chosen, CanCollect}
use Rattle.windows.proofs.Chosen.{stays-both, chosen-splits, chosen-fits, chosen-few}
use Rattle.exchange.specs.Exchange.{staying, leaving, entering, CanExchange}
use Rattle.exchange.specs.Stages.{moving_ids, CanSwap}

-- ---- the columns that a choice takes

-- they are booked under the ids that it takes
from-booked : (b : Book) (p : ℕ → Bool) (n i : ℕ) → 1 ≤ i → i + n ≤ length b.heads + 1 → Booked b (ids_from b.heads p i n) (chosen_from b p i n)
unfolding Booked ids_from chosen_from
from-booked b p zero i h k = tt
from-booked b p (suc n) i h k =
    let r : Booked b (ids_from b.heads p (suc i) n) (chosen_from b p (suc i) n) = from-booked b p n (suc i) (omega arith) (omega arith) in
    elim (cases (is_booked b.heads i && p i)) [
      | inl e ↦ rw e (refl, h, omega arith, r)
      | inr e ↦ rw e r
    ]

pub chosen-booked : (b : Book) (p : ℕ → Bool) → Booked b (chosen_ids b.heads p) (chosen b p)
chosen-booked b p = from-booked b p (length b.heads) 1 (omega arith) (omega arith)

-- the free head is not read
from-free : (b : Book) (p : ℕ → Bool) (free n i : ℕ) → chosen_from (book_of b.heads b.rows b.next free) p i n ≡ chosen_from b p i n
unfolding chosen_from
from-free b p z zero i = refl
from-free b p z (suc n) i =
    elim (cases (is_booked b.heads i && p i)) [
      | inl e ↦ rw e (ap (λ (cs : List Column). column_for b i ∷ cs) (from-free b p z n (suc i)))
      | inr e ↦ rw e (from-free b p z n (suc i))
    ]

pub chosen-free : (b : Book) (p : ℕ → Bool) (free : ℕ) → chosen (book_of b.heads b.rows b.next free) p ≡ chosen b p
chosen-free b p z = from-free b p z (length b.heads) 1

-- ---- what an exchange asks

module _ {s : Stored} {b : Book} {windows : List ℕ} {t : ℕ} {work : List ℕ} (c : CanExchange s b windows t work) where
  -- the ids that move can be collected from id 1 on
  pub can-scan : CanCollect b.heads windows 1
  can-scan = record { low = omega arith; high = omega arith; windows-long = c.windows-long; few = c.few }

  -- what a choice takes fits
  taken-fit : (p : ℕ → Bool) → all (fits_rows (length s.heads)) (chosen b p) ≡ true
  taken-fit p =
      subst (λ (cs : List Column). all (fits_rows (length s.heads)) cs ≡ true) (chosen-free b p c.book-free)
      (chosen-fits (length s.heads) (book_of b.heads b.rows b.next c.book-free) p c.book-sound)

  module _ (u : ℕ) where
    abbrev R : List Column
    R = staying b windows t u

    abbrev A : List Column
    A = leaving b windows t u

    abbrev B : List Column
    B = entering b windows t u

    all_fit : all (fits_rows (length s.heads)) (R ++ (A ++ B)) ≡ true
    all_fit =
        let f : Column → Bool = fits_rows (length s.heads) in
        let n : ℕ = length b.heads in
        all-make f (R ++ (A ++ B)) (λ x h.
        elim (mem-either R h) [
          | inl k ↦ all-at f k (taken-fit (stays_between windows n t u))
          | inr k ↦ elim (mem-either A k) [
            | inl l ↦ all-at f l (taken-fit (moves_from windows n t u))
            | inr l ↦ all-at f l (taken-fit (moves_from windows n u t))
          ]
        ])

    pub can-swap : CanSwap s b (moving_ids b.heads windows t u) (moving_ids b.heads windows u t) work (staying b windows t u) (leaving b windows t u) (entering b windows t u)
    can-swap =
        let n : ℕ = length b.heads in
        record {
          columns = chosen b (counts_at windows n t);
          sized = c.sized;
          sound = c.sound;
          same = chosen-splits b (counts_at windows n t) (counts_at windows n u);
          fits = all_fit;
          leave-booked = chosen-booked b (moves_from windows n t u);
          enter-booked = chosen-booked b (moves_from windows n u t);
          book-sized = c.book-sized;
          book-free = c.book-free;
          book-sound = c.book-sound;
          some = c.some;
          m-bound = c.m-bound;
          f-bound = c.f-bound;
          few = omega (arith, c.few, chosen-few b (stays_between windows n t u), chosen-few b (moves_from windows n t u), chosen-few b (moves_from windows n u t));
          long = c.long;
          zero = c.zero;
          flags-zero = c.flags-zero;
        }

-- ---- what an exchange leaves

-- those that stay and those that enter are those that count at the minute after
pub count-after : (b : Book) (windows : List ℕ) (t u : ℕ) → Bag (chosen b (counts_at windows (length b.heads) u)) (staying b windows t u ++ entering b windows t u)
count-after b windows t u =
    let n : ℕ = length b.heads in
    subst (λ (cs : List Column). Bag (chosen b (counts_at windows n u)) (cs ++ entering b windows t u)) (stays-both b windows n u t)
    (chosen-splits b (counts_at windows n u) (counts_at windows n t))
