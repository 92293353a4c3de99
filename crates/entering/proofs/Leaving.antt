-- Columns that leave the book one after another: the loop's invariant is that the rest of the ids can leave, and without them the columns are those at
-- the end (`Leaving`). Assumes nothing.
use mathlib.Core.Path.{◌≡◌, refl, sym, ap, ◌∙◌, subst}
use mathlib.Core.Logic.{inl, inr}
use mathlib.Core.Bool.{false, true≢false}
use mathlib.Core.List.{List, [], ◌∷◌}
use Prim.Native.Nat.{ℕ, suc, ◌+◌, ◌≤◌, ◌<◌}
use native.Mathlib.Omega.{arith}
use lib.Dec.{eqb}
use lib.ListN.{length, get_or, drop, drop_of_length-le}
use lib.Seq.{drop-cons}
use Rattle.lists.specs.Lists.{Mem, among}
use Rattle.lists.proofs.Tests.{cases}
use Rattle.lists.proofs.Member.{place-mem, mem-among}
use Rattle.symbolic.specs.Columns.{Column}
use Rattle.symbolic.specs.Change.{without}
use Rattle.book.specs.Book.{Book, columns_in, ColumnStays}
use Rattle.book.specs.Entries.{CanRemove, Removed}
use Rattle.book.proofs.Staying.{stays-booked}
use Rattle.book.proofs.Changed.{removed-columns}
use Rattle.entering.specs.Entering.{CanLeave, Left}
use Rattle.entering.proofs.Entering.{book-joins, later-differs, later-distinct}

-- ---- columns without some ids

pub without-none : (cs : List Column) → without [] cs ≡ cs
unfolding without among
without-none [] = refl
without-none (c ∷ cs) = ap (λ (l : List Column). c ∷ l) (without-none cs)

pub without_more : (i : ℕ) (is : List ℕ) (cs : List Column) → without is (without (i ∷ []) cs) ≡ without (i ∷ is) cs
unfolding without among
without_more i is [] = refl
without_more i is (c ∷ cs) =
    elim (cases (eqb c.id i)) [
      | inl e ↦ rw e (without_more i is cs)
      | inr e ↦ rw e (elim (cases (among c.id is)) [
        | inl g ↦ rw g (without_more i is cs)
        | inr g ↦ rw g (ap (λ (l : List Column). c ∷ l) (without_more i is cs))
      ])
    ]

-- ---- one column

module _ {m : ℕ} {b : Book} {id : ℕ} {ids : List ℕ} (can : CanLeave m b (id ∷ ids)) where
  pub leave-can : CanRemove b id
  leave-can =
      record {
        has = record { m = m; sized = can.sized; sound = can.sound; low = (can.named 0 (omega arith)).0; high = (can.named 0 (omega arith)).1 };
        present = can.booked 0 (omega arith);
      }

  module _ {after : Book} (r : Removed b id after) where
    pub leave-rest : CanLeave m after ids
    leave-rest =
        record {
          sized = r.sized;
          sound = r.sound m can.sound;
          distinct = later-distinct id ids can.distinct;
          named = λ k h. let t : (1 ≤ get_or ids k 0) × (get_or ids k 0 ≤ length b.heads) = can.named (suc k) (omega arith) in (t.0, omega (arith, r.same-heads));
          booked = λ k h.
              let t : (1 ≤ get_or ids k 0) × (get_or ids k 0 ≤ length b.heads) = can.named (suc k) (omega arith) in
              stays-booked (r.others (get_or ids k 0) t.0 t.1 (later-differs id ids k can.distinct h)) ∙ can.booked (suc k) (omega arith);
        }

    pub leave-columns : without ids (columns_in after) ≡ without (id ∷ ids) (columns_in b)
    leave-columns = ap (λ (cs : List Column). without ids cs) (removed-columns leave-can r) ∙ without_more id ids (columns_in b)

-- ---- the loop

-- from place i on the ids can leave
pub record Leaving (m : ℕ) (b : Book) (ids : List ℕ) (now : Book) (i : ℕ) : Type 0 where
  pub can : CanLeave m now (drop i ids)
  pub same-heads : length now.heads ≡ length b.heads
  pub same-records : length now.next ≡ length b.next
  pub columns : without (drop i ids) (columns_in now) ≡ without ids (columns_in b)
  pub others : (l : ℕ) → 1 ≤ l → l ≤ length b.heads → among l ids ≡ false → ColumnStays b now l

module _ {m : ℕ} {b : Book} {ids : List ℕ} {now : Book} {i : ℕ} (e : Leaving m b ids now i) where
  pub leaving-end : length ids ≤ i → Left m b ids now
  leaving-end h =
      record {
        sized = e.can.sized;
        sound = e.can.sound;
        same-heads = e.same-heads;
        same-records = e.same-records;
        columns = sym (ap (λ (is : List ℕ). without is (columns_in now)) (drop_of_length-le ids {i = i} h) ∙ without-none (columns_in now)) ∙ e.columns;
        others = e.others;
      }

  module _ (h : i < length ids) where
    turn-can : CanLeave m now (get_or ids i 0 ∷ drop (suc i) ids)
    turn-can = subst (λ (is : List ℕ). CanLeave m now is) (drop-cons ids i 0 h) e.can

    pub leaving-can : CanRemove now (get_or ids i 0)
    leaving-can = leave-can turn-can

    pub leaving-turn : {after : Book} → Removed now (get_or ids i 0) after → Leaving m b ids after (i + 1)
    leaving-turn {after} r =
        let p : suc i ≡ i + 1 = omega arith in
        record {
          can = subst (λ (k : ℕ). CanLeave m after (drop k ids)) p (leave-rest turn-can r);
          same-heads = r.same-heads ∙ e.same-heads;
          same-records = r.same-records ∙ e.same-records;
          columns = subst (λ (k : ℕ). without (drop k ids) (columns_in after) ≡ without ids (columns_in b)) p
              (leave-columns turn-can r ∙ sym (ap (λ (is : List ℕ). without is (columns_in now)) (drop-cons ids i 0 h)) ∙ e.columns);
          others = λ l q s z.
              book-joins (e.others l q s z) (r.others l q (omega (arith, e.same-heads)) (λ w. true≢false (sym (mem-among (subst (λ (y : ℕ). Mem y ids) (sym w) (place-mem ids i 0 h))) ∙ z)));
        }
