-- The booked columns that count, each at its place (`counted_by`), beside the columns of the ids that a choice takes (`chosen`): but for columns with no row they are
-- the same lists. Assumes nothing.
use mathlib.Core.Path.{◌≡◌, refl, ap}
use mathlib.Core.Logic.{inl, inr}
use mathlib.Core.Bool.{Bool, true, false, ◌&&◌}
use mathlib.Core.List.{List, ◌∷◌}
use Prim.Native.Nat.{ℕ, zero, suc, ◌+◌, ◌≤◌}
use native.Mathlib.Omega.{arith}
use lib.ListN.{length}
use borrow.Author.Tests.{lt-ltb}
use Rattle.lists.specs.Lists.{at}
use Rattle.lists.proofs.Tests.{cases}
use Rattle.symbolic.specs.Columns.{Column, within, has_rows, with_rows, in_window, only_at, at_both, counted_by}
use Rattle.book.specs.Book.{Book, is_booked, column_for, columns_from, is_sound}
use Rattle.book.proofs.Columns.{columns-nil, columns-booked, columns-absent}
use Rattle.book.proofs.Sound.{sound-of, fitting}
use Rattle.windows.specs.Windows.{counts_at, moves_from, stays_between}
use Rattle.windows.specs.Chosen.{chosen_from, chosen}
use Rattle.windows.specs.Windowed.{windowed, lines_in}
use Rattle.windows.proofs.Chosen.{chosen-nil, chosen-in, chosen-out}

module _ (b : Book) (w : List ℕ) (P : Column → Bool) (p : ℕ → Bool)
    (some : (i : ℕ) → 1 ≤ i → i ≤ length b.heads → is_booked b.heads i ≡ true → has_rows (column_for b i) ≡ true)
    (same : (i : ℕ) → 1 ≤ i → i ≤ length b.heads → P (within (at w i) (at w (length b.heads + i)) (column_for b i)) ≡ p i) where
  from-counted : (k i : ℕ) → 1 ≤ i → i + k ≤ suc (length b.heads) → with_rows (counted_by P (windowed w (length b.heads) (columns_from b i k))) ≡ chosen_from b p i k
  unfolding windowed counted_by with_rows
  from-counted zero i s t = rw (columns-nil b i, chosen-nil b p i) refl
  from-counted (suc k) i s t =
      let r : with_rows (counted_by P (windowed w (length b.heads) (columns_from b (suc i) k))) ≡ chosen_from b p (suc i) k =
      from-counted k (suc i) (omega arith) (omega arith) in
      elim (cases (is_booked b.heads i)) [
        | inl e ↦ elim (cases (p i)) [
          | inl d ↦
              let g : (is_booked b.heads i && p i) ≡ true = rw (e, d) refl in
              rw (columns-booked b i k e, chosen-in b p i k g, same i s (omega arith), d, some i s (omega arith) e) (ap (λ (cs : List Column). column_for b i ∷ cs) r)
          | inr d ↦
              let g : (is_booked b.heads i && p i) ≡ false = rw (e, d) refl in
              rw (columns-booked b i k e, chosen-out b p i k g, same i s (omega arith), d) r
        ]
        | inr e ↦
            let g : (is_booked b.heads i && p i) ≡ false = rw e refl in
            rw (columns-absent b i k e, chosen-out b p i k g) r
      ]

  -- every booked column has a row, and a choice of columns is one of ids
  pub counted-chosen : with_rows (counted_by P (lines_in b w)) ≡ chosen b p
  counted-chosen = from-counted (length b.heads) 1 (omega arith) (omega arith)

-- ---- of a sound book, whose columns have rows

module _ (m : ℕ) (b : Book) (w : List ℕ) (sound : is_sound m b ≡ true) where
  pub booked-rows : (i : ℕ) → 1 ≤ i → i ≤ length b.heads → is_booked b.heads i ≡ true → has_rows (column_for b i) ≡ true
  booked-rows i s t e = lt-ltb 0 (length (column_for b i).rows) (omega (arith, (fitting m (column_for b i) ((sound-of m b sound).fits i s e)).some))

  -- those that count at a minute
  pub counted-at : (t : ℕ) → with_rows (counted_by (in_window t) (lines_in b w)) ≡ chosen b (counts_at w (length b.heads) t)
  counted-at t = counted-chosen b w (in_window t) (counts_at w (length b.heads) t) booked-rows (λ i x y. refl)

  -- those that count at one minute and not at another
  pub counted-moving : (t u : ℕ) → with_rows (counted_by (only_at t u) (lines_in b w)) ≡ chosen b (moves_from w (length b.heads) t u)
  counted-moving t u = counted-chosen b w (only_at t u) (moves_from w (length b.heads) t u) booked-rows (λ i x y. refl)

  -- those that count at both
  pub counted-staying : (t u : ℕ) → with_rows (counted_by (at_both t u) (lines_in b w)) ≡ chosen b (stays_between w (length b.heads) t u)
  counted-staying t u = counted-chosen b w (at_both t u) (stays_between w (length b.heads) t u) booked-rows (λ i x y. refl)
