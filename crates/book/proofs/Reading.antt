-- The book read through, once all its columns were walked: records of columns have rows from 1 on, so the book is sound exactly if its pool is closed
-- (closed-sound, sound-closed). Then each test of the reading: last records that are apart, as many rows 0 as records are left, and a free chain of
-- so many. Assumes nothing.
use mathlib.Core.Path.{◌≡◌, sym, ap, subst, ◌∙◌}
use mathlib.Core.Logic.{◌≢◌}
use mathlib.Core.Bool.{Bool, true, false, false≢true}
use mathlib.Core.List.{List}
use Prim.Native.Nat.{ℕ, suc, ◌-◌, ◌≤◌, ◌<◌}
use native.Mathlib.Omega.{arith}
use lib.ListN.{length, get_or}
use lib.Seq.{take_all}
use Rattle.lists.specs.Lists.{at, times, values_at, Decides}
use Rattle.lists.proofs.Tests.{both_ways, refute}
use Rattle.lists.proofs.Times.{times-nil, times-mem}
use Rattle.lists.proofs.Place.{values-mem, values-zero}
use Rattle.lists.proofs.Rising.{rises-in}
use Rattle.workspace.specs.Regions.{region}
use Rattle.pool.specs.Chains.{chain}
use Rattle.pool.specs.Whole.{chains, AllLinked}
use Rattle.pool.specs.Ends.{lasts, NoneTwice}
use Rattle.pool.specs.Free.{FreeHas, Closed}
use Rattle.pool.proofs.Chains.{chain-nil}
use Rattle.pool.proofs.Whole.{whole-pool, pool-whole}
use Rattle.pool.proofs.Apart.{chains-find}
use Rattle.pool.proofs.Closed.{Rowed, zero-value, closed-whole, whole-closed}
use Rattle.book.specs.Book.{book_of, tables_of, column_for, is_sound}
use Rattle.book.specs.Walks.{Walked}
use Rattle.book.proofs.Columns.{head_at, booked-within, some-booked}
use Rattle.book.proofs.Sound.{Fitting, fitting, Sound, sound-of, of-sound}

module _ {hs rs ns w : List ℕ} {m n : ℕ} (t : Walked hs rs ns w m n (length hs)) where
  all-linked : AllLinked ns hs
  all-linked = subst (AllLinked ns) (take_all (length hs) hs (omega arith)) t.linked

  all-counted : n ≡ length (chains ns hs)
  all-counted = t.counted ∙ ap (λ (l : List ℕ). length (chains ns l)) (take_all (length hs) hs (omega arith))

  all-lasts : region w (length ns) (length hs) ≡ lasts ns hs
  all-lasts = t.lasts_are ∙ ap (lasts ns) (take_all (length hs) hs (omega arith))

  -- a record of a column has a row of it
  rowed : Rowed rs ns hs
  rowed x p =
      let f : (j : ℕ) × (j < length hs) × (1 ≤ times x (chain ns (get_or hs j 0))) = chains-find ns hs x p in
      let some : get_or hs f.0 0 ≢ 0 = λ z. omega (arith, f.2, ap (λ (h : ℕ). times x (chain ns h)) z, ap (times x) (chain-nil (length ns) ns), times-nil x) in
      let c : Fitting m (values_at rs (chain ns (at hs (suc f.0)))) =
      fitting m (column_for (tables_of hs rs ns) (suc f.0))
      (t.fits (suc f.0) (omega arith) (omega (arith, f.1)) (some-booked hs (suc f.0) (λ z. some (sym (head_at hs f.0) ∙ z)))) in
      let d : Fitting m (values_at rs (chain ns (get_or hs f.0 0))) = subst (λ (h : ℕ). Fitting m (values_at rs (chain ns h))) (head_at hs f.0) c in
      (rises-in 1 m (values-mem rs (times-mem x (chain ns (get_or hs f.0 0)) f.2)) d.rise).0

  module _ (size : length rs ≡ length ns) (free : ℕ) where
    closed-sound : Closed rs ns hs free → is_sound m (book_of hs rs ns free) ≡ true
    closed-sound c =
        let e = closed-whole size all-linked rowed c in
        of-sound m (book_of hs rs ns free)
        (record {
          pool = whole-pool ns hs free e.0;
          zero = λ x k. zero-value rs (chain ns free) x e.1 k;
          fits = λ l p b. t.fits l p (booked-within hs l p b) b;
        })

    sound-closed : is_sound m (book_of hs rs ns free) ≡ true → Closed rs ns hs free
    sound-closed e =
        let s : Sound m (book_of hs rs ns free) = sound-of m (book_of hs rs ns free) e in
        whole-closed size all-linked rowed (pool-whole ns hs free s.pool) (values-zero rs (chain ns free) s.zero)

    -- ---- the tests in turn

    -- two columns share their last record
    pub reading-shared : {a : Bool} → Decides (NoneTwice (region w (length ns) (length hs))) a → a ≡ false → is_sound m (book_of hs rs ns free) ≡ false
    reading-shared d e =
        refute (is_sound m (book_of hs rs ns free)) (λ s.
        false≢true (sym e ∙ d.no (subst NoneTwice (sym all-lasts) (sound-closed s).apart)))

    -- more or fewer rows 0 than records are left
    pub reading-zeros : {z : ℕ} → z ≡ times 0 rs → z ≢ length ns - n → is_sound m (book_of hs rs ns free) ≡ false
    reading-zeros z e = refute (is_sound m (book_of hs rs ns free)) (λ s. e (omega (arith, (sound-closed s).size, all-counted)))

    -- the free chain decides
    pub reading-free : {a b : Bool} {z : ℕ} → Decides (NoneTwice (region w (length ns) (length hs))) a → a ≡ true → z ≡ times 0 rs → z ≡ length ns - n →
        Decides (FreeHas rs ns free (length ns - n)) b → b ≡ is_sound m (book_of hs rs ns free)
    reading-free {a} {b} {z} d e y k f =
        both_ways b (is_sound m (book_of hs rs ns free)) there (λ s. f.no (subst (FreeHas rs ns free) (sym y ∙ k) (sound-closed s).free-has))
      where
        there : b ≡ true → is_sound m (book_of hs rs ns free) ≡ true
        there s =
            closed-sound
            (record {
              apart = subst NoneTwice all-lasts (d.yes e);
              size = omega (arith, all-counted, t.within);
              free-has = subst (FreeHas rs ns free) (sym k ∙ y) (f.yes s);
            })
