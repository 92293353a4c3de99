-- The differences and the list cleared row by row: rows up to t and the first i places of the list are zero, the others as they were, and the listed rows
-- to come are above t. At the end both are zero. Assumes nothing.
use mathlib.Core.Path.{◌≡◌, refl, sym, ap, subst, ◌∙◌}
use mathlib.Core.Logic.{inl, inr, ◌≢◌}
use mathlib.Core.Bool.{true, true≢false}
use mathlib.Core.List.{List, ◌++◌}
use Prim.Native.Nat.{ℕ, ◌+◌, ◌-◌, ◌*◌, ◌≤◌, ◌<◌}
use native.Mathlib.Omega.{arith}
use lib.ListN.{length, get_or, set, length-set}
use lib.Seq.{get_or-set_same, get_or-set_other}
use Rattle.lists.specs.Lists.{Mem, among, at, rises}
use Rattle.lists.proofs.Tests.{eq-or-ne, lt-or-le}
use Rattle.lists.proofs.Member.{place-mem, mem-place, among-mem, mem-among}
use Rattle.lists.proofs.Rising.{rises-in}
use Rattle.workspace.specs.Regions.{cell, region, IsZero}
use Rattle.workspace.proofs.Regions.{region-length, region-cell, region-join, zero-at}
use Rattle.differences.specs.Tally.{base, difference_at, Tally}
use Rattle.differences.proofs.Rows.{rises-apart}

pub record Clearing (m : ℕ) (w₀ : List ℕ) (n : ℕ) (w : List ℕ) (i t : ℕ) : Type 0 where
  pub t-high : t ≤ m
  pub i-high : i ≤ n
  pub done : (k : ℕ) → k < i → cell w₀ m k ≤ t
  pub to-come : (k : ℕ) → i ≤ k → k < n → t < cell w₀ m k
  pub same_length : length w ≡ length w₀
  pub cleared : (r : ℕ) → 1 ≤ r → r ≤ t → at w r ≡ 0
  pub kept : (r : ℕ) → t < r → r ≤ m → at w r ≡ at w₀ r
  pub list-cleared : (k : ℕ) → k < i → cell w m k ≡ 0
  pub list-kept : (k : ℕ) → i ≤ k → k < m → cell w m k ≡ cell w₀ m k

module _ {m : ℕ} {w₀ : List ℕ} {n : ℕ} (tally : Tally m w₀ n (difference_at w₀)) where
  long : m + n ≤ length w₀
  long = omega (arith, tally.touched.long, tally.touched.within)

  -- a listed row
  listed-mem : (k : ℕ) → k < n → Mem (cell w₀ m k) (region w₀ m n)
  listed-mem k h =
      subst (λ (x : ℕ). Mem x (region w₀ m n)) (region-cell w₀ m n k h) (place-mem (region w₀ m n) k 0 (omega (arith, region-length w₀ m n long)))

  pub listed_in : (k : ℕ) → k < n → (1 ≤ cell w₀ m k) × (cell w₀ m k ≤ m)
  listed_in k h = rises-in 1 m (listed-mem k h) tally.touched.rising

  pub listed-touched : (k : ℕ) → k < n → at w₀ (cell w₀ m k) ≢ 0
  listed-touched k h = let b : (1 ≤ cell w₀ m k) × (cell w₀ m k ≤ m) = listed_in k h in (tally.touched.listed (cell w₀ m k) b.0 b.1).0 (mem-among (listed-mem k h))

  -- rows rise along the list
  pub listed-rises : (k l : ℕ) → k < l → l < n → cell w₀ m k < cell w₀ m l
  listed-rises k l p q =
      let e : n ≡ l + (n - l) = omega arith in
      let halves : region w₀ m n ≡ region w₀ m l ++ region w₀ (m + l) (n - l) = ap (region w₀ m) e ∙ region-join w₀ m l (n - l) in
      let a : Mem (cell w₀ m k) (region w₀ m l) =
      subst (λ (x : ℕ). Mem x (region w₀ m l)) (region-cell w₀ m l k p) (place-mem (region w₀ m l) k 0 (omega (arith, region-length w₀ m l (omega (arith, long))))) in
      let d : cell w₀ (m + l) 0 ≡ cell w₀ m l = (let s : m + l + 0 ≡ m + l = omega arith in ap (λ (x : ℕ). get_or w₀ x 0) s) in
      let b : Mem (cell w₀ m l) (region w₀ (m + l) (n - l)) =
      subst (λ (x : ℕ). Mem x (region w₀ (m + l) (n - l))) (region-cell w₀ (m + l) (n - l) 0 (omega arith) ∙ d)
      (place-mem (region w₀ (m + l) (n - l)) 0 0 (omega (arith, region-length w₀ (m + l) (n - l) (omega (arith, long))))) in
      rises-apart 1 m (subst (λ (xs : List ℕ). rises 1 m xs ≡ true) halves tally.touched.rising) a b

  -- a row that is at no place of the list is not touched
  pub unlisted : (r : ℕ) → 1 ≤ r → r ≤ m → ((k : ℕ) → k < n → cell w₀ m k ≢ r) → at w₀ r ≡ 0
  unlisted r a b f =
      elim (eq-or-ne (at w₀ r) 0) [
        | inl z ↦ z
        | inr z ↦
            let p : (k : ℕ) × (k < length (region w₀ m n)) × (get_or (region w₀ m n) k 0 ≡ r) = mem-place 0 (among-mem r (region w₀ m n) ((tally.touched.listed r a b).1 z)) in
            let h : p.0 < n = omega (arith, p.1, region-length w₀ m n long) in
            absurd (f p.0 h (sym (region-cell w₀ m n p.0 h) ∙ p.2))
      ]

  pub clearing-start : Clearing m w₀ n w₀ 0 0
  clearing-start =
      record {
        t-high = omega arith;
        i-high = omega arith;
        done = λ k h. absurd (omega arith);
        to-come = λ k a b. omega (arith, listed_in k b);
        same_length = refl;
        cleared = λ r a b. absurd (omega arith);
        kept = λ r a b. refl;
        list-cleared = λ k h. absurd (omega arith);
        list-kept = λ k a b. refl;
      }

  module _ {w : List ℕ} {i t : ℕ} (g : Clearing m w₀ n w i t) where
    -- rows between t and the next listed one are not touched
    pub between : i < n → (r : ℕ) → t < r → r < cell w₀ m i → at w₀ r ≡ 0
    between h r a b =
        unlisted r (omega arith) (omega (arith, listed_in i h))
        (λ k l e. elim (lt-or-le k i) [
          | inl p ↦ omega (arith, g.done k p)
          | inr p ↦ elim (eq-or-ne i k) [ inl q ↦ omega (arith, ap (cell w₀ m) q) | inr q ↦ omega (arith, listed-rises i k (omega arith) l) ]
        ])

    -- and rows past the last one neither
    pub beyond : n ≤ i → (r : ℕ) → t < r → r ≤ m → at w₀ r ≡ 0
    beyond h r a b = unlisted r (omega arith) b (λ k l e. omega (arith, g.done k (omega arith)))

    pub row_is : i < n → cell w m i ≡ cell w₀ m i
    row_is h = g.list-kept i (omega arith) (omega (arith, tally.touched.within))

    module _ (h : i < n) where
      abbrev row : ℕ
      row = cell w m i

      pub row_low : 1 ≤ row
      row_low = omega (arith, listed_in i h, row_is h)

      pub row-high : row ≤ m
      row-high = omega (arith, listed_in i h, row_is h)

      pub row-above : t < row
      row-above = omega (arith, g.to-come i (omega arith) h, row_is h)

      pub place_is : at w row ≡ at w₀ row
      place_is = g.kept row row-above row-high

      pub place-some : at w row ≢ 0
      place-some e = listed-touched i h (ap (at w₀) (sym (row_is h)) ∙ sym place_is ∙ e)

      abbrev after : List ℕ
      after = set (set w (row - 1) 0) (m + i) 0

      after-at : (r : ℕ) → 1 ≤ r → r ≤ m → r ≢ row → at after r ≡ at w r
      after-at r a b d =
          get_or-set_other (set w (row - 1) 0) (m + i) (r - 1) 0 0 (λ e. omega arith) ∙ get_or-set_other w (row - 1) (r - 1) 0 0 (λ e. d (omega (arith, row_low)))

      after-row : at after row ≡ 0
      after-row =
          get_or-set_other (set w (row - 1) 0) (m + i) (row - 1) 0 0 (λ e. omega (arith, row_low, row-high)) ∙
          get_or-set_same w (row - 1) 0 0 (omega (arith, row_low, row-high, g.same_length, long))

      after_list : (k : ℕ) → k ≢ i → cell after m k ≡ cell w m k
      after_list k d =
          get_or-set_other (set w (row - 1) 0) (m + i) (m + k) 0 0 (λ e. d (omega arith)) ∙ get_or-set_other w (row - 1) (m + k) 0 0 (λ e. omega (arith, row_low, row-high))

      pub after-past : (k : ℕ) → 2 * m ≤ k → get_or after k 0 ≡ get_or w k 0
      after-past k a =
          get_or-set_other (set w (row - 1) 0) (m + i) k 0 0 (λ e. omega (arith, tally.touched.within)) ∙ get_or-set_other w (row - 1) k 0 0 (λ e. omega (arith, row_low, row-high))

      pub clearing-next : Clearing m w₀ n after (i + 1) row
      clearing-next =
          record {
            t-high = row-high;
            i-high = omega arith;
            done = λ k l. elim (eq-or-ne k i) [ inl q ↦ omega (arith, ap (cell w₀ m) q, row_is h) | inr q ↦ omega (arith, listed-rises k i (omega arith) h, row_is h) ];
            to-come = λ k a b. omega (arith, listed-rises i k (omega arith) b, row_is h);
            same_length = length-set (set w (row - 1) 0) (m + i) 0 ∙ length-set w (row - 1) 0 ∙ g.same_length;
            cleared = λ r a b. elim (eq-or-ne r row) [
              | inl q ↦ rw q after-row
              | inr q ↦ after-at r a (omega (arith, row-high)) q ∙ elim (lt-or-le t r) [
                | inl p ↦ g.kept r p (omega (arith, row-high)) ∙ between h r p (omega (arith, row_is h))
                | inr p ↦ g.cleared r a p
              ]
            ];
            kept = λ r a b. after-at r (omega arith) b (λ e. omega arith) ∙ g.kept r (omega (arith, row-above)) b;
            list-cleared = λ k l. elim (eq-or-ne k i) [
              | inl q ↦ rw q (get_or-set_same (set w (row - 1) 0) (m + i) 0 0 (simp length-set (omega (arith, g.same_length, long))))
              | inr q ↦ after_list k q ∙ g.list-cleared k (omega arith)
            ];
            list-kept = λ k a b. after_list k (λ e. omega arith) ∙ g.list-kept k (omega arith) b;
          }

    -- what is written past the list leaves it
    pub clearing-frame : (u : List ℕ) → length u ≡ length w → ((k : ℕ) → k < 2 * m → get_or u k 0 ≡ get_or w k 0) → Clearing m w₀ n u i t
    clearing-frame u l same =
        record {
          t-high = g.t-high;
          i-high = g.i-high;
          done = g.done;
          to-come = g.to-come;
          same_length = l ∙ g.same_length;
          cleared = λ r a b. same (r - 1) (omega (arith, g.t-high)) ∙ g.cleared r a b;
          kept = λ r a b. same (r - 1) (omega arith) ∙ g.kept r a b;
          list-cleared = λ k h. same (m + k) (omega (arith, g.i-high, tally.touched.within)) ∙ g.list-cleared k h;
          list-kept = λ k a b. same (m + k) (omega arith) ∙ g.list-kept k a b;
        }

    -- all cleared
    pub clearing-done : n ≤ i → IsZero w (2 * m) m → Tally m w 0 (λ i. base)
    unfolding among rises
    clearing-done h z =
        let none : (r : ℕ) → 1 ≤ r → r ≤ m → at w r ≡ 0 =
        (λ r a b. elim (lt-or-le t r) [ inl p ↦ g.kept r p b ∙ beyond h r p b | inr p ↦ g.cleared r a p ]) in
        record {
          touched = record {
            long = omega (arith, g.same_length, tally.touched.long);
            within = omega arith;
            rising = refl;
            listed = λ r a b. (λ q e. true≢false (sym q), λ d. absurd (d (none r a b)));
            rest = λ k l.
                let s : m + 0 + k ≡ m + k = omega arith in
                ap (λ (x : ℕ). get_or w x 0) s ∙ elim (lt-or-le k i) [
                  | inl p ↦ g.list-cleared k p
                  | inr p ↦ g.list-kept k p (omega arith) ∙ zero-at w₀ (m + n) (m - n) (m + k) tally.touched.rest (omega arith) (omega arith)
                ];
          };
          values = λ r a b. rw (none r a b) refl;
          buffer = z;
        }
