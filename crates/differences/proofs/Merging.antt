-- Merging the buffer's rows into the list from the back. First over plain lists: two rising fronts below or at a bound and the merged back above it
-- (Split), and the larger of the last two goes to the back. Then the work table: the list's first i places and the buffer's first k are as they were, the
-- back stands from place i + k of the list on. Assumes nothing.
use mathlib.Core.Path.{◌≡◌, refl, sym, ap, subst, ◌∙◌}
use mathlib.Core.Logic.{inl, inr}
use mathlib.Core.Bool.{true, false, ◌&&◌}
use mathlib.Core.List.{List, [], ◌∷◌, ◌++◌}
use Prim.Native.Nat.{ℕ, suc, ◌+◌, ◌-◌, ◌*◌, ◌≤◌, ◌<◌}
use native.Mathlib.Omega.{arith}
use lib.Dec.{ltb}
use lib.ListN.{length, get_or, take, drop, set, length-set}
use lib.Seq.{drop-cons, drop-set-lt, get_or-set_same, get_or-set_other}
use borrow.Author.Tests.{ltb-true, ltb-false, lt-ltb}
use Rattle.lists.specs.Lists.{Mem, first, times, rises}
use Rattle.lists.proofs.Tests.{lt-or-le, zero-or-pos, and_both}
use Rattle.lists.proofs.Member.{mem-right}
use Rattle.lists.proofs.Times.{times-nil, times-append, times-cons, mem-times}
use Rattle.lists.proofs.Rising.{rises-in, rises-weaken}
use Rattle.workspace.specs.Regions.{cell, region, IsZero, OnlyIn}
use Rattle.workspace.proofs.Regions.{only-refl, only_store, region-next, region-join, region-ext, zero-part, store-leaves-zero, store-leaves-region}
use Rattle.differences.specs.Count.{CanMerge, Merged}
use Rattle.differences.proofs.Rows.{rises-nil, rises-cons, rises-within, rises-join, rises-left, rises-apart, upto-last}

-- ---- plain lists

pub record Split (m bound : ℕ) (xs ys zs all more : List ℕ) : Type 0 where
  pub high : bound ≤ m
  pub left : rises 1 bound xs ≡ true
  pub right : rises 1 bound ys ≡ true
  pub back : rises (suc bound) m zs ≡ true
  pub members : (v : ℕ) → times v xs + times v ys + times v zs ≡ times v all + times v more

module _ {m bound : ℕ} {ys zs all more : List ℕ} where
  pub split-swap : {xs : List ℕ} → Split m bound xs ys zs all more → Split m bound ys xs zs all more
  split-swap s = record { high = s.high; left = s.right; right = s.left; back = s.back; members = λ v. omega (arith, s.members v) }

  -- the last of the first front goes to the back
  pub split-left : (x : ℕ) (xs : List ℕ) → Split m bound (xs ++ (x ∷ [])) ys zs all more → ((y : ℕ) → Mem y ys → y < x) → Split m (x - 1) xs ys (x ∷ zs) all more
  split-left x xs s less =
      let r : (1 ≤ x) × (x ≤ bound) = rises-in 1 bound (mem-right xs (first {xs = []})) s.left in
      let r1 : 1 ≤ x = r.0 in
      let r2 : x ≤ bound = r.1 in
      let f : rises 1 bound xs ≡ true = rises-left 1 bound xs (x ∷ []) s.left in
      record {
        high = omega (arith, s.high);
        left = rises-within 1 bound 1 (x - 1) xs f (λ v n. ((rises-in 1 bound n f).0, let l : v < x = rises-apart 1 bound s.left n first in omega arith));
        right = rises-within 1 bound 1 (x - 1) ys s.right (λ v n. ((rises-in 1 bound n s.right).0, omega (arith, less v n)));
        back = rises-cons (suc (x - 1)) m x zs (omega arith) (omega (arith, s.high)) (rises-weaken (suc bound) m (suc x) zs (omega arith) s.back);
        members = λ v. omega (arith, s.members v, times-append v xs (x ∷ []), times-cons v x zs);
      }

-- ---- one place written in front of what a table holds from the next on

put_front : (w : List ℕ) (p l v : ℕ) → p < length w → region (set w p v) p (suc l) ≡ v ∷ region w (suc p) l
put_front w p l v h =
    let e : drop p (set w p v) ≡ v ∷ drop (suc p) w =
    drop-cons (set w p v) p 0 (simp length-set h) ∙ rw (get_or-set_same w p v 0 h, drop-set-lt (suc p) w p v (omega arith)) refl in
    ap (take (suc l)) e

-- ---- the work table

pub record Merging (m : ℕ) (w₀ : List ℕ) (n f : ℕ) (w : List ℕ) (i k : ℕ) : Type 0 where
  pub only : OnlyIn m (2 * m) w₀ w
  pub i-high : i ≤ n
  pub k-high : k ≤ f
  pub front : (j : ℕ) → j < i → cell w m j ≡ cell w₀ m j
  pub waiting : (j : ℕ) → j < k → cell w (2 * m) j ≡ cell w₀ (2 * m) j
  pub spent : IsZero w (2 * m + k) (m - k)
  pub past : IsZero w (m + (n + f)) (m - (n + f))
  pub bound : ℕ
  pub split : Split m bound (region w₀ m i) (region w₀ (2 * m) k) (region w (m + (i + k)) (n + f - (i + k))) (region w₀ m n) (region w₀ (2 * m) f)

module _ {m : ℕ} {w₀ : List ℕ} {n f : ℕ} (can : CanMerge m w₀ n f) where
  pub merging_start : Merging m w₀ n f w₀ n f
  merging_start =
      let e : n + f - (n + f) ≡ 0 = omega arith in
      let none : region w₀ (m + (n + f)) (n + f - (n + f)) ≡ [] = ap (region w₀ (m + (n + f))) e in
      record {
        only = only-refl;
        i-high = omega arith;
        k-high = omega arith;
        front = λ j h. refl;
        waiting = λ j h. refl;
        spent = can.buffered.rest;
        past = zero-part w₀ (m + n) (m - n) (m + (n + f)) (m - (n + f)) can.rest (omega arith) (omega (arith, can.within));
        bound = m;
        split = record {
          high = omega arith;
          left = can.rising;
          right = can.buffered.rising;
          back = rw none (rises-nil (suc m) m);
          members = λ v. omega (arith, ap (times v) none, times-nil v);
        };
      }

  module _ {w : List ℕ} {i k : ℕ} (g : Merging m w₀ n f w i k) where
    pub merging-length : length w ≡ length w₀
    merging-length = g.only.same_length

    room : i + k ≤ m
    room = omega (arith, g.i-high, g.k-high, can.within)

    -- a row that goes to the place before the back
    new-back : (p v : ℕ) → p + 1 ≡ i + k → region (set w (m + (i + k - 1)) v) (m + p) (n + f - p) ≡ v ∷ region w (m + (i + k)) (n + f - (i + k))
    new-back p v e =
        let a : m + p ≡ m + (i + k - 1) = omega arith in
        let b : n + f - p ≡ suc (n + f - (i + k)) = omega (arith, g.i-high, g.k-high) in
        let c : suc (m + (i + k - 1)) ≡ m + (i + k) = omega arith in
        ap (λ (s : ℕ). region (set w (m + (i + k - 1)) v) s (n + f - p)) a ∙ ap (region (set w (m + (i + k - 1)) v) (m + (i + k - 1))) b ∙
        put_front w (m + (i + k - 1)) (n + f - (i + k)) v (omega (arith, merging-length, can.long, room)) ∙
        ap (λ (s : ℕ). v ∷ region w s (n + f - (i + k))) c

    list-last : 0 < i → region w₀ m i ≡ region w₀ m (i - 1) ++ (cell w₀ m (i - 1) ∷ [])
    list-last h =
        let e : i ≡ i - 1 + 1 = omega arith in ap (region w₀ m) e ∙ region-next w₀ m (i - 1) (omega (arith, can.long, room))

    module _ (h : 0 < k) where
      buffer-last : region w₀ (2 * m) k ≡ region w₀ (2 * m) (k - 1) ++ (cell w₀ (2 * m) (k - 1) ∷ [])
      buffer-last =
          let e : k ≡ k - 1 + 1 = omega arith in ap (region w₀ (2 * m)) e ∙ region-next w₀ (2 * m) (k - 1) (omega (arith, can.long, room))

      pub row_is : cell w (2 * m) (k - 1) ≡ cell w₀ (2 * m) (k - 1)
      row_is = g.waiting (k - 1) (omega arith)

      buffer-upto : (y : ℕ) → Mem y (region w₀ (2 * m) k) → y ≤ cell w₀ (2 * m) (k - 1)
      buffer-upto y n' =
          upto-last 1 g.bound (cell w₀ (2 * m) (k - 1)) (region w₀ (2 * m) (k - 1)) (subst (λ (xs : List ℕ). rises 1 g.bound xs ≡ true) buffer-last g.split.right)
          (subst (λ (xs : List ℕ). Mem y xs) buffer-last n')

      list-upto : 0 < i → (x : ℕ) → Mem x (region w₀ m i) → x ≤ cell w₀ m (i - 1)
      list-upto q x n' =
          upto-last 1 g.bound (cell w₀ m (i - 1)) (region w₀ m (i - 1)) (subst (λ (xs : List ℕ). rises 1 g.bound xs ≡ true) (list-last q) g.split.left)
          (subst (λ (xs : List ℕ). Mem x xs) (list-last q) n')

      -- the list's last row is above the buffer's
      module _ (above : (ltb 0 i && ltb (cell w (2 * m) (k - 1)) (cell w m (i - 1))) ≡ true) where
        pub merging-low : 0 < i
        merging-low = ltb-true 0 i (and_both (ltb 0 i) (ltb (cell w (2 * m) (k - 1)) (cell w m (i - 1))) above).0

        list-larger : cell w₀ (2 * m) (k - 1) < cell w₀ m (i - 1)
        list-larger =
            omega (
              arith,
              ltb-true (cell w (2 * m) (k - 1)) (cell w m (i - 1)) (and_both (ltb 0 i) (ltb (cell w (2 * m) (k - 1)) (cell w m (i - 1))) above).1,
              row_is,
              g.front (i - 1) (omega (arith, merging-low)),
              merging-low,
            )

        pub merging-list : Merging m w₀ n f (set w (m + (i + k - 1)) (cell w m (i - 1))) (i - 1) k
        merging-list =
            let low : 0 < i = merging-low in
            let v : ℕ = cell w m (i - 1) in
            let v-is : cell w m (i - 1) ≡ cell w₀ m (i - 1) = g.front (i - 1) (omega arith) in
            record {
              only = only_store g.only (i + k - 1) v (omega (arith, room));
              i-high = omega (arith, g.i-high);
              k-high = g.k-high;
              front = λ j l. get_or-set_other w (m + (i + k - 1)) (m + j) v 0 (λ e. omega arith) ∙ g.front j (omega arith);
              waiting = λ j l. get_or-set_other w (m + (i + k - 1)) (2 * m + j) v 0 (λ e. omega (arith, room)) ∙ g.waiting j l;
              spent = store-leaves-zero w (m + (i + k - 1)) v (2 * m + k) (m - k) (inl (omega (arith, room))) g.spent;
              past = store-leaves-zero w (m + (i + k - 1)) v (m + (n + f)) (m - (n + f)) (inl (omega (arith, g.i-high, g.k-high))) g.past;
              bound = cell w₀ m (i - 1) - 1;
              split = subst (λ (zs : List ℕ). Split m (cell w₀ m (i - 1) - 1) (region w₀ m (i - 1)) (region w₀ (2 * m) k) zs (region w₀ m n) (region w₀ (2 * m) f))
                  (sym (new-back (i - 1 + k) v (omega arith) ∙ ap (λ (x : ℕ). x ∷ region w (m + (i + k)) (n + f - (i + k))) v-is))
                  (split-left (cell w₀ m (i - 1)) (region w₀ m (i - 1))
                  (subst (λ (xs : List ℕ). Split m g.bound xs (region w₀ (2 * m) k) (region w (m + (i + k)) (n + f - (i + k))) (region w₀ m n) (region w₀ (2 * m) f)) (list-last low) g.split)
                  (λ y n'. omega (arith, buffer-upto y n', list-larger)));
            }

      -- it is not: the buffer's goes
      module _ (above : (ltb 0 i && ltb (cell w (2 * m) (k - 1)) (cell w m (i - 1))) ≡ false) where
        buffer-larger : (x : ℕ) → Mem x (region w₀ m i) → x < cell w₀ (2 * m) (k - 1)
        buffer-larger x n' =
            elim (zero-or-pos i) [
              | inl z ↦ elim (subst (λ (j : ℕ). Mem x (region w₀ m j)) z n') [ ]
              | inr p ↦
                  elim (lt-or-le x (cell w₀ (2 * m) (k - 1))) [
                    | inl q ↦ q
                    | inr q ↦
                        let le : cell w m (i - 1) ≤ cell w (2 * m) (k - 1) =
                        ltb-false (cell w (2 * m) (k - 1)) (cell w m (i - 1)) (rw (lt-ltb 0 i p) at above) in
                        let e : x ≡ cell w₀ (2 * m) (k - 1) = omega (arith, le, row_is, g.front (i - 1) (omega arith), list-upto p x n') in
                        let y : Mem x (region w₀ (2 * m) k) =
                        subst (λ (xs : List ℕ). Mem x xs) (sym buffer-last)
                        (mem-right (region w₀ (2 * m) (k - 1)) (subst (λ (z : ℕ). Mem x (z ∷ [])) e first)) in
                        absurd (omega (arith, mem-times n', mem-times y, g.split.members x, can.apart x))
                  ]
            ]

        pub merging-buffer : Merging m w₀ n f (set (set w (m + (i + k - 1)) (cell w (2 * m) (k - 1))) (2 * m + (k - 1)) 0) i (k - 1)
        merging-buffer =
            let v : ℕ = cell w (2 * m) (k - 1) in
            let w₁ : List ℕ = set w (m + (i + k - 1)) v in
            let o : OnlyIn m (2 * m) w₀ w₁ = only_store g.only (i + k - 1) v (omega (arith, room)) in
            let e : m + (m + (k - 1)) ≡ 2 * m + (k - 1) = omega arith in
            let long : length w₁ ≡ length w₀ = o.same_length in
            record {
              only = subst (λ (p : ℕ). OnlyIn m (2 * m) w₀ (set w₁ p 0)) e (only_store o (m + (k - 1)) 0 (omega (arith, room)));
              i-high = g.i-high;
              k-high = omega (arith, g.k-high);
              front = λ j l. get_or-set_other w₁ (2 * m + (k - 1)) (m + j) 0 0 (λ q. omega (arith, room)) ∙ get_or-set_other w (m + (i + k - 1)) (m + j) v 0 (λ q. omega arith) ∙ g.front j l;
              waiting = λ j l. get_or-set_other w₁ (2 * m + (k - 1)) (2 * m + j) 0 0 (λ q. omega arith) ∙
                  get_or-set_other w (m + (i + k - 1)) (2 * m + j) v 0 (λ q. omega (arith, room)) ∙ g.waiting j (omega arith);
              spent = λ j l. elim (zero-or-pos j) [
                | inl z ↦ rw z (let a : 2 * m + (k - 1) + 0 ≡ 2 * m + (k - 1) = omega arith in
                    ap (λ (p : ℕ). get_or (set w₁ (2 * m + (k - 1)) 0) p 0) a ∙ get_or-set_same w₁ (2 * m + (k - 1)) 0 0 (omega (arith, can.long, room)))
                | inr p ↦
                    get_or-set_other w₁ (2 * m + (k - 1)) (2 * m + (k - 1) + j) 0 0 (λ q. omega arith) ∙
                    get_or-set_other w (m + (i + k - 1)) (2 * m + (k - 1) + j) v 0 (λ q. omega (arith, room)) ∙
                    (let a : 2 * m + (k - 1) + j ≡ 2 * m + k + (j - 1) = omega arith in ap (λ (s : ℕ). get_or w s 0) a ∙ g.spent (j - 1) (omega arith))
              ];
              past = store-leaves-zero w₁ (2 * m + (k - 1)) 0 (m + (n + f)) (m - (n + f)) (inr (omega (arith, can.within)))
                  (store-leaves-zero w (m + (i + k - 1)) v (m + (n + f)) (m - (n + f)) (inl (omega (arith, g.i-high, g.k-high))) g.past);
              bound = cell w₀ (2 * m) (k - 1) - 1;
              split = subst (λ (zs : List ℕ). Split m (cell w₀ (2 * m) (k - 1) - 1) (region w₀ m i) (region w₀ (2 * m) (k - 1)) zs (region w₀ m n) (region w₀ (2 * m) f))
                  (sym (store-leaves-region w₁ (2 * m + (k - 1)) 0 (m + (i + (k - 1))) (n + f - (i + (k - 1))) (inr (omega (arith, can.within, room))) ∙
                  new-back (i + (k - 1)) v (omega arith) ∙ ap (λ (x : ℕ). x ∷ region w (m + (i + k)) (n + f - (i + k))) row_is))
                  (split-swap (split-left (cell w₀ (2 * m) (k - 1)) (region w₀ (2 * m) (k - 1))
                  (subst (λ (xs : List ℕ). Split m g.bound xs (region w₀ m i) (region w (m + (i + k)) (n + f - (i + k))) (region w₀ m n) (region w₀ (2 * m) f)) buffer-last (split-swap g.split))
                  buffer-larger));
            }

    pub merging-done : k ≡ 0 → Merged m w₀ n f w
    merging-done z =
        let back : List ℕ = region w (m + (i + k)) (n + f - (i + k)) in
        let e : region w (m + i) (n + f - i) ≡ back =
        (let a : m + i ≡ m + (i + k) = omega arith in let b : n + f - i ≡ n + f - (i + k) = omega arith in
        ap (λ (s : ℕ). region w s (n + f - i)) a ∙ ap (region w (m + (i + k))) b) in
        let c : n + f ≡ i + (n + f - i) = omega (arith, g.i-high) in
        let whole : region w m (n + f) ≡ region w₀ m i ++ back =
        ap (region w m) c ∙ region-join w m i (n + f - i) ∙ ap (λ (xs : List ℕ). region w m i ++ xs) e ∙
        ap (λ (xs : List ℕ). xs ++ back) (region-ext w₀ w m m i (omega (arith, can.long, room)) (omega (arith, merging-length, can.long, room)) g.front) in
        let none : region w₀ (2 * m) k ≡ [] = ap (region w₀ (2 * m)) z in
        record {
          only = g.only;
          rising = rw whole (rises-join 1 g.bound m (region w₀ m i) back (omega arith) g.split.high g.split.left g.split.back);
          members = λ v. omega (arith, ap (times v) whole, times-append v (region w₀ m i) back, g.split.members v, ap (times v) none, times-nil v);
          rest = g.past;
          buffer = zero-part w (2 * m + k) (m - k) (2 * m) m g.spent (omega arith) (omega arith);
        }
