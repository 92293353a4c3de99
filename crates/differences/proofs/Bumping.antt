-- Counting the gathered rows into the differences, one after another. The rows up to `last` are counted; those of them that were not touched before stand
-- at the front of the buffer, the places between them and the rows to come are zero; a row is touched exactly if it is listed or stands at the front.
-- Assumes nothing.
use mathlib.Core.Path.{◌≡◌, refl, sym, ap, subst, ◌∙◌}
use mathlib.Core.Logic.{inl, inr, ◌≢◌}
use mathlib.Core.Bool.{Bool, true, false, not}
use mathlib.Core.List.{List, [], ◌∷◌, ◌++◌}
use Prim.Native.Nat.{ℕ, suc, ◌+◌, ◌-◌, ◌*◌, ◌≤◌, ◌<◌}
use native.Mathlib.Omega.{arith}
use lib.Dec.{eqb}
use lib.ListN.{length, get_or, set, length-set}
use lib.Seq.{get_or-set_same, get_or-set_other}
use borrow.Author.Tests.{eq-eqb, ne_eqb}
use Rattle.lists.specs.Lists.{one, Mem, first, among, times, at, rises}
use Rattle.lists.proofs.Tests.{eq-or-ne, lt-or-le, refute}
use Rattle.lists.proofs.Member.{mem-right, mem-either, among-mem, mem-among}
use Rattle.lists.proofs.Times.{times-nil, times-append, times-self, times-other, mem-times, none-among}
use Rattle.lists.proofs.Rising.{rises-in}
use Rattle.workspace.specs.Regions.{cell, region, OnlyIn}
use Rattle.workspace.proofs.Regions.{only-refl, only_store, region-next, region-join, zero-at, store-push, store-leaves-region}
use Rattle.differences.specs.Tally.{shifted, difference_at, counted}
use Rattle.differences.specs.Count.{CanCount, bumped_to, Bumped}
use Rattle.differences.proofs.Rows.{Front, rises-front, rises-nil, rises-cons, rises-within, rises-join, rises-once, among-nil, among-last, among-before, only-member}
use Rattle.differences.proofs.Parts.{region-front}

-- ---- counted

pub counted_none : (up : Bool) (d : ℕ → ℕ) (m : ℕ) (p : ℕ → Bool) → ((i : ℕ) → p i ≡ false) → counted up d d m p
counted_none true d m p h = λ i a b. omega (arith, ap one (h i))
counted_none false d m p h = λ i a b. omega (arith, ap one (h i))

-- a row that does not pass
pub counted-still : (up : Bool) (d e : ℕ → ℕ) (m : ℕ) (p : ℕ → Bool) → counted up d e m p → (i : ℕ) → 1 ≤ i → i ≤ m → p i ≡ false → e i ≡ d i
counted-still true d e m p c i a b h = omega (arith, c i a b, ap one h)
counted-still false d e m p c i a b h = omega (arith, c i a b, ap one h)

-- one row more
counted-more : (up : Bool) (d e e' : ℕ → ℕ) (m : ℕ) (p p' : ℕ → Bool) (r : ℕ) → counted up d e m p → 2 ≤ d r → e r ≡ d r → e' r ≡ bumped_to up (e r) → p' r ≡ true →
    ((i : ℕ) → 1 ≤ i → i ≤ m → i ≢ r → e' i ≡ e i) → ((i : ℕ) → i ≢ r → p' i ≡ p i) → counted up d e' m p'
counted-more true d e e' m p p' r c two same new here others tests =
    λ i a b. elim (eq-or-ne i r) [
      | inl q ↦ rw q (omega (arith, same, new, ap one here))
      | inr q ↦ omega (arith, c i a b, others i a b q, ap one (tests i q))
    ]
counted-more false d e e' m p p' r c two same new here others tests =
    λ i a b. elim (eq-or-ne i r) [
      | inl q ↦ rw q (omega (arith, same, new, ap one here))
      | inr q ↦ omega (arith, c i a b, others i a b q, ap one (tests i q))
    ]

-- the same for other differences that agree
pub counted_same : (up : Bool) (d e e' : ℕ → ℕ) (m : ℕ) (p : ℕ → Bool) → counted up d e m p → ((i : ℕ) → 1 ≤ i → i ≤ m → e' i ≡ e i) → counted up d e' m p
counted_same true d e e' m p c h = λ i a b. omega (arith, c i a b, h i a b)
counted_same false d e e' m p c h = λ i a b. omega (arith, c i a b, h i a b)

bumped-pos : (up : Bool) (d : ℕ) → 2 ≤ d → 1 ≤ bumped_to up d
bumped-pos true d h = omega arith
bumped-pos false d h = omega arith

-- a place that is not 0 means itself
shifted-self : (x : ℕ) → 1 ≤ x → shifted x ≡ x
shifted-self x h = rw (ne_eqb x 0 (λ e. omega arith)) refl

pub touched-one : (x : ℕ) → x ≢ 0 → one (not (eqb x 0)) ≡ 1
touched-one x h = rw (ne_eqb x 0 h) refl

pub touched_none : (x : ℕ) → x ≡ 0 → one (not (eqb x 0)) ≡ 0
touched_none x h = rw (eq-eqb x 0 h) refl

only-put : {n : ℕ} {w x : List ℕ} → OnlyIn 0 n w x → (p v : ℕ) → p < n → OnlyIn 0 n w (set x p v)
only-put {n} {w} {x} o p v h = let e : 0 + p ≡ p = omega arith in subst (λ (q : ℕ). OnlyIn 0 n w (set x q v)) e (only_store o p v h)

-- ---- the walk

pub record Bumping (m : ℕ) (w₀ : List ℕ) (n k : ℕ) (up : Bool) (w : List ℕ) (i f : ℕ) : Type 0 where
  pub low : f ≤ i
  pub high : i ≤ k
  pub only : OnlyIn 0 (3 * m) w₀ w
  pub list : (j : ℕ) → j < m → cell w m j ≡ cell w₀ m j
  pub ahead : (j : ℕ) → i ≤ j → j < k → cell w (2 * m) j ≡ cell w₀ (2 * m) j
  pub spent : (j : ℕ) → f ≤ j → j < i → cell w (2 * m) j ≡ 0
  pub rest : (j : ℕ) → k ≤ j → j < m → cell w (2 * m) j ≡ 0
  pub last : ℕ
  pub last-high : last ≤ m
  pub front : rises 1 last (region w (2 * m) f) ≡ true
  pub to-come : rises (suc last) m (region w₀ (2 * m + i) (k - i)) ≡ true
  pub done : (r : ℕ) → Mem r (region w₀ (2 * m) i) → r ≤ last
  pub counted-rows : counted up (difference_at w₀) (difference_at w) m (λ r. among r (region w₀ (2 * m) i))
  pub fresh : (r : ℕ) → 1 ≤ r → r ≤ m → times r (region w₀ m n) + times r (region w (2 * m) f) ≡ one (not (eqb (at w r) 0))

module _ {m : ℕ} {w₀ : List ℕ} {n k : ℕ} (up : Bool) (can : CanCount m w₀ n k) where
  pub bumping-start : Bumping m w₀ n k up w₀ 0 0
  bumping-start =
      record {
        low = omega arith;
        high = omega arith;
        only = only-refl;
        list = λ j h. refl;
        ahead = λ j a b. refl;
        spent = λ j a b. absurd (omega arith);
        rest = λ j a b. zero-at w₀ (2 * m + k) (m - k) (2 * m + j) can.buffered.rest (omega arith) (omega arith);
        last = 0;
        last-high = omega arith;
        front = rises-nil 1 0;
        to-come = let a : 2 * m + 0 ≡ 2 * m = omega arith in let b : k - 0 ≡ k = omega arith in rw (a, b) can.buffered.rising;
        done = λ r n. elim n [ ];
        counted-rows = counted_none up (difference_at w₀) m (λ r. among r []) (λ r. among-nil r);
        fresh = λ r a b. elim (eq-or-ne (at w₀ r) 0) [
          | inl z ↦ omega (arith, touched_none (at w₀ r) z, times-nil r, none-among r (region w₀ m n) (refute (among r (region w₀ m n)) (λ t. (can.touched.listed r a b).0 t z)))
          | inr z ↦ omega (
            arith,
            touched-one (at w₀ r) z,
            times-nil r,
            rises-once 1 m (region w₀ m n) can.touched.rising r,
            mem-times (among-mem r (region w₀ m n) ((can.touched.listed r a b).1 z)),
          )
        ];
      }

  module _ {w : List ℕ} {i f : ℕ} (g : Bumping m w₀ n k up w i f) where
    pub bumping-length : length w ≡ length w₀
    bumping-length = g.only.same_length

    module _ (h : i < k) where
      abbrev row : ℕ
      row = cell w (2 * m) i

      row_is : row ≡ cell w₀ (2 * m) i
      row_is = g.ahead i (omega arith) h

      long : 2 * m + k ≤ length w₀
      long = omega (arith, can.touched.long, can.buffered.within)

      come-is : region w₀ (2 * m + i) (k - i) ≡ row ∷ region w₀ (2 * m + (i + 1)) (k - (i + 1))
      come-is = region-front w₀ (2 * m) i k h long ∙ ap (λ (x : ℕ). x ∷ region w₀ (2 * m + (i + 1)) (k - (i + 1))) (sym row_is)

      head : Front (suc g.last) m row (region w₀ (2 * m + (i + 1)) (k - (i + 1)))
      head =
          rises-front (suc g.last) m row (region w₀ (2 * m + (i + 1)) (k - (i + 1))) (subst (λ (xs : List ℕ). rises (suc g.last) m xs ≡ true) come-is g.to-come)

      pub row_low : 1 ≤ row
      row_low = omega (arith, head.low)

      pub row-high : row ≤ m
      row-high = head.high

      not_done : among row (region w₀ (2 * m) i) ≡ false
      not_done = refute (among row (region w₀ (2 * m) i)) (λ t. omega (arith, head.low, g.done row (among-mem row (region w₀ (2 * m) i) t)))

      same_here : difference_at w row ≡ difference_at w₀ row
      same_here = counted-still up (difference_at w₀) (difference_at w) m (λ r. among r (region w₀ (2 * m) i)) g.counted-rows row row_low row-high not_done

      in_buffer : Mem row (region w₀ (2 * m) k)
      in_buffer =
          let e : k ≡ i + (k - i) = omega arith in
          subst (λ (xs : List ℕ). Mem row xs) (sym (ap (region w₀ (2 * m)) e ∙ region-join w₀ (2 * m) i (k - i)))
          (mem-right (region w₀ (2 * m) i) (subst (λ (xs : List ℕ). Mem row xs) (sym come-is) first))

      pub bumping-range : (2 ≤ difference_at w row) × (difference_at w row < 2147483647)
      bumping-range =
          let t : (2 ≤ difference_at w₀ row) × (difference_at w₀ row < 2147483647) = can.ranges row (mem-among in_buffer) in
          (omega (arith, t.0, same_here), omega (arith, t.1, same_here))

      abbrev value : ℕ
      value = bumped_to up (difference_at w row)

      value_pos : 1 ≤ value
      value_pos = bumped-pos up (difference_at w row) bumping-range.0

      rows_next : region w₀ (2 * m) (i + 1) ≡ region w₀ (2 * m) i ++ (row ∷ [])
      rows_next = region-next w₀ (2 * m) i (omega (arith, long)) ∙ ap (λ (x : ℕ). region w₀ (2 * m) i ++ (x ∷ [])) (sym row_is)

      done_next : (r : ℕ) → Mem r (region w₀ (2 * m) (i + 1)) → r ≤ row
      done_next r n' =
          elim (mem-either (region w₀ (2 * m) i) (subst (λ (xs : List ℕ). Mem r xs) rows_next n')) [
            | inl q ↦ omega (arith, g.done r q, head.low)
            | inr q ↦ omega (arith, only-member q)
          ]

      front-upto : rises 1 row (region w (2 * m) f) ≡ true
      front-upto =
          rises-within 1 g.last 1 row (region w (2 * m) f) g.front
          (λ v n'. ((rises-in 1 g.last n' g.front).0, omega (arith, (rises-in 1 g.last n' g.front).1, head.low)))

      -- the differences after, in any table that has the row's place set and the others as they were
      counted_next : (u : List ℕ) → at u row ≡ value → ((r : ℕ) → 1 ≤ r → r ≤ m → r ≢ row → at u r ≡ at w r) →
          counted up (difference_at w₀) (difference_at u) m (λ r. among r (region w₀ (2 * m) (i + 1)))
      counted_next u here others =
          counted-more up (difference_at w₀) (difference_at w) (difference_at u) m (λ r. among r (region w₀ (2 * m) i)) (λ r. among r (region w₀ (2 * m) (i + 1))) row g.counted-rows
          (can.ranges row (mem-among in_buffer)).0 same_here (ap shifted here ∙ shifted-self value value_pos)
          (ap (among row) rows_next ∙ among-last row (region w₀ (2 * m) i)) (λ r a b q. ap shifted (others r a b q))
          (λ r q. ap (among r) rows_next ∙ among-before r row (region w₀ (2 * m) i) q)

      -- ---- the row's place set, its place in the buffer cleared

      abbrev put_one : List ℕ
      put_one = set w (row - 1) value

      abbrev put_two : List ℕ
      put_two = set put_one (2 * m + i) 0

      inside : row - 1 < length w
      inside = omega (arith, row_low, row-high, bumping-length, can.touched.long)

      two_here : at put_two row ≡ value
      two_here = get_or-set_other put_one (2 * m + i) (row - 1) 0 0 (λ e. omega (arith, row_low, row-high)) ∙ get_or-set_same w (row - 1) value 0 inside

      two-other : (r : ℕ) → 1 ≤ r → r ≤ m → r ≢ row → at put_two r ≡ at w r
      two-other r a b q =
          get_or-set_other put_one (2 * m + i) (r - 1) 0 0 (λ e. omega arith) ∙ get_or-set_other w (row - 1) (r - 1) value 0 (λ e. q (omega (arith, row_low)))

      two-buffer : (j : ℕ) → j ≢ i → cell put_two (2 * m) j ≡ cell w (2 * m) j
      two-buffer j q =
          get_or-set_other put_one (2 * m + i) (2 * m + j) 0 0 (λ e. q (omega arith)) ∙ get_or-set_other w (row - 1) (2 * m + j) value 0 (λ e. omega (arith, row_low, row-high))

      two-clear : cell put_two (2 * m) i ≡ 0
      two-clear = get_or-set_same put_one (2 * m + i) 0 0 (simp length-set (omega (arith, bumping-length, long)))

      two-list : (j : ℕ) → j < m → cell put_two m j ≡ cell w₀ m j
      two-list j q =
          get_or-set_other put_one (2 * m + i) (m + j) 0 0 (λ e. omega arith) ∙ get_or-set_other w (row - 1) (m + j) value 0 (λ e. omega (arith, row_low, row-high)) ∙ g.list j q

      two-only : OnlyIn 0 (3 * m) w₀ put_two
      two-only = only-put (only-put g.only (row - 1) value (omega (arith, row_low, row-high))) (2 * m + i) 0 (omega (arith, can.buffered.within))

      two-front : region put_two (2 * m) f ≡ region w (2 * m) f
      two-front =
          store-leaves-region put_one (2 * m + i) 0 (2 * m) f (inr (omega (arith, g.low))) ∙
          store-leaves-region w (row - 1) value (2 * m) f (inl (omega (arith, row_low, row-high)))

      -- a row that was touched before
      pub bumping-keep : at w row ≢ 0 → Bumping m w₀ n k up put_two (i + 1) f
      bumping-keep z =
          record {
            low = omega (arith, g.low);
            high = omega arith;
            only = two-only;
            list = two-list;
            ahead = λ j a b. two-buffer j (λ e. omega arith) ∙ g.ahead j (omega arith) b;
            spent = λ j a b. elim (eq-or-ne j i) [ inl e ↦ rw e two-clear | inr e ↦ two-buffer j e ∙ g.spent j a (omega arith) ];
            rest = λ j a b. two-buffer j (λ e. omega arith) ∙ g.rest j a b;
            last = row;
            last-high = row-high;
            front = rw two-front front-upto;
            to-come = head.tail;
            done = done_next;
            counted-rows = counted_next put_two two_here two-other;
            fresh = λ r a b. elim (eq-or-ne r row) [
              | inl e ↦
                  rw e (omega (
                    arith,
                    ap (times row) two-front,
                    g.fresh row row_low row-high,
                    touched-one (at w row) z,
                    touched-one (at put_two row) (λ q. omega (arith, two_here, value_pos)),
                  ))
              | inr e ↦ rw (two-front, two-other r a b e) (g.fresh r a b)
            ];
          }

      -- one that was not: it stays at the front of the buffer
      abbrev put_three : List ℕ
      put_three = set put_two (2 * m + f) row

      three-at : (r : ℕ) → 1 ≤ r → r ≤ m → at put_three r ≡ at put_two r
      three-at r a b = get_or-set_other put_two (2 * m + f) (r - 1) row 0 (λ e. omega arith)

      three-buffer : (j : ℕ) → j ≢ f → cell put_three (2 * m) j ≡ cell put_two (2 * m) j
      three-buffer j q = get_or-set_other put_two (2 * m + f) (2 * m + j) row 0 (λ e. q (omega arith))

      three-front : region put_three (2 * m) (f + 1) ≡ region w (2 * m) f ++ (row ∷ [])
      three-front =
          store-push put_two (2 * m) f row (omega (arith, two-only.same_length, g.low, long)) ∙ ap (λ (xs : List ℕ). xs ++ (row ∷ [])) two-front

      pub bumping-new : at w row ≡ 0 → Bumping m w₀ n k up put_three (i + 1) (f + 1)
      bumping-new z =
          record {
            low = omega (arith, g.low);
            high = omega arith;
            only = only-put two-only (2 * m + f) row (omega (arith, g.low, can.buffered.within));
            list = λ j q. get_or-set_other put_two (2 * m + f) (m + j) row 0 (λ e. omega arith) ∙ two-list j q;
            ahead = λ j a b. three-buffer j (λ e. omega (arith, g.low)) ∙ two-buffer j (λ e. omega arith) ∙ g.ahead j (omega arith) b;
            spent = λ j a b. three-buffer j (λ e. omega arith) ∙ elim (eq-or-ne j i) [ inl e ↦ rw e two-clear | inr e ↦ two-buffer j e ∙ g.spent j (omega arith) (omega arith) ];
            rest = λ j a b. three-buffer j (λ e. omega (arith, g.low)) ∙ two-buffer j (λ e. omega arith) ∙ g.rest j a b;
            last = row;
            last-high = row-high;
            front = rw three-front (rises-join 1 g.last row (region w (2 * m) f) (row ∷ []) (omega arith) (omega (arith, head.low)) g.front
                (rises-cons (suc g.last) row row [] head.low (omega arith) (rises-nil (suc row) row)));
            to-come = head.tail;
            done = done_next;
            counted-rows = counted_next put_three (three-at row row_low row-high ∙ two_here) (λ r a b q. three-at r a b ∙ two-other r a b q);
            fresh = λ r a b. elim (eq-or-ne r row) [
              | inl e ↦
                  rw e (omega (
                    arith,
                    ap (times row) three-front,
                    times-append row (region w (2 * m) f) (row ∷ []),
                    times-self row [],
                    times-nil row,
                    g.fresh row row_low row-high,
                    touched_none (at w row) z,
                    touched-one (at put_three row) (λ q. omega (arith, three-at row row_low row-high, two_here, value_pos)),
                  ))
              | inr e ↦
                  rw (three-at r a b ∙ two-other r a b e) (omega (arith, ap (times r) three-front, times-append r (region w (2 * m) f) (row ∷ []), times-other r row [] e, times-nil r, g.fresh r a b))
            ];
          }

    pub bumping-done : k ≤ i → Bumped m w₀ n k up w f
    bumping-done h =
        let e : i ≡ k = omega (arith, g.high) in
        record {
          only = g.only;
          counted-rows = subst (λ (j : ℕ). counted up (difference_at w₀) (difference_at w) m (λ r. among r (region w₀ (2 * m) j))) e g.counted-rows;
          list = g.list;
          buffered = record {
            within = omega (arith, g.low, g.high, can.buffered.within);
            rising = rises-within 1 g.last 1 m (region w (2 * m) f) g.front
                (λ v n'. ((rises-in 1 g.last n' g.front).0, omega (arith, (rises-in 1 g.last n' g.front).1, g.last-high)));
            rest = λ j l.
                let a : 2 * m + f + j ≡ 2 * m + (f + j) = omega arith in
                ap (λ (p : ℕ). get_or w p 0) a ∙ elim (lt-or-le (f + j) k) [ inl q ↦ g.spent (f + j) (omega arith) (omega arith) | inr q ↦ g.rest (f + j) q (omega arith) ];
          };
          fresh = g.fresh;
        }
