-- Laws of regions, over plain lists, by what a user does: read a region as a list, have it zero, store a value, compare two tables that differ in
-- one region only, clear a region. Premises are inequalities of starts and lengths, for omega; apartness is given as `inl` or `inr` of one.
-- A loop that writes one region carries OnlyIn as its frame (`only-refl` at the start, `only_store` at a turn; a change made on the spot is bound by
-- a typed `let` first). Assumes nothing.
use mathlib.Core.Path.{◌≡◌, refl, sym, ap, subst, ◌∙◌}
use mathlib.Core.Logic.{◌⊎◌, inl, inr}
use mathlib.Core.List.{List, [], ◌∷◌, ◌++◌}
use Prim.Native.Nat.{ℕ, ◌+◌, ◌-◌, ◌≤◌, ◌<◌}
use native.Mathlib.Omega.{arith}
use native.Mathlib.Numerals.{add-one}
use lib.ListN.{length, get_or, take, drop, set, replicate, length-append, length-take, length-drop, length-set, length-replicate, get_or-replicate, get_or-append}
use lib.Seq.{ext_get_or, take-suc, take-set-le, get_or-set_same, get_or-set_other, get_or-take, get_or-drop, get_or-append-add, length-take-le, take-add, take-set-lt, drop-set-add, drop-drop}
use Rattle.lists.proofs.Tests.{lt-or-le}
use Rattle.workspace.specs.Regions.{cell, region, Outside, Apart, IsZero, OnlyIn, cleared, zero_first}

-- ---- a place of the table

-- two tables of one length that agree everywhere
pub table-ext : (w x : List ℕ) → length x ≡ length w → ((k : ℕ) → get_or x k 0 ≡ get_or w k 0) → x ≡ w
table-ext w x e h = ext_get_or 0 x w e (λ k _. h k)

-- a place lies outside a region or is one of its places
pub place-cases : (a n k : ℕ) → Outside a n k ⊎ ((i : ℕ) × (i < n) × (k ≡ a + i))
place-cases a n k =
    elim (lt-or-le k a) [
      | inl h ↦ inl (inl h)
      | inr h ↦ elim (lt-or-le k (a + n)) [ inl p ↦ inr (k - a, omega arith, omega arith) | inr p ↦ inl (inr p) ]
    ]

-- a place that is none of a region's
pub not-inside : (a n k : ℕ) → (a ≤ k → k < a + n → ⊥) → Outside a n k
not-inside a n k h = elim (place-cases a n k) [ inl s ↦ s | inr t ↦ absurd (h (omega arith) (omega arith)) ]

-- a place of a region lies outside one that is apart from it
pub apart-outside : (a n b l : ℕ) → Apart a n b l → (i : ℕ) → i < l → Outside a n (b + i)
apart-outside a n b l s i h = elim s [ inl p ↦ inr (omega arith) | inr p ↦ inl (omega arith) ]

-- ---- a region as a list

pub region-length : (w : List ℕ) (a n : ℕ) → a + n ≤ length w → length (region w a n) ≡ n
region-length w a n h = simp (length-take, length-drop) (omega arith)

pub region-cell : (w : List ℕ) (a n i : ℕ) → i < n → get_or (region w a n) i 0 ≡ cell w a i
region-cell w a n i h = get_or-take n (drop a w) i 0 h ∙ get_or-drop a w i 0

-- two regions, of one table or of two, with the same cells
pub region-ext : (w x : List ℕ) (a b n : ℕ) → a + n ≤ length w → b + n ≤ length x → ((i : ℕ) → i < n → cell x b i ≡ cell w a i) → region x b n ≡ region w a n
region-ext w x a b n p q h =
    ext_get_or 0 (region x b n) (region w a n) (region-length x b n q ∙ sym (region-length w a n p))
    (λ i l. let s : i < n = omega (arith, region-length x b n q) in region-cell x b n i s ∙ h i s ∙ sym (region-cell w a n i s))

-- a region is the list of its front followed by the list of its rest
pub region-join : (w : List ℕ) (a n l : ℕ) → region w a (n + l) ≡ region w a n ++ region w (a + n) l
region-join w a n l = take-add n l (drop a w) ∙ ap (λ (xs : List ℕ). take n (drop a w) ++ take l xs) (drop-drop n a w)

-- one place more at its end, as a loop that goes up reads it
pub region-next : (w : List ℕ) (a i : ℕ) → a + i < length w → region w a (i + 1) ≡ region w a i ++ (cell w a i ∷ [])
region-next w a i h =
    rw (add-one i, take-suc (drop a w) i 0 (omega (arith, length-drop a w)), get_or-drop a w i 0) refl

-- ---- a region that is zero

pub zero-at : (w : List ℕ) (a n k : ℕ) → IsZero w a n → a ≤ k → k < a + n → get_or w k 0 ≡ 0
zero-at w a n k z p q = let e : a + (k - a) ≡ k = omega arith in subst (λ (x : ℕ). get_or w x 0 ≡ 0) e (z (k - a) (omega arith))

-- a region inside a zero one
pub zero-part : (w : List ℕ) (a n b l : ℕ) → IsZero w a n → a ≤ b → b + l ≤ a + n → IsZero w b l
zero-part w a n b l z p q i h = zero-at w a n (b + i) z (omega arith) (omega arith)

pub zero-region : (w : List ℕ) (a n : ℕ) → a + n ≤ length w → IsZero w a n → region w a n ≡ replicate n 0
zero-region w a n h z =
    ext_get_or 0 (region w a n) (replicate n 0) (region-length w a n h ∙ sym (length-replicate {A = ℕ} n 0))
    (λ i l. let s : i < n = omega (arith, region-length w a n h) in region-cell w a n i s ∙ z i s ∙ sym (get_or-replicate {A = ℕ} n i 0 0 s))

-- ---- a value stored at place i of the region that starts at a

pub store_same : (w : List ℕ) (a i v : ℕ) → a + i < length w → cell (set w (a + i) v) a i ≡ v
store_same w a i v h = get_or-set_same w (a + i) v 0 h

pub store-only : {w : List ℕ} {a n : ℕ} (i v : ℕ) → i < n → OnlyIn a n w (set w (a + i) v)
store-only {w} {a} {n} i v h =
    record {
      same_length = length-set w (a + i) v;
      outside = λ k s. get_or-set_other w (a + i) k v 0 (λ e. elim s [ inl p ↦ omega arith | inr p ↦ omega arith ]);
    }

pub store-region : (w : List ℕ) (a n i v : ℕ) → i < n → region (set w (a + i) v) a n ≡ set (region w a n) i v
store-region w a n i v h = ap (take n) (drop-set-add a w i v) ∙ take-set-lt n (drop a w) i v h

-- the next place after what a region's front holds
pub store-push : (w : List ℕ) (a i v : ℕ) → a + i < length w → region (set w (a + i) v) a (i + 1) ≡ region w a i ++ (v ∷ [])
store-push w a i v h =
    region-next (set w (a + i) v) a i (simp length-set h) ∙ rw (store_same w a i v h, drop-set-add a w i v, take-set-le i (drop a w) i v (omega arith)) refl

-- ---- a change in one region only

pub only-refl : {a n : ℕ} {w : List ℕ} → OnlyIn a n w w
only-refl = record { same_length = refl; outside = λ k s. refl }

pub only-sym : {a n : ℕ} {w x : List ℕ} → OnlyIn a n w x → OnlyIn a n x w
only-sym o = record { same_length = sym o.same_length; outside = λ k s. sym (o.outside k s) }

pub only-trans : {a n : ℕ} {w x y : List ℕ} → OnlyIn a n w x → OnlyIn a n x y → OnlyIn a n w y
only-trans o p = record { same_length = p.same_length ∙ o.same_length; outside = λ k s. p.outside k s ∙ o.outside k s }

-- in a region that holds it
pub only_wider : {a n : ℕ} (b l : ℕ) {w x : List ℕ} → b ≤ a → a + n ≤ b + l → OnlyIn a n w x → OnlyIn b l w x
only_wider {a} {n} b l p q o =
    record {
      same_length = o.same_length;
      outside = λ k s. o.outside k (elim s [ inl h ↦ inl (omega arith) | inr h ↦ inr (omega arith) ]);
    }

-- a change in one region, then in another: a change in any region that holds both
pub only-join : {a n b l : ℕ} (c t : ℕ) {w x y : List ℕ} → OnlyIn a n w x → OnlyIn b l x y → c ≤ a → a + n ≤ c + t → c ≤ b → b + l ≤ c + t → OnlyIn c t w y
only-join c t o p g h i j = only-trans (only_wider c t g h o) (only_wider c t i j p)

module _ {a n : ℕ} {w x : List ℕ} (o : OnlyIn a n w x) where
  -- what it leaves, of a region apart
  module _ (b l : ℕ) (s : Apart a n b l) where
    pub only-cell : (i : ℕ) → i < l → cell x b i ≡ cell w b i
    only-cell i h = o.outside (b + i) (apart-outside a n b l s i h)

    pub only_zero : IsZero w b l → IsZero x b l
    only_zero z i h = only-cell i h ∙ z i h

    pub only-region : region x b l ≡ region w b l
    only-region =
        ext_get_or 0 (region x b l) (region w b l) (simp (length-take, length-drop, o.same_length))
        (λ i h.
        let t : i < l = omega (arith, length-take l (drop b x)) in
        region-cell x b l i t ∙ only-cell i t ∙ sym (region-cell w b l i t))

  -- one store more in the region: the frame of a loop that writes it
  pub only_store : (i v : ℕ) → i < n → OnlyIn a n w (set x (a + i) v)
  only_store i v h = only-trans o (store-only i v h)

  -- it changed nothing if the region's cells are as before
  pub only-equal : ((i : ℕ) → i < n → cell x a i ≡ cell w a i) → x ≡ w
  only-equal h =
      table-ext w x o.same_length
      (λ k. elim (place-cases a n k) [
        | inl s ↦ o.outside k s
        | inr t ↦ subst (λ (p : ℕ). get_or x p 0 ≡ get_or w p 0) (sym t.2) (h t.0 t.1)
      ])

-- what a store leaves, of a region that its place is not in
module _ (w : List ℕ) (k v b l : ℕ) (s : Outside b l k) where
  at_place : OnlyIn k 1 w (set w k v)
  at_place = record { same_length = length-set w k v; outside = λ p t. get_or-set_other w k p v 0 (λ e. elim t [ inl q ↦ omega arith | inr q ↦ omega arith ]) }

  place-apart : Apart k 1 b l
  place-apart = elim s [ inl q ↦ inl (omega arith) | inr q ↦ inr q ]

  pub store-leaves-zero : IsZero w b l → IsZero (set w k v) b l
  store-leaves-zero = only_zero at_place b l place-apart

  pub store-leaves-region : region (set w k v) b l ≡ region w b l
  store-leaves-region = only-region at_place b l place-apart

-- ---- a region cleared

module _ (w : List ℕ) (a n : ℕ) (fits : a + n ≤ length w) where
  -- a cleared table is read in two steps: its front, and what stands past it
  front : length (take a w) ≡ a
  front = length-take-le a w (omega arith)

  past-front : (k : ℕ) → get_or (cleared w a n) (a + k) 0 ≡ get_or (replicate n 0 ++ drop (a + n) w) k 0
  past-front k =
      subst (λ (p : ℕ). get_or (cleared w a n) (p + k) 0 ≡ get_or (replicate n 0 ++ drop (a + n) w) k 0) front
      (get_or-append-add (take a w) (replicate n 0 ++ drop (a + n) w) k 0)

  pub cleared-length : length (cleared w a n) ≡ length w
  cleared-length = simp (length-append, length-take, length-replicate, length-drop) (omega arith)

  pub cleared-zero : IsZero (cleared w a n) a n
  cleared-zero i h =
      past-front i ∙ get_or-append (replicate n 0) (drop (a + n) w) 0 i (omega (arith, length-replicate {A = ℕ} n 0)) ∙ get_or-replicate {A = ℕ} n i 0 0 h

  pub cleared-outside : (k : ℕ) → Outside a n k → get_or (cleared w a n) k 0 ≡ get_or w k 0
  cleared-outside k s =
      elim s [
        | inl h ↦ get_or-append (take a w) (replicate n 0 ++ drop (a + n) w) 0 k (omega (arith, front)) ∙ get_or-take a w k 0 h
        | inr h ↦
            let j : ℕ = k - (a + n) in
            let past : get_or (replicate n 0 ++ drop (a + n) w) (n + j) 0 ≡ get_or w (a + n + j) 0 =
            subst (λ (p : ℕ). get_or (replicate n 0 ++ drop (a + n) w) (p + j) 0 ≡ get_or w (a + n + j) 0) (length-replicate {A = ℕ} n 0)
            (get_or-append-add (replicate n 0) (drop (a + n) w) j 0 ∙ get_or-drop (a + n) w j 0) in
            let p : a + (n + j) ≡ k = omega arith in
            let q : a + n + j ≡ k = omega arith in
            subst (λ (t : ℕ). get_or (cleared w a n) t 0 ≡ get_or w k 0) p (past-front (n + j) ∙ past ∙ ap (λ (t : ℕ). get_or w t 0) q)
      ]

  pub cleared-only : OnlyIn a n w (cleared w a n)
  cleared-only = record { same_length = cleared-length; outside = cleared-outside }

  -- what is zero in the region and else as before is the table cleared
  pub cleared-unique : {x : List ℕ} → OnlyIn a n w x → IsZero x a n → x ≡ cleared w a n
  cleared-unique o z = only-equal (only-trans (only-sym cleared-only) o) (λ i h. z i h ∙ sym (cleared-zero i h))

-- ---- the first places of the table

pub first-cleared : (n : ℕ) (w : List ℕ) → n ≤ length w → zero_first n w ≡ cleared w 0 n
first-cleared n w h = let e : length {A = ℕ} (replicate n 0) ≡ 0 + n = omega (arith, length-replicate {A = ℕ} n 0) in ap (λ (k : ℕ). replicate n 0 ++ drop k w) e

-- the first places are zero and the rest is as lent
pub first-unique : (n : ℕ) {w x : List ℕ} → n ≤ length w → OnlyIn 0 n w x → IsZero x 0 n → x ≡ zero_first n w
first-unique n {w} h o z = cleared-unique w 0 n (omega arith) o z ∙ sym (first-cleared n w h)

pub first-same : (n : ℕ) (w : List ℕ) → n ≤ length w → IsZero w 0 n → zero_first n w ≡ w
first-same n w h z = sym (first-unique n h only-refl z)
