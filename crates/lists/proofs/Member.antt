-- Members of a list, of any type, the places where they stand, and the tests all, any, among, no_repeats and same that speak of them. Assumes nothing.
use mathlib.Core.Path.{◌≡◌, refl, ap, subst}
use mathlib.Core.Logic.{◌⊎◌, inl, inr}
use mathlib.Core.Bool.{Bool, true, false≢true}
use mathlib.Core.List.{List, [], ◌∷◌, ◌++◌}
use Prim.Native.Nat.{ℕ, zero, suc, ◌<◌}
use native.Mathlib.Omega.{arith}
use lib.Dec.{eqb}
use lib.ListN.{length, get_or}
use borrow.Author.Tests.{eqb-true, eq-eqb}
use Rattle.lists.specs.Lists.{Mem, first, later, all, any, among, same, all_zero}
use Rattle.lists.proofs.Tests.{and_both, both-and, or-either, or_left, or_right}

module _ {A : Type 0} where
  pub mem-left : {a : A} {xs : List A} (ys : List A) → Mem a xs → Mem a (xs ++ ys)
  mem-left ys first = first
  mem-left ys (later m) = later (mem-left ys m)

  pub mem-right : {a : A} (xs : List A) {ys : List A} → Mem a ys → Mem a (xs ++ ys)
  mem-right [] m = m
  mem-right (x ∷ xs) m = later (mem-right xs m)

  pub mem-either : {a : A} (xs : List A) {ys : List A} → Mem a (xs ++ ys) → Mem a xs ⊎ Mem a ys
  mem-either [] m = inr m
  mem-either (x ∷ xs) first = inl first
  mem-either (x ∷ xs) (later m) = elim (mem-either xs m) [ inl h ↦ inl (later h) | inr h ↦ inr h ]

  -- a list cut at a member
  pub split-mem : {a : A} {xs : List A} → Mem a xs → (ys : List A) × (zs : List A) × (xs ≡ ys ++ (a ∷ zs))
  split-mem (first {xs}) = ([], xs, refl)
  split-mem {a} (later {x} {xs} m) =
      let t : (ys : List A) × (zs : List A) × (xs ≡ ys ++ (a ∷ zs)) = split-mem m in
      (x ∷ t.0, t.1, ap {B = List A} (λ l. x ∷ l) t.2)

  -- a member stands at a place, and a place holds a member
  pub mem-place : (d : A) {a : A} {xs : List A} → Mem a xs → (k : ℕ) × (k < length xs) × (get_or xs k d ≡ a)
  mem-place d first = (0, omega arith, refl)
  mem-place d {a} (later {x} {xs} m) =
      let t : (k : ℕ) × (k < length xs) × (get_or xs k d ≡ a) = mem-place d m in (suc t.0, omega arith, t.2)

  pub place-mem : (xs : List A) (k : ℕ) (d : A) → k < length xs → Mem (get_or xs k d) xs
  place-mem [] k d h = absurd (omega arith)
  place-mem (x ∷ xs) zero d h = first
  place-mem (x ∷ xs) (suc k) d h = later (place-mem xs k d (omega arith))

  -- ---- any and all

  pub any-find : (f : A → Bool) (xs : List A) → any f xs ≡ true → (x : A) × Mem x xs × (f x ≡ true)
  unfolding any
  any-find f [] h = absurd (false≢true h)
  any-find f (x ∷ xs) h =
      elim (or-either (f x) (any f xs) h) [
        | inl e ↦ (x, first, e)
        | inr e ↦ let t : (y : A) × Mem y xs × (f y ≡ true) = any-find f xs e in (t.0, later t.1, t.2)
      ]

  pub any-has : (f : A → Bool) {x : A} {xs : List A} → Mem x xs → f x ≡ true → any f xs ≡ true
  unfolding any
  any-has f {x} (first {xs}) e = or_left (f x) (any f xs) e
  any-has f (later {x = y} {xs = xs} m) e = or_right (f y) (any f xs) (any-has f m e)

  pub all-at : (f : A → Bool) {x : A} {xs : List A} → Mem x xs → all f xs ≡ true → f x ≡ true
  unfolding all
  all-at f {x} (first {xs}) h = (and_both (f x) (all f xs) h).0
  all-at f (later {x = y} {xs = xs} m) h = all-at f m (and_both (f y) (all f xs) h).1

  pub all-make : (f : A → Bool) (xs : List A) → ((x : A) → Mem x xs → f x ≡ true) → all f xs ≡ true
  unfolding all
  all-make f [] h = refl
  all-make f (x ∷ xs) h = both-and (h x first) (all-make f xs (λ y m. h y (later m)))

-- ---- numbers

pub among-mem : (x : ℕ) (ys : List ℕ) → among x ys ≡ true → Mem x ys
unfolding among
among-mem x [] h = absurd (false≢true h)
among-mem x (y ∷ ys) h =
    elim (or-either (eqb x y) (among x ys) h) [
      | inl e ↦ subst (λ (z : ℕ). Mem x (z ∷ ys)) (eqb-true x y e) first
      | inr e ↦ later (among-mem x ys e)
    ]

pub mem-among : {x : ℕ} {ys : List ℕ} → Mem x ys → among x ys ≡ true
unfolding among
mem-among {x} (first {xs}) = or_left (eqb x x) (among x xs) (eq-eqb x x refl)
mem-among {x} (later {x = y} {xs = xs} m) = or_right (eqb x y) (among x xs) (mem-among m)

pub same-eq : (xs ys : List ℕ) → same xs ys ≡ true → xs ≡ ys
unfolding same
same-eq [] [] h = refl
same-eq [] (y ∷ ys) h = absurd (false≢true h)
same-eq (x ∷ xs) [] h = absurd (false≢true h)
same-eq (x ∷ xs) (y ∷ ys) h =
    let t : (eqb x y ≡ true) × (same xs ys ≡ true) = and_both (eqb x y) (same xs ys) h in
    rw (eqb-true x y t.0, same-eq xs ys t.1)

pub same_self : (xs : List ℕ) → same xs xs ≡ true
unfolding same
same_self [] = refl
same_self (x ∷ xs) = both-and (eq-eqb x x refl) (same_self xs)

pub eq-same : {xs ys : List ℕ} → xs ≡ ys → same xs ys ≡ true
eq-same {xs} {ys} e = rw e (same_self ys)

pub zero-at : {x : ℕ} {xs : List ℕ} → Mem x xs → all_zero xs ≡ true → x ≡ 0
unfolding all_zero
zero-at {x} (first {xs}) h = eqb-true x 0 (and_both (eqb x 0) (all_zero xs) h).0
zero-at (later {x = y} {xs = xs} m) h = zero-at m (and_both (eqb y 0) (all_zero xs) h).1
