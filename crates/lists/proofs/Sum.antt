-- Sums over a list, of any type: of two lists in a row, of tests, of two functions, by places. Assumes nothing.
use mathlib.Core.Path.{◌≡◌, refl, ap}
use mathlib.Core.Logic.{inl, inr}
use mathlib.Core.Bool.{Bool, true}
use mathlib.Core.List.{List, [], ◌∷◌, ◌++◌}
use Prim.Native.Nat.{ℕ, suc, ◌+◌, ◌-◌, ◌≤◌, ◌<◌}
use native.Mathlib.Omega.{arith}
use lib.ListN.{length, get_or}
use Rattle.lists.specs.Lists.{one, Mem, first, later, sum_of, up_from}
use Rattle.lists.proofs.Tests.{cases, pos-one}
use Rattle.lists.proofs.Rising.{from_up}

module _ {A : Type 0} where
  pub sum-append : (f : A → ℕ) (xs ys : List A) → sum_of f (xs ++ ys) ≡ sum_of f xs + sum_of f ys
  unfolding sum_of
  sum-append f [] ys = omega arith
  sum-append f (x ∷ xs) ys = omega (arith, sum-append f xs ys)

  pub sum-find : (f : A → Bool) (xs : List A) → 0 < sum_of (λ x. one (f x)) xs → (x : A) × Mem x xs × (f x ≡ true)
  unfolding sum_of
  sum-find f [] h = absurd (omega arith)
  sum-find f (x ∷ xs) h =
      elim (cases (f x)) [
        | inl e ↦ (x, first, e)
        | inr e ↦ let t : (y : A) × Mem y xs × (f y ≡ true) = sum-find f xs (omega (arith, ap one e)) in (t.0, later t.1, t.2)
      ]

  pub sum-has : (f : A → Bool) {x : A} {xs : List A} → Mem x xs → f x ≡ true → 0 < sum_of (λ x. one (f x)) xs
  unfolding sum_of
  sum-has f {x} (first {xs}) e = omega (arith, pos-one (f x) e)
  sum-has f (later {x = y} {xs = xs} m) e = omega (arith, sum-has f m e)

  pub sum-length : (xs : List A) → sum_of (λ x. 1) xs ≡ length xs
  unfolding sum_of
  sum-length [] = refl
  sum-length (x ∷ xs) = omega (arith, sum-length xs)

  pub sum-le : (f g : A → ℕ) (xs : List A) → ((x : A) → Mem x xs → f x ≤ g x) → sum_of f xs ≤ sum_of g xs
  unfolding sum_of
  sum-le f g [] h = omega arith
  sum-le f g (x ∷ xs) h = omega (arith, h x first, sum-le f g xs (λ y m. h y (later m)))

  pub sum-ext : (f g : A → ℕ) (xs : List A) → ((x : A) → Mem x xs → f x ≡ g x) → sum_of f xs ≡ sum_of g xs
  unfolding sum_of
  sum-ext f g [] h = refl
  sum-ext f g (x ∷ xs) h = omega (arith, h x first, sum-ext f g xs (λ y m. h y (later m)))

  pub sum-zero : (f : A → ℕ) (xs : List A) → ((x : A) → Mem x xs → f x ≡ 0) → sum_of f xs ≡ 0
  unfolding sum_of
  sum-zero f [] h = refl
  sum-zero f (x ∷ xs) h = omega (arith, h x first, sum-zero f xs (λ y m. h y (later m)))

  pub sum-plus : (f g : A → ℕ) (xs : List A) → sum_of (λ x. f x + g x) xs ≡ sum_of f xs + sum_of g xs
  unfolding sum_of
  sum-plus f g [] = omega arith
  sum-plus f g (x ∷ xs) = omega (arith, sum-plus f g xs)

-- by places, the first of which is numbered i
pub sum-places : {A : Type 0} (f : A → ℕ) (xs : List A) (d : A) (i : ℕ) → sum_of f xs ≡ sum_of (λ j. f (get_or xs (j - i) d)) (up_from i (length xs))
unfolding sum_of up_from
sum-places f [] d i = refl
sum-places f (x ∷ xs) d i =
    let head : i - i ≡ 0 = omega arith in
    let tail : sum_of (λ j. f (get_or xs (j - suc i) d)) (up_from (suc i) (length xs)) ≡ sum_of (λ j. f (get_or (x ∷ xs) (j - i) d)) (up_from (suc i) (length xs)) =
    sum-ext (λ j. f (get_or xs (j - suc i) d)) (λ j. f (get_or (x ∷ xs) (j - i) d)) (up_from (suc i) (length xs)) (λ j n.
    let b : (suc i ≤ j) × (j < suc i + length xs) = from_up (suc i) (length xs) n in
    let q : suc (j - suc i) ≡ j - i = omega arith in
    ap (λ (k : ℕ). f (get_or (x ∷ xs) k d)) q) in
    omega (arith, sum-places f xs d (suc i), ap (λ (k : ℕ). f (get_or (x ∷ xs) k d)) head)
