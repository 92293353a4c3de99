-- How many of 1 to n pass a test: finding one, comparing two tests, a test that differs at one number, one test for some numbers and another for the rest. Assumes nothing.
use mathlib.Core.Path.{◌≡◌, refl, ap}
use mathlib.Core.Logic.{inl, inr, ◌≢◌}
use mathlib.Core.Bool.{Bool, true, false, ◌&&◌}
use Prim.Native.Nat.{ℕ, zero, suc, ◌+◌, ◌≤◌, ◌<◌}
use native.Mathlib.Omega.{arith}
use Rattle.lists.specs.Lists.{pick, one, count}
use Rattle.lists.proofs.Tests.{cases, eq-or-ne, pos-one, one-le}

pub count-ext : (f g : ℕ → Bool) (n : ℕ) → ((c : ℕ) → 1 ≤ c → c ≤ n → f c ≡ g c) → count f n ≡ count g n
unfolding count
count-ext f g zero h = refl
count-ext f g (suc n) h = rw (count-ext f g n (λ c a b. h c a (omega arith)), h (suc n) (omega arith) (omega arith))

-- ---- finding one that passes

pub count-find : (f : ℕ → Bool) (n : ℕ) → 0 < count f n → (c : ℕ) × (1 ≤ c) × (c ≤ n) × (f c ≡ true)
unfolding count
count-find f zero h = absurd (omega arith)
count-find f (suc n) h =
    elim (cases (f (suc n))) [
      | inl e ↦ (suc n, omega arith, omega arith, e)
      | inr e ↦
          let r : (c : ℕ) × (1 ≤ c) × (c ≤ n) × (f c ≡ true) = count-find f n (omega (arith, ap one e)) in
          (r.0, r.1, omega arith, r.3)
    ]

pub count-has : (f : ℕ → Bool) (n c : ℕ) → 1 ≤ c → c ≤ n → f c ≡ true → 0 < count f n
unfolding count
count-has f zero c a b e = absurd (omega arith)
count-has f (suc n) c a b e =
    elim (eq-or-ne c (suc n)) [
      | inl q ↦ omega (arith, pos-one (f (suc n)) (rw q at e))
      | inr q ↦ omega (arith, count-has f n c a (omega arith) e)
    ]

-- ---- comparing

-- past k none passes
pub count_cut : (f : ℕ → Bool) (k n : ℕ) → k ≤ n → ((c : ℕ) → k < c → c ≤ n → f c ≡ false) → count f n ≡ count f k
unfolding count
count_cut f k zero h z = rw (zero_of k h)
  where
    zero_of : (k : ℕ) → k ≤ 0 → k ≡ 0
    zero_of k h = omega arith
count_cut f k (suc n) h z =
    elim (eq-or-ne k (suc n)) [
      | inl q ↦ rw q refl
      | inr q ↦ omega (arith, ap one (z (suc n) (omega arith) (omega arith)), count_cut f k n (omega arith) (λ c a b. z c a (omega arith)))
    ]

pub count-le : (f : ℕ → Bool) (n : ℕ) → count f n ≤ n
unfolding count
count-le f zero = omega arith
count-le f (suc n) = omega (arith, count-le f n, one-le (f (suc n)))

pub count-sub : (f g : ℕ → Bool) (n : ℕ) → ((c : ℕ) → 1 ≤ c → c ≤ n → f c ≡ true → g c ≡ true) → count f n ≤ count g n
unfolding count
count-sub f g zero h = omega arith
count-sub f g (suc n) h =
    let ih : count f n ≤ count g n = count-sub f g n (λ c a b. h c a (omega arith)) in
    elim (cases (f (suc n))) [
      | inl e ↦ omega (arith, ap one e, ap one (h (suc n) (omega arith) (omega arith) e))
      | inr e ↦ omega (arith, ap one e)
    ]

pub count-full : (f g : ℕ → Bool) (n : ℕ) → ((c : ℕ) → 1 ≤ c → c ≤ n → f c ≡ true → g c ≡ true) → count g n ≤ count f n →
    (c : ℕ) → 1 ≤ c → c ≤ n → g c ≡ true → f c ≡ true
unfolding count
count-full f g zero h l c a b e = absurd (omega arith)
count-full f g (suc n) h l c a b e =
    let s : count f n ≤ count g n = count-sub f g n (λ x p q. h x p (omega arith)) in
    let up : one (f (suc n)) ≤ one (g (suc n)) =
    elim (cases (f (suc n))) [
      | inl d ↦ omega (arith, ap one d, ap one (h (suc n) (omega arith) (omega arith) d))
      | inr d ↦ omega (arith, ap one d)
    ] in
    elim (eq-or-ne c (suc n)) [
      | inl q ↦ elim (cases (f c)) [
        | inl d ↦ d
        | inr d ↦ absurd (omega (arith, ap one d, ap one e, ap (λ (x : ℕ). one (f x)) q, ap (λ (x : ℕ). one (g x)) q))
      ]
      | inr q ↦ count-full f g n (λ x p w. h x p (omega arith)) (omega arith) c a (omega arith) e
    ]

-- two tests that differ at one number
pub count_at : (f g : ℕ → Bool) (n k : ℕ) → 1 ≤ k → k ≤ n → ((c : ℕ) → 1 ≤ c → c ≤ n → c ≢ k → f c ≡ g c) → count f n + one (g k) ≡ count g n + one (f k)
unfolding count
count_at f g zero k a b h = absurd (omega arith)
count_at f g (suc n) k a b h =
    elim (eq-or-ne k (suc n)) [
      | inl q ↦ rw q (omega (arith, count-ext f g n (λ c x y. h c x (omega arith) (omega arith))))
      | inr q ↦ omega (arith, count_at f g n k a (omega arith) (λ c x y z. h c x (omega arith) z), ap one (h (suc n) (omega arith) (omega arith) (omega arith)))
    ]

pub count-shift : (f : ℕ → Bool) (n : ℕ) → count f (suc n) ≡ one (f 1) + count (λ i. f (suc i)) n
unfolding count
count-shift f zero = omega arith
count-shift f (suc n) = omega (arith, count-shift f n)

-- numbers that pass h counted by g, the others by f
pub count-split : (h f g : ℕ → Bool) (n : ℕ) → count (λ c. pick (h c) (g c) (f c)) n + count (λ c. h c && f c) n ≡ count f n + count (λ c. h c && g c) n
unfolding count
count-split h f g zero = refl
count-split h f g (suc n) = omega (arith, count-split h f g n, at_one (h (suc n)) (f (suc n)) (g (suc n)))
  where
    at_one : (a x y : Bool) → one (pick a y x) + one (a && x) ≡ one x + one (a && y)
    at_one true x y = omega arith
    at_one false x y = refl
