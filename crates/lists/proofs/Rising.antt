-- Rising lists: their members lie within the bounds and not below the first, so they are short; two with the same members are equal; the numbers from
-- i on. Assumes nothing.
use mathlib.Core.Path.{◌≡◌, refl, sym, ap, subst}
use mathlib.Core.Logic.{inl, inr}
use mathlib.Core.Bool.{true, ◌&&◌}
use mathlib.Core.List.{List, [], ◌∷◌}
use Prim.Native.Nat.{ℕ, zero, suc, ◌+◌, ◌≤◌, ◌<◌}
use native.Mathlib.Omega.{arith}
use lib.Dec.{leb}
use lib.ListN.{length, get_or, get_or-eq_default}
use borrow.Author.Tests.{leb-true, le-leb}
use Rattle.lists.specs.Lists.{Mem, first, later, rises, up_from}
use Rattle.lists.proofs.Tests.{eq-or-ne, lt-or-le, and_both, both-and}
use Rattle.lists.proofs.Member.{place-mem}

pub rises-in : {x : ℕ} (a b : ℕ) {xs : List ℕ} → Mem x xs → rises a b xs ≡ true → (a ≤ x) × (x ≤ b)
unfolding rises
rises-in {x} a b (first {xs}) h =
    let t : ((leb a x && leb x b) ≡ true) × (rises (suc x) b xs ≡ true) = and_both (leb a x && leb x b) (rises (suc x) b xs) h in
    let u : (leb a x ≡ true) × (leb x b ≡ true) = and_both (leb a x) (leb x b) t.0 in
    (leb-true a x u.0, leb-true x b u.1)
rises-in a b (later {x = y} {xs = xs} m) h =
    let t : ((leb a y && leb y b) ≡ true) × (rises (suc y) b xs ≡ true) = and_both (leb a y && leb y b) (rises (suc y) b xs) h in
    let u : (leb a y ≡ true) × (leb y b ≡ true) = and_both (leb a y) (leb y b) t.0 in
    let v : (suc y ≤ _) × (_ ≤ b) = rises-in (suc y) b m t.1 in
    (omega (arith, leb-true a y u.0), v.1)

-- what stands at a place, 0 past the end, is at most the bound
pub rises-high : (a b : ℕ) (xs : List ℕ) → rises a b xs ≡ true → (i : ℕ) → get_or xs i 0 ≤ b
rises-high a b xs e i =
    elim (lt-or-le i (length xs)) [
      | inl h ↦ (rises-in a b (place-mem xs i 0 h) e).1
      | inr h ↦ omega (arith, get_or-eq_default xs 0 h)
    ]

-- no member is below the first
pub rises-first : {x y : ℕ} (a b : ℕ) {ys : List ℕ} → Mem x (y ∷ ys) → rises a b (y ∷ ys) ≡ true → y ≤ x
unfolding rises
rises-first a b first h = omega arith
rises-first {x} {y} a b {ys} (later m) h =
    let t : (suc y ≤ x) × (x ≤ b) = rises-in (suc y) b m (and_both (leb a y && leb y b) (rises (suc y) b ys) h).1 in omega arith

pub rises-weaken : (a b c : ℕ) (xs : List ℕ) → c ≤ a → rises a b xs ≡ true → rises c b xs ≡ true
unfolding rises
rises-weaken a b c [] h k = refl
rises-weaken a b c (x ∷ xs) h k =
    let t : ((leb a x && leb x b) ≡ true) × (rises (suc x) b xs ≡ true) = and_both (leb a x && leb x b) (rises (suc x) b xs) k in
    let u : (leb a x ≡ true) × (leb x b ≡ true) = and_both (leb a x) (leb x b) t.0 in
    both-and (both-and (le-leb c x (omega (arith, leb-true a x u.0))) u.1) t.1

-- a rising list is no longer than its bounds allow
pub rises-length : (a b : ℕ) (xs : List ℕ) → a ≤ suc b → rises a b xs ≡ true → length xs + a ≤ suc b
unfolding rises
rises-length a b [] l h = omega arith
rises-length a b (x ∷ xs) l h =
    let t : (a ≤ x) × (x ≤ b) = rises-in {x = x} a b (first {xs = xs}) h in
    omega (arith, rises-length (suc x) b xs (omega arith) (and_both (leb a x && leb x b) (rises (suc x) b xs) h).1)

-- ---- two rising lists with the same members are equal

abbrev pub Within : List ℕ → List ℕ → Type 0
Within xs ys = (x : ℕ) → Mem x xs → Mem x ys

pub rising-unique : (a b : ℕ) (xs ys : List ℕ) → rises a b xs ≡ true → rises a b ys ≡ true → Within xs ys → Within ys xs → xs ≡ ys
unfolding rises
rising-unique a b [] [] h k f g = refl
rising-unique a b [] (y ∷ ys) h k f g = elim (g y first) [ ]
rising-unique a b (x ∷ xs) [] h k f g = elim (f x first) [ ]
rising-unique a b (x ∷ xs) (y ∷ ys) h k f g =
    let t : ((leb a x && leb x b) ≡ true) × (rises (suc x) b xs ≡ true) = and_both (leb a x && leb x b) (rises (suc x) b xs) h in
    let u : ((leb a y && leb y b) ≡ true) × (rises (suc y) b ys ≡ true) = and_both (leb a y && leb y b) (rises (suc y) b ys) k in
    let p : x ≡ y = heads x y xs ys t.1 u.1 (f x first) (g y first) in
    let v : rises (suc x) b ys ≡ true = subst (λ (z : ℕ). rises (suc z) b ys ≡ true) (sym p) u.1 in
    rw (p, rising-unique (suc x) b xs ys t.1 v (λ z m. tails z x y xs ys p t.1 m (f z (later m))) (λ z m. tails z y x ys xs (sym p) u.1 m (g z (later m))))
  where
    heads : (x y : ℕ) (xs ys : List ℕ) → rises (suc x) b xs ≡ true → rises (suc y) b ys ≡ true → Mem x (y ∷ ys) → Mem y (x ∷ xs) → x ≡ y
    heads x y xs ys p q first n = refl
    heads x y xs ys p q (later m) first = refl
    heads x y xs ys p q (later m) (later n) =
        let v : (suc y ≤ x) × (x ≤ b) = rises-in (suc y) b m q in let w : (suc x ≤ y) × (y ≤ b) = rises-in (suc x) b n p in absurd (omega arith)

    tails : (z x y : ℕ) (xs ys : List ℕ) → x ≡ y → rises (suc x) b xs ≡ true → Mem z xs → Mem z (y ∷ ys) → Mem z ys
    tails z x y xs ys e p m first = let v : (suc x ≤ z) × (z ≤ b) = rises-in (suc x) b m p in absurd (omega arith)
    tails z x y xs ys e p m (later n) = n

-- ---- the numbers from i on

pub up-from : (i n x : ℕ) → i ≤ x → x < i + n → Mem x (up_from i n)
unfolding up_from
up-from i zero x a b = absurd (omega arith)
up-from i (suc n) x a b =
    elim (eq-or-ne i x) [
      | inl q ↦ subst (λ (y : ℕ). Mem y (i ∷ up_from (suc i) n)) q first
      | inr q ↦ later (up-from (suc i) n x (omega arith) (omega arith))
    ]

pub from_up : {x : ℕ} (i n : ℕ) → Mem x (up_from i n) → (i ≤ x) × (x < i + n)
unfolding up_from
from_up i zero m = elim m [ ]
from_up {x} i (suc n) m = go x m (λ k. from_up (suc i) n k)
  where
    go : (x : ℕ) → Mem x (i ∷ up_from (suc i) n) → (Mem x (up_from (suc i) n) → (suc i ≤ x) × (x < suc i + n)) → (i ≤ x) × (x < i + suc n)
    go x first f = omega arith
    go x (later m) f = let v : (suc i ≤ x) × (x < suc i + n) = f m in omega arith

pub up-length : (i n : ℕ) → length (up_from i n) ≡ n
unfolding up_from
up-length i zero = refl
up-length i (suc n) = ap suc (up-length (suc i) n)

pub up_at : (i n k : ℕ) → k < n → get_or (up_from i n) k 0 ≡ i + k
unfolding up_from
up_at i zero k h = absurd (omega arith)
up_at i (suc n) zero h = omega arith
up_at i (suc n) (suc k) h = omega (arith, up_at (suc i) n k (omega arith))
