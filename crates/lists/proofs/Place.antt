-- Numbered places: a value put at a number, the values at a list of numbers, a list written over the front of another, a list with zeros behind it. Assumes
-- nothing.
use mathlib.Core.Path.{◌≡◌, refl, sym, ap, subst, ◌∙◌}
use mathlib.Core.Logic.{◌≢◌}
use mathlib.Core.Bool.{true}
use mathlib.Core.List.{List, [], ◌∷◌, ◌++◌, append_assoc}
use Prim.Native.Nat.{ℕ, zero, suc, ◌+◌, ◌-◌, ◌≤◌, ◌<◌}
use native.Mathlib.Omega.{arith}
use native.Mathlib.Numerals.{add-one}
use lib.ListN.{length, get_or, drop, set, length-append, length-drop, length-set, replicate, length-replicate, get_or-replicate}
use lib.Seq.{get_or-set_same, get_or-set_other, set-get_or, drop-cons, set_at, get_or-append-add}
use borrow.Author.Tests.{eq-eqb}
use Rattle.lists.specs.Lists.{Mem, first, later, all_zero, times, at, put, values_at, over}
use Rattle.lists.proofs.Tests.{both-and}
use Rattle.lists.proofs.Times.{times-self, times-cons, differs}

-- ---- a value put at a number

pub put-length : (xs : List ℕ) (k v : ℕ) → length (put xs k v) ≡ length xs
put-length xs k v = length-set xs (k - 1) v

pub at-put-same : (xs : List ℕ) (k v : ℕ) → 1 ≤ k → k ≤ length xs → at (put xs k v) k ≡ v
at-put-same xs k v p q = get_or-set_same xs (k - 1) v 0 (omega arith)

pub at-put-other : (xs : List ℕ) (k r v : ℕ) → 1 ≤ k → 1 ≤ r → r ≢ k → at (put xs k v) r ≡ at xs r
at-put-other xs k r v p q n = get_or-set_other xs (k - 1) (r - 1) v 0 (λ e. n (omega arith))

pub put_same : (xs : List ℕ) (k : ℕ) → put xs k (at xs k) ≡ xs
put_same xs k = set-get_or xs (k - 1) 0

-- ---- the values at a list of numbers

pub values-append : (xs rs ss : List ℕ) → values_at xs (rs ++ ss) ≡ values_at xs rs ++ values_at xs ss
unfolding values_at
values-append xs [] ss = refl
values-append xs (r ∷ rs) ss = ap (λ (l : List ℕ). at xs r ∷ l) (values-append xs rs ss)

pub values_one : (xs : List ℕ) (r : ℕ) → values_at xs (r ∷ []) ≡ at xs r ∷ []
unfolding values_at
values_one xs r = refl

pub values_length : (xs rs : List ℕ) → length (values_at xs rs) ≡ length rs
unfolding values_at
values_length xs [] = refl
values_length xs (r ∷ rs) = ap suc (values_length xs rs)

pub values-place : (xs rs : List ℕ) (k : ℕ) → k < length rs → get_or (values_at xs rs) k 0 ≡ at xs (get_or rs k 0)
unfolding values_at
values-place xs [] k h = absurd (omega arith)
values-place xs (r ∷ rs) zero h = refl
values-place xs (r ∷ rs) (suc k) h = values-place xs rs k (omega arith)

-- what a list has for one of some numbers is among what it has for them, and each of that it has for one of them
pub values-mem : (xs : List ℕ) {x : ℕ} {rs : List ℕ} → Mem x rs → Mem (at xs x) (values_at xs rs)
unfolding values_at
values-mem xs first = first
values-mem xs (later m) = later (values-mem xs m)

pub mem-values : (xs rs : List ℕ) {i : ℕ} → Mem i (values_at xs rs) → (x : ℕ) × Mem x rs × (at xs x ≡ i)
unfolding values_at
mem-values xs [] h = elim h [ ]
mem-values xs (r ∷ rs) first = (r, first, refl)
mem-values xs (r ∷ rs) {i} (later h) = let t : (x : ℕ) × Mem x rs × (at xs x ≡ i) = mem-values xs rs h in (t.0, later t.1, t.2)

pub values-zero : (xs rs : List ℕ) → ((x : ℕ) → 1 ≤ times x rs → at xs x ≡ 0) → all_zero (values_at xs rs) ≡ true
unfolding values_at all_zero
values-zero xs [] h = refl
values-zero xs (r ∷ rs) h = both-and (eq-eqb (at xs r) 0 (h r (omega (arith, times-self r rs)))) (values-zero xs rs (λ x n. h x (omega (arith, times-cons x r rs))))

pub values-frame : (xs ys rs : List ℕ) → ((r : ℕ) → 1 ≤ times r rs → at ys r ≡ at xs r) → values_at ys rs ≡ values_at xs rs
unfolding values_at
values-frame xs ys [] same = refl
values-frame xs ys (r ∷ rs) same =
    rw (same r (omega (arith, times-self r rs)), values-frame xs ys rs (λ x q. same x (omega (arith, times-cons x r rs)))) refl

-- values that a replaced one is not among
pub values-put : (xs rs : List ℕ) (q v : ℕ) → 1 ≤ q → ((x : ℕ) → 1 ≤ times x rs → 1 ≤ x) → times q rs ≡ 0 → values_at (put xs q v) rs ≡ values_at xs rs
values-put xs rs q v p low n = values-frame xs (put xs q v) rs (λ x h. at-put-other xs q x v p (low x h) (differs x q rs h n))

-- ---- a list written over the front of another

pub over-push : (xs old : List ℕ) (n v : ℕ) → length xs ≡ n → n < length old → set (over xs old) n v ≡ over (xs ++ (v ∷ [])) old
over-push xs old n v e h =
    rw (drop-cons old (length xs) 0 (subst (λ (k : ℕ). k < length old) (sym e) h))
    (set_at xs (get_or old (length xs) 0) (drop (suc (length xs)) old) v n e ∙
    sym (append_assoc xs (v ∷ []) (drop (length (xs ++ (v ∷ []))) old) ∙ ap (λ (k : ℕ). xs ++ (v ∷ drop k old)) (length-append xs (v ∷ []) ∙ add-one (length xs))))

pub over-length : {A : Type 0} (xs old : List A) → length xs ≤ length old → length (over xs old) ≡ length old
over-length xs old h = simp (length-append, length-drop) (omega arith)

-- ---- a list, then zeros

pub padded-length : (xs : List ℕ) (m f : ℕ) → length xs ≡ m → m ≤ f → length (xs ++ replicate (f - m) 0) ≡ f
padded-length xs m f e h = omega (arith, length-append xs (replicate (f - m) 0), length-replicate {A = ℕ} (f - m) 0)

pub padded-back : (xs : List ℕ) (n i : ℕ) → length xs ≤ i → i < length xs + n → get_or (xs ++ replicate n 0) i 0 ≡ 0
padded-back xs n i a b =
    let q : i ≡ length xs + (i - length xs) = omega arith in
    ap (λ (k : ℕ). get_or (xs ++ replicate n 0) k 0) q ∙ get_or-append-add xs (replicate n 0) (i - length xs) 0 ∙ get_or-replicate n (i - length xs) 0 0 (omega arith)
