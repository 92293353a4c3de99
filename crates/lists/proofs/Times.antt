-- How often a number stands in a list. Separation of lists is linear arithmetic on these counts, for omega. Assumes nothing.
use mathlib.Core.Bool.{true, false, not, true≢false}
use mathlib.Core.Path.{◌≡◌, refl, sym, ap, subst, ◌∙◌}
use mathlib.Core.Logic.{inl, inr, ◌≢◌}
use mathlib.Core.List.{List, [], ◌∷◌, ◌++◌}
use Prim.Native.Nat.{ℕ, ◌+◌, ◌≤◌}
use native.Mathlib.Omega.{arith}
use borrow.Author.Tests.{eq-eqb, ne_eqb, not-true}
use lib.Dec.{eqb}
use lib.ListN.{length}
use Rattle.lists.specs.Lists.{one, Mem, first, later, among, no_repeats, count, times}
use Rattle.lists.proofs.Tests.{cases, eq-or-ne, zero-or-pos, and_both, one-le}
use Rattle.lists.proofs.Member.{among-mem, mem-among}
use Rattle.lists.proofs.Count.{count_cut, count-le, count_at}

pub times-nil : (x : ℕ) → times x [] ≡ 0
unfolding times
times-nil x = refl

pub times-self : (x : ℕ) (ys : List ℕ) → times x (x ∷ ys) ≡ 1 + times x ys
unfolding times
times-self x ys = rw (eq-eqb x x refl) refl

pub times-other : (x y : ℕ) (ys : List ℕ) → (x ≡ y → ⊥) → times x (y ∷ ys) ≡ times x ys
unfolding times
times-other x y ys p = rw (ne_eqb x y p) (omega arith)

pub times-append : (x : ℕ) (xs ys : List ℕ) → times x (xs ++ ys) ≡ times x xs + times x ys
unfolding times
times-append x [] ys = omega arith
times-append x (z ∷ zs) ys = let h : times x (zs ++ ys) ≡ times x zs + times x ys = times-append x zs ys in omega arith

pub times-length : (x : ℕ) (xs : List ℕ) → times x xs ≤ length xs
unfolding times
times-length x [] = omega arith
times-length x (y ∷ ys) = omega (arith, times-length x ys, one-le (eqb x y))

-- one at the front counts apart
pub times-cons : (x y : ℕ) (ys : List ℕ) → times x (y ∷ ys) ≡ times x (y ∷ []) + times x ys
times-cons x y ys = times-append x (y ∷ []) ys

pub apart : (x y : ℕ) (ys : List ℕ) → times x (y ∷ ys) ≡ 0 → x ≢ y
apart x y ys h e = let k : times x (x ∷ ys) ≡ 0 = rw (← e) at h in omega (arith, times-self x ys)

-- a number that stands here is not one that stands nowhere here
pub differs : (x y : ℕ) (rs : List ℕ) → 1 ≤ times x rs → times y rs ≡ 0 → x ≢ y
differs x y rs p q e = let h : times x rs ≡ 0 = rw e q in omega arith

pub times-mid : (x : ℕ) (ds : List ℕ) (p : ℕ) (bs : List ℕ) → times x (ds ++ (p ∷ bs)) ≡ times x ds + (times x (p ∷ []) + times x bs)
times-mid x ds p bs = times-append x ds (p ∷ bs) ∙ ap (λ (n : ℕ). times x ds + n) (times-cons x p bs)

-- ---- members and repeats

pub mem-times : {x : ℕ} {ys : List ℕ} → Mem x ys → 1 ≤ times x ys
mem-times {x} (first {xs}) = omega (arith, times-self x xs)
mem-times {x} (later {x = y} {xs = ys} m) = omega (arith, times-cons x y ys, mem-times m)

pub times-mem : (x : ℕ) (ys : List ℕ) → 1 ≤ times x ys → Mem x ys
times-mem x [] h = absurd (omega (arith, times-nil x))
times-mem x (y ∷ ys) h =
    elim (eq-or-ne x y) [
      | inl q ↦ subst (λ (z : ℕ). Mem x (z ∷ ys)) q first
      | inr q ↦ later (times-mem x ys (omega (arith, times-other x y ys q)))
    ]

pub among_none : (x : ℕ) (ys : List ℕ) → times x ys ≡ 0 → among x ys ≡ false
among_none x ys e = elim (cases (among x ys)) [ inr h ↦ h | inl h ↦ absurd (omega (arith, mem-times (among-mem x ys h))) ]

pub among-some : (x : ℕ) (ys : List ℕ) → 1 ≤ times x ys → among x ys ≡ true
among-some x ys h = mem-among (times-mem x ys h)

pub none-among : (x : ℕ) (ys : List ℕ) → among x ys ≡ false → times x ys ≡ 0
none-among x ys h = elim (zero-or-pos (times x ys)) [ inl z ↦ z | inr p ↦ absurd (true≢false (sym (among-some x ys p) ∙ h)) ]

pub once-of : (rs : List ℕ) → no_repeats rs ≡ true → (x : ℕ) → times x rs ≤ 1
unfolding no_repeats
once-of [] e x = omega (arith, times-nil x)
once-of (r ∷ rs) e x =
    let b : (not (among r rs) ≡ true) × (no_repeats rs ≡ true) = and_both (not (among r rs)) (no_repeats rs) e in
    elim (eq-or-ne x r) [
      | inl q ↦ rw q (omega (arith, times-self r rs, none-among r rs (not-true (among r rs) b.0)))
      | inr q ↦ omega (arith, times-other x r rs q, once-of rs b.1 x)
    ]

pub of-once : (rs : List ℕ) → ((x : ℕ) → times x rs ≤ 1) → no_repeats rs ≡ true
unfolding no_repeats
of-once [] h = refl
of-once (r ∷ rs) h =
    let n : among r rs ≡ false = among_none r rs (omega (arith, h r, times-self r rs)) in
    rw n (of-once rs (λ x. omega (arith, h x, times-cons x r rs)))

-- ---- different numbers of 1 to n: at most n of them, and with n of them each is there

abbrev pub UpTo : (n : ℕ) → List ℕ → Type 0
UpTo n rs = (x : ℕ) → 1 ≤ times x rs → (1 ≤ x) × (x ≤ n)

pub among-count : (n : ℕ) (rs : List ℕ) → ((x : ℕ) → times x rs ≤ 1) → UpTo n rs → count (λ x. among x rs) n ≡ length rs
unfolding among count
among-count n [] once within = count_cut (λ x. among x []) 0 n (omega arith) (λ c a b. refl)
among-count n (r ∷ rs) once within =
    let w : (1 ≤ r) × (r ≤ n) = within r (omega (arith, times-self r rs)) in
    let rest : count (λ x. among x rs) n ≡ length rs = among-count n rs (λ x. omega (arith, once x, times-cons x r rs)) (λ x h. within x (omega (arith, times-cons x r rs))) in
    let new : among r rs ≡ false = among_none r rs (omega (arith, once r, times-self r rs)) in
    let here : among r (r ∷ rs) ≡ true = among-some r (r ∷ rs) (omega (arith, times-self r rs)) in
    omega (arith, rest, ap one new, ap one here, count_at (λ x. among x (r ∷ rs)) (λ x. among x rs) n r w.0 w.1 (λ c a b d. rw (ne_eqb c r d) refl))

pub once-length : (n : ℕ) (rs : List ℕ) → ((x : ℕ) → times x rs ≤ 1) → UpTo n rs → length rs ≤ n
once-length n rs once within = omega (arith, among-count n rs once within, count-le (λ x. among x rs) n)
