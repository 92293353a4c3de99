-- Numbers listed by a value, and what they bring: members, one number more; the lists in two tables, heads and nexts, when a number is put at
-- a front (lists-more) or has no list (lists-skip); how often a row stands in what the numbers of a value bring, as a count. Assumes nothing.
use mathlib.Core.Path.{◌≡◌, refl, sym, ap, subst, ◌∙◌}
use mathlib.Core.Logic.{inl, inr, ◌≢◌}
use mathlib.Core.Bool.{Bool, ◌&&◌}
use mathlib.Core.List.{List, [], ◌∷◌, ◌++◌, append_assoc, append-nil}
use Prim.Native.Nat.{ℕ, zero, suc, ◌+◌, ◌*◌, ◌≤◌}
use native.Mathlib.Omega.{arith}
use lib.Dec.{eqb}
use lib.ListN.{length, length-append}
use borrow.Author.Tests.{eq-eqb, ne_eqb}
use Rattle.lists.specs.Lists.{one, count, at, put, times}
use Rattle.lists.proofs.Tests.{eq-or-ne}
use Rattle.lists.proofs.Times.{times-nil, times-self, times-other, times-cons, times-append, UpTo}
use Rattle.lists.proofs.Place.{put-length, at-put-same, at-put-other}
use Rattle.pool.specs.Chains.{Linked}
use Rattle.pool.proofs.Chains.{linked-nil, linked-cons, linked-frame}
use Rattle.counting.specs.Counting.{numbered, gathered}

-- ---- the numbers of a value

pub numbered-some : (f : ℕ → ℕ) (v n : ℕ) → f (suc n) ≡ v → numbered f v (suc n) ≡ suc n ∷ numbered f v n
unfolding numbered
numbered-some f v n e = rw (eq-eqb (f (suc n)) v e) refl

pub numbered-none : (f : ℕ → ℕ) (v n : ℕ) → f (suc n) ≢ v → numbered f v (suc n) ≡ numbered f v n
unfolding numbered
numbered-none f v n e = rw (ne_eqb (f (suc n)) v e) refl

-- each is one of 1 to n and has the value
pub numbered-in : (f : ℕ → ℕ) (v n x : ℕ) → 1 ≤ times x (numbered f v n) → (1 ≤ x) × (x ≤ n) × (f x ≡ v)
unfolding numbered
numbered-in f v zero x h = absurd (omega (arith, times-nil x))
numbered-in f v (suc n) x h =
    elim (eq-or-ne (f (suc n)) v) [
      | inl e ↦ elim (eq-or-ne x (suc n)) [
        | inl q ↦ (omega arith, omega arith, ap f q ∙ e)
        | inr q ↦
            let t : (1 ≤ x) × (x ≤ n) × (f x ≡ v) =
            numbered-in f v n x (omega (arith, ap (times x) (numbered-some f v n e), times-other x (suc n) (numbered f v n) q)) in
            (t.0, omega arith, t.2)
      ]
      | inr e ↦
          let t : (1 ≤ x) × (x ≤ n) × (f x ≡ v) = numbered-in f v n x (omega (arith, ap (times x) (numbered-none f v n e))) in
          (t.0, omega arith, t.2)
    ]

-- ---- the lists, in a table of nexts and one of heads

abbrev pub Lists : (nexts heads : List ℕ) → (value : ℕ → ℕ) → (n : ℕ) → Type 0
Lists ns hs f n = (v : ℕ) → 1 ≤ v → v ≤ length hs → Linked ns (at hs v) (numbered f v n)

pub lists-start : (ns hs : List ℕ) (f : ℕ → ℕ) → ((v : ℕ) → 1 ≤ v → v ≤ length hs → at hs v ≡ 0) → Lists ns hs f 0
unfolding numbered
lists-start ns hs f z v p q = subst (λ (h : ℕ). Linked ns h []) (sym (z v p q)) (linked-nil ns)

pub lists-skip : (ns hs : List ℕ) (f : ℕ → ℕ) (n : ℕ) → f (suc n) ≡ 0 → Lists ns hs f n → Lists ns hs f (suc n)
lists-skip ns hs f n e l v p q = rw (numbered-none f v n (λ d. omega arith)) (l v p q)

-- number n + 1 at the front of its value's list
pub lists-more : (ns hs : List ℕ) (f : ℕ → ℕ) (n u : ℕ) → suc n ≤ length ns → f (suc n) ≡ u → 1 ≤ u → u ≤ length hs → Lists ns hs f n →
    Lists (put ns (suc n) (at hs u)) (put hs u (suc n)) f (suc n)
lists-more ns hs f n u room e low high l v p q =
    let ns' : List ℕ = put ns (suc n) (at hs u) in
    let h : v ≤ length hs = omega (arith, put-length hs u (suc n)) in
    let kept : Linked ns' (at hs v) (numbered f v n) =
    linked-frame ns ns' (at hs v) (numbered f v n) (put-length ns (suc n) (at hs u))
    (λ x a b. at-put-other ns (suc n) x (at hs u) (omega arith) a (λ d. (let t : (1 ≤ x) × (x ≤ n) × (f x ≡ v) = numbered-in f v n x b in omega arith))) (l v p h) in
    elim (eq-or-ne v u) [
      | inl d ↦
          let g : at (put hs u (suc n)) v ≡ suc n = subst (λ (z : ℕ). at (put hs z (suc n)) v ≡ suc n) d (at-put-same hs v (suc n) p h) in
          let k : Linked ns' (at ns' (suc n)) (numbered f v n) =
          subst (λ (z : ℕ). Linked ns' z (numbered f v n)) (ap (at hs) d ∙ sym (at-put-same ns (suc n) (at hs u) (omega arith) room)) kept in
          rw (numbered-some f v n (omega arith), g) (linked-cons ns' (suc n) (numbered f v n) (omega arith) (omega (arith, put-length ns (suc n) (at hs u))) k)
      | inr d ↦
          rw (numbered-none f v n (λ z. d (omega arith)), at-put-other hs u v (suc n) low p d) kept
    ]

-- ---- what the numbers of a value bring

pub gathered-more : (g : ℕ → List ℕ) (cs : List ℕ) (c : ℕ) → gathered g (cs ++ (c ∷ [])) ≡ gathered g cs ++ g c
unfolding gathered
gathered-more g [] c = append-nil (g c)
gathered-more g (d ∷ cs) c = ap (λ (l : List ℕ). g d ++ l) (gathered-more g cs c) ∙ sym (append_assoc (g d) (gathered g cs) (g c))

pub gathered-ext : (g h : ℕ → List ℕ) (cs : List ℕ) → ((c : ℕ) → 1 ≤ times c cs → g c ≡ h c) → gathered g cs ≡ gathered h cs
unfolding gathered
gathered-ext g h [] e = refl
gathered-ext g h (c ∷ cs) e =
    rw (e c (omega (arith, times-self c cs)), gathered-ext g h cs (λ x n. e x (omega (arith, times-cons x c cs)))) refl

pub gathered-up : (m : ℕ) (g : ℕ → List ℕ) (cs : List ℕ) → ((c : ℕ) → 1 ≤ times c cs → UpTo m (g c)) → UpTo m (gathered g cs)
unfolding gathered
gathered-up m g [] h x n = absurd (omega (arith, times-nil x))
gathered-up m g (c ∷ cs) h x n =
    elim (eq-or-ne (times x (g c)) 0) [
      | inr e ↦ h c (omega (arith, times-self c cs)) x (omega arith)
      | inl e ↦ gathered-up m g cs (λ y k. h y (omega (arith, times-cons y c cs))) x (omega (arith, times-append x (g c) (gathered g cs)))
    ]

pub gathered-zero : (x : ℕ) (g : ℕ → List ℕ) (cs : List ℕ) → ((c : ℕ) → 1 ≤ times c cs → times x (g c) ≡ 0) → times x (gathered g cs) ≡ 0
unfolding gathered
gathered-zero x g [] h = times-nil x
gathered-zero x g (c ∷ cs) h =
    omega (arith, times-append x (g c) (gathered g cs), h c (omega (arith, times-self c cs)), gathered-zero x g cs (λ y k. h y (omega (arith, times-cons y c cs))))

pub gathered-length : (l : ℕ) (g : ℕ → List ℕ) (cs : List ℕ) → ((c : ℕ) → 1 ≤ times c cs → length (g c) ≤ l) → length (gathered g cs) ≤ length cs * l
unfolding gathered
gathered-length l g [] h = omega arith
gathered-length l g (c ∷ cs) h =
    let e : suc (length cs) * l ≡ l + length cs * l = ring-nat (length cs) l in
    omega (arith, length-append (g c) (gathered g cs), h c (omega (arith, times-self c cs)), gathered-length l g cs (λ y k. h y (omega (arith, times-cons y c cs))))
  where
    ring-nat : (a b : ℕ) → suc a * b ≡ b + a * b
    ring-nat a b = omega arith

-- how often a row stands there: the numbers of the value that pass a test, where each brings the row at most once
pub gathered-count : (g : ℕ → List ℕ) (f : ℕ → ℕ) (t : ℕ → Bool) (v x n : ℕ) → ((c : ℕ) → 1 ≤ c → c ≤ n → f c ≡ v → times x (g c) ≡ one (t c)) →
    times x (gathered g (numbered f v n)) ≡ count (λ c. eqb (f c) v && t c) n
unfolding count numbered gathered
gathered-count g f t v x zero h = times-nil x
gathered-count g f t v x (suc n) h =
    let ih : times x (gathered g (numbered f v n)) ≡ count (λ c. eqb (f c) v && t c) n = gathered-count g f t v x n (λ c a b. h c a (omega arith)) in
    elim (eq-or-ne (f (suc n)) v) [
      | inl e ↦ rw (eq-eqb (f (suc n)) v e) (omega (arith, times-append x (g (suc n)) (gathered g (numbered f v n)), h (suc n) (omega arith) (omega arith) e))
      | inr e ↦ rw (ne_eqb (f (suc n)) v e) (omega arith)
    ]
