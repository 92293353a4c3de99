-- Chains that end are apart exactly if their last records are, in this order: the last record of a chain that ends; chains that share a record have one
-- last record; the lists `lasts` of some heads, by places and joined; NoneTwice of the last records is "no record twice" (ends-apart, apart-ends).
-- Assumes nothing.
use mathlib.Core.Path.{◌≡◌, refl, sym, ap, subst, ◌∙◌}
use mathlib.Core.Logic.{◌⊎◌, inl, inr, ◌≢◌}
use mathlib.Core.List.{List, [], ◌∷◌, ◌++◌}
use Prim.Native.Nat.{ℕ, zero, suc, ◌+◌, ◌≤◌, ◌<◌}
use native.Mathlib.Omega.{arith}
use lib.ListN.{length, get_or}
use Rattle.lists.specs.Lists.{at, times}
use Rattle.lists.proofs.Tests.{eq-or-ne, zero-or-pos}
use Rattle.lists.proofs.Member.{split-mem}
use Rattle.lists.proofs.Times.{times-nil, times-self, times-append, times-mem}
use Rattle.pool.specs.Chains.{chain, last_of, Linked}
use Rattle.pool.specs.Whole.{chains, AllLinked}
use Rattle.pool.specs.Ends.{last_from, lasts, NoneTwice}
use Rattle.pool.proofs.Chains.{last-split, last-append, linked-in, After, linked-after, linked-unique, linked-once}
use Rattle.pool.proofs.Whole.{chains-nil, chains-times, place-two, place-linked, all-parts}

-- ---- the last record of a chain that ends

-- where there is one it stands in the list
pub last-there : (rs : List ℕ) → 1 ≤ length rs → 1 ≤ times (last_of 0 rs) rs
unfolding last_of
last-there [] p = absurd (omega arith)
last-there (r ∷ rs) p =
    let t : (ds : List ℕ) × (r ∷ rs ≡ ds ++ (last_of r rs ∷ [])) = last-split r rs in
    omega (arith, ap (times (last_of r rs)) t.1, times-append (last_of r rs) t.0 (last_of r rs ∷ []), times-self (last_of r rs) [])

pub last-in : (rs : List ℕ) → last_of 0 rs ≢ 0 → 1 ≤ times (last_of 0 rs) rs
unfolding last_of
last-in [] p = absurd (p refl)
last-in (r ∷ rs) p = last-there (r ∷ rs) (omega arith)

-- it is of the pool, or 0
pub last_within : (ns : List ℕ) (h : ℕ) (rs : List ℕ) → Linked ns h rs → last_of 0 rs ≤ length ns
last_within ns h rs l =
    elim (eq-or-ne (last_of 0 rs) 0) [
      | inl z ↦ omega arith
      | inr p ↦ (linked-in ns h rs l (last_of 0 rs) (last-in rs p)).1
    ]

-- a chain with a record has a last one
pub last_some : (ns : List ℕ) (h : ℕ) (rs : List ℕ) (x : ℕ) → Linked ns h rs → 1 ≤ times x rs → last_of 0 rs ≢ 0
unfolding last_of
last_some ns h [] x l n z = omega (arith, times-nil x)
last_some ns h (r ∷ rs) x l n z =
    let t : (ds : List ℕ) × (r ∷ rs ≡ ds ++ (last_of r rs ∷ [])) = last-split r rs in
    let a : After ns (last_of r rs) [] = linked-after ns h t.0 (last_of r rs) [] (subst (Linked ns h) t.1 l) in
    omega (arith, a.low)

-- chains that share a record go on as one from there, so end at the same
pub shared_last : (ns : List ℕ) (h g : ℕ) (rs ss : List ℕ) (x : ℕ) → Linked ns h rs → Linked ns g ss → 1 ≤ times x rs → 1 ≤ times x ss → last_of 0 rs ≡ last_of 0 ss
shared_last ns h g rs ss x l k p q =
    let a : (ys : List ℕ) × (zs : List ℕ) × (rs ≡ ys ++ (x ∷ zs)) = split-mem (times-mem x rs p) in
    let b : (ys : List ℕ) × (zs : List ℕ) × (ss ≡ ys ++ (x ∷ zs)) = split-mem (times-mem x ss q) in
    let c : After ns x a.1 = linked-after ns h a.0 x a.1 (subst (Linked ns h) a.2 l) in
    let d : After ns x b.1 = linked-after ns g b.0 x b.1 (subst (Linked ns g) b.2 k) in
    let e : a.1 ≡ b.1 = linked-unique ns (at ns x) a.1 b.1 c.tail d.tail in
    ap (last_of 0) a.2 ∙ last-append 0 a.0 x a.1 ∙ ap (last_of x) e ∙ sym (ap (last_of 0) b.2 ∙ last-append 0 b.0 x b.1)

-- ---- the last records of some heads

pub lasts-nil : (ns : List ℕ) → lasts ns [] ≡ []
unfolding lasts
lasts-nil ns = refl

pub lasts-cons : (ns : List ℕ) (h : ℕ) (hs : List ℕ) → lasts ns (h ∷ hs) ≡ last_from ns h ∷ lasts ns hs
unfolding lasts
lasts-cons ns h hs = refl

pub lasts-length : (ns hs : List ℕ) → length (lasts ns hs) ≡ length hs
unfolding lasts
lasts-length ns [] = refl
lasts-length ns (h ∷ hs) = ap suc (lasts-length ns hs)

pub lasts-append : (ns xs ys : List ℕ) → lasts ns (xs ++ ys) ≡ lasts ns xs ++ lasts ns ys
unfolding lasts
lasts-append ns [] ys = refl
lasts-append ns (h ∷ hs) ys = ap (λ (l : List ℕ). last_from ns h ∷ l) (lasts-append ns hs ys)

pub lasts-at : (ns hs : List ℕ) (i : ℕ) → i < length hs → get_or (lasts ns hs) i 0 ≡ last_from ns (get_or hs i 0)
unfolding lasts
lasts-at ns [] i h = absurd (omega arith)
lasts-at ns (g ∷ hs) zero h = refl
lasts-at ns (g ∷ hs) (suc i) h = lasts-at ns hs i (omega arith)

-- a record of the chains is of the chain at some place
pub chains-find : (ns hs : List ℕ) (x : ℕ) → 1 ≤ times x (chains ns hs) → (j : ℕ) × (j < length hs) × (1 ≤ times x (chain ns (get_or hs j 0)))
chains-find ns [] x n = absurd (omega (arith, ap (times x) (chains-nil ns), times-nil x))
chains-find ns (h ∷ hs) x n =
    elim (zero-or-pos (times x (chain ns h))) [
      | inr p ↦ (0, omega arith, p)
      | inl z ↦
          let t : (j : ℕ) × (j < length hs) × (1 ≤ times x (chain ns (get_or hs j 0))) = chains-find ns hs x (omega (arith, chains-times ns h hs x)) in
          (suc t.0, omega arith, t.2)
    ]

-- ---- apart at their ends is apart

none_rest : (e : ℕ) (es : List ℕ) → NoneTwice (e ∷ es) → NoneTwice es
none_rest e es t i k p q s d = let z : suc i ≡ suc k = t (suc i) (suc k) (omega arith) (omega arith) s d in omega arith

pub ends-apart : (ns hs : List ℕ) → AllLinked ns hs → NoneTwice (lasts ns hs) → (x : ℕ) → times x (chains ns hs) ≤ 1
unfolding lasts
ends-apart ns [] l t x = omega (arith, ap (times x) (chains-nil ns), times-nil x)
ends-apart ns (h ∷ hs) l t x =
    let a : Linked ns h (chain ns h) × AllLinked ns hs = all-parts ns h hs l in
    let rest : times x (chains ns hs) ≤ 1 = ends-apart ns hs a.1 (none_rest (last_from ns h) (lasts ns hs) t) x in
    let here : times x (chain ns h) ≤ 1 = linked-once ns h (chain ns h) a.0 x in
    elim (both-or (times x (chain ns h)) (times x (chains ns hs)) here rest) [
      | inl e ↦ omega (arith, chains-times ns h hs x)
      | inr b ↦
          let f : (j : ℕ) × (j < length hs) × (1 ≤ times x (chain ns (get_or hs j 0))) = chains-find ns hs x b.1 in
          let g : ℕ = get_or hs f.0 0 in
          let k : Linked ns g (chain ns g) = place-linked ns hs f.0 f.1 a.1 in
          let e : last_from ns h ≡ get_or (lasts ns hs) f.0 0 = shared_last ns h g (chain ns h) (chain ns g) x a.0 k b.0 f.2 ∙ sym (lasts-at ns hs f.0 f.1) in
          let z : 0 ≡ suc f.0 = t 0 (suc f.0) (omega arith) (omega (arith, f.1, lasts-length ns hs)) (last_some ns h (chain ns h) x a.0 b.0) e in
          absurd (omega arith)
    ]
  where
    both-or : (m n : ℕ) → m ≤ 1 → n ≤ 1 → (m + n ≤ 1) ⊎ ((1 ≤ m) × (1 ≤ n))
    both-or zero n p q = inl (omega arith)
    both-or (suc m) zero p q = inl (omega arith)
    both-or (suc m) (suc n) p q = inr (omega arith)

pub apart-ends : (ns hs : List ℕ) → AllLinked ns hs → ((x : ℕ) → times x (chains ns hs) ≤ 1) → NoneTwice (lasts ns hs)
apart-ends ns hs l once i k p q s e =
    let u : i < length hs = omega (arith, lasts-length ns hs) in
    let v : k < length hs = omega (arith, lasts-length ns hs) in
    let x : ℕ = get_or (lasts ns hs) i 0 in
    let a : x ≡ last_from ns (get_or hs i 0) = lasts-at ns hs i u in
    let b : x ≡ last_from ns (get_or hs k 0) = e ∙ lasts-at ns hs k v in
    elim (eq-or-ne i k) [
      | inl z ↦ z
      | inr d ↦
          let m : 1 ≤ times x (chain ns (get_or hs i 0)) = subst (λ (y : ℕ). 1 ≤ times y (chain ns (get_or hs i 0))) (sym a) (last-in (chain ns (get_or hs i 0)) (λ t. s (a ∙ t))) in
          let n : 1 ≤ times x (chain ns (get_or hs k 0)) = subst (λ (y : ℕ). 1 ≤ times y (chain ns (get_or hs k 0))) (sym b) (last-in (chain ns (get_or hs k 0)) (λ t. s (b ∙ t))) in
          absurd (omega (arith, once x, place-two ns hs i k x u v d))
    ]
