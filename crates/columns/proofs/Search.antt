-- Walking one chain, in this order: one record further (`here`); the turns of the search for the first record at or above a row and for the last below
-- one; that for rising rows the first record at or above a row decides its multiplicity (`first-decides`).
-- Assumes nothing.
use mathlib.Core.Path.{◌≡◌, refl, sym, ap, ◌∙◌}
use mathlib.Core.Logic.{inl, inr, ◌≢◌}
use mathlib.Core.Bool.{true, ◌&&◌}
use mathlib.Core.List.{List, [], ◌∷◌}
use Prim.Native.Nat.{ℕ, suc, ◌≤◌, ◌<◌}
use native.Mathlib.Omega.{arith}
use lib.Dec.{leb, eqb}
use lib.ListN.{length}
use borrow.Author.Tests.{le-leb, lt-leb, eq-eqb, ne_eqb, leb-true}
use Rattle.lists.specs.Lists.{pick, Mem, first, later, at, values_at, rises}
use Rattle.lists.proofs.Tests.{eq-or-ne, lt-or-le, and_both}
use Rattle.lists.proofs.Times.{mem-times}
use Rattle.pool.specs.Chains.{chain, Linked}
use Rattle.pool.specs.Changes.{Has}
use Rattle.pool.proofs.Chains.{Step, linked-nil, linked-step, linked-low, linked-chain, linked-self}
use Rattle.columns.specs.Search.{first_at, last_below, count_of, CanCount}

-- ---- one record further

pub record Here (next : List ℕ) (r : ℕ) : Type 0 where
  pub low : 1 ≤ r
  pub high : r ≤ length next
  pub parts : chain next r ≡ r ∷ chain next (at next r)
  pub linked : Linked next (at next r) (chain next (at next r))
  pub shorter : length (chain next (at next r)) < length (chain next r)

pub here : (ns : List ℕ) (r : ℕ) → r ≢ 0 → Linked ns r (chain ns r) → Here ns r
here ns r p l =
    let s : Step ns r (chain ns r) = linked-step ns r (chain ns r) p l in
    let e : chain ns (at ns r) ≡ s.rest = linked-chain ns (at ns r) s.rest s.next in
    let q : chain ns r ≡ r ∷ chain ns (at ns r) = s.parts ∙ ap (λ (l : List ℕ). r ∷ l) (sym e) in
    record { low = s.low; high = s.high; parts = q; linked = linked-self ns (at ns r) s.rest s.next; shorter = omega (arith, ap length q) }

pub chain-none : (ns : List ℕ) (r : ℕ) → r ≡ 0 → chain ns r ≡ []
chain-none ns r e = rw e (linked-chain ns 0 [] (linked-nil ns))

-- ---- the first record at or above a row

module _ (xs ns : List ℕ) (r i : ℕ) where
  pub first-none : r ≡ 0 → first_at xs (chain ns r) i ≡ 0
  unfolding first_at
  first-none e = rw (chain-none ns r e) refl

  module _ (h : Here ns r) where
    pub first_found : i ≤ at xs r → first_at xs (chain ns r) i ≡ r
    unfolding first_at
    first_found e = rw (h.parts, le-leb i (at xs r) e) refl

    pub first-further : at xs r < i → first_at xs (chain ns (at ns r)) i ≡ first_at xs (chain ns r) i
    unfolding first_at
    first-further e = sym (rw (h.parts, lt-leb i (at xs r) e) refl)

-- it is of the pool, or 0
pub first-high : (xs ns : List ℕ) (h : ℕ) (rs : List ℕ) (i : ℕ) → Linked ns h rs → first_at xs rs i ≤ length ns
unfolding first_at Linked
first-high xs ns h [] i l = omega arith
first-high xs ns h (r ∷ rs) i l =
    elim (lt-or-le (at xs r) i) [
      | inl a ↦ rw (lt-leb i (at xs r) a) (first-high xs ns (at ns r) rs i l.3)
      | inr a ↦ rw (le-leb i (at xs r) a) l.2
    ]

-- ---- the last record below a row

module _ (xs ns : List ℕ) (p q i : ℕ) where
  pub last_none : q ≡ 0 → last_below xs p (chain ns q) i ≡ p
  unfolding last_below
  last_none e = rw (chain-none ns q e) refl

  module _ (h : Here ns q) where
    pub last_found : i ≤ at xs q → last_below xs p (chain ns q) i ≡ p
    unfolding last_below
    last_found e = rw (h.parts, le-leb i (at xs q) e) refl

    pub last-further : at xs q < i → last_below xs q (chain ns (at ns q)) i ≡ last_below xs p (chain ns q) i
    unfolding last_below
    last-further e = sym (rw (h.parts, lt-leb i (at xs q) e) refl)

-- it is of the pool
pub last_has : (xs ns : List ℕ) (p h : ℕ) (rs : List ℕ) (i : ℕ) → Has ns p → Linked ns h rs → Has ns (last_below xs p rs i)
unfolding last_below Linked
last_has xs ns p h [] i k l = k
last_has xs ns p h (r ∷ rs) i k l =
    elim (lt-or-le (at xs r) i) [
      | inl a ↦ rw (lt-leb i (at xs r) a) (last_has xs ns r (at ns r) rs i (record { low = l.1; high = l.2 }) l.3)
      | inr a ↦ rw (le-leb i (at xs r) a) k
    ]

-- ---- the multiplicity of a row

-- what the first record at or above a row says of the row
abbrev pub count_at : (rows counts : List ℕ) → (r i : ℕ) → ℕ
count_at xs cs r i = pick (eqb r 0) 0 (pick (eqb (at xs r) i) (at cs r) 0)

module _ (xs cs : List ℕ) (r i : ℕ) where
  pub count_none : r ≡ 0 → count_at xs cs r i ≡ 0
  count_none z = rw (eq-eqb r 0 z) refl

  pub count-other : r ≢ 0 → at xs r ≢ i → count_at xs cs r i ≡ 0
  count-other n d = rw (ne_eqb r 0 n, ne_eqb (at xs r) i d) refl

  pub count-found : r ≢ 0 → at xs r ≡ i → count_at xs cs r i ≡ at cs r
  count-found n e = rw (ne_eqb r 0 n, eq-eqb (at xs r) i e) refl

pub above-none : (xs cs rs : List ℕ) (a b i : ℕ) → rises a b (values_at xs rs) ≡ true → i < a → count_of xs cs rs i ≡ 0
unfolding rises values_at count_of
above-none xs cs [] a b i h l = refl
above-none xs cs (r ∷ rs) a b i h l =
    let x = at xs r in
    let t : ((leb a x && leb x b) ≡ true) × (rises (suc x) b (values_at xs rs) ≡ true) = and_both (leb a x && leb x b) (rises (suc x) b (values_at xs rs)) h in
    let u : a ≤ x = leb-true a x (and_both (leb a x) (leb x b) t.0).0 in
    rw (ne_eqb x i (λ e. omega arith)) (above-none xs cs rs (suc x) b i t.1 (omega arith))

pub first-decides : (xs cs rs : List ℕ) (a b i : ℕ) → ((x : ℕ) → Mem x rs → x ≢ 0) → rises a b (values_at xs rs) ≡ true →
    count_at xs cs (first_at xs rs i) i ≡ count_of xs cs rs i
unfolding rises values_at first_at count_of
first-decides xs cs [] a b i n h = refl
first-decides xs cs (r ∷ rs) a b i n h =
    let x = at xs r in
    let t : rises (suc x) b (values_at xs rs) ≡ true = (and_both (leb a x && leb x b) (rises (suc x) b (values_at xs rs)) h).1 in
    elim (lt-or-le x i) [
      | inl l ↦ rw (lt-leb i x l, ne_eqb x i (λ e. omega arith)) (first-decides xs cs rs (suc x) b i (λ y m. n y (later m)) t)
      | inr l ↦ rw (le-leb i x l, ne_eqb r 0 (n r first)) (elim (eq-or-ne x i) [
        | inl e ↦ rw (eq-eqb x i e) refl
        | inr e ↦ rw (ne_eqb x i e) (sym (above-none xs cs rs (suc x) b i t (omega arith)))
      ])
    ]

-- as a chain that can be read and rises has it
pub can-count : {xs cs ns : List ℕ} {h : ℕ} (i : ℕ) → CanCount xs cs ns h → count_at xs cs (first_at xs (chain ns h) i) i ≡ count_of xs cs (chain ns h) i
can-count {xs} {cs} {ns} {h} i c =
    first-decides xs cs (chain ns h) 1 65535 i (λ x m z. omega (arith, linked-low ns h (chain ns h) x c.read.linked (mem-times m))) c.rising
