-- Patterns as rising lists: the test for a row, a pattern cut in two, that it rises, its members, its second row (`parent-second`). Then a
-- column of the factor: it is known by its multiplicities and parent (`same-column`), it is the diagonal, then the parent if any (`pattern-parts`).
-- With `set_split` of lib.Seq, `pattern-append` says what one changed multiplicity does. Assumes nothing.
use mathlib.Core.Path.{◌≡◌, refl, sym, ap, ◌∙◌, subst}
use mathlib.Core.Logic.{inl, inr, ◌≢◌, ◌↔◌}
use mathlib.Core.Bool.{true, ◌&&◌}
use mathlib.Core.List.{List, [], ◌∷◌, ◌++◌}
use Prim.Native.Nat.{ℕ, zero, suc, ◌+◌, ◌-◌, ◌≤◌, ◌<◌}
use native.Mathlib.Omega.{arith}
use lib.Dec.{leb, eqb}
use lib.ListN.{length, get_or, drop}
use borrow.Author.Tests.{lt-ltb, le-ltb, le-leb, eqb-false, eq-eqb, ne_eqb, not-true}
use Rattle.lists.specs.Lists.{Mem, first, later, rises}
use Rattle.lists.proofs.Tests.{cases, lt-or-le, zero-or-pos, and_both, both-and}
use Rattle.lists.proofs.Rising.{rises-in, rises-first, rises-weaken}
use Rattle.symbolic.specs.Columns.{Column}
use Rattle.symbolic.specs.Factor.{FactorColumn, count_in, first_above, factor_of, column_at, multiplicity, parent_of, in_pattern, pattern_from, non_zero, pattern_of}
use Rattle.symbolic.proofs.Laws.{diagonal-in, row-above}
use Rattle.symbolic.proofs.Two.{Agree}
use Rattle.symbolic.proofs.Build.{column-ext, laws, counts-length, parent_is}

-- ---- the test: a row is in the pattern exactly if its multiplicity is not 0

pub in-pattern : (fs : List FactorColumn) (i j : ℕ) → 0 < multiplicity fs i j → in_pattern fs i j ≡ true
in-pattern fs i j h = rw (ne_eqb (multiplicity fs i j) 0 (omega arith))

pub pattern-in : (fs : List FactorColumn) (i j : ℕ) → in_pattern fs i j ≡ true → 0 < multiplicity fs i j
pattern-in fs i j h =
    let q : multiplicity fs i j ≢ 0 = eqb-false (multiplicity fs i j) 0 (not-true (eqb (multiplicity fs i j) 0) h) in omega arith

-- ---- the lists, of any multiplicities from row a on

pub pattern-append : (a : ℕ) (xs ys : List ℕ) → pattern_from a (xs ++ ys) ≡ pattern_from a xs ++ pattern_from (a + length xs) ys
unfolding pattern_from
pattern-append a [] ys = let q : a ≡ a + 0 = omega arith in ap (λ (n : ℕ). pattern_from n ys) q
pattern-append a (x ∷ xs) ys =
    let q : suc a + length xs ≡ a + suc (length xs) = omega arith in
    let ih : pattern_from (suc a) (xs ++ ys) ≡ pattern_from (suc a) xs ++ pattern_from (a + suc (length xs)) ys =
    pattern-append (suc a) xs ys ∙ ap (λ (n : ℕ). pattern_from (suc a) xs ++ pattern_from n ys) q in
    elim (cases (eqb x 0)) [ inl e ↦ rw (e, ih) | inr e ↦ rw (e, ih) ]

pub counts-append : (xs ys : List ℕ) → non_zero (xs ++ ys) ≡ non_zero xs ++ non_zero ys
unfolding non_zero
counts-append [] ys = refl
counts-append (x ∷ xs) ys = elim (cases (eqb x 0)) [ inl e ↦ rw (e, counts-append xs ys) | inr e ↦ rw (e, counts-append xs ys) ]

pub pattern-short : (a : ℕ) (ns : List ℕ) → length (pattern_from a ns) ≤ length ns
unfolding pattern_from
pattern-short a [] = omega arith
pattern-short a (n ∷ ns) =
    elim (cases (eqb n 0)) [ inl e ↦ rw e (omega (arith, pattern-short (suc a) ns)) | inr e ↦ rw e (omega (arith, pattern-short (suc a) ns)) ]

pub pattern-rises : (a : ℕ) (ns : List ℕ) (b : ℕ) → a + length ns ≤ suc b → rises a b (pattern_from a ns) ≡ true
unfolding pattern_from rises
pattern-rises a [] b h = refl
pattern-rises a (n ∷ ns) b h =
    let ih : rises (suc a) b (pattern_from (suc a) ns) ≡ true = pattern-rises (suc a) ns b (omega arith) in
    elim (cases (eqb n 0)) [
      | inl e ↦ rw e (rises-weaken (suc a) b a (pattern_from (suc a) ns) (omega arith) ih)
      | inr e ↦ rw e (both-and (both-and (le-leb a a (omega arith)) (le-leb a b (omega arith))) ih)
    ]

pub pattern-has : (a : ℕ) (ns : List ℕ) (k : ℕ) → k < length ns → 0 < get_or ns k 0 → Mem (a + k) (pattern_from a ns)
unfolding pattern_from
pattern-has a [] k h p = absurd (omega arith)
pattern-has a (n ∷ ns) zero h p = rw (ne_eqb n 0 (omega arith)) (subst (λ (x : ℕ). Mem x (a ∷ pattern_from (suc a) ns)) (start a) first)
  where
    start : (a : ℕ) → a ≡ a + 0
    start a = omega arith
pattern-has a (n ∷ ns) (suc k) h p =
    let q : suc a + k ≡ a + suc k = omega arith in
    let m : Mem (a + suc k) (pattern_from (suc a) ns) =
    subst (λ (x : ℕ). Mem x (pattern_from (suc a) ns)) q (pattern-has (suc a) ns k (omega arith) p) in
    elim (cases (eqb n 0)) [ inl e ↦ rw e m | inr e ↦ rw e (later m) ]

pub pattern-find : {x : ℕ} (a : ℕ) (ns : List ℕ) → Mem x (pattern_from a ns) → (k : ℕ) × (x ≡ a + k) × (k < length ns) × (0 < get_or ns k 0)
unfolding pattern_from
pattern-find a [] m = elim m [ ]
pattern-find {x} a (n ∷ ns) m =
    elim (zero-or-pos n) [
      | inl z ↦ shift (pattern-find (suc a) ns (rw (eq-eqb n 0 z) at m))
      | inr z ↦ go x (rw (ne_eqb n 0 (omega arith)) at m) z (λ l. pattern-find (suc a) ns l)
    ]
  where
    shift : {y : ℕ} → (k : ℕ) × (y ≡ suc a + k) × (k < length ns) × (0 < get_or ns k 0) →
        (k : ℕ) × (y ≡ a + k) × (k < length (n ∷ ns)) × (0 < get_or (n ∷ ns) k 0)
    shift t = (suc t.0, omega arith, omega arith, t.3)

    go : (y : ℕ) → Mem y (a ∷ pattern_from (suc a) ns) → 0 < n →
        (Mem y (pattern_from (suc a) ns) → (k : ℕ) × (y ≡ suc a + k) × (k < length ns) × (0 < get_or ns k 0)) →
        (k : ℕ) × (y ≡ a + k) × (k < length (n ∷ ns)) × (0 < get_or (n ∷ ns) k 0)
    go y first z f = (0, omega arith, omega arith, z)
    go y (later l) z f = shift (f l)

-- the members of a column's pattern are the rows with a multiplicity
pub pattern-members : (f : FactorColumn) (i : ℕ) → 1 ≤ i → i ≤ length f.counts → Mem i (pattern_of f) ↔ (0 < count_in f i)
pattern-members f i a b = (
  λ m.
      let t : (k : ℕ) × (i ≡ 1 + k) × (k < length f.counts) × (0 < get_or f.counts k 0) = pattern-find 1 f.counts m in
      let q : t.0 ≡ i - 1 = omega arith in subst (λ (k : ℕ). 0 < get_or f.counts k 0) q t.3,
  λ h.
      let q : 1 + (i - 1) ≡ i = omega arith in subst (λ (x : ℕ). Mem x (pattern_of f)) q (pattern-has 1 f.counts (i - 1) (omega arith) h),
)

-- ---- the parent, as the pattern has it

-- past j, the first row
first-above-head : (j i : ℕ) (ns : List ℕ) → j < i → first_above j i ns ≡ get_or (pattern_from i ns) 0 0
unfolding first_above pattern_from
first-above-head j i [] h = refl
first-above-head j i (n ∷ ns) h =
    elim (cases (eqb n 0)) [
      | inl e ↦ rw (lt-ltb j i h, e) (first-above-head j (suc i) ns (omega arith))
      | inr e ↦ rw (lt-ltb j i h, e)
    ]

-- where the diagonal is the first row, the parent is the second, or 0
pub parent-second : (j i : ℕ) (ns rest : List ℕ) → i ≤ j → pattern_from i ns ≡ j ∷ rest → first_above j i ns ≡ get_or rest 0 0
unfolding first_above pattern_from
parent-second j i [] rest l h = absurd (omega (arith, ap length h))
parent-second j i (n ∷ ns) rest l h =
    rw (le-ltb j i l) (elim (cases (eqb n 0)) [
      | inl e ↦
          let k : pattern_from (suc i) ns ≡ j ∷ rest = rw e at h in
          elim (lt-or-le i j) [
            | inl q ↦ parent-second j (suc i) ns rest q k
            | inr q ↦
                let t : (x : ℕ) × (j ≡ suc i + x) × (x < length ns) × (0 < get_or ns x 0) =
                pattern-find (suc i) ns (subst (λ (xs : List ℕ). Mem j xs) (sym k) first) in
                absurd (omega arith)
          ]
      | inr e ↦
          let k : i ∷ pattern_from (suc i) ns ≡ j ∷ rest = rw e at h in
          let q : i ≡ j = ap (λ (xs : List ℕ). get_or xs 0 0) k in
          first-above-head j (suc i) ns (omega arith) ∙ ap (λ (xs : List ℕ). get_or (drop 1 xs) 0 0) k
    ])

-- ---- a column of the factor is known by its multiplicities and its parent

module _ (m : ℕ) (cs ds : List Column) where
  pub same-column : (j : ℕ) → 1 ≤ j → j ≤ m →
      Agree m (multiplicity (factor_of m cs)) (multiplicity (factor_of m ds)) (parent_of (factor_of m cs)) (parent_of (factor_of m ds)) j →
      column_at (factor_of m cs) j ≡ column_at (factor_of m ds) j
  same-column j a b g =
      column-ext (column_at (factor_of m cs) j) (column_at (factor_of m ds) j) (counts-length m cs j a b ∙ sym (counts-length m ds j a b))
      (λ i x y. g.0 i x (omega (arith, counts-length m cs j a b))) g.1

-- ---- a column of the factor: the diagonal, then the parent

module _ (m : ℕ) (cs : List Column) (j : ℕ) (a : 1 ≤ j) (b : j ≤ m) where
  pub pattern-holds : (i : ℕ) → 1 ≤ i → i ≤ m → Mem i (pattern_of (column_at (factor_of m cs) j)) ↔ (0 < multiplicity (factor_of m cs) i j)
  pattern-holds i x y = pattern-members (column_at (factor_of m cs) j) i x (omega (arith, counts-length m cs j a b))

  pub pattern-within-rows : rises 1 m (pattern_of (column_at (factor_of m cs) j)) ≡ true
  pattern-within-rows = pattern-rises 1 (column_at (factor_of m cs) j).counts m (omega (arith, counts-length m cs j a b))

  pub pattern-parts : (rest : List ℕ) × (pattern_of (column_at (factor_of m cs) j) ≡ j ∷ rest) × (rises (suc j) m rest ≡ true) ×
      (get_or rest 0 0 ≡ parent_of (factor_of m cs) j)
  unfolding rises
  pattern-parts =
      let t : (rest : List ℕ) × (pattern_of (column_at (factor_of m cs) j) ≡ j ∷ rest) × (rises (suc j) m rest ≡ true) =
      go (pattern_of (column_at (factor_of m cs) j)) pattern-within-rows (λ i x y. (pattern-holds i x y).0) (λ i x y. (pattern-holds i x y).1) in
      (t.0, t.1, t.2, sym (parent_is m cs j a b ∙ parent-second j 1 (column_at (factor_of m cs) j).counts t.0 a t.1))
    where
      -- the first row is the diagonal: it is there, and no row is below it
      go : (xs : List ℕ) → rises 1 m xs ≡ true → ((i : ℕ) → 1 ≤ i → i ≤ m → Mem i xs → 0 < multiplicity (factor_of m cs) i j) →
          ((i : ℕ) → 1 ≤ i → i ≤ m → 0 < multiplicity (factor_of m cs) i j → Mem i xs) →
          (rest : List ℕ) × (xs ≡ j ∷ rest) × (rises (suc j) m rest ≡ true)
      go [] r f g = elim (g j a b (diagonal-in (laws m cs) j a b)) [ ]
      go (y ∷ ys) r f g =
          let u : (1 ≤ y) × (y ≤ m) = rises-in {x = y} 1 m (first {xs = ys}) r in
          let low : y ≤ j = rises-first 1 m (g j a b (diagonal-in (laws m cs) j a b)) r in
          let high : j ≤ y = row-above (laws m cs) y j u.0 b (f y u.0 u.1 first) in
          let q : y ≡ j = omega arith in
          let s : rises (suc y) m ys ≡ true = (and_both (leb 1 y && leb y m) (rises (suc y) m ys) r).1 in
          (ys, ap {B = List ℕ} (λ x. x ∷ ys) q, subst (λ (x : ℕ). rises (suc x) m ys ≡ true) q s)
