-- Labels: the largest position whose path passes through (`label-passes`, `label-largest`), not 0 exactly on touched columns. Then labels as code
-- computes them, by marking upwards: of a column that starts here, of a child, and of nothing else (`label-start`, `label-child`, `label-cases`); and
-- columns of one label follow one another up the tree (`label-follows`). Assumes nothing.
use mathlib.Core.Path.{◌≡◌, sym, subst}
use mathlib.Core.Logic.{◌⊎◌, inl, inr}
use mathlib.Core.Bool.{true}
use mathlib.Core.List.{List, [], ◌∷◌}
use Prim.Native.Nat.{ℕ, zero, suc, ◌+◌, ◌-◌, ◌≤◌, ◌<◌}
use native.Mathlib.Omega.{arith}
use lib.ListN.{length, get_or}
use borrow.Author.Tests.{eq-eqb, ne_eqb}
use Rattle.lists.specs.Lists.{Mem}
use Rattle.lists.proofs.Tests.{cases, zero-or-pos}
use Rattle.lists.proofs.Member.{any-find, any-has, mem-place, place-mem}
use Rattle.symbolic.specs.Columns.{Column, column_with, smallest}
use Rattle.symbolic.specs.Factor.{FactorColumn, factor_of, multiplicity, parent_of}
use Rattle.symbolic.specs.Definition.{OnPath, here, up}
use Rattle.symbolic.specs.Batch.{at_position, passes, is_touched, label_from, label_of}
use Rattle.symbolic.proofs.Laws.{path-extends, path-last, path-within, path-between}
use Rattle.symbolic.proofs.Build.{laws}
use Rattle.symbolic.proofs.Paths.{path-members, path-start}

-- ---- of any list of factor columns, positions from i on

abbrev empty_column : Column
empty_column = column_with 0 []

place_of : (fs : List FactorColumn) (j i : ℕ) (cs : List Column) → 0 < label_from fs j i cs →
    (k : ℕ) × (k < length cs) × (label_from fs j i cs ≡ i + k) × (passes fs j (get_or cs k empty_column) ≡ true)
unfolding label_from
place_of fs j i [] h = absurd (omega arith)
place_of fs j i (c ∷ cs) h =
    elim (zero-or-pos (label_from fs j (suc i) cs)) [
      | inr p ↦
          let t : (k : ℕ) × (k < length cs) × (label_from fs j (suc i) cs ≡ suc i + k) × (passes fs j (get_or cs k empty_column) ≡ true) = place_of fs j (suc i) cs p in
          (suc t.0, omega arith, rw (ne_eqb (label_from fs j (suc i) cs) 0 (omega arith)) (omega arith), t.3)
      | inl z ↦ elim (cases (passes fs j c)) [
        | inl e ↦ (0, omega arith, rw (eq-eqb (label_from fs j (suc i) cs) 0 z, e) (omega arith), e)
        | inr e ↦ absurd (omega (arith, rw (eq-eqb (label_from fs j (suc i) cs) 0 z, e) at h))
      ]
    ]

place-most : (fs : List FactorColumn) (j i : ℕ) (cs : List Column) (k : ℕ) → 1 ≤ i → k < length cs → (passes fs j (get_or cs k empty_column) ≡ true) → i + k ≤ label_from fs j i cs
unfolding label_from
place-most fs j i [] k a x h = absurd (omega arith)
place-most fs j i (c ∷ cs) zero a x h =
    elim (zero-or-pos (label_from fs j (suc i) cs)) [
      | inl z ↦ rw (eq-eqb (label_from fs j (suc i) cs) 0 z, h) (omega arith)
      | inr p ↦
          let t : (k : ℕ) × (k < length cs) × (label_from fs j (suc i) cs ≡ suc i + k) × (passes fs j (get_or cs k empty_column) ≡ true) = place_of fs j (suc i) cs p in
          rw (ne_eqb (label_from fs j (suc i) cs) 0 (omega arith)) (omega arith)
    ]
place-most fs j i (c ∷ cs) (suc k) a x h =
    let ih : suc i + k ≤ label_from fs j (suc i) cs = place-most fs j (suc i) cs k (omega arith) (omega arith) h in
    rw (ne_eqb (label_from fs j (suc i) cs) 0 (omega arith)) (omega arith)

-- ---- the largest position

pub label-passes : (fs : List FactorColumn) (cs : List Column) (j : ℕ) → 0 < label_of fs cs j →
    (label_of fs cs j ≤ length cs) × (passes fs j (at_position cs (label_of fs cs j)) ≡ true)
label-passes fs cs j h =
    let t : (k : ℕ) × (k < length cs) × (label_of fs cs j ≡ 1 + k) × (passes fs j (get_or cs k empty_column) ≡ true) = place_of fs j 1 cs h in
    let q : t.0 ≡ label_of fs cs j - 1 = omega arith in
    (omega arith, subst (λ (k : ℕ). passes fs j (get_or cs k empty_column) ≡ true) q t.3)

pub label-largest : (fs : List FactorColumn) (cs : List Column) (j k : ℕ) → 1 ≤ k → k ≤ length cs → passes fs j (at_position cs k) ≡ true → k ≤ label_of fs cs j
label-largest fs cs j k a b h = omega (arith, place-most fs j 1 cs (k - 1) (omega arith) (omega arith) h)

-- not 0 exactly on touched columns
pub label-touched : (fs : List FactorColumn) (cs : List Column) (j : ℕ) → 0 < label_of fs cs j → is_touched fs cs j ≡ true
label-touched fs cs j h =
    let t : (label_of fs cs j ≤ length cs) × (passes fs j (at_position cs (label_of fs cs j)) ≡ true) = label-passes fs cs j h in
    any-has (passes fs j) (place-mem cs (label_of fs cs j - 1) empty_column (omega arith)) t.1

pub touched-label : (fs : List FactorColumn) (cs : List Column) (j : ℕ) → is_touched fs cs j ≡ true → 0 < label_of fs cs j
touched-label fs cs j h =
    let t : (c : Column) × Mem c cs × (passes fs j c ≡ true) = any-find (passes fs j) cs h in
    let u : (k : ℕ) × (k < length cs) × (get_or cs k empty_column ≡ t.0) = mem-place empty_column t.1 in
    omega (arith, place-most fs j 1 cs u.0 (omega arith) u.1 (subst (λ (c : Column). passes fs j c ≡ true) (sym u.2) t.2))

-- ---- up the tree

module _ (m : ℕ) (cs batch : List Column) where
  -- the label of a column of the batch's tree, and the row that the path of that position starts at
  abbrev pub label : (j : ℕ) → ℕ
  label j = label_of (factor_of m cs) batch j

  abbrev pub start_of : (position : ℕ) → ℕ
  start_of k = smallest (at_position batch k)

  abbrev P : ℕ → ℕ
  P = parent_of (factor_of m cs)

  pub label-path : (j : ℕ) → j ≤ m → 0 < label j → (label j ≤ length batch) × (1 ≤ start_of (label j)) × (start_of (label j) ≤ m) × OnPath P (start_of (label j)) j
  label-path j b h =
      let t : (label j ≤ length batch) × (passes (factor_of m cs) j (at_position batch (label j)) ≡ true) = label-passes (factor_of m cs) batch j h in
      let s : (1 ≤ start_of (label j)) × (start_of (label j) ≤ m) × OnPath P (start_of (label j)) j = path-start m cs (start_of (label j)) j b t.1 in
      (t.0, s.0, s.1, s.2)

  pub path-label : (j k : ℕ) → 1 ≤ k → k ≤ length batch → 1 ≤ start_of k → start_of k ≤ m → OnPath P (start_of k) j → k ≤ label j
  path-label j k x y a b u = label-largest (factor_of m cs) batch j k x y ((path-members m cs (start_of k) j a b).1 u)

  pub label-start : (j k : ℕ) → 1 ≤ j → j ≤ m → 1 ≤ k → k ≤ length batch → start_of k ≡ j → k ≤ label j
  label-start j k a b x y e = path-label j k x y (omega arith) (omega arith) (subst (λ (z : ℕ). OnPath P (start_of k) z) e here)

  pub label-child : (c : ℕ) → 1 ≤ c → c ≤ m → 0 < P c → label c ≤ label (P c)
  label-child c a b p =
      elim (zero-or-pos (label c)) [
        | inl z ↦ omega arith
        | inr q ↦
            let t : (label c ≤ length batch) × (1 ≤ start_of (label c)) × (start_of (label c) ≤ m) × OnPath P (start_of (label c)) c = label-path c b q in
            path-label (P c) (label c) q t.0 t.1 t.2 (path-extends t.3 p)
      ]

  -- labels rise along a path
  pub label-rises : {a b : ℕ} → 1 ≤ a → a ≤ m → OnPath P a b → label a ≤ label b
  label-rises x y here = omega arith
  label-rises x y (up {j = a} {k = b} p u) =
      let v : (a < P a) × (P a ≤ m) × (0 < multiplicity (factor_of m cs) (P a) a) = (laws m cs).parent_in a x y p in
      omega (arith, label-child a x y p, label-rises (omega arith) v.1 u)

  pub label-cases : (j : ℕ) → 1 ≤ j → j ≤ m → 0 < label j →
      (start_of (label j) ≡ j) ⊎ ((c : ℕ) × (1 ≤ c) × (c < j) × (P c ≡ j) × (label c ≡ label j))
  label-cases j a b q =
      let t : (label j ≤ length batch) × (1 ≤ start_of (label j)) × (start_of (label j) ≤ m) × OnPath P (start_of (label j)) j = label-path j b q in
      elim (path-last t.3) [
        | inl e ↦ inl e
        | inr u ↦
            let c : ℕ = u.0 in
            let w : (start_of (label j) ≤ c) × (c ≤ m) = path-within (laws m cs) t.1 t.2 u.1.0 in
            let v : (c < P c) × (P c ≤ m) × (0 < multiplicity (factor_of m cs) (P c) c) = (laws m cs).parent_in c (omega arith) w.1 u.1.1.0 in
            let low : label c ≤ label j = subst (λ (y : ℕ). label c ≤ label y) u.1.1.1 (label-child c (omega arith) w.1 u.1.1.0) in
            let high : label j ≤ label c = path-label c (label j) q t.0 t.1 t.2 u.1.0 in
            inr (c, omega arith, omega arith, u.1.1.1, omega arith)
      ]

  next : {a b : ℕ} → OnPath P a b → 1 ≤ a → a < b → b ≤ m → label a ≡ label b → label (P a) ≡ label a
  next here x l y e = absurd (omega arith)
  next (up {j = a} {k = b} p w) x l y e =
      let v : (a < P a) × (P a ≤ m) × (0 < multiplicity (factor_of m cs) (P a) a) = (laws m cs).parent_in a x (omega arith) p in
      omega (arith, label-child a x (omega arith) p, label-rises (omega arith) v.1 w)

  -- two columns of one label lie on one path, and the parent of the lower has that label
  pub label-follows : (a b : ℕ) → 1 ≤ a → a < b → b ≤ m → 0 < label a → label a ≡ label b → OnPath P a b × (label (P a) ≡ label a)
  label-follows a b x l y h e =
      let t : (label a ≤ length batch) × (1 ≤ start_of (label a)) × (start_of (label a) ≤ m) × OnPath P (start_of (label a)) a = label-path a (omega arith) h in
      let u : (label b ≤ length batch) × (1 ≤ start_of (label b)) × (start_of (label b) ≤ m) × OnPath P (start_of (label b)) b = label-path b y (omega arith) in
      let v : OnPath P (start_of (label a)) b = subst (λ (k : ℕ). OnPath P (start_of k) b) (sym e) u.3 in
      let w : OnPath P a b = path-between (laws m cs) t.1 t.2 l t.3 v in
      (w, next w x l y e)
