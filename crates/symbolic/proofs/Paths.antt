-- Paths as lists: membership is being on the path, whatever the fuel; a path step by step; where it starts; it rises, so it is short enough for m places.
-- Laws.antt has paths as parents lead them. Assumes nothing.
use mathlib.Core.Path.{◌≡◌, refl, sym, ap, ◌∙◌, subst}
use mathlib.Core.Logic.{inl, inr, ◌↔◌}
use mathlib.Core.Bool.{true, false≢true}
use mathlib.Core.List.{List, [], ◌∷◌}
use Prim.Native.Nat.{ℕ, zero, suc, ◌+◌, ◌≤◌, ◌<◌}
use native.Mathlib.Omega.{arith}
use lib.Dec.{eqb}
use lib.ListN.{length}
use borrow.Author.Tests.{le-leb, eqb-true, eq-eqb, ne_eqb}
use Rattle.lists.specs.Lists.{among, rises}
use Rattle.lists.proofs.Tests.{eq-or-ne, lt-or-le, zero-or-pos, both-and, or-either, or_left, or_right}
use Rattle.lists.proofs.Rising.{rises-weaken, rises-length}
use Rattle.symbolic.specs.Columns.{Column}
use Rattle.symbolic.specs.Factor.{FactorColumn, factor_of, multiplicity, parent_of, path_from, path_of}
use Rattle.symbolic.specs.Definition.{OnPath, here, up}
use Rattle.symbolic.proofs.Build.{laws, factor-length, column-outside}

-- ---- of any list of factor columns

pub path-up : (n : ℕ) (fs : List FactorColumn) (j k : ℕ) → among k (path_from n fs j) ≡ true → (1 ≤ j) × OnPath (parent_of fs) j k
unfolding path_from among
path-up zero fs j k h = absurd (false≢true h)
path-up (suc n) fs j k h =
    elim (eq-or-ne j 0) [
      | inl q ↦ absurd (false≢true (rw (eq-eqb j 0 q) at h))
      | inr q ↦ elim (or-either (eqb k j) (among k (path_from n fs (parent_of fs j))) (rw (ne_eqb j 0 q) at h)) [
        | inl e ↦ (omega arith, subst (λ (x : ℕ). OnPath (parent_of fs) j x) (sym (eqb-true k j e)) here)
        | inr e ↦
            let t : (1 ≤ parent_of fs j) × OnPath (parent_of fs) (parent_of fs j) k = path-up n fs (parent_of fs j) k e in
            (omega arith, up t.0 t.1)
      ]
    ]

-- there is no path of 0
pub path-root : (n : ℕ) (fs : List FactorColumn) → path_from n fs 0 ≡ []
unfolding path_from
path-root zero fs = refl
path-root (suc n) fs = refl

module _ (m : ℕ) (cs : List Column) where
  -- ---- membership

  path-has : (n : ℕ) {j k : ℕ} → 1 ≤ j → j ≤ m → m < j + n → OnPath (parent_of (factor_of m cs)) j k → among k (path_from n (factor_of m cs) j) ≡ true
  unfolding path_from among
  path-has zero {j} {k} a b d u = absurd (omega arith)
  path-has (suc n) a b d (here {j}) =
      rw (ne_eqb j 0 (omega arith)) (or_left (eqb j j) (among j (path_from n (factor_of m cs) (parent_of (factor_of m cs) j))) (eq-eqb j j refl))
  path-has (suc n) a b d (up {j} {k} p u) =
      let v : (j < parent_of (factor_of m cs) j) × (parent_of (factor_of m cs) j ≤ m) × (0 < multiplicity (factor_of m cs) (parent_of (factor_of m cs) j) j) =
      (laws m cs).parent_in j a b p in
      rw (ne_eqb j 0 (omega arith)) (or_right (eqb k j) (among k (path_from n (factor_of m cs) (parent_of (factor_of m cs) j)))
      (path-has n (omega arith) v.1 (omega arith) u))

  pub path-members : (j k : ℕ) → 1 ≤ j → j ≤ m → (among k (path_of (factor_of m cs) j) ≡ true) ↔ OnPath (parent_of (factor_of m cs)) j k
  path-members j k a b = (
    λ h. (path-up (length (factor_of m cs)) (factor_of m cs) j k h).1,
    λ u. path-has (length (factor_of m cs)) a b (omega (arith, factor-length m cs)) u,
  )

  -- past m there is no parent
  pub parent-outside : (j : ℕ) → m < j → parent_of (factor_of m cs) j ≡ 0
  parent-outside j h = ap (λ (f : FactorColumn). f.parent) (column-outside m cs j h)

  -- a path that comes by a column of 1 to m starts at one, whatever it was asked for
  pub path-start : (s k : ℕ) → k ≤ m → among k (path_of (factor_of m cs) s) ≡ true → (1 ≤ s) × (s ≤ m) × OnPath (parent_of (factor_of m cs)) s k
  path-start s k b h =
      let t : (1 ≤ s) × OnPath (parent_of (factor_of m cs)) s k = path-up (length (factor_of m cs)) (factor_of m cs) s k h in
      elim (lt-or-le m s) [
        | inr q ↦ (t.0, q, t.1)
        | inl q ↦ absurd (outside t.1 q)
      ]
    where
      outside : {x : ℕ} → OnPath (parent_of (factor_of m cs)) x k → m < x → ⊥
      outside here q = omega arith
      outside (up {j = x} p u) q = omega (arith, parent-outside x q)

  -- ---- step by step

  path-fuel : (n k j : ℕ) → j ≤ m → m < j + n → m < j + k → path_from n (factor_of m cs) j ≡ path_from k (factor_of m cs) j
  unfolding path_from
  path-fuel zero k j b x y = absurd (omega arith)
  path-fuel (suc n) zero j b x y = absurd (omega arith)
  path-fuel (suc n) (suc k) j b x y =
      elim (eq-or-ne j 0) [
        | inl q ↦ rw (eq-eqb j 0 q)
        | inr q ↦ elim (zero-or-pos (parent_of (factor_of m cs) j)) [
          | inl z ↦ rw (ne_eqb j 0 q, z) (ap {B = List ℕ} (λ l. j ∷ l) (path-root n (factor_of m cs) ∙ sym (path-root k (factor_of m cs))))
          | inr p ↦
              let v : (j < parent_of (factor_of m cs) j) × (parent_of (factor_of m cs) j ≤ m) × (0 < multiplicity (factor_of m cs) (parent_of (factor_of m cs) j) j) =
              (laws m cs).parent_in j (omega arith) b p in
              rw (ne_eqb j 0 q, path-fuel n k (parent_of (factor_of m cs) j) v.1 (omega arith) (omega arith))
        ]
      ]

  pub path-step : (j : ℕ) → 1 ≤ j → j ≤ m → path_of (factor_of m cs) j ≡ j ∷ path_of (factor_of m cs) (parent_of (factor_of m cs) j)
  unfolding path_from
  path-step j a b =
      let n : ℕ = length (factor_of m cs) in
      let q : path_of (factor_of m cs) j ≡ path_from (suc n) (factor_of m cs) j =
      path-fuel n (suc n) j b (omega (arith, factor-length m cs)) (omega (arith, factor-length m cs)) in
      q ∙ rw (ne_eqb j 0 (omega arith))

  -- ---- a path rises, so it has at most m + 1 - j rows

  rises_by : (n j : ℕ) → 1 ≤ j → j ≤ m → rises j m (path_from n (factor_of m cs) j) ≡ true
  unfolding path_from rises
  rises_by zero j a b = refl
  rises_by (suc n) j a b =
      let rest : rises (suc j) m (path_from n (factor_of m cs) (parent_of (factor_of m cs) j)) ≡ true =
      elim (zero-or-pos (parent_of (factor_of m cs) j)) [
        | inl z ↦ rw (z, path-root n (factor_of m cs))
        | inr p ↦
            let v : (j < parent_of (factor_of m cs) j) × (parent_of (factor_of m cs) j ≤ m) × (0 < multiplicity (factor_of m cs) (parent_of (factor_of m cs) j) j) =
            (laws m cs).parent_in j a b p in
            rises-weaken (parent_of (factor_of m cs) j) m (suc j) (path_from n (factor_of m cs) (parent_of (factor_of m cs) j)) v.0
            (rises_by n (parent_of (factor_of m cs) j) (omega arith) v.1)
      ] in
      rw (ne_eqb j 0 (omega arith)) (both-and (both-and (le-leb j j (omega arith)) (le-leb j m b)) rest)

  pub path-rises : (j : ℕ) → 1 ≤ j → j ≤ m → rises j m (path_of (factor_of m cs) j) ≡ true
  path-rises j a b = rises_by (length (factor_of m cs)) j a b

  pub path-length : (j : ℕ) → 1 ≤ j → j ≤ m → length (path_of (factor_of m cs) j) + j ≤ suc m
  path-length j a b = rises-length j m (path_of (factor_of m cs) j) (omega arith) (path-rises j a b)
