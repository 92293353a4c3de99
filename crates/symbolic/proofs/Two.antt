-- Two factors over the same rows, from the definition's sentences alone: the same starts give the same factor, more starts give larger patterns and
-- parents no higher, and columns off a set that the larger factor's parents do not leave are the same in both (`columns-local`). One law serves
-- adding and removing: only the roles change. Assumes nothing.
use mathlib.Core.Path.{◌≡◌, sym, ◌∙◌, subst}
use mathlib.Core.Logic.{inl, inr}
use Prim.Native.Nat.{ℕ, zero, suc, ◌≤◌, ◌<◌}
use native.Mathlib.Omega.{arith}
use Rattle.lists.proofs.Tests.{lt-or-le, zero-or-pos, both_ways}
use Rattle.lists.proofs.Count.{count-ext}
use Rattle.symbolic.specs.Definition.{child_with, IsFactor, OnPath, here, up}
use Rattle.symbolic.proofs.Laws.{child-inv, diagonal-in, start-in, pattern-cases, pattern-fill, pattern-on-path, parent-reaches, child-below}

-- column j has the same multiplicities and the same parent in both
abbrev pub Agree : (m : ℕ) (M M' : ℕ → ℕ → ℕ) (P P' : ℕ → ℕ) (j : ℕ) → Type 0
Agree m M M' P P' j = ((i : ℕ) → 1 ≤ i → i ≤ m → M i j ≡ M' i j) × (P j ≡ P' j)

module _ {m : ℕ} {S M : ℕ → ℕ → ℕ} {P : ℕ → ℕ} (L : IsFactor m S M P) {S' M' : ℕ → ℕ → ℕ} {P' : ℕ → ℕ} (L' : IsFactor m S' M' P') where
  -- ---- a column and its parent from its multiplicities

  pub parent-same : (j : ℕ) → 1 ≤ j → j ≤ m → ((i : ℕ) → 1 ≤ i → i ≤ m → M i j ≡ M' i j) → P j ≡ P' j
  parent-same j a b h =
      elim (zero-or-pos (P j)) [
        | inl z ↦ elim (zero-or-pos (P' j)) [
          | inl y ↦ omega arith
          | inr y ↦
              let v : (j < P' j) × (P' j ≤ m) × (0 < M' (P' j) j) = L'.parent_in j a b y in
              absurd (omega (arith, h (P' j) (omega arith) v.1, L.root (P' j) j a v.0 v.1 z))
        ]
        | inr z ↦
            let u : (j < P j) × (P j ≤ m) × (0 < M (P j) j) = L.parent_in j a b z in
            elim (zero-or-pos (P' j)) [
              | inl y ↦ absurd (omega (arith, h (P j) (omega arith) u.1, L'.root (P j) j a u.0 u.1 y))
              | inr y ↦
                  let v : (j < P' j) × (P' j ≤ m) × (0 < M' (P' j) j) = L'.parent_in j a b y in
                  elim (lt-or-le (P j) (P' j)) [
                    | inl q ↦ absurd (omega (arith, h (P j) (omega arith) u.1, L'.parent-least (P j) j a u.0 u.1 q))
                    | inr q ↦ elim (lt-or-le (P' j) (P j)) [
                      | inl p ↦ absurd (omega (arith, h (P' j) (omega arith) v.1, L.parent-least (P' j) j a v.0 v.1 p))
                      | inr p ↦ omega arith
                    ]
                  ]
            ]
      ]

  column-agrees : (j : ℕ) → 1 ≤ j → j ≤ m → ((i : ℕ) → j ≤ i → i ≤ m → S j i ≡ S' j i) →
      ((i c : ℕ) → j ≤ i → i ≤ m → 1 ≤ c → c ≤ m → child_with M P j i c ≡ child_with M' P' j i c) → Agree m M M' P P' j
  column-agrees j a b s k =
      let h : (i : ℕ) → 1 ≤ i → i ≤ m → M i j ≡ M' i j =
      λ i d e. elim (lt-or-le i j) [
        | inl q ↦ L.below i j d q b ∙ sym (L'.below i j d q b)
        | inr q ↦ omega (
          arith,
          L.counted i j a q e,
          L'.counted i j a q e,
          s i q e,
          count-ext (child_with M P j i) (child_with M' P' j i) m (λ c x y. k i c q e x y),
        )
      ] in
      (h, parent-same j a b h)

  -- a column that is the same in both counts the same for its parent
  pub child-same : (j i c : ℕ) → 1 ≤ i → i ≤ m → Agree m M M' P P' c → child_with M P j i c ≡ child_with M' P' j i c
  child-same j i c a b g = rw (g.0 i a b, g.1)

  -- ---- growth

  grows-by : ((j i : ℕ) → 0 < S j i → 0 < S' j i) → (n i j : ℕ) → j < n → 1 ≤ j → j ≤ i → i ≤ m → 0 < M i j → 0 < M' i j
  grows-by w zero i j f a b d h = absurd (omega arith)
  grows-by w (suc n) i j f a b d h =
      elim (pattern-cases L i j a b d h) [
        | inl e ↦ rw e (diagonal-in L' j a (omega arith))
        | inr (inr s) ↦ start-in L' j i a b d (w j i s)
        | inr (inl z) ↦
            let v : (z.0 < P z.0) × (P z.0 ≤ m) × (0 < M (P z.0) z.0) = L.parent_in z.0 z.1 (omega arith) (omega arith) in
            pattern-fill L' z.0 i j z.1 (omega arith) b d
            (grows-by w n j z.0 (omega arith) z.1 (omega arith) (omega arith) (subst (λ (x : ℕ). 0 < M x z.0) z.3 v.2))
            (grows-by w n i z.0 (omega arith) z.1 (omega arith) d z.4)
      ]

  pub pattern-grows : ((j i : ℕ) → 0 < S j i → 0 < S' j i) → (i j : ℕ) → 1 ≤ j → j ≤ i → i ≤ m → 0 < M i j → 0 < M' i j
  pattern-grows w i j a b d h = grows-by w (suc j) i j (omega arith) a b d h

  -- with more starts a parent stays or falls
  pub parent-falls : ((j i : ℕ) → 0 < S j i → 0 < S' j i) → (j : ℕ) → 1 ≤ j → j ≤ m → 0 < P j → (0 < P' j) × (P' j ≤ P j)
  parent-falls w j a b p =
      let v : (j < P j) × (P j ≤ m) × (0 < M (P j) j) = L.parent_in j a b p in
      let t : (0 < P' j) × (j < P' j) × (P' j ≤ P j) =
      parent-reaches L' (P j) j a v.0 v.1 (pattern-grows w (P j) j a (omega arith) v.1 v.2) in
      (t.0, t.2)

  -- the smaller factor's parent is on the larger factor's path
  pub parent-on-path : ((j i : ℕ) → 0 < S j i → 0 < S' j i) → (j : ℕ) → 1 ≤ j → j ≤ m → 0 < P j → OnPath P' j (P j)
  parent-on-path w j a b p =
      let v : (j < P j) × (P j ≤ m) × (0 < M (P j) j) = L.parent_in j a b p in
      pattern-on-path L' j (P j) a (omega arith) v.1 (pattern-grows w (P j) j a (omega arith) v.1 v.2)

module _ {m : ℕ} {S M : ℕ → ℕ → ℕ} {P : ℕ → ℕ} (L : IsFactor m S M P) {S' M' : ℕ → ℕ → ℕ} {P' : ℕ → ℕ} (L' : IsFactor m S' M' P') where
  -- ---- uniqueness

  agrees-by : ((j i : ℕ) → 1 ≤ j → j ≤ i → i ≤ m → S j i ≡ S' j i) → (n j : ℕ) → j < n → 1 ≤ j → j ≤ m → Agree m M M' P P' j
  agrees-by s zero j f a b = absurd (omega arith)
  agrees-by s (suc n) j f a b =
      column-agrees L L' j a b (λ i d e. s j i a d e)
      (λ i c d e x y. both_ways (child_with M P j i c) (child_with M' P' j i c)
      (λ h. sym (child-same L L' j i c (omega arith) e (agrees-by s n c (omega (arith, child-below L j i c a x y h)) x y)) ∙ h)
      (λ h. child-same L L' j i c (omega arith) e (agrees-by s n c (omega (arith, child-below L' j i c a x y h)) x y) ∙ h))

  pub factor-agrees : ((j i : ℕ) → 1 ≤ j → j ≤ i → i ≤ m → S j i ≡ S' j i) → (j : ℕ) → 1 ≤ j → j ≤ m → Agree m M M' P P' j
  factor-agrees s j a b = agrees-by s (suc j) j (omega arith) a b

  -- ---- locality: the larger factor's parents do not leave T, and off T the same columns start

  module _ (T : ℕ → Type 0) (closed : (c : ℕ) → 1 ≤ c → c ≤ m → T c → 0 < P' c → T (P' c)) where
    pub path-closed : {c j : ℕ} → 1 ≤ c → c ≤ m → OnPath P' c j → T c → T j
    path-closed a b here t = t
    path-closed a b (up {j = c} {k = j} p u) t =
        let v : (c < P' c) × (P' c ≤ m) × (0 < M' (P' c) c) = L'.parent_in c a b p in
        path-closed (omega arith) v.1 u (closed c a b t p)

    module _ (w : (j i : ℕ) → 0 < S j i → 0 < S' j i) (off : (j i : ℕ) → 1 ≤ j → j ≤ m → (T j → ⊥) → S j i ≡ S' j i) where
      local_by : (n j : ℕ) → j < n → 1 ≤ j → j ≤ m → (T j → ⊥) → Agree m M M' P P' j
      local_by zero j f a b t = absurd (omega arith)
      local_by (suc n) j f a b t =
          column-agrees L L' j a b (λ i d e. off j i a b t)
          (λ i c d e x y. both_ways (child_with M P j i c) (child_with M' P' j i c)
          (λ h.
          let z : c < j = child-below L j i c a x y h in
          let k : (P c ≡ j) × (0 < M i c) = child-inv M P j i c h in
          let q : OnPath P' c j = subst (λ (r : ℕ). OnPath P' c r) k.0 (parent-on-path L L' w c x y (omega arith)) in
          sym (child-same L L' j i c (omega arith) e (local_by n c (omega arith) x y (λ g. t (path-closed x y q g)))) ∙ h)
          (λ h.
          let z : c < j = child-below L' j i c a x y h in
          let k : (P' c ≡ j) × (0 < M' i c) = child-inv M' P' j i c h in
          let u : T c → ⊥ = λ g. t (subst T k.0 (closed c x y g (omega arith))) in
          child-same L L' j i c (omega arith) e (local_by n c (omega arith) x y u) ∙ h))

      pub columns-local : (j : ℕ) → 1 ≤ j → j ≤ m → (T j → ⊥) → Agree m M M' P P' j
      columns-local j a b t = local_by (suc j) j (omega arith) a b t
