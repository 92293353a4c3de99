-- What follows from the definition's sentences alone (IsFactor), for any starts S, multiplicities M and parents P: one child, paths, the rows of a
-- column and of its parent, fill, the children that a multiplicity counts. Row i is in L_j exactly if 0 < M i j: omega reads that.
-- All else rests on `pattern-fill`: a column that holds j and a larger row i puts i into column j. Walks.antt has chains of rows, Two.antt two
-- factors side by side. Assumes nothing.
use mathlib.Core.Path.{◌≡◌, refl, ap, subst}
use mathlib.Core.Logic.{◌⊎◌, inl, inr, ◌≢◌}
use mathlib.Core.Bool.{true, false, not, false≢true}
use Prim.Native.Nat.{ℕ, zero, suc, ◌+◌, ◌≤◌, ◌<◌}
use native.Mathlib.Omega.{arith}
use lib.Dec.{eqb}
use borrow.Author.Tests.{eq-eqb, ne_eqb}
use Rattle.lists.specs.Lists.{one, count}
use Rattle.lists.proofs.Tests.{eq-or-ne, lt-or-le, zero-or-pos, refute}
use Rattle.lists.proofs.Count.{count-find, count-has, count_cut}
use Rattle.symbolic.specs.Definition.{child_with, IsFactor, OnPath, here, up}

-- ---- one child

module _ (M : ℕ → ℕ → ℕ) (P : ℕ → ℕ) (j i c : ℕ) where
  pub child-true : P c ≡ j → 0 < M i c → child_with M P j i c ≡ true
  child-true e h = rw (eq-eqb (P c) j e, ne_eqb (M i c) 0 (omega arith))

  -- a child counts the rows that it holds
  pub child-is : P c ≡ j → child_with M P j i c ≡ not (eqb (M i c) 0)
  child-is e = rw (eq-eqb (P c) j e)

  -- what is no child counts nothing
  pub child-other : P c ≢ j → child_with M P j i c ≡ false
  child-other n = rw (ne_eqb (P c) j n)

  pub child-inv : child_with M P j i c ≡ true → (P c ≡ j) × (0 < M i c)
  child-inv h =
      elim (eq-or-ne (P c) j) [
        | inl e ↦ elim (zero-or-pos (M i c)) [
          | inl z ↦ absurd (false≢true (rw (eq-eqb (P c) j e, eq-eqb (M i c) 0 z) at h))
          | inr z ↦ (e, z)
        ]
        | inr e ↦ absurd (false≢true (rw (ne_eqb (P c) j e) at h))
      ]

-- ---- paths, of any parents

-- one step more at the end
pub path-extends : {P : ℕ → ℕ} {j k : ℕ} → OnPath P j k → 0 < P k → OnPath P j (P k)
path-extends here p = up p here
path-extends (up q u) p = up q (path-extends u p)

pub path-joins : {P : ℕ → ℕ} {j k l : ℕ} → OnPath P j k → OnPath P k l → OnPath P j l
path-joins here v = v
path-joins (up q u) v = up q (path-joins u v)

-- the last step
pub path-last : {P : ℕ → ℕ} {s j : ℕ} → OnPath P s j → (s ≡ j) ⊎ ((c : ℕ) × (OnPath P s c × ((0 < P c) × (P c ≡ j))))
path-last here = inl refl
path-last (up {j = c} {k = k} p u) =
    elim (path-last u) [
      | inl q ↦ inr (c, (here, (p, q)))
      | inr t ↦ inr (t.0, (up p t.1.0, t.1.1))
    ]

-- of two on one path, one is on the other's
pub path-branches : {P : ℕ → ℕ} {s a b : ℕ} → OnPath P s a → OnPath P s b → OnPath P a b ⊎ OnPath P b a
path-branches here v = inl v
path-branches (up p u) here = inr (up p u)
path-branches (up p u) (up q v) = path-branches u v

module _ {m : ℕ} {S M : ℕ → ℕ → ℕ} {P : ℕ → ℕ} (L : IsFactor m S M P) where
  -- ---- the rows of a column: the diagonal, those of its children, those of the columns that start there, and no others

  pub diagonal-in : (j : ℕ) → 1 ≤ j → j ≤ m → 0 < M j j
  diagonal-in j a b = omega (arith, L.counted j j a (omega arith) b, ap one (eq-eqb j j refl))

  pub child-in : (c i : ℕ) → 1 ≤ c → c ≤ m → 0 < P c → P c ≤ i → i ≤ m → 0 < M i c → 0 < M i (P c)
  child-in c i a b p q d h = omega (arith, L.counted i (P c) p q d, count-has (child_with M P (P c) i) m c a b (child-true M P (P c) i c refl h))

  pub start-in : (j i : ℕ) → 1 ≤ j → j ≤ i → i ≤ m → 0 < S j i → 0 < M i j
  start-in j i a b d h = omega (arith, L.counted i j a b d)

  pub pattern-cases : (i j : ℕ) → 1 ≤ j → j ≤ i → i ≤ m → 0 < M i j →
      (i ≡ j) ⊎ (((c : ℕ) × (1 ≤ c) × (c < j) × (P c ≡ j) × (0 < M i c)) ⊎ (0 < S j i))
  pattern-cases i j a b d h =
      elim (eq-or-ne i j) [
        | inl e ↦ inl e
        | inr e ↦ elim (zero-or-pos (S j i)) [
          | inr s ↦ inr (inr s)
          | inl s ↦
              let z : (c : ℕ) × (1 ≤ c) × (c ≤ m) × (child_with M P j i c ≡ true) =
              count-find (child_with M P j i) m (omega (arith, L.counted i j a b d, ap one (ne_eqb i j e))) in
              let w : (P z.0 ≡ j) × (0 < M i z.0) = child-inv M P j i z.0 z.3 in
              let v : (z.0 < P z.0) × (P z.0 ≤ m) × (0 < M (P z.0) z.0) = L.parent_in z.0 z.1 z.2 (omega arith) in
              inr (inl (z.0, z.1, omega arith, w.0, w.1))
        ]
      ]

  -- a row that a column holds is not below it
  pub row-above : (i j : ℕ) → 1 ≤ i → j ≤ m → 0 < M i j → j ≤ i
  row-above i j a b h = elim (lt-or-le i j) [ inl q ↦ absurd (omega (arith, L.below i j a q b)) | inr q ↦ q ]

  -- ---- parents

  -- a column that holds a row above it has a parent, at most that row
  pub parent-reaches : (i j : ℕ) → 1 ≤ j → j < i → i ≤ m → 0 < M i j → (0 < P j) × (j < P j) × (P j ≤ i)
  parent-reaches i j a b d h =
      elim (zero-or-pos (P j)) [
        | inl z ↦ absurd (omega (arith, L.root i j a b d z))
        | inr p ↦ elim (lt-or-le i (P j)) [
          | inl q ↦ absurd (omega (arith, L.parent-least i j a b d q))
          | inr q ↦ (p, (L.parent_in j a (omega arith) p).0, q)
        ]
      ]

  -- that row is in the parent's column
  pub parent-contains : (i j : ℕ) → 1 ≤ j → j < i → i ≤ m → 0 < M i j → (0 < P j) × (P j ≤ i) × (0 < M i (P j))
  parent-contains i j a b d h =
      let t : (0 < P j) × (j < P j) × (P j ≤ i) = parent-reaches i j a b d h in (t.0, t.2, child-in j i a (omega arith) t.0 t.2 d h)

  -- ---- fill: up the path of s to a row j of L_s, with all larger rows of L_s

  climb : (n s i j : ℕ) → j ≤ s + n → 1 ≤ s → s ≤ j → j ≤ i → i ≤ m → 0 < M j s → 0 < M i s → OnPath P s j × (0 < M i j)
  climb zero s i j f a b d e g h =
      let q : s ≡ j = omega arith in (subst (λ (x : ℕ). OnPath P s x) q here, subst (λ (x : ℕ). 0 < M i x) q h)
  climb (suc n) s i j f a b d e g h =
      elim (eq-or-ne s j) [
        | inl q ↦ (subst (λ (x : ℕ). OnPath P s x) q here, subst (λ (x : ℕ). 0 < M i x) q h)
        | inr q ↦
            let t : (0 < P s) × (s < P s) × (P s ≤ j) = parent-reaches j s a (omega arith) (omega arith) g in
            let r : OnPath P (P s) j × (0 < M i j) =
            climb n (P s) i j (omega arith) (omega arith) t.2 d e
            (child-in s j a (omega arith) t.0 t.2 (omega arith) g) (child-in s i a (omega arith) t.0 (omega arith) e h) in
            (up t.0 r.0, r.1)
      ]

  pub pattern-fill : (s i j : ℕ) → 1 ≤ s → s ≤ j → j ≤ i → i ≤ m → 0 < M j s → 0 < M i s → 0 < M i j
  pattern-fill s i j a b d e g h = (climb j s i j (omega arith) a b d e g h).1

  -- a row of L_s is on the path of s
  pub pattern-on-path : (s j : ℕ) → 1 ≤ s → s ≤ j → j ≤ m → 0 < M j s → OnPath P s j
  pattern-on-path s j a b d g = (climb j s j j (omega arith) a b (omega arith) d g g).0

  -- ---- paths rise

  pub path-within : {s j : ℕ} → 1 ≤ s → s ≤ m → OnPath P s j → (s ≤ j) × (j ≤ m)
  path-within a b here = (omega arith, b)
  path-within a b (up {j = s} {k = j} p u) =
      let v : (s < P s) × (P s ≤ m) × (0 < M (P s) s) = L.parent_in s a b p in
      let w : (P s ≤ j) × (j ≤ m) = path-within (omega arith) v.1 u in
      (omega arith, w.1)

  -- two on one path: the larger is on the smaller's
  pub path-between : {s a b : ℕ} → 1 ≤ s → s ≤ m → a < b → OnPath P s a → OnPath P s b → OnPath P a b
  path-between {s} {a} {b} x y l u v =
      let w : (s ≤ b) × (b ≤ m) = path-within x y v in
      elim (path-branches u v) [
        | inl z ↦ z
        | inr z ↦ absurd (omega (arith, (path-within (omega arith) w.1 z).0))
      ]

  -- ---- the children that a multiplicity counts

  pub child-below : (j i c : ℕ) → 1 ≤ j → 1 ≤ c → c ≤ m → child_with M P j i c ≡ true → c < j
  child-below j i c o a b h =
      let w : (P c ≡ j) × (0 < M i c) = child-inv M P j i c h in
      let v : (c < P c) × (P c ≤ m) × (0 < M (P c) c) = L.parent_in c a b (omega arith) in
      omega arith

  -- no column from j on is a child of j
  pub child-late : (j i c : ℕ) → 1 ≤ j → j ≤ c → c ≤ m → child_with M P j i c ≡ false
  child-late j i c a b d = refute (child_with M P j i c) (λ e. omega (arith, child-below j i c a (omega arith) d e))

  -- children up to any k from j - 1 on are all the children
  pub counted-at : (k i j : ℕ) → 1 ≤ j → j ≤ i → i ≤ m → j ≤ suc k → k ≤ m → M i j ≡ count (child_with M P j i) k + S j i + one (eqb i j)
  counted-at k i j a b d x y =
      omega (arith, L.counted i j a b d, count_cut (child_with M P j i) k m y (λ c p q. child-late j i c a (omega arith) q))
