-- Chains of rows, from the definition's sentences alone (IsFactor): walks whose rows between stay below a bound, over any relation that the columns
-- that start at a row give rise to (Edges). `walk_of` and `walk-in` are the chain rule; a column's pattern is the least that is closed.
-- Columns.antt says that sharing a column is such a relation. Assumes nothing.
use mathlib.Core.Path.{◌≡◌, sym, subst}
use mathlib.Core.Logic.{◌⊎◌, inl, inr, ◌≢◌}
use Prim.Native.Nat.{ℕ, zero, suc, ◌≤◌, ◌<◌}
use native.Mathlib.Omega.{arith}
use Rattle.lists.proofs.Tests.{eq-or-ne}
use Rattle.symbolic.specs.Definition.{IsFactor}
use Rattle.symbolic.proofs.Laws.{start-in, pattern-cases, pattern-fill}

-- ---- walks: neighbours by E, rows between smaller than b

pub data Walk (E : ℕ → ℕ → Type 0) (b : ℕ) : ℕ → ℕ → Type 0 where
  edge : {x y : ℕ} → E x y → Walk E b x y
  step : {x y z : ℕ} → E x y → y < b → Walk E b y z → Walk E b x z

module _ {E : ℕ → ℕ → Type 0} where
  pub walk-joins : {b x y z : ℕ} → Walk E b x y → y < b → Walk E b y z → Walk E b x z
  walk-joins (edge e) h w = step e h w
  walk-joins (step e k v) h w = step e k (walk-joins v h w)

  pub walk-back : {b x y : ℕ} → ((x y : ℕ) → E x y → E y x) → Walk E b x y → Walk E b y x
  walk-back s (edge {x = x} {y = y} e) = edge (s x y e)
  walk-back s (step {x = x} {y = y} e k v) = walk-joins (walk-back s v) k (edge (s x y e))

  pub walk-wider : {b d x y : ℕ} → b ≤ d → Walk E b x y → Walk E d x y
  walk-wider h (edge e) = edge e
  walk-wider h (step {y = y} e k v) = step e (omega arith) (walk-wider h v)

  -- a walk with rows up to b either keeps below b or goes through b
  pub walk-splits : {b x z : ℕ} → Walk E (suc b) x z → Walk E b x z ⊎ (Walk E b x b × Walk E b b z)
  walk-splits (edge e) = inl (edge e)
  walk-splits {b} (step {x = x} {y = y} {z = z} e k v) = go (walk-splits v) (eq-or-ne y b)
    where
      go : Walk E b y z ⊎ (Walk E b y b × Walk E b b z) → (y ≡ b) ⊎ (y ≢ b) → Walk E b x z ⊎ (Walk E b x b × Walk E b b z)
      go (inl w) (inl q) = inr (edge (subst (λ (n : ℕ). E x n) q e), subst (λ (n : ℕ). Walk E b n z) q w)
      go (inl w) (inr q) = inl (step e (omega arith) w)
      go (inr w) (inl q) = inr (edge (subst (λ (n : ℕ). E x n) q e), w.1)
      go (inr w) (inr q) = inr (step e (omega arith) w.0, w.1)

-- ---- the chain rule

-- E joins the rows of columns: it goes both ways, from a start to the rows that start there, and any two joined rows start together
pub record Edges (m : ℕ) (S : ℕ → ℕ → ℕ) (E : ℕ → ℕ → Type 0) : Type 0 where
  pub swap : (x y : ℕ) → E x y → E y x
  pub from_start : (j i : ℕ) → 1 ≤ j → j < i → 0 < S j i → E j i
  pub to_start : (x y : ℕ) → E x y → (s : ℕ) × (1 ≤ s) × (s ≤ x) × (s ≤ y) × (x ≤ m) × (y ≤ m) × (0 < S s x) × (0 < S s y)

module _ {m : ℕ} {S M : ℕ → ℕ → ℕ} {P : ℕ → ℕ} (L : IsFactor m S M P) {E : ℕ → ℕ → Type 0} (G : Edges m S E) where
  walk-by : (n i j : ℕ) → j < n → 1 ≤ j → j < i → i ≤ m → 0 < M i j → Walk E j j i
  walk-by zero i j f a b d h = absurd (omega arith)
  walk-by (suc n) i j f a b d h =
      elim (pattern-cases L i j a (omega arith) d h) [
        | inl e ↦ absurd (omega arith)
        | inr (inr s) ↦ edge (G.from_start j i a b s)
        | inr (inl z) ↦
            let c : ℕ = z.0 in
            let v : (c < P c) × (P c ≤ m) × (0 < M (P c) c) = L.parent_in c z.1 (omega arith) (omega arith) in
            let p : 0 < M j c = subst (λ (x : ℕ). 0 < M x c) z.3 v.2 in
            walk-joins (walk-wider (omega arith) (walk-back G.swap (walk-by n j c (omega arith) z.1 (omega arith) (omega arith) p))) z.2
            (walk-wider (omega arith) (walk-by n i c (omega arith) z.1 (omega arith) d z.4))
      ]

  -- a row of L_j is led to from j, by rows below j
  pub walk_of : (i j : ℕ) → 1 ≤ j → j < i → i ≤ m → 0 < M i j → Walk E j j i
  walk_of i j a b d h = walk-by (suc j) i j (omega arith) a b d h

  pub edge_in : (x y : ℕ) → x < y → E x y → 0 < M y x
  edge_in x y l e =
      let t : (s : ℕ) × (1 ≤ s) × (s ≤ x) × (s ≤ y) × (x ≤ m) × (y ≤ m) × (0 < S s x) × (0 < S s y) = G.to_start x y e in
      pattern-fill L t.0 y x t.1 t.2 (omega arith) t.5
      (start-in L t.0 x t.1 t.2 t.4 t.6) (start-in L t.0 y t.1 t.3 t.5 t.7)

  walk-low : {b x y : ℕ} → Walk E b x y → 1 ≤ y
  walk-low (edge {x = x} {y = y} e) =
      let t : (s : ℕ) × (1 ≤ s) × (s ≤ x) × (s ≤ y) × (x ≤ m) × (y ≤ m) × (0 < S s x) × (0 < S s y) = G.to_start x y e in omega arith
  walk-low (step e k v) = walk-low v

  -- where rows below b lead from x to a larger y, L_x holds y: by b, the walk cut where it goes through b
  pub walk-in : (b x y : ℕ) → 1 ≤ x → b ≤ x → x < y → y ≤ m → Walk E b x y → 0 < M y x
  walk-in zero x y o a l d (edge e) = edge_in x y l e
  walk-in zero x y o a l d (step {y = z} e k v) = absurd (omega arith)
  walk-in (suc b) x y o a l d w =
      elim (walk-splits w) [
        | inl v ↦ walk-in b x y o (omega arith) l d v
        | inr v ↦
            let k : 1 ≤ b = walk-low v.0 in
            pattern-fill L b y x k (omega arith) (omega arith) d
            (walk-in b b x k (omega arith) (omega arith) (omega arith) (walk-back G.swap v.0))
            (walk-in b b y k (omega arith) (omega arith) d v.1)
      ]

-- ---- the least closed pattern: C holds the diagonal and what starts, and is closed under fill

module _ {m : ℕ} {S M : ℕ → ℕ → ℕ} {P : ℕ → ℕ} (L : IsFactor m S M P) (C : ℕ → ℕ → Type 0) (diagonal : (j : ℕ) → 1 ≤ j → j ≤ m → C j j)
    (start : (i j : ℕ) → 1 ≤ j → j < i → i ≤ m → 0 < S j i → C i j)
    (fill : (i k j : ℕ) → 1 ≤ j → j < k → k < i → i ≤ m → C i j → C k j → C i k) where
  least_by : (n i j : ℕ) → j < n → 1 ≤ j → j ≤ i → i ≤ m → 0 < M i j → C i j
  least_by zero i j f a b d h = absurd (omega arith)
  least_by (suc n) i j f a b d h =
      elim (eq-or-ne i j) [
        | inl q ↦ subst (λ (x : ℕ). C x j) (sym q) (diagonal j a (omega arith))
        | inr q ↦ elim (pattern-cases L i j a b d h) [
          | inl e ↦ absurd (q e)
          | inr (inr s) ↦ start i j a (omega arith) d s
          | inr (inl z) ↦
              let v : (z.0 < P z.0) × (P z.0 ≤ m) × (0 < M (P z.0) z.0) = L.parent_in z.0 z.1 (omega arith) (omega arith) in
              fill i j z.0 z.1 z.2 (omega arith) d (least_by n i z.0 (omega arith) z.1 (omega arith) d z.4)
              (least_by n j z.0 (omega arith) z.1 (omega arith) (omega arith) (subst (λ (x : ℕ). 0 < M x z.0) z.3 v.2))
        ]
      ]

  pub pattern-within : (i j : ℕ) → 1 ≤ j → j ≤ i → i ≤ m → 0 < M i j → C i j
  pattern-within i j a b d h = least_by (suc j) i j (omega arith) a b d h
