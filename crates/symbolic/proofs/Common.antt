-- The common row of some rows. First of any test: the first number that passes it is the least one, 0 where none passes. Then rows whose paths have just the path
-- of x in common have x as their common row (`common-shared`): what code that walks paths shows. Last, for all multiplicities and parents that are as the
-- definition says: the common row is the smallest on all paths (`common-least`). Assumes nothing.
use mathlib.Core.Path.{◌≡◌, refl, sym, ap, ◌∙◌, subst}
use mathlib.Core.Logic.{inl, inr}
use mathlib.Core.Bool.{Bool, true, false≢true}
use mathlib.Core.List.{List, [], ◌∷◌}
use Prim.Native.Nat.{ℕ, ◌≤◌, ◌<◌}
use native.Mathlib.Omega.{arith}
use lib.ListN.{length, get_or}
use Rattle.lists.specs.Lists.{Mem, first, all, among, rises, is_in}
use Rattle.lists.proofs.Tests.{zero-or-pos, in-range}
use Rattle.lists.proofs.Member.{place-mem, all-at, all-make}
use Rattle.lists.proofs.Rising.{rises-in, rises-first}
use Rattle.symbolic.specs.Columns.{Column, starting_with}
use Rattle.symbolic.specs.Factor.{factor_of, parent_of, path_of}
use Rattle.symbolic.specs.Definition.{IsFactor, OnPath, here, up}
use Rattle.symbolic.specs.Batch.{passing}
use Rattle.symbolic.specs.Meeting.{on_paths, common_of, OnPaths, IsCommon}
use Rattle.symbolic.proofs.Laws.{path-within}
use Rattle.symbolic.proofs.Two.{factor-agrees}
use Rattle.symbolic.proofs.Build.{laws, factor-length}
use Rattle.symbolic.proofs.Paths.{path-root, path-members}
use Rattle.symbolic.proofs.Passing.{passing-mem, mem-passing, passing-rises}

-- ---- the first number that passes a test

first-in : (xs : List ℕ) → 0 < get_or xs 0 0 → Mem (get_or xs 0 0) xs
first-in [] h = absurd (omega arith)
first-in (x ∷ xs) h = first

first-low : {x : ℕ} (a b : ℕ) (xs : List ℕ) → Mem x xs → rises a b xs ≡ true → (a ≤ get_or xs 0 0) × (get_or xs 0 0 ≤ x)
first-low a b [] m h = elim m [ ]
first-low a b (y ∷ ys) m h = ((rises-in a b first h).0, rises-first a b m h)

-- the first one passes
pub first_passes : (f : ℕ → Bool) (n : ℕ) → 0 < get_or (passing f 1 n) 0 0 → f (get_or (passing f 1 n) 0 0) ≡ true
first_passes f n h = (mem-passing f 1 n (get_or (passing f 1 n) 0 0) (first-in (passing f 1 n) h)).2

-- where some number passes there is a first one, no larger
pub first-least : (f : ℕ → Bool) (n k : ℕ) → 1 ≤ k → k ≤ n → f k ≡ true → (1 ≤ get_or (passing f 1 n) 0 0) × (get_or (passing f 1 n) 0 0 ≤ k)
first-least f n k a b h = first-low 1 n (passing f 1 n) (passing-mem f 1 n k a (omega arith) h) (passing-rises f 1 n n (omega arith))

module _ (m : ℕ) (cs : List Column) (is : List ℕ) where
  -- ---- what is on all paths, as a test

  pub common-on : 0 < common_of (factor_of m cs) is → on_paths (factor_of m cs) is (common_of (factor_of m cs) is) ≡ true
  common-on h = first_passes (on_paths (factor_of m cs) is) (length (factor_of m cs)) h

  pub common-low : (k : ℕ) → 1 ≤ k → k ≤ m → on_paths (factor_of m cs) is k ≡ true → (1 ≤ common_of (factor_of m cs) is) × (common_of (factor_of m cs) is ≤ k)
  common-low k a b h = first-least (on_paths (factor_of m cs) is) (length (factor_of m cs)) k a (omega (arith, factor-length m cs)) h

  -- ---- rows whose paths share just the path of x, which is 0 where they share nothing

  module _ (x : ℕ) (b : x ≤ m) (e : (k : ℕ) → on_paths (factor_of m cs) is k ≡ among k (path_of (factor_of m cs) x)) where
    shared-none : x ≡ 0 → 0 < common_of (factor_of m cs) is → ⊥
    unfolding among
    shared-none z h =
        let c : ℕ = common_of (factor_of m cs) is in
        let q : path_of (factor_of m cs) x ≡ [] =
        ap (λ (y : ℕ). path_of (factor_of m cs) y) z ∙ path-root (length (factor_of m cs)) (factor_of m cs) in
        false≢true (sym (e c ∙ ap (among c) q) ∙ common-on h)

    pub common-shared : common_of (factor_of m cs) is ≡ x
    common-shared =
        elim (zero-or-pos x) [
          | inl z ↦ elim (zero-or-pos (common_of (factor_of m cs) is)) [
            | inl y ↦ omega arith
            | inr y ↦ absurd (shared-none z y)
          ]
          | inr p ↦
              let t : (1 ≤ common_of (factor_of m cs) is) × (common_of (factor_of m cs) is ≤ x) = common-low x p b (e x ∙ (path-members m cs x x p b).1 here) in
              let u : OnPath (parent_of (factor_of m cs)) x (common_of (factor_of m cs) is) =
              (path-members m cs x (common_of (factor_of m cs) is) p b).0 (sym (e (common_of (factor_of m cs) is)) ∙ common-on t.0) in
              omega (arith, path-within (laws m cs) p b u)
        ]

-- ---- paths by two parents that agree on 1 to m

path-moves : {m : ℕ} {S M : ℕ → ℕ → ℕ} {P Q : ℕ → ℕ} → IsFactor m S M P → ((j : ℕ) → 1 ≤ j → j ≤ m → P j ≡ Q j) →
    {i k : ℕ} → 1 ≤ i → i ≤ m → OnPath P i k → OnPath Q i k
path-moves L e a b here = here
path-moves {M = M} {P = P} {Q = Q} L e a b (up {j = i} {k = k} p u) =
    let v : (i < P i) × (P i ≤ _) × (0 < M (P i) i) = L.parent_in i a b p in
    let q : 0 < Q i = omega (arith, e i a b) in
    up q (subst (λ (x : ℕ). OnPath Q x k) (e i a b) (path-moves L e (omega arith) v.1 u))

-- ---- the smallest on all paths

module _ (m : ℕ) (cs : List Column) (M : ℕ → ℕ → ℕ) (P : ℕ → ℕ) (L : IsFactor m (λ j i. starting_with j i cs) M P)
    (is : List ℕ) (some : 1 ≤ length is) (fits : all (is_in 1 m) is ≡ true) where
  parents-agree : (j : ℕ) → 1 ≤ j → j ≤ m → P j ≡ parent_of (factor_of m cs) j
  parents-agree j a b = (factor-agrees L (laws m cs) (λ k l x y z. refl) j a b).1

  named_in : {i : ℕ} → Mem i is → (1 ≤ i) × (i ≤ m)
  named_in {i} h = in-range 1 m i (all-at (is_in 1 m) h fits)

  paths-test : (k : ℕ) → OnPaths P is k → on_paths (factor_of m cs) is k ≡ true
  paths-test k h =
      all-make (λ (i : ℕ). among k (path_of (factor_of m cs) i)) is
      (λ i s. (path-members m cs i k (named_in s).0 (named_in s).1).1 (path-moves L parents-agree (named_in s).0 (named_in s).1 (h i s)))

  test-paths : (k : ℕ) → on_paths (factor_of m cs) is k ≡ true → OnPaths P is k
  test-paths k h i s =
      path-moves (laws m cs) (λ j a b. sym (parents-agree j a b)) (named_in s).0 (named_in s).1
      ((path-members m cs i k (named_in s).0 (named_in s).1).0 (all-at (λ (i : ℕ). among k (path_of (factor_of m cs) i)) s h))

  -- what is on all paths is a row of 1 to m: there is a path
  paths-within : (k : ℕ) → OnPaths P is k → (1 ≤ k) × (k ≤ m)
  paths-within k h =
      let i : ℕ = get_or is 0 0 in
      let s : Mem i is = place-mem is 0 0 some in
      let a : (1 ≤ i) × (i ≤ m) = named_in s in
      omega (arith, path-within L a.0 a.1 (h i s))

  common-above : (k : ℕ) → OnPaths P is k → (1 ≤ common_of (factor_of m cs) is) × (common_of (factor_of m cs) is ≤ k)
  common-above k h = common-low m cs is k (paths-within k h).0 (paths-within k h).1 (paths-test k h)

  pub common-least : IsCommon P is (common_of (factor_of m cs) is)
  common-least = record {
    lies = λ p. test-paths (common_of (factor_of m cs) is) (common-on m cs is p);
    least = λ k h. (common-above k h).1;
    none = (
      λ z k h. omega (arith, (common-above k h).0),
      λ n. elim (zero-or-pos (common_of (factor_of m cs) is)) [
        | inl z ↦ z
        | inr p ↦ absurd (n (common_of (factor_of m cs) is) (test-paths (common_of (factor_of m cs) is) (common-on m cs is p)))
      ],
    );
  }
