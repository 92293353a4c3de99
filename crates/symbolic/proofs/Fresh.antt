-- The factor of no columns: every column is a root (`fresh-parent`) and holds its diagonal alone, once (`fresh-count`; `fresh-column` says it of the
-- lists). An opening writes it.
-- Assumes nothing.
use mathlib.Core.Path.{◌≡◌, refl, sym, ap, ◌∙◌}
use mathlib.Core.Logic.{inl, inr, ◌≢◌}
use mathlib.Core.Bool.{Bool, true}
use mathlib.Core.List.{List, [], ◌∷◌}
use Prim.Native.Nat.{ℕ, zero, suc, ◌+◌, ◌-◌, ◌≤◌, ◌<◌}
use native.Mathlib.Omega.{arith}
use lib.Dec.{eqb}
use lib.ListN.{length, get_or}
use borrow.Author.Tests.{eq-eqb, ne_eqb}
use Rattle.lists.specs.Lists.{one, count}
use Rattle.lists.proofs.Tests.{lt-or-le, zero-or-pos}
use Rattle.lists.proofs.Count.{count_cut}
use Rattle.symbolic.specs.Columns.{starting_with}
use Rattle.symbolic.specs.Factor.{factor_of, column_at, multiplicity, parent_of, pattern_from, non_zero, pattern_of, multiplicities_of}
use Rattle.symbolic.specs.Definition.{child_with}
use Rattle.symbolic.proofs.Laws.{child-other, pattern-cases}
use Rattle.symbolic.proofs.Build.{laws, counts-length}

count_none : (f : ℕ → Bool) → count f 0 ≡ 0
unfolding count
count_none f = refl

parent_by : (m n j : ℕ) → j < n → 1 ≤ j → j ≤ m → parent_of (factor_of m []) j ≡ 0
unfolding starting_with
parent_by m zero j f a b = absurd (omega arith)
parent_by m (suc n) j f a b =
    elim (zero-or-pos (parent_of (factor_of m []) j)) [
      | inl z ↦ z
      | inr p ↦
          let P : ℕ → ℕ = parent_of (factor_of m []) in
          let M : ℕ → ℕ → ℕ = multiplicity (factor_of m []) in
          let v : (j < P j) × (P j ≤ m) × (0 < M (P j) j) = (laws m []).parent_in j a b p in
          elim (pattern-cases (laws m []) (P j) j a (omega arith) v.1 v.2) [
            | inl e ↦ absurd (omega arith)
            | inr (inr s) ↦ absurd (omega arith)
            | inr (inl z) ↦ absurd (omega (arith, parent_by m n z.0 (omega arith) z.1 (omega arith), z.3))
          ]
    ]

pub fresh-parent : (m j : ℕ) → 1 ≤ j → j ≤ m → parent_of (factor_of m []) j ≡ 0
fresh-parent m j a b = parent_by m (suc j) j (omega arith) a b

pub fresh-count : (m i j : ℕ) → 1 ≤ i → i ≤ m → 1 ≤ j → j ≤ m → multiplicity (factor_of m []) i j ≡ one (eqb i j)
unfolding starting_with
fresh-count m i j a b c d =
    elim (lt-or-le i j) [
      | inl q ↦ (laws m []).below i j a q d ∙ sym (ap one (ne_eqb i j (omega arith)))
      | inr q ↦
          let P : ℕ → ℕ = parent_of (factor_of m []) in
          let M : ℕ → ℕ → ℕ = multiplicity (factor_of m []) in
          let z : count (child_with M P j i) m ≡ count (child_with M P j i) 0 =
          count_cut (child_with M P j i) 0 m (omega arith) (λ e x y. child-other M P j i e (λ k. omega (arith, fresh-parent m e (omega arith) y))) in
          let w : count (child_with M P j i) 0 ≡ 0 = count_none (child_with M P j i) in
          omega (arith, (laws m []).counted i j c q b)
    ]

-- ---- lists of one entry

none_of : (a : ℕ) (ns : List ℕ) → ((l : ℕ) → l < length ns → get_or ns l 0 ≡ 0) → (pattern_from a ns ≡ []) × (non_zero ns ≡ [])
unfolding pattern_from non_zero
none_of a [] h = (refl, refl)
none_of a (n ∷ ns) h =
    let t : (pattern_from (suc a) ns ≡ []) × (non_zero ns ≡ []) = none_of (suc a) ns (λ l x. h (suc l) (omega arith)) in
    let e : eqb n 0 ≡ true = eq-eqb n 0 (h 0 (omega arith)) in
    (rw e t.0, rw e t.1)

one_of : (a : ℕ) (ns : List ℕ) (k : ℕ) → k < length ns → get_or ns k 0 ≡ 1 → ((l : ℕ) → l < length ns → l ≢ k → get_or ns l 0 ≡ 0) →
    (pattern_from a ns ≡ (a + k) ∷ []) × (non_zero ns ≡ 1 ∷ [])
unfolding pattern_from non_zero
one_of a [] k x y h = absurd (omega arith)
one_of a (n ∷ ns) zero x y h =
    let t : (pattern_from (suc a) ns ≡ []) × (non_zero ns ≡ []) = none_of (suc a) ns (λ l z. h (suc l) (omega arith) (omega arith)) in
    let q : a ≡ a + 0 = omega arith in
    (rw (y, t.0) (ap {B = List ℕ} (λ z. z ∷ []) q), rw (y, t.1))
one_of a (n ∷ ns) (suc k) x y h =
    let t : (pattern_from (suc a) ns ≡ (suc a + k) ∷ []) × (non_zero ns ≡ 1 ∷ []) =
    one_of (suc a) ns k (omega arith) y (λ l z w. h (suc l) (omega arith) (omega arith)) in
    let e : eqb n 0 ≡ true = eq-eqb n 0 (h 0 (omega arith) (omega arith)) in
    let q : suc a + k ≡ a + suc k = omega arith in
    (rw e (t.0 ∙ ap {B = List ℕ} (λ z. z ∷ []) q), rw e t.1)

-- column j is j alone, with multiplicity 1
pub fresh-column : (m j : ℕ) → 1 ≤ j → j ≤ m →
    (pattern_of (column_at (factor_of m []) j) ≡ j ∷ []) × (multiplicities_of (column_at (factor_of m []) j) ≡ 1 ∷ [])
fresh-column m j a b =
    let ns : List ℕ = (column_at (factor_of m []) j).counts in
    let l : length ns ≡ m = counts-length m [] j a b in
    let t : (pattern_from 1 ns ≡ (1 + (j - 1)) ∷ []) × (non_zero ns ≡ 1 ∷ []) =
    one_of 1 ns (j - 1) (omega arith) (fresh-count m j j a b a b ∙ ap one (eq-eqb j j refl)) (λ k x y.
    let q : suc k - 1 ≡ k = omega arith in
    rw q at (fresh-count m (suc k) j (omega arith) (omega arith) a b ∙ ap one (ne_eqb (suc k) j (omega arith)))) in
    let e : 1 + (j - 1) ≡ j = omega arith in
    (t.0 ∙ ap {B = List ℕ} (λ z. z ∷ []) e, t.1)
