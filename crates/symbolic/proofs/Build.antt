-- The computed factor: its columns one by one, its length, and `laws`: it meets the definition's sentences (IsFactor). This file alone unfolds build_from (but for instances). Assumes nothing.
use mathlib.Core.Path.{◌≡◌, refl, sym, ap, ◌∙◌, subst}
use mathlib.Core.Logic.{◌⊎◌, inl, inr}
use mathlib.Core.Bool.{false, ◌&&◌, not}
use mathlib.Core.List.{List, [], ◌∷◌, ◌++◌, append_assoc, append-nil}
use Prim.Native.Nat.{ℕ, zero, suc, ◌+◌, ◌-◌, ◌≤◌, ◌<◌}
use native.Mathlib.Omega.{arith}
use native.Mathlib.Nat.{add-zero, add-suc, suc-add}
use lib.Dec.{ltb, eqb}
use lib.ListN.{length, get_or, take, length-append, get_or-eq_default}
use lib.Seq.{take-append_seam, get_or-append_seam, take-suc, ext_get_or}
use borrow.Author.Tests.{lt-ltb, le-ltb, eq-eqb, ne_eqb}
use Rattle.lists.specs.Lists.{pick, one, count}
use Rattle.lists.proofs.Tests.{eq-or-ne, lt-or-le, zero-or-pos, refute}
use Rattle.lists.proofs.Count.{count_cut}
use Rattle.symbolic.specs.Columns.{Column, starting_with}
use Rattle.symbolic.specs.Factor.{FactorColumn, count_in, children_with, count_for, counts_from, first_above, column_by, build_from, factor_of, no_column, column_at, multiplicity, parent_of}
use Rattle.symbolic.specs.Definition.{child_with, IsFactor}
use Rattle.symbolic.proofs.Laws.{child-inv}

-- column j over those before it
abbrev pub column_over : (m : ℕ) → List Column → (before : List FactorColumn) → (j : ℕ) → FactorColumn
column_over m cs fs j = column_by j (counts_from cs fs j 1 m)

-- ---- building appends a column at a time

build-grows : (m : ℕ) (cs : List Column) (fs : List FactorColumn) (j n : ℕ) →
    (rest : List FactorColumn) × (build_from m cs fs j n ≡ fs ++ rest) × (length rest ≡ n)
unfolding build_from
build-grows m cs fs j zero = ([], sym (append-nil fs), refl)
build-grows m cs fs j (suc n) =
    let f : FactorColumn = column_over m cs fs j in
    let t : (rest : List FactorColumn) × (build_from m cs (fs ++ (f ∷ [])) (suc j) n ≡ (fs ++ (f ∷ [])) ++ rest) × (length rest ≡ n) =
    build-grows m cs (fs ++ (f ∷ [])) (suc j) n in
    (f ∷ t.0, t.1 ∙ append_assoc fs (f ∷ []) t.0, ap suc t.2)

build-at : (m : ℕ) (cs : List Column) (fs : List FactorColumn) (j n k : ℕ) → j ≡ suc (length fs) → length fs ≤ k → k < length fs + n →
    get_or (build_from m cs fs j n) k no_column ≡ column_over m cs (take k (build_from m cs fs j n)) (suc k)
unfolding build_from
build-at m cs fs j zero k e a b = absurd (omega arith)
build-at m cs fs j (suc n) k e a b =
    let f : FactorColumn = column_over m cs fs j in
    let t : (rest : List FactorColumn) × (build_from m cs (fs ++ (f ∷ [])) (suc j) n ≡ (fs ++ (f ∷ [])) ++ rest) × (length rest ≡ n) =
    build-grows m cs (fs ++ (f ∷ [])) (suc j) n in
    elim (eq-or-ne k (length fs)) [
      | inl q ↦ rw (t.1, append_assoc fs (f ∷ []) t.0, q, get_or-append_seam fs f t.0 no_column, take-append_seam fs (f ∷ t.0), e)
      | inr q ↦
          let l : length (fs ++ (f ∷ [])) ≡ suc (length fs) = omega (arith, length-append fs (f ∷ [])) in
          build-at m cs (fs ++ (f ∷ [])) (suc j) n k (omega arith) (omega arith) (omega arith)
    ]

-- ---- children and counts as the definition has them

children-snoc : (j i : ℕ) (fs : List FactorColumn) (f : FactorColumn) →
    children_with j i (fs ++ (f ∷ [])) ≡ children_with j i fs + one (eqb f.parent j && not (eqb (count_in f i) 0))
unfolding children_with
children-snoc j i [] f = omega arith
children-snoc j i (g ∷ fs) f = omega (arith, children-snoc j i fs f)

-- the children among the first k columns, of any list of factor columns
pub children-count : (fs : List FactorColumn) (j i k : ℕ) → k ≤ length fs →
    children_with j i (take k fs) ≡ count (child_with (multiplicity fs) (parent_of fs) j i) k
unfolding children_with count
children-count fs j i zero h = refl
children-count fs j i (suc k) h =
    let e : suc k - 1 ≡ k = omega arith in
    rw (
      take-suc fs k no_column h,
      children-snoc j i (take k fs) (get_or fs k no_column),
      children-count fs j i k (omega arith),
      ← ap (λ (x : ℕ). get_or fs x no_column) e,
    )

pub counts-at : (cs : List Column) (fs : List FactorColumn) (j i n k : ℕ) → k < n → get_or (counts_from cs fs j i n) k 0 ≡ count_for cs fs j (i + k)
unfolding counts_from
counts-at cs fs j i zero k h = absurd (omega arith)
counts-at cs fs j i (suc n) zero h = rw add-zero
counts-at cs fs j i (suc n) (suc k) h = rw (counts-at cs fs j (suc i) n k (omega arith), suc-add, ← add-suc)

pub counts-from-length : (cs : List Column) (fs : List FactorColumn) (j i n : ℕ) → length (counts_from cs fs j i n) ≡ n
unfolding counts_from
counts-from-length cs fs j i zero = refl
counts-from-length cs fs j i (suc n) = ap suc (counts-from-length cs fs j (suc i) n)

-- ---- the smallest row above j

data First (j i : ℕ) (ns : List ℕ) (p : ℕ) : Type 0 where
  nothing : p ≡ 0 → ((k : ℕ) → k < length ns → j < i + k → get_or ns k 0 ≡ 0) → First j i ns p
  found : (k : ℕ) → k < length ns → p ≡ i + k → j < i + k → 0 < get_or ns k 0 → ((l : ℕ) → l < k → j < i + l → get_or ns l 0 ≡ 0) → First j i ns p

-- one more place before those of ns
places : (i j n : ℕ) (ns : List ℕ) (e : ℕ) → n ≡ 0 → ((k : ℕ) → k < e → j < suc i + k → get_or ns k 0 ≡ 0) → (k : ℕ) → k < suc e → j < i + k → get_or (n ∷ ns) k 0 ≡ 0
places i j n ns e b h zero u v = b
places i j n ns e b h (suc k) u v = h k (omega arith) (omega arith)

-- the same from a row on that is not above j
places-up : (i j n : ℕ) (ns : List ℕ) (e : ℕ) → i ≤ j → ((k : ℕ) → k < e → j < suc i + k → get_or ns k 0 ≡ 0) → (k : ℕ) → k < suc e → j < i + k → get_or (n ∷ ns) k 0 ≡ 0
places-up i j n ns e a h zero u v = absurd (omega (arith, add-zero i))
places-up i j n ns e a h (suc k) u v = h k (omega arith) (omega arith)

first-is : (j i : ℕ) (ns : List ℕ) → First j i ns (first_above j i ns)
unfolding first_above
first-is j i [] = nothing refl (λ k a b. absurd (omega arith))
first-is j i (n ∷ ns) = go (first_above j (suc i) ns) (first-is j (suc i) ns) (lt-or-le j i) (zero-or-pos n)
  where
    go : (p : ℕ) → First j (suc i) ns p → (j < i) ⊎ (i ≤ j) → (n ≡ 0) ⊎ (0 < n) → First j i (n ∷ ns) (pick (ltb j i && not (eqb n 0)) i p)
    go p (nothing z h) (inr a) b =
        rw (le-ltb j i a) (nothing z (places-up i j n ns (length ns) a h))
    go p (nothing z h) (inl a) (inl b) =
        rw (lt-ltb j i a, eq-eqb n 0 b) (nothing z (places i j n ns (length ns) b h))
    go p (nothing z h) (inl a) (inr b) =
        rw (lt-ltb j i a, ne_eqb n 0 (omega arith)) (found 0 (omega arith) (omega arith) (omega arith) b (λ l x y. absurd (omega arith)))
    go p (found k x e y z h) (inr a) b =
        rw (le-ltb j i a) (found (suc k) (omega arith) (omega arith) (omega arith) z
        (places-up i j n ns k a h))
    go p (found k x e y z h) (inl a) (inl b) =
        rw (lt-ltb j i a, eq-eqb n 0 b) (found (suc k) (omega arith) (omega arith) (omega arith) z
        (places i j n ns k b h))
    go p (found k x e y z h) (inl a) (inr b) =
        rw (lt-ltb j i a, ne_eqb n 0 (omega arith)) (found 0 (omega arith) (omega arith) (omega arith) b (λ l x y. absurd (omega arith)))

-- ---- the factor's columns

module _ (m : ℕ) (cs : List Column) where
  pub factor-length : length (factor_of m cs) ≡ m
  factor-length =
      let t : (rest : List FactorColumn) × (factor_of m cs ≡ [] ++ rest) × (length rest ≡ m) = build-grows m cs [] 1 m in
      ap length t.1 ∙ t.2

  pub column-is : (j : ℕ) → 1 ≤ j → j ≤ m → column_at (factor_of m cs) j ≡ column_over m cs (take (j - 1) (factor_of m cs)) j
  column-is j a b =
      let e : suc (j - 1) ≡ j = omega arith in
      build-at m cs [] 1 m (j - 1) refl (omega arith) (omega arith) ∙ ap (λ (x : ℕ). column_over m cs (take (j - 1) (factor_of m cs)) x) e

  pub count-is : (i j : ℕ) → 1 ≤ i → i ≤ m → 1 ≤ j → j ≤ m → multiplicity (factor_of m cs) i j ≡ count_for cs (take (j - 1) (factor_of m cs)) j i
  count-is i j a b d e =
      let q : 1 + (i - 1) ≡ i = omega arith in
      ap (λ (f : FactorColumn). count_in f i) (column-is j d e) ∙ counts-at cs (take (j - 1) (factor_of m cs)) j 1 m (i - 1) (omega arith) ∙
      ap (λ (x : ℕ). count_for cs (take (j - 1) (factor_of m cs)) j x) q

  pub counts-length : (j : ℕ) → 1 ≤ j → j ≤ m → length (column_at (factor_of m cs) j).counts ≡ m
  counts-length j a b =
      ap (λ (f : FactorColumn). length f.counts) (column-is j a b) ∙ counts-from-length cs (take (j - 1) (factor_of m cs)) j 1 m

  pub parent_is : (j : ℕ) → 1 ≤ j → j ≤ m → parent_of (factor_of m cs) j ≡ first_above j 1 (column_at (factor_of m cs) j).counts
  parent_is j a b = subst (λ (f : FactorColumn). f.parent ≡ first_above j 1 f.counts) (sym (column-is j a b)) refl

  -- past m there is no column: nothing is counted, and the parent is 0
  pub column-outside : (j : ℕ) → m < j → column_at (factor_of m cs) j ≡ no_column
  column-outside j h = get_or-eq_default (factor_of m cs) no_column {n = j - 1} (omega (arith, factor-length))

  -- ---- it meets the definition

  parent-first : (j : ℕ) → 1 ≤ j → j ≤ m → First j 1 (column_at (factor_of m cs) j).counts (parent_of (factor_of m cs) j)
  parent-first j a b =
      subst (λ (f : FactorColumn). First j 1 f.counts f.parent) (sym (column-is j a b))
      (first-is j 1 (counts_from cs (take (j - 1) (factor_of m cs)) j 1 m))

  law-parent-in : (j : ℕ) → 1 ≤ j → j ≤ m → 0 < parent_of (factor_of m cs) j →
      (j < parent_of (factor_of m cs) j) × (parent_of (factor_of m cs) j ≤ m) × (0 < multiplicity (factor_of m cs) (parent_of (factor_of m cs) j) j)
  law-parent-in j a b h = go (parent-first j a b)
    where
      go : First j 1 (column_at (factor_of m cs) j).counts (parent_of (factor_of m cs) j) →
          (j < parent_of (factor_of m cs) j) × (parent_of (factor_of m cs) j ≤ m) × (0 < multiplicity (factor_of m cs) (parent_of (factor_of m cs) j) j)
      go (nothing z n) = absurd (omega arith)
      go (found k x e y z n) =
          let q : k ≡ parent_of (factor_of m cs) j - 1 = omega arith in
          (omega arith, omega (arith, counts-length j a b), subst (λ (w : ℕ). 0 < get_or (column_at (factor_of m cs) j).counts w 0) q z)

  law-root : (i j : ℕ) → 1 ≤ j → j < i → i ≤ m → parent_of (factor_of m cs) j ≡ 0 → multiplicity (factor_of m cs) i j ≡ 0
  law-root i j a b d h = go (parent-first j a (omega arith))
    where
      go : First j 1 (column_at (factor_of m cs) j).counts (parent_of (factor_of m cs) j) → multiplicity (factor_of m cs) i j ≡ 0
      go (nothing z n) = n (i - 1) (omega (arith, counts-length j a (omega arith))) (omega arith)
      go (found k x e y z n) = absurd (omega arith)

  law-parent-least : (i j : ℕ) → 1 ≤ j → j < i → i ≤ m → i < parent_of (factor_of m cs) j → multiplicity (factor_of m cs) i j ≡ 0
  law-parent-least i j a b d h = go (parent-first j a (omega arith))
    where
      go : First j 1 (column_at (factor_of m cs) j).counts (parent_of (factor_of m cs) j) → multiplicity (factor_of m cs) i j ≡ 0
      go (nothing z n) = absurd (omega arith)
      go (found k x e y z n) = n (i - 1) (omega arith) (omega arith)

  law-below : (i j : ℕ) → 1 ≤ i → i < j → j ≤ m → multiplicity (factor_of m cs) i j ≡ 0
  law-below i j a b d = count-is i j a (omega arith) (omega arith) d ∙ rw (lt-ltb i j b)

  no-late-child : (i j c : ℕ) → 1 ≤ j → j ≤ c → c ≤ m → child_with (multiplicity (factor_of m cs)) (parent_of (factor_of m cs)) j i c ≡ false
  no-late-child i j c a b d =
      refute (child_with (multiplicity (factor_of m cs)) (parent_of (factor_of m cs)) j i c) (λ e.
      let k : (parent_of (factor_of m cs) c ≡ j) × (0 < multiplicity (factor_of m cs) i c) =
      child-inv (multiplicity (factor_of m cs)) (parent_of (factor_of m cs)) j i c e in
      omega (arith, (law-parent-in c (omega arith) d (omega arith)).0))

  law-counted : (i j : ℕ) → 1 ≤ j → j ≤ i → i ≤ m →
      multiplicity (factor_of m cs) i j ≡
      count (child_with (multiplicity (factor_of m cs)) (parent_of (factor_of m cs)) j i) m + starting_with j i cs + one (eqb i j)
  law-counted i j a b d =
      count-is i j (omega arith) d a (omega arith) ∙
      rw (
        le-ltb i j b,
        children-count (factor_of m cs) j i (j - 1) (omega (arith, factor-length)),
        count_cut (child_with (multiplicity (factor_of m cs)) (parent_of (factor_of m cs)) j i) (j - 1) m (omega arith)
            (λ c x y. no-late-child i j c a (omega arith) y),
      )

  pub laws : IsFactor m (λ j i. starting_with j i cs) (multiplicity (factor_of m cs)) (parent_of (factor_of m cs))
  laws = record { below = law-below; counted = law-counted; parent_in = law-parent-in; parent-least = law-parent-least; root = law-root }

-- ---- a column is known by its multiplicities and its parent

pub column-ext : (f g : FactorColumn) → length f.counts ≡ length g.counts → ((i : ℕ) → 1 ≤ i → i ≤ length f.counts → count_in f i ≡ count_in g i) →
    f.parent ≡ g.parent → f ≡ g
column-ext f g e h p =
    let c : f.counts ≡ g.counts =
    ext_get_or 0 f.counts g.counts e (λ k l. let q : suc k - 1 ≡ k = omega arith in rw q at (h (suc k) (omega arith) l)) in
    λ i. record { counts = c i; parent = p i }
