-- The columns that meet a row: which they are, that the list rises up to row i and ends with it, and the same for all multiplicities that are as the definition says.
-- Then column by column from i down: what the parent of j tells of row i in L_j (`holds-parent`, `holds-root`, `holds-above`, `holds-below`). Assumes nothing.
use mathlib.Core.Path.{◌≡◌, refl, sym, ap, ◌∙◌, subst}
use mathlib.Core.Logic.{◌↔◌}
use mathlib.Core.Bool.{Bool, true, false, true≢false}
use mathlib.Core.List.{List, [], ◌∷◌, ◌++◌, append-nil}
use Prim.Native.Nat.{ℕ, ◌+◌, ◌-◌, ◌≤◌, ◌<◌}
use native.Mathlib.Omega.{arith}
use lib.ListN.{length}
use Rattle.lists.specs.Lists.{among, rises}
use Rattle.lists.proofs.Tests.{refute}
use Rattle.lists.proofs.Member.{among-mem, mem-among}
use Rattle.symbolic.specs.Columns.{Column, starting_with}
use Rattle.symbolic.specs.Factor.{factor_of, multiplicity, parent_of, in_pattern}
use Rattle.symbolic.specs.Definition.{IsFactor}
use Rattle.symbolic.specs.Batch.{passing}
use Rattle.symbolic.specs.Meeting.{meeting}
use Rattle.symbolic.proofs.Laws.{diagonal-in, row-above, parent-contains, parent-reaches}
use Rattle.symbolic.proofs.Two.{Agree, factor-agrees}
use Rattle.symbolic.proofs.Build.{laws, factor-length}
use Rattle.symbolic.proofs.Patterns.{in-pattern, pattern-in}
use Rattle.symbolic.proofs.Passing.{passing-mem, mem-passing, passing-rises, passing-none, passing-join}

module _ (m : ℕ) (cs : List Column) where
  abbrev holds_row : (i j : ℕ) → Bool
  holds_row i j = in_pattern (factor_of m cs) i j

  -- ---- the list

  meeting-members : (i j : ℕ) → (among j (meeting (factor_of m cs) i) ≡ true) ↔ ((1 ≤ j) × (j ≤ m) × (holds_row i j ≡ true))
  meeting-members i j = (
    λ h.
        let t : (1 ≤ j) × (j < 1 + length (factor_of m cs)) × (holds_row i j ≡ true) =
        mem-passing (holds_row i) 1 (length (factor_of m cs)) j (among-mem j (meeting (factor_of m cs) i) h) in
        (t.0, omega (arith, factor-length m cs), t.2),
    λ t. mem-among (passing-mem (holds_row i) 1 (length (factor_of m cs)) j t.0 (omega (arith, factor-length m cs)) t.2),
  )

  -- a column above i does not hold it
  late-none : (i j : ℕ) → 1 ≤ i → i < j → j ≤ m → holds_row i j ≡ false
  late-none i j a b d =
      refute (holds_row i j) (λ h. omega (arith, row-above (laws m cs) i j a d (pattern-in (factor_of m cs) i j h)))

  module _ (i : ℕ) (a : 1 ≤ i) (b : i ≤ m) where
    -- the columns up to i are enough
    pub meeting-cut : meeting (factor_of m cs) i ≡ passing (holds_row i) 1 i
    meeting-cut =
        let q : length (factor_of m cs) ≡ i + (m - i) = omega (arith, factor-length m cs) in
        ap (passing (holds_row i) 1) q ∙ passing-join (holds_row i) 1 i (m - i) ∙
        ap (λ (js : List ℕ). passing (holds_row i) 1 i ++ js) (passing-none (holds_row i) (1 + i) (m - i) (λ j x y. late-none i j a (omega arith) (omega arith))) ∙
        append-nil (passing (holds_row i) 1 i)

    pub meeting-rise : rises 1 i (meeting (factor_of m cs) i) ≡ true
    meeting-rise = ap (λ (js : List ℕ). rises 1 i js) meeting-cut ∙ passing-rises (holds_row i) 1 i i (omega arith)

    -- row i stands in its own column
    pub own-holds : holds_row i i ≡ true
    own-holds = in-pattern (factor_of m cs) i i (diagonal-in (laws m cs) i a b)

    pub meeting-last : (js : List ℕ) × (meeting (factor_of m cs) i ≡ js ++ (i ∷ []))
    unfolding passing
    meeting-last =
        let q : i ≡ (i - 1) + 1 = omega arith in
        let p : 1 + (i - 1) ≡ i = omega arith in
        let last : passing (holds_row i) (1 + (i - 1)) 1 ≡ i ∷ [] =
        ap (λ (k : ℕ). passing (holds_row i) k 1) p ∙ rw own-holds refl in (
          passing (holds_row i) 1 (i - 1),
          meeting-cut ∙ ap (passing (holds_row i) 1) q ∙ passing-join (holds_row i) 1 (i - 1) 1 ∙
              ap (λ (js : List ℕ). passing (holds_row i) 1 (i - 1) ++ js) last,
        )

  -- ---- over the definition's sentences

  pub meeting-defined : (M : ℕ → ℕ → ℕ) (P : ℕ → ℕ) → IsFactor m (λ j i. starting_with j i cs) M P → (i j : ℕ) → 1 ≤ i → i ≤ m →
      (among j (meeting (factor_of m cs) i) ≡ true) ↔ ((1 ≤ j) × (j ≤ m) × (0 < M i j))
  meeting-defined M P L i j a b = (
    λ h.
        let t : (1 ≤ j) × (j ≤ m) × (holds_row i j ≡ true) = (meeting-members i j).0 h in
        (t.0, t.1, omega (arith, same t.0 t.1, pattern-in (factor_of m cs) i j t.2)),
    λ t. (meeting-members i j).1 (t.0, t.1, in-pattern (factor_of m cs) i j (omega (arith, same t.0 t.1, t.2))),
  )
    where
      same : 1 ≤ j → j ≤ m → M i j ≡ multiplicity (factor_of m cs) i j
      same d e =
          let g : Agree m M (multiplicity (factor_of m cs)) P (parent_of (factor_of m cs)) j = factor-agrees L (laws m cs) (λ k l x y z. refl) j d e in
          g.0 i a b

  -- ---- a column below row i, by its parent

  module _ (i j : ℕ) (a : 1 ≤ j) (b : j < i) (d : i ≤ m) where
    abbrev above : ℕ
    above = parent_of (factor_of m cs) j

    pub holds-parent : parent_of (factor_of m cs) j ≡ i → holds_row i j ≡ true
    holds-parent e =
        let v : (j < above) × (above ≤ m) × (0 < multiplicity (factor_of m cs) above j) = (laws m cs).parent_in j a (omega arith) (omega arith) in
        in-pattern (factor_of m cs) i j (subst (λ (k : ℕ). 0 < multiplicity (factor_of m cs) k j) e v.2)

    -- what holds row i has a parent, not above i
    reaches : holds_row i j ≡ true → (0 < above) × (j < above) × (above ≤ i)
    reaches h = parent-reaches (laws m cs) i j a b d (pattern-in (factor_of m cs) i j h)

    pub holds-root : parent_of (factor_of m cs) j ≡ 0 → holds_row i j ≡ false
    holds-root e = refute (holds_row i j) (λ h. omega (arith, (reaches h).0))

    pub holds-above : i < parent_of (factor_of m cs) j → holds_row i j ≡ false
    holds-above e = refute (holds_row i j) (λ h. omega (arith, (reaches h).2))

    -- and its parent holds row i too
    pub holds-below : holds_row i (parent_of (factor_of m cs) j) ≡ false → holds_row i j ≡ false
    holds-below e =
        refute (holds_row i j) (λ h.
        true≢false (sym (in-pattern (factor_of m cs) i above (parent-contains (laws m cs) i j a b d (pattern-in (factor_of m cs) i j h)).2) ∙ e))
