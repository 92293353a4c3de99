-- Columns R with and without a batch W, adding (from R to R ++ W) and removing (from R ++ W to R): multiplicities stay above 0 and parents stay or fall
-- as W enters; columns that W does not touch in the tree of R ++ W are the same (`untouched-same`); the steps at a column over touched children
-- (`update-steps-at`, `downdate-steps-at`), whose cases Steps.antt has. Assumes nothing.
use mathlib.Core.Path.{◌≡◌, sym, ◌∙◌}
use mathlib.Core.Bool.{true, false, true≢false}
use mathlib.Core.List.{List, ◌++◌}
use Prim.Native.Nat.{ℕ, ◌≤◌, ◌<◌}
use native.Mathlib.Omega.{arith}
use Rattle.symbolic.specs.Columns.{Column, starting_with}
use Rattle.symbolic.specs.Factor.{factor_of, column_at, multiplicity, parent_of}
use Rattle.symbolic.specs.Batch.{is_touched}
use Rattle.symbolic.specs.Steps.{StepsAt}
use Rattle.symbolic.proofs.Laws.{row-above}
use Rattle.symbolic.proofs.Two.{Agree, pattern-grows, parent-falls, parent-on-path, columns-local}
use Rattle.symbolic.proofs.Steps.{steps-at}
use Rattle.symbolic.proofs.Build.{laws}
use Rattle.symbolic.proofs.Columns.{starts-append, starts_more, starts_none}
use Rattle.symbolic.proofs.Patterns.{same-column}
use Rattle.symbolic.proofs.Touched.{touched-start, touched-parent, touched-path}

module _ (m : ℕ) (R W : List Column) where
  -- ---- growth

  pub multiplicity-stays : (i j : ℕ) → 1 ≤ i → i ≤ m → 1 ≤ j → j ≤ m → 0 < multiplicity (factor_of m R) i j → 0 < multiplicity (factor_of m (R ++ W)) i j
  multiplicity-stays i j a b d e h = pattern-grows (laws m R) (laws m (R ++ W)) (starts_more R W) i j d (row-above (laws m R) i j a e h) b h

  pub parent-stays-or-falls : (j : ℕ) → 1 ≤ j → j ≤ m → 0 < parent_of (factor_of m R) j →
      (0 < parent_of (factor_of m (R ++ W)) j) × (parent_of (factor_of m (R ++ W)) j ≤ parent_of (factor_of m R) j)
  parent-stays-or-falls = parent-falls (laws m R) (laws m (R ++ W)) (starts_more R W)

  -- ---- locality, in the tree of R ++ W

  pub untouched-same : (j : ℕ) → 1 ≤ j → j ≤ m → is_touched (factor_of m (R ++ W)) W j ≡ false →
      Agree m (multiplicity (factor_of m R)) (multiplicity (factor_of m (R ++ W))) (parent_of (factor_of m R)) (parent_of (factor_of m (R ++ W))) j
  untouched-same j a b h =
      columns-local (laws m R) (laws m (R ++ W)) (λ k. is_touched (factor_of m (R ++ W)) W k ≡ true) (touched-parent m (R ++ W) W) (starts_more R W)
      (λ k i x y t. omega (arith, starts-append k i R W, starts_none k i W (λ c n e. t (touched-start m (R ++ W) W k x y n e)))) j a b
      (λ t. true≢false (sym t ∙ h))

  pub untouched-column : (j : ℕ) → 1 ≤ j → j ≤ m → is_touched (factor_of m (R ++ W)) W j ≡ false →
      column_at (factor_of m R) j ≡ column_at (factor_of m (R ++ W)) j
  untouched-column j a b h = same-column m R (R ++ W) j a b (untouched-same j a b h)

  -- a touched column's parent without W is touched too: what a column loses, or gains back, the path comes by
  pub touched-old-parent : (c : ℕ) → 1 ≤ c → c ≤ m → is_touched (factor_of m (R ++ W)) W c ≡ true → 0 < parent_of (factor_of m R) c →
      is_touched (factor_of m (R ++ W)) W (parent_of (factor_of m R) c) ≡ true
  touched-old-parent c a b h p =
      touched-path m (R ++ W) W a b (parent-on-path (laws m R) (laws m (R ++ W)) (starts_more R W) c a b p) h

  -- ---- the steps at a column, adding W and removing W

  pub update-steps-at : (i j : ℕ) → 1 ≤ j → j ≤ i → i ≤ m →
      StepsAt m (λ j i. starting_with j i R) (multiplicity (factor_of m R)) (parent_of (factor_of m R))
      (λ j i. starting_with j i (R ++ W)) (multiplicity (factor_of m (R ++ W))) (parent_of (factor_of m (R ++ W))) (is_touched (factor_of m (R ++ W)) W) i j
  update-steps-at = steps-at (laws m R) (laws m (R ++ W)) (is_touched (factor_of m (R ++ W)) W) untouched-same

  pub downdate-steps-at : (i j : ℕ) → 1 ≤ j → j ≤ i → i ≤ m →
      StepsAt m (λ j i. starting_with j i (R ++ W)) (multiplicity (factor_of m (R ++ W))) (parent_of (factor_of m (R ++ W)))
      (λ j i. starting_with j i R) (multiplicity (factor_of m R)) (parent_of (factor_of m R)) (is_touched (factor_of m (R ++ W)) W) i j
  downdate-steps-at =
      steps-at (laws m (R ++ W)) (laws m R) (is_touched (factor_of m (R ++ W)) W)
      (λ c a b h. let g : Agree m (multiplicity (factor_of m R)) (multiplicity (factor_of m (R ++ W))) (parent_of (factor_of m R)) (parent_of (factor_of m (R ++ W))) c =
      untouched-same c a b h in (λ i x y. sym (g.0 i x y), sym g.1))
