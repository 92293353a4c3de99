-- Touched columns of a batch: the column where one of the batch starts is touched, and the parent of a touched column
-- (`touched-start`, `touched-parent`), columns with no row touch nothing (`touched-rows`); then touched columns as a rising list. No premise on the batch's rows is needed: a column of
-- the batch that starts outside 1 to m touches none of 1 to m. Locality.antt has what the others keep. Assumes nothing.
use mathlib.Core.Path.{◌≡◌, refl, sym, ap, ◌∙◌, subst}
use mathlib.Core.Logic.{inl, inr, ◌↔◌}
use mathlib.Core.Bool.{true, false}
use mathlib.Core.List.{List, [], ◌∷◌}
use Prim.Native.Nat.{ℕ, ◌+◌, ◌≤◌, ◌<◌}
use native.Mathlib.Omega.{arith}
use lib.ListN.{length, get_or}
use Rattle.lists.specs.Lists.{Mem, any, among, rises}
use Rattle.lists.proofs.Tests.{cases}
use Rattle.lists.proofs.Member.{any-find, any-has, among-mem, mem-among}
use Rattle.symbolic.specs.Columns.{Column, smallest, has_rows, with_rows}
use Rattle.symbolic.specs.Factor.{FactorColumn, factor_of, parent_of, path_of}
use Rattle.symbolic.specs.Definition.{OnPath, here}
use Rattle.symbolic.specs.Batch.{passes, is_touched, touched, passing}
use Rattle.symbolic.proofs.Laws.{path-extends}
use Rattle.symbolic.proofs.Two.{path-closed}
use Rattle.symbolic.proofs.Build.{laws, factor-length}
use Rattle.symbolic.proofs.Columns.{rowless}
use Rattle.symbolic.proofs.Paths.{path-members, path-root, path-start}
use Rattle.symbolic.proofs.Passing.{passing-mem, mem-passing, passing-rises, touched-passing}

-- ---- which columns are touched

module _ (m : ℕ) (cs batch : List Column) where
  -- touched: some column of the batch starts on whose path it lies
  pub touched-by : (j : ℕ) → j ≤ m → is_touched (factor_of m cs) batch j ≡ true →
      (c : Column) × Mem c batch × (1 ≤ smallest c) × (smallest c ≤ m) × OnPath (parent_of (factor_of m cs)) (smallest c) j
  touched-by j b h =
      let t : (c : Column) × Mem c batch × (passes (factor_of m cs) j c ≡ true) = any-find (passes (factor_of m cs) j) batch h in
      let s : (1 ≤ smallest t.0) × (smallest t.0 ≤ m) × OnPath (parent_of (factor_of m cs)) (smallest t.0) j =
      path-start m cs (smallest t.0) j b t.2 in
      (t.0, t.1, s.0, s.1, s.2)

  pub touched-has : (j : ℕ) {c : Column} → Mem c batch → 1 ≤ smallest c → smallest c ≤ m → OnPath (parent_of (factor_of m cs)) (smallest c) j →
      is_touched (factor_of m cs) batch j ≡ true
  touched-has j {c} n a b u = any-has (passes (factor_of m cs) j) n ((path-members m cs (smallest c) j a b).1 u)

  pub touched-start : (j : ℕ) {c : Column} → 1 ≤ j → j ≤ m → Mem c batch → smallest c ≡ j → is_touched (factor_of m cs) batch j ≡ true
  touched-start j {c} a b n e =
      touched-has j n (omega arith) (omega arith) (subst (λ (x : ℕ). OnPath (parent_of (factor_of m cs)) (smallest c) x) e here)

  pub touched-parent : (c : ℕ) → 1 ≤ c → c ≤ m → is_touched (factor_of m cs) batch c ≡ true → 0 < parent_of (factor_of m cs) c →
      is_touched (factor_of m cs) batch (parent_of (factor_of m cs) c) ≡ true
  touched-parent c a b h p =
      let t : (d : Column) × Mem d batch × (1 ≤ smallest d) × (smallest d ≤ m) × OnPath (parent_of (factor_of m cs)) (smallest d) c = touched-by c b h in
      touched-has (parent_of (factor_of m cs) c) t.1 t.2 t.3 (path-extends t.4 p)

  pub touched-path : {c j : ℕ} → 1 ≤ c → c ≤ m → OnPath (parent_of (factor_of m cs)) c j → is_touched (factor_of m cs) batch c ≡ true →
      is_touched (factor_of m cs) batch j ≡ true
  touched-path a b u h = path-closed (laws m cs) (laws m cs) (λ j. is_touched (factor_of m cs) batch j ≡ true) touched-parent a b u h

-- a column with no row has no path
pub touched-rows : (fs : List FactorColumn) (batch : List Column) (j : ℕ) → is_touched fs batch j ≡ is_touched fs (with_rows batch) j
unfolding any with_rows among
touched-rows fs [] j = refl
touched-rows fs (c ∷ cs) j =
    elim (cases (has_rows c)) [ inl e ↦ rw (e, touched-rows fs cs j) refl | inr e ↦ rw (e, none c e, touched-rows fs cs j) refl ]
  where
    none : (c : Column) → has_rows c ≡ false → passes fs j c ≡ false
    none c e =
        ap (λ (rows : List ℕ). among j (path_of fs (get_or rows 0 0))) (rowless c e) ∙ ap (among j) (path-root (length fs) fs)

-- ---- as a rising list

module _ (m : ℕ) (cs batch : List Column) where
  abbrev n : ℕ
  n = length (factor_of m cs)

  passing-is : touched (factor_of m cs) batch ≡ passing (is_touched (factor_of m cs) batch) 1 n
  passing-is = touched-passing (factor_of m cs) batch 1 n

  pub touched-members : (j : ℕ) →
      (among j (touched (factor_of m cs) batch) ≡ true) ↔ ((1 ≤ j) × (j ≤ m) × (is_touched (factor_of m cs) batch j ≡ true))
  touched-members j = (
    λ h.
        let t : (1 ≤ j) × (j < 1 + n) × (is_touched (factor_of m cs) batch j ≡ true) =
        mem-passing (is_touched (factor_of m cs) batch) 1 n j
        (subst (λ (js : List ℕ). Mem j js) passing-is (among-mem j (touched (factor_of m cs) batch) h)) in
        (t.0, omega (arith, factor-length m cs), t.2),
    λ t. mem-among (subst (λ (js : List ℕ). Mem j js) (sym passing-is)
        (passing-mem (is_touched (factor_of m cs) batch) 1 n j t.0 (omega (arith, factor-length m cs)) t.2)),
  )

  pub touched-rise : rises 1 m (touched (factor_of m cs) batch) ≡ true
  touched-rise =
      ap (λ (js : List ℕ). rises 1 m js) passing-is ∙ passing-rises (is_touched (factor_of m cs) batch) 1 n m (omega (arith, factor-length m cs))
