-- Sizes of patterns: as counts of rows; the sum of all sizes grows with the columns, and changes by the touched columns alone; the entries of an addition and
-- of a removal are the sizes with the batch. Assumes nothing.
use mathlib.Core.Path.{◌≡◌, refl, sym, ap, ◌∙◌, subst}
use mathlib.Core.Logic.{inl, inr}
use mathlib.Core.Bool.{Bool, not}
use mathlib.Core.List.{List, [], ◌∷◌, ◌++◌}
use Prim.Native.Nat.{ℕ, zero, suc, ◌+◌, ◌-◌, ◌≤◌, ◌<◌}
use native.Mathlib.Nat.{max-eq_left, max-eq_right}
use native.Mathlib.Omega.{arith}
use lib.Dec.{eqb}
use lib.ListN.{length, get_or, get_or-eq_default}
use Rattle.lists.specs.Lists.{one, count, sum_of, up_from}
use Rattle.lists.proofs.Tests.{cases, lt-or-le}
use Rattle.lists.proofs.Count.{count-ext, count-sub, count-shift}
use Rattle.lists.proofs.Sum.{sum-le, sum-ext, sum-places}
use Rattle.lists.proofs.Rising.{from_up}
use Rattle.symbolic.specs.Columns.{Column}
use Rattle.symbolic.specs.Factor.{FactorColumn, factor_of, no_column, column_at, in_pattern, pattern_from, size_of, size_sum}
use Rattle.symbolic.specs.Batch.{is_touched, touched_from, touched, size_sum_of, entries_of}
use Rattle.symbolic.proofs.Build.{factor-length, counts-length}
use Rattle.symbolic.proofs.Patterns.{in-pattern, pattern-in}
use Rattle.symbolic.proofs.Locality.{multiplicity-stays, untouched-column}

-- ---- a size is a count of rows

pub pattern-count : (a : ℕ) (ns : List ℕ) → length (pattern_from a ns) ≡ count (λ i. not (eqb (get_or ns (i - 1) 0) 0)) (length ns)
unfolding count pattern_from
pattern-count a [] = refl
pattern-count a (x ∷ ns) =
    let f : ℕ → Bool = λ i. not (eqb (get_or (x ∷ ns) (i - 1) 0) 0) in
    let g : ℕ → Bool = λ i. not (eqb (get_or ns (i - 1) 0) 0) in
    let h : count (λ i. f (suc i)) (length ns) ≡ count g (length ns) =
    count-ext (λ i. f (suc i)) g (length ns) (λ i a b.
    let q : suc i - 1 ≡ suc (i - 1) = omega arith in ap (λ (k : ℕ). not (eqb (get_or (x ∷ ns) k 0) 0)) q) in
    elim (cases (eqb x 0)) [
      | inl e ↦ rw e (omega (arith, pattern-count (suc a) ns, count-shift f (length ns), ap (λ (b : Bool). one (not b)) e))
      | inr e ↦ rw e (omega (arith, pattern-count (suc a) ns, count-shift f (length ns), ap (λ (b : Bool). one (not b)) e))
    ]

pub size_is : (m : ℕ) (cs : List Column) (j : ℕ) → 1 ≤ j → j ≤ m →
    size_of (column_at (factor_of m cs) j) ≡ count (λ i. in_pattern (factor_of m cs) i j) m
size_is m cs j a b =
    pattern-count 1 (column_at (factor_of m cs) j).counts ∙ ap (λ (n : ℕ). count (λ i. in_pattern (factor_of m cs) i j) n) (counts-length m cs j a b)

-- ---- sums of sizes

-- the sizes of n columns from i on
abbrev sizes_from : List FactorColumn → (i n : ℕ) → ℕ
sizes_from fs i n = size_sum_of fs (up_from i n)

sizes-flat : (fs : List FactorColumn) → size_sum fs ≡ sum_of (λ f. size_of f) fs
unfolding size_sum sum_of
sizes-flat [] = refl
sizes-flat (f ∷ fs) = ap (λ (n : ℕ). size_of f + n) (sizes-flat fs)

pub size-sum : (fs : List FactorColumn) → size_sum fs ≡ sum_of (λ j. size_of (column_at fs j)) (up_from 1 (length fs))
size-sum fs = sizes-flat fs ∙ sum-places (λ f. size_of f) fs no_column 1

pub size-sum-of : (m : ℕ) (cs : List Column) → size_sum (factor_of m cs) ≡ sizes_from (factor_of m cs) 1 m
size-sum-of m cs = size-sum (factor_of m cs) ∙ ap (λ (n : ℕ). sizes_from (factor_of m cs) 1 n) (factor-length m cs)

module _ (m : ℕ) (R W : List Column) where
  pub size-grows : (j : ℕ) → 1 ≤ j → j ≤ m → size_of (column_at (factor_of m R) j) ≤ size_of (column_at (factor_of m (R ++ W)) j)
  size-grows j a b =
      omega (
        arith,
        size_is m R j a b,
        size_is m (R ++ W) j a b,
        count-sub (λ i. in_pattern (factor_of m R) i j) (λ i. in_pattern (factor_of m (R ++ W)) i j) m (λ i x y h.
            in-pattern (factor_of m (R ++ W)) i j (multiplicity-stays m R W i j x y a b (pattern-in (factor_of m R) i j h))),
      )

  pub sizes-grow-sum : size_sum (factor_of m R) ≤ size_sum (factor_of m (R ++ W))
  sizes-grow-sum =
      omega (
        arith,
        size-sum-of m R,
        size-sum-of m (R ++ W),
        sum-le (λ j. size_of (column_at (factor_of m R) j)) (λ j. size_of (column_at (factor_of m (R ++ W)) j)) (up_from 1 m) (λ j n.
            let u : (1 ≤ j) × (j < 1 + m) = from_up 1 m n in size-grows j u.0 (omega arith)),
      )

  -- untouched columns count the same on both sides
  local-from : (i n : ℕ) → 1 ≤ i → i + n ≤ suc m →
      sizes_from (factor_of m (R ++ W)) i n + size_sum_of (factor_of m R) (touched_from (factor_of m (R ++ W)) W i n) ≡
      sizes_from (factor_of m R) i n + size_sum_of (factor_of m (R ++ W)) (touched_from (factor_of m (R ++ W)) W i n)
  unfolding touched_from sum_of up_from
  local-from i zero a b = omega arith
  local-from i (suc n) a b =
      elim (cases (is_touched (factor_of m (R ++ W)) W i)) [
        | inl e ↦ rw e (omega (arith, local-from (suc i) n (omega arith) (omega arith)))
        | inr e ↦ rw e (omega (arith, local-from (suc i) n (omega arith) (omega arith), ap size_of (untouched-column m R W i a (omega arith) e)))
      ]

  pub sizes-local-sum : size_sum (factor_of m (R ++ W)) + size_sum_of (factor_of m R) (touched (factor_of m (R ++ W)) W) ≡
      size_sum (factor_of m R) + size_sum_of (factor_of m (R ++ W)) (touched (factor_of m (R ++ W)) W)
  sizes-local-sum =
      rw (size-sum-of m R, size-sum-of m (R ++ W))
      (subst (λ (n : ℕ). sizes_from (factor_of m (R ++ W)) 1 m + size_sum_of (factor_of m R) (touched_from (factor_of m (R ++ W)) W 1 n) ≡
      sizes_from (factor_of m R) 1 m + size_sum_of (factor_of m (R ++ W)) (touched_from (factor_of m (R ++ W)) W 1 n)) (sym (factor-length m (R ++ W)))
      (local-from 1 m (omega arith) (omega arith)))

  -- ---- entries

  -- of any number: past m there is no column, and 0 reads column 1
  grows-anywhere : (j : ℕ) → size_of (column_at (factor_of m R) j) ≤ size_of (column_at (factor_of m (R ++ W)) j)
  grows-anywhere j =
      elim (lt-or-le (j - 1) m) [
        | inl h ↦ subst (λ (k : ℕ). size_of (get_or (factor_of m R) k no_column) ≤ size_of (get_or (factor_of m (R ++ W)) k no_column)) (back j) (size-grows (suc (j - 1)) (omega arith) (omega arith))
        | inr h ↦ omega (arith, ap size_of (past R h), ap size_of (past (R ++ W) h))
      ]
    where
      back : (j : ℕ) → suc (j - 1) - 1 ≡ j - 1
      back j = omega arith

      past : (cs : List Column) → m ≤ j - 1 → column_at (factor_of m cs) j ≡ no_column
      past cs h = get_or-eq_default (factor_of m cs) no_column (omega (arith, factor-length m cs))

  pub entries-after : (js : List ℕ) → entries_of (factor_of m R) (factor_of m (R ++ W)) js ≡ size_sum_of (factor_of m (R ++ W)) js
  entries-after js = sum-ext _ _ js (λ j n. max-eq_right (grows-anywhere j))

  pub entries-before : (js : List ℕ) → entries_of (factor_of m (R ++ W)) (factor_of m R) js ≡ size_sum_of (factor_of m (R ++ W)) js
  entries-before js = sum-ext _ _ js (λ j n. max-eq_left (grows-anywhere j))
