-- Sound tables as the walk reads them: each chain holds its column (`sound-column`), all sizes and the free records make up the pool (`sound-size`), so that
-- touched columns fit (`sizes-within`). Assumes nothing.
use mathlib.Core.Path.{◌≡◌, refl, sym, ap, ◌∙◌, subst}
use mathlib.Core.Logic.{inl, inr}
use mathlib.Core.Bool.{true}
use mathlib.Core.List.{List}
use Prim.Native.Nat.{ℕ, zero, suc, ◌+◌, ◌-◌, ◌≤◌}
use native.Mathlib.Omega.{arith}
use lib.ListN.{length}
use Rattle.lists.specs.Lists.{at, values_at, sum_of, up_from}
use Rattle.lists.proofs.Tests.{cases}
use Rattle.symbolic.specs.Columns.{Column}
use Rattle.symbolic.specs.Factor.{FactorColumn, factor_of, column_at, pattern_of, multiplicities_of, parent_of, size_of, size_sum}
use Rattle.symbolic.specs.Batch.{is_touched, touched_from, size_sum_of}
use Rattle.symbolic.proofs.Build.{factor-length}
use Rattle.symbolic.proofs.Sizes.{size-sum}
use Rattle.pool.specs.Chains.{chain}
use Rattle.pool.specs.Whole.{Pool}
use Rattle.pool.proofs.Whole.{pool-linked}
use Rattle.tables.specs.Stored.{Stored, Sized, records_of, is_sound_for}
use Rattle.tables.proofs.Stored.{sound-facts}
use Rattle.tables.proofs.Reading.{stored-full}
use Rattle.updown.specs.Walks.{ChainOf}
use Rattle.updown.specs.Turns.{larger, done}

-- ---- what is stored

module _ (s : Stored) (cs : List Column) (z : Sized s) (sound : is_sound_for cs s ≡ true) where
  abbrev m : ℕ
  m = length s.heads

  abbrev L : List FactorColumn
  L = factor_of m cs

  pub sound-pool : Pool s.next s.heads s.free
  sound-pool = (sound-facts cs s sound).pool

  pub sound-column : (j : ℕ) → 1 ≤ j → j ≤ m → (values_at s.rows (records_of s j) ≡ pattern_of (column_at L j)) × (values_at s.counts (records_of s j) ≡ multiplicities_of (column_at L j)) × (at s.parents j ≡ parent_of L j)
  sound-column j a b = let h = (sound-facts cs s sound).column j a b in (h.rows, h.counts, h.parent)

  pub sound-chain : (j : ℕ) → 1 ≤ j → j ≤ m → ChainOf s.heads s.rows s.next m j (column_at L j).counts
  sound-chain j a b =
      record { heads-long = refl; rows_long = z.rows_long; linked = pool-linked sound-pool j a b; rows_are = (sound-column j a b).0 }

  pub sound-size : size_sum L + length (chain s.next s.free) ≡ length s.next
  sound-size = stored-full cs s sound

-- ---- touched columns fit

sizes-le : (fs gs : List FactorColumn) (cs : List Column) (i n : ℕ) → size_sum_of fs (touched_from gs cs i n) ≤ sum_of (λ j. size_of (column_at fs j)) (up_from i n)
unfolding touched_from sum_of up_from
sizes-le fs gs cs i zero = omega arith
sizes-le fs gs cs i (suc n) = elim (cases (is_touched gs cs i)) [
  | inl e ↦ rw e (omega (arith, sizes-le fs gs cs (suc i) n))
  | inr e ↦ rw e (omega (arith, sizes-le fs gs cs (suc i) n))
]

sum-longer : (f : ℕ → ℕ) (i n t : ℕ) → sum_of f (up_from i n) ≤ sum_of f (up_from i (n + t))
unfolding sum_of up_from
sum-longer f i zero t = omega arith
sum-longer f i (suc n) t = let e : suc n + t ≡ suc (n + t) = omega arith in subst (λ (x : ℕ). f i + sum_of f (up_from (suc i) n) ≤ sum_of f (up_from i x)) (sym e) (omega (arith, sum-longer f (suc i) n t))

-- of any factor, of columns touched in any tree
pub sizes-within : (m : ℕ) (cs : List Column) (R W : List Column) (j : ℕ) → 1 ≤ j → j ≤ suc m → size_sum_of (factor_of m cs) (done m R W j) ≤ size_sum (factor_of m cs)
sizes-within m cs R W j a b =
    let e : size_sum (factor_of m cs) ≡ sum_of (λ i. size_of (column_at (factor_of m cs) i)) (up_from 1 m) =
    size-sum (factor_of m cs) ∙ ap (λ (x : ℕ). sum_of (λ i. size_of (column_at (factor_of m cs) i)) (up_from 1 x)) (factor-length m cs) in
    let q : (j - 1) + (m - (j - 1)) ≡ m = omega arith in
    omega (
      arith,
      e,
      sizes-le (factor_of m cs) (larger m R W) W 1 (j - 1),
      sum-longer (λ i. size_of (column_at (factor_of m cs) i)) 1 (j - 1) (m - (j - 1)),
      ap (λ (x : ℕ). sum_of (λ i. size_of (column_at (factor_of m cs) i)) (up_from 1 x)) q,
    )
