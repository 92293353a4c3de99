-- What determines the factor: the columns that start at each row (`factor-same`), so the columns up to order (`factor-bag`), and those alone that
-- have rows (`factor-rows`); and a bound: no multiplicity is above the number of columns and the column's number (`count-bound`), so that 16 bits hold it. Assumes nothing.
use mathlib.Core.Path.{◌≡◌, sym, ◌∙◌}
use mathlib.Core.Logic.{inl, inr}
use mathlib.Core.List.{List}
use Prim.Native.Nat.{ℕ, suc, ◌+◌, ◌-◌, ◌≤◌}
use native.Mathlib.Omega.{arith}
use lib.Dec.{eqb}
use lib.ListN.{length}
use lib.Seq.{ext_get_or}
use Rattle.lists.proofs.Tests.{lt-or-le, one-le}
use Rattle.lists.proofs.Count.{count-le}
use Rattle.symbolic.specs.Columns.{Column, with_rows, starting_with}
use Rattle.symbolic.specs.Factor.{factor_of, no_column, multiplicity, parent_of}
use Rattle.symbolic.specs.Definition.{child_with}
use Rattle.symbolic.specs.Change.{Bag}
use Rattle.symbolic.proofs.Laws.{counted-at}
use Rattle.symbolic.proofs.Two.{factor-agrees}
use Rattle.symbolic.proofs.Build.{laws, factor-length}
use Rattle.symbolic.proofs.Columns.{starts-le, starts-rows}
use Rattle.symbolic.proofs.Patterns.{same-column}
use Rattle.symbolic.proofs.Bags.{bag-starts}

pub factor-same : (m : ℕ) (cs ds : List Column) → ((j i : ℕ) → 1 ≤ j → j ≤ i → i ≤ m → starting_with j i cs ≡ starting_with j i ds) →
    factor_of m cs ≡ factor_of m ds
factor-same m cs ds s =
    ext_get_or no_column (factor_of m cs) (factor_of m ds) (factor-length m cs ∙ sym (factor-length m ds)) (λ k h.
    let q : suc k - 1 ≡ k = omega arith in
    rw q at
    (same-column m cs ds (suc k) (omega arith) (omega (arith, factor-length m cs))
    (factor-agrees (laws m cs) (laws m ds) s (suc k) (omega arith) (omega (arith, factor-length m cs)))))

pub factor-bag : (m : ℕ) (cs ds : List Column) → Bag cs ds → factor_of m cs ≡ factor_of m ds
factor-bag m cs ds b = factor-same m cs ds (λ j i x y z. bag-starts cs ds b j i)

pub factor-rows : (m : ℕ) (cs : List Column) → factor_of m cs ≡ factor_of m (with_rows cs)
factor-rows m cs = factor-same m cs (with_rows cs) (λ j i x y z. starts-rows j i cs)

pub count-bound : (m : ℕ) (cs : List Column) (i j : ℕ) → 1 ≤ i → i ≤ m → 1 ≤ j → j ≤ m → multiplicity (factor_of m cs) i j ≤ length cs + j
count-bound m cs i j a b d e =
    elim (lt-or-le i j) [
      | inl q ↦ omega (arith, (laws m cs).below i j a q e)
      | inr q ↦ omega (
        arith,
        counted-at (laws m cs) (j - 1) i j d q b (omega arith) (omega arith),
        count-le (child_with (multiplicity (factor_of m cs)) (parent_of (factor_of m cs)) j i) (j - 1),
        starts-le j i cs,
        one-le (eqb i j),
      )
    ]
