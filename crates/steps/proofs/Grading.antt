-- A grade counted by its limits: each is reached once or not at all, so at most three are (`count_most`), and one more than their number is the grade
-- (`grade-counted`). Assumes nothing.
use mathlib.Core.Path.{◌≡◌, sym, ap}
use mathlib.Core.Logic.{◌≢◌}
use Prim.Native.Nat.{ℕ, suc, ◌+◌, ◌≤◌}
use native.Mathlib.Omega.{arith}
use lib.Dec.{leb}
use borrow.Author.Tests.{ne_eqb}
use Rattle.lists.specs.Lists.{one}
use Rattle.lists.proofs.Tests.{one-le}
use Rattle.symbolic.specs.Grades.{Limits, grade_of}

module _ (g : Limits) (n : ℕ) {a b c : ℕ} (p : a ≡ one (leb g.grade2 n)) (q : b ≡ one (leb g.grade3 n)) (r : c ≡ one (leb g.grade4 n)) where
  pub count_most : (a ≤ 1) × (b ≤ 1) × (c ≤ 1)
  count_most = omega (arith, one-le (leb g.grade2 n), one-le (leb g.grade3 n), one-le (leb g.grade4 n))

  pub grade-counted : n ≢ 0 → {k : ℕ} → a + b + c ≡ k → suc k ≡ grade_of g n
  grade-counted z e = rw (ne_eqb n 0 z, ← p, ← q, ← r) (ap suc (sym e))
