-- The columns that an exchange touches: which they are (`exchanged-is`), that they rise (`exchanged-rises`), and that where none leaves, or none enters, they
-- are those that the others touch (`exchanged-entering`, `exchanged-leaving`).
-- Assumes nothing.
use mathlib.Core.Path.{◌≡◌, refl, sym, ap, ◌∙◌}
use mathlib.Core.Logic.{◌↔◌}
use mathlib.Core.Bool.{Bool, true, false, ◌||◌}
use mathlib.Core.List.{List, []}
use Prim.Native.Nat.{ℕ, ◌+◌, ◌≤◌, ◌<◌}
use native.Mathlib.Omega.{arith}
use lib.ListN.{length}
use Rattle.lists.specs.Lists.{any, among, rises}
use Rattle.lists.proofs.Member.{among-mem, mem-among}
use Rattle.symbolic.specs.Columns.{Column}
use Rattle.symbolic.specs.Factor.{FactorColumn, factor_of}
use Rattle.symbolic.specs.Batch.{is_touched, touched, is_exchanged, passing, exchanged}
use Rattle.symbolic.proofs.Build.{factor-length}
use Rattle.symbolic.proofs.Passing.{passing-mem, mem-passing, passing-rises, passing-same, touched-passing}

-- ---- what an exchange touches

-- no column touches nothing
none-touched : (fs : List FactorColumn) (j : ℕ) (z : Bool) → (z || is_touched fs [] j) ≡ z
unfolding any
none-touched fs j true = refl
none-touched fs j false = refl

pub exchanged-entering : (fs gs : List FactorColumn) (ys : List Column) → exchanged fs gs [] ys ≡ touched gs ys
unfolding any
exchanged-entering fs gs ys = sym (touched-passing gs ys 1 (length gs))

pub exchanged-leaving : (fs gs : List FactorColumn) (xs : List Column) → length fs ≡ length gs → exchanged fs gs xs [] ≡ touched fs xs
exchanged-leaving fs gs xs e =
    passing-same (is_exchanged fs gs xs []) (is_touched fs xs) (λ j. none-touched gs j (is_touched fs xs j)) 1 (length gs) ∙
    ap (λ (n : ℕ). passing (is_touched fs xs) 1 n) (sym e) ∙ sym (touched-passing fs xs 1 (length fs))

module _ (m : ℕ) (cs ds leave enter : List Column) where
  pub exchanged-is : (j : ℕ) →
      (among j (exchanged (factor_of m cs) (factor_of m ds) leave enter) ≡ true) ↔
      ((1 ≤ j) × (j ≤ m) × (is_exchanged (factor_of m cs) (factor_of m ds) leave enter j ≡ true))
  exchanged-is j =
      let f : ℕ → Bool = is_exchanged (factor_of m cs) (factor_of m ds) leave enter in
      let n : ℕ = length (factor_of m ds) in (
        λ h.
            let t : (1 ≤ j) × (j < 1 + n) × (f j ≡ true) = mem-passing f 1 n j (among-mem j (passing f 1 n) h) in
            (t.0, omega (arith, factor-length m ds), t.2),
        λ t. mem-among (passing-mem f 1 n j t.0 (omega (arith, factor-length m ds)) t.2),
      )

  pub exchanged-rises : rises 1 m (exchanged (factor_of m cs) (factor_of m ds) leave enter) ≡ true
  exchanged-rises =
      passing-rises (is_exchanged (factor_of m cs) (factor_of m ds) leave enter) 1 (length (factor_of m ds)) m (omega (arith, factor-length m ds))
