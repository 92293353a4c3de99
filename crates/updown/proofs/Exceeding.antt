-- Sizes after an addition: where the turn of j finds too few free records the sizes exceed the pool (`sizes-exceed`), and where all fit they do not
-- (`sizes-fit`); a removal never finds too few (`stops-adding`). Assumes nothing.
use mathlib.Core.Path.{◌≡◌, refl, sym, ap, ◌∙◌}
use mathlib.Core.Bool.{Bool, true, false, true≢false}
use mathlib.Core.List.{List, [], ◌∷◌, ◌++◌}
use Prim.Native.Nat.{ℕ, suc, ◌+◌, ◌-◌, ◌≤◌, ◌<◌}
use native.Mathlib.Omega.{arith}
use lib.Dec.{leb}
use lib.ListN.{length}
use borrow.Author.Tests.{leb-false}
use Rattle.lists.specs.Lists.{sum_of}
use Rattle.lists.proofs.Sum.{sum-le}
use Rattle.symbolic.specs.Columns.{Column}
use Rattle.symbolic.specs.Factor.{column_at, size_of, size_sum}
use Rattle.symbolic.specs.Batch.{is_touched, touched_from, touched, size_sum_of}
use Rattle.symbolic.proofs.Build.{factor-length}
use Rattle.symbolic.proofs.Sizes.{size-grows, sizes-local-sum}
use Rattle.pool.specs.Chains.{chain}
use Rattle.columns.specs.Plan.{of_kind}
use Rattle.emission.specs.Plans.{plan_from}
use Rattle.updown.specs.Turns.{larger, smaller, before, after, done}
use Rattle.updown.specs.States.{Numbers}
use Rattle.updown.proofs.Plans.{in-touched, touched-join, sizes-append}
use Rattle.updown.proofs.Stepping.{done_next}
use Rattle.updown.proofs.Numbering.{column-grows, removing-fits}

module _ {next work : List ℕ} {m : ℕ} {R W : List Column} {free f l c k used avail : ℕ} (size : size_sum (smaller m R) + free ≡ length next) where
  pub sizes-fit : Numbers next work m R W true free (suc m) f l c k used avail → size_sum (larger m R W) ≤ length next
  sizes-fit n =
      let q : suc m - 1 ≡ length (larger m R W) = omega (arith, factor-length m (R ++ W)) in
      let e : done m R W (suc m) ≡ touched (larger m R W) W = ap (λ (x : ℕ). touched_from (larger m R W) W 1 x) q in
      omega (arith, size, n.grown refl, n.taken, sizes-local-sum m R W, ap (size_sum_of (smaller m R)) e, ap (size_sum_of (larger m R W)) e)

  pub sizes-exceed : (j : ℕ) → 1 ≤ j → j ≤ m → m ≤ 4096 → length R + length W ≤ 60000 → is_touched (larger m R W) W j ≡ true → Numbers next work m R W true free j f l c k used avail →
      leb (of_kind 1 (plan_from 1 (column_at (smaller m R) j).counts (column_at (larger m R W) j).counts)) (length (chain next avail)) ≡ false → length next < size_sum (larger m R W)
  unfolding sum_of
  sizes-exceed j a b narrow few t n over =
      let q : (suc j - 1) + (m - j) ≡ length (larger m R W) = omega (arith, factor-length m (R ++ W)) in
      let rest : List ℕ = touched_from (larger m R W) W (1 + (suc j - 1)) (m - j) in
      let e : touched (larger m R W) W ≡ (done m R W j ++ (j ∷ [])) ++ rest =
      ap (λ (x : ℕ). touched_from (larger m R W) W 1 x) (sym q) ∙ touched-join (larger m R W) W 1 (suc j - 1) (m - j) ∙ ap (λ (x : List ℕ). x ++ rest) (done_next m R W j a t) in
      omega (
        arith,
        size,
        n.grown refl,
        n.taken,
        leb-false (of_kind 1 (plan_from 1 (column_at (smaller m R) j).counts (column_at (larger m R W) j).counts)) (length (chain next avail)) over,
        sizes-local-sum m R W,
        column-grows m R W j a b narrow few,
        ap (size_sum_of (smaller m R)) e,
        ap (size_sum_of (larger m R W)) e,
        sizes-append (smaller m R) (done m R W j ++ (j ∷ [])) rest,
        sizes-append (larger m R W) (done m R W j ++ (j ∷ [])) rest,
        sizes-append (smaller m R) (done m R W j) (j ∷ []),
        sizes-append (larger m R W) (done m R W j) (j ∷ []),
        sum-le (λ x. size_of (column_at (smaller m R) x)) (λ x. size_of (column_at (larger m R W) x)) rest (λ x y. let v : (1 + (suc j - 1) ≤ x) × (x < 1 + (suc j - 1) + (m - j)) × (is_touched (larger m R W) W x ≡ true) =
            in-touched (larger m R W) W (1 + (suc j - 1)) (m - j) x y in size-grows m R W x (omega arith) (omega arith)),
      )

-- a turn that finds too few free records is an addition's
pub stops-adding : {next work : List ℕ} {m : ℕ} {R W : List Column} (adding : Bool) {free f l c k used avail : ℕ} → (adding ≡ true → size_sum (smaller m R) + free ≡ length next) →
    (j : ℕ) → 1 ≤ j → j ≤ m → m ≤ 4096 → length R + length W ≤ 60000 → is_touched (larger m R W) W j ≡ true → Numbers next work m R W adding free j f l c k used avail →
    leb (of_kind 1 (plan_from 1 (column_at (before adding m R W) j).counts (column_at (after adding m R W) j).counts)) (length (chain next avail)) ≡ false →
    (adding ≡ true) × (length next < size_sum (larger m R W))
stops-adding true size j a b narrow few t n over = (refl, sizes-exceed (size refl) j a b narrow few t n over)
stops-adding {next} {m = m} {R} {W} false {avail = avail} size j a b narrow few t n over =
    absurd (true≢false (sym (removing-fits m R W j a b narrow few (length (chain next avail))) ∙ over))
