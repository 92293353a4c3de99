-- The loops over changes, a plan's batches or a list's minutes: tables and lists keep their lengths, so that the premise of the next change is all they carry. Assumes nothing.
use mathlib.Core.Path.{◌≡◌}
use mathlib.Core.List.{List}
use Prim.Native.Nat.{ℕ}
use lib.ListN.{length}
use Rattle.tables.specs.Tables.{State, tables_of}
use Rattle.answers.specs.Answers.{CanChange}

-- after some changes: the next may follow, and what is lent has the lengths it had
pub record Running (heads parents₀ rows₀ counts₀ next₀ book-heads₀ book-rows₀ book-next₀ windows₀ work₀ touched₀ labels₀ : List ℕ) (s : State) (parents rows counts next book-heads book-rows book-next windows work touched labels : List ℕ) : Type 0 where
  pub can : CanChange s (tables_of heads parents rows counts next book-heads book-rows book-next windows) work touched labels
  pub same-parents : length parents ≡ length parents₀
  pub same_rows : length rows ≡ length rows₀
  pub same-counts : length counts ≡ length counts₀
  pub same_next : length next ≡ length next₀
  pub same-book-heads : length book-heads ≡ length book-heads₀
  pub same-book-rows : length book-rows ≡ length book-rows₀
  pub same-book-next : length book-next ≡ length book-next₀
  pub same-windows : length windows ≡ length windows₀
  pub same-work : length work ≡ length work₀
  pub same-touched : length touched ≡ length touched₀
  pub same-labels : length labels ≡ length labels₀
