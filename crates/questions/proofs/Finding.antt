-- The first record at or above a row, in a chain that holds a factor column: its row and multiplicity are the column's next, and where there is no such record
-- the column ends before. Assumes nothing.
use mathlib.Core.Path.{◌≡◌, refl, sym, ap, ◌∙◌}
use mathlib.Core.Logic.{◌≢◌, inl, inr}
use mathlib.Core.List.{List, [], ◌∷◌}
use Prim.Native.Nat.{ℕ, ◌≤◌}
use native.Mathlib.Omega.{arith}
use lib.ListN.{length}
use borrow.Author.Tests.{le-leb, lt-leb}
use Rattle.lists.specs.Lists.{at, values_at}
use Rattle.lists.proofs.Tests.{lt-or-le}
use Rattle.symbolic.specs.Columns.{Register}
use Rattle.symbolic.specs.Factor.{factor_for, column_at, pattern_of}
use Rattle.symbolic.specs.NextRow.{first_from, next_row}
use Rattle.pool.specs.Chains.{chain, Linked}
use Rattle.columns.specs.Search.{first_at}
use Rattle.questions.specs.Asked.{ColumnsFor, CanAsk}

-- ---- records of a chain, by what stands at them

module _ (xs cs ns : List ℕ) (i : ℕ) where
  none_found : (h : ℕ) (rs : List ℕ) → Linked ns h rs → first_at xs rs i ≡ 0 → first_from i (values_at xs rs) (values_at cs rs) ≡ record { row = 0; count = 0 }
  unfolding first_at first_from values_at Linked
  none_found h [] l z = refl
  none_found h (r ∷ rs) l z =
      elim (lt-or-le (at xs r) i) [
        | inl a ↦ let e = lt-leb i (at xs r) a in rw e (none_found (at ns r) rs l.3 (rw e at z))
        | inr a ↦ let e = le-leb i (at xs r) a in absurd (omega (arith, rw e at z, l.1))
      ]

  row-found : (h : ℕ) (rs : List ℕ) → Linked ns h rs → first_at xs rs i ≢ 0 →
      first_from i (values_at xs rs) (values_at cs rs) ≡ record { row = at xs (first_at xs rs i); count = at cs (first_at xs rs i) }
  unfolding first_at first_from values_at Linked
  row-found h [] l n = absurd (n refl)
  row-found h (r ∷ rs) l n =
      elim (lt-or-le (at xs r) i) [
        | inl a ↦ let e = lt-leb i (at xs r) a in rw e (row-found (at ns r) rs l.3 (rw e at n))
        | inr a ↦ rw (le-leb i (at xs r) a) refl
      ]

-- ---- a column of the register

module _ {hs rs cs ns : List ℕ} (c : CanAsk hs rs cs ns) (i j : ℕ) (a : 1 ≤ j) (b : j ≤ length hs) (f : ℕ) (e : f ≡ first_at rs (chain ns (at hs j)) i) where
  abbrev records : List ℕ
  records = chain ns (at hs j)

  held_next : (r : Register) → ColumnsFor hs rs cs ns r → first_from i (values_at rs records) (values_at cs records) ≡ next_row (factor_for r) i j
  held_next r t =
      ap (λ (xs : List ℕ). first_from i xs (values_at cs records)) (t.column j a b).rows ∙
      ap (λ (xs : List ℕ). first_from i (pattern_of (column_at (factor_for r) j)) xs) (t.column j a b).counts

  pub ends-before : f ≡ 0 → (r : Register) → ColumnsFor hs rs cs ns r → record { row = 0; count = 0 } ≡ next_row (factor_for r) i j
  ends-before z r t = sym (none_found rs cs ns i (at hs j) records (c.linked j a b) (sym e ∙ z)) ∙ held_next r t

  pub goes_on : f ≢ 0 → (r : Register) → ColumnsFor hs rs cs ns r → record { row = at rs f; count = at cs f } ≡ next_row (factor_for r) i j
  goes_on n r t =
      ap (λ (k : ℕ). record { row = at rs k; count = at cs k }) e ∙ sym (row-found rs cs ns i (at hs j) records (c.linked j a b) (λ z. n (e ∙ z))) ∙ held_next r t
