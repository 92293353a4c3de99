-- What the two questions about a column answer where they cannot be refused: its parent, its size, and its entries at the front of the list; a column has at
-- most m entries (`entries-most`). Assumes nothing.
use mathlib.Core.Path.{◌≡◌, refl, ap, ◌∙◌}
use mathlib.Core.Logic.{inl, inr}
use mathlib.Core.Bool.{Bool, true}
use mathlib.Core.List.{List, [], ◌∷◌, ◌++◌}
use Prim.Native.Nat.{ℕ, suc, ◌+◌, ◌*◌, ◌≤◌}
use native.Mathlib.Omega.{arith}
use lib.Dec.{eqb}
use lib.ListN.{length, take, drop}
use lib.Seq.{take_at}
use borrow.Author.Tests.{le-leb}
use Rattle.lists.specs.Lists.{pick, pairs_of, written_at}
use Rattle.lists.proofs.Tests.{cases}
use Rattle.symbolic.specs.Columns.{Register, live}
use Rattle.symbolic.specs.Factor.{factor_for, column_at, parent_of, pattern_from, non_zero, size_of}
use Rattle.symbolic.proofs.Build.{counts-length}
use Rattle.symbolic.proofs.Patterns.{pattern-short}
use Rattle.calls.specs.Calls.{ask_parent, ask_column}
use Rattle.calls.specs.Questions.{column_list}
use Rattle.calls.specs.Refusals.{accepted, is_accepted, row_refusal}
use Rattle.calls.specs.Numbers.{ask_refusal}
use Rattle.calls.specs.Steps.{Answer, refused_by}
use Rattle.questions.specs.Asked.{reply_of, replied_to, replied, list_left}
use Rattle.questions.specs.declared.Reply.{Reply}

-- ---- how many entries a column has

entries-two : (a : ℕ) (ns : List ℕ) → length (pairs_of (pattern_from a ns) (non_zero ns)) ≡ 2 * length (pattern_from a ns)
unfolding pattern_from non_zero pairs_of
entries-two a [] = refl
entries-two a (n ∷ ns) =
    elim (cases (eqb n 0)) [ inl e ↦ rw e (entries-two (suc a) ns) | inr e ↦ rw e (omega (arith, entries-two (suc a) ns)) ]

module _ (r : Register) (j : ℕ) (low : 1 ≤ j) (high : j ≤ r.m) where
  pub entries-places : length (column_list r j) ≡ 2 * size_of (column_at (factor_for r) j)
  entries-places = entries-two 1 (column_at (factor_for r) j).counts

  pub entries-most : size_of (column_at (factor_for r) j) ≤ r.m
  entries-most = omega (arith, pattern-short 1 (column_at (factor_for r) j).counts, counts-length r.m (live r) j low high)

  -- ---- what is answered

  row-taken : row_refusal r.m j ≡ accepted
  row-taken = rw (le-leb 1 j low, le-leb j r.m high) refl

  module _ (a : Reply) where
    pub parent-answered : reply_of a ≡ replied r (ask_parent j) → a.value ≡ parent_of (factor_for r) j
    parent-answered e = ap (λ (x : Answer). x.value) (e ∙ taken)
      where
        taken : replied r (ask_parent j) ≡ reply_of (record { number = 0; value = parent_of (factor_for r) j })
        taken = rw row-taken refl

    module _ (list : List ℕ) (room : length (column_list r j) ≤ length list) where
      column-taken : is_accepted (ask_refusal r (ask_column j) 0 list) ≡ true
      column-taken =
          let h : 0 + length (column_list r j) ≤ length list = omega arith in
          rw (row-taken, le-leb (0 + length (column_list r j)) (length list) h) refl

      pub column-answered : reply_of a ≡ replied_to r (ask_column j) 0 list → a.value ≡ size_of (column_at (factor_for r) j)
      column-answered e =
          ap (λ (x : Answer). x.value)
          (e ∙ ap (λ (z : Bool). pick z (reply_of (record { number = 0; value = size_of (column_at (factor_for r) j) })) (refused_by (ask_refusal r (ask_column j) 0 list))) column-taken)

      column-list : list_left r (ask_column j) 0 list ≡ column_list r j ++ drop (0 + length (column_list r j)) list
      column-list = ap (λ (z : Bool). pick z (written_at 0 (column_list r j) list) list) column-taken

      pub column-listed : (list' : List ℕ) → list' ≡ list_left r (ask_column j) 0 list → (n : ℕ) → n ≡ size_of (column_at (factor_for r) j) →
          take (2 * n) list' ≡ column_list r j
      column-listed list' e n q =
          ap (λ (x : List ℕ). take (2 * n) x) (e ∙ column-list) ∙
          take_at (column_list r j) (drop (0 + length (column_list r j)) list) (2 * n) (omega (arith, entries-places))
