-- Parts of the plan region as lists: none, one entry more at the end, the first entry, two in a row. Then the rows of their entries, all and of one
-- kind: of two parts, of one entry more; rows of one kind are rows and rise with them; a part's rows are at or above its first (`part-above`).
-- Assumes nothing.
use mathlib.Core.Path.{◌≡◌, refl, ap, subst, ◌∙◌}
use mathlib.Core.Logic.{inl, inr}
use mathlib.Core.Bool.{true, false}
use mathlib.Core.List.{List, [], ◌∷◌, ◌++◌}
use Prim.Native.Nat.{ℕ, suc, ◌+◌, ◌-◌, ◌*◌, ◌≤◌, ◌<◌}
use native.Mathlib.Omega.{arith}
use lib.Dec.{eqb}
use lib.ListN.{length, get_or, take}
use lib.Seq.{drop-cons}
use Rattle.lists.specs.Lists.{Mem, first, later, rises}
use Rattle.lists.proofs.Tests.{cases, lt-or-le}
use Rattle.lists.proofs.Rising.{rises-first, rises-weaken}
use Rattle.workspace.specs.Regions.{cell, region}
use Rattle.workspace.specs.Planned.{row_of, kind_of}
use Rattle.workspace.proofs.Regions.{region-join, region-next}
use Rattle.differences.specs.Gather.{rows_in, rows_of_kind, plan_part}
use Rattle.differences.proofs.Rows.{Front, rises-front, rises-cons, rises-nil}

-- ---- parts

-- the first place of what is left of a region
pub region-front : (w : List ℕ) (s a to : ℕ) → a < to → s + to ≤ length w → region w (s + a) (to - a) ≡ cell w s a ∷ region w (s + (a + 1)) (to - (a + 1))
region-front w s a to p q =
    let e : to - a ≡ suc (to - (a + 1)) = omega arith in
    let f : suc (s + a) ≡ s + (a + 1) = omega arith in
    ap (region w (s + a)) e ∙ ap (take (suc (to - (a + 1)))) (drop-cons w (s + a) 0 (omega arith)) ∙
    ap (λ (t : ℕ). cell w s a ∷ region w t (to - (a + 1))) f

module _ (m : ℕ) (w : List ℕ) where
  pub part_none : (a : ℕ) → plan_part m w a a ≡ []
  part_none a = let e : a - a ≡ 0 = omega arith in ap (λ (n : ℕ). region w (8 * m + a) n) e

  pub part_join : (from a to : ℕ) → from ≤ a → a ≤ to → plan_part m w from to ≡ plan_part m w from a ++ plan_part m w a to
  part_join from a to p q =
      let e : to - from ≡ a - from + (to - a) = omega arith in
      let f : 8 * m + from + (a - from) ≡ 8 * m + a = omega arith in
      ap (region w (8 * m + from)) e ∙ region-join w (8 * m + from) (a - from) (to - a) ∙
      ap (λ (s : ℕ). plan_part m w from a ++ region w s (to - a)) f

  -- one entry more at its end
  pub part-next : (from a : ℕ) → from ≤ a → 8 * m + a < length w → plan_part m w from (a + 1) ≡ plan_part m w from a ++ (cell w (8 * m) a ∷ [])
  part-next from a p q =
      let e : a + 1 - from ≡ a - from + 1 = omega arith in
      let f : 8 * m + from + (a - from) ≡ 8 * m + a = omega arith in
      ap (region w (8 * m + from)) e ∙ region-next w (8 * m + from) (a - from) (omega arith) ∙
      ap (λ (s : ℕ). plan_part m w from a ++ (get_or w s 0 ∷ [])) f

  -- its first entry
  pub part-front : (a to : ℕ) → a < to → 8 * m + to ≤ length w → plan_part m w a to ≡ cell w (8 * m) a ∷ plan_part m w (a + 1) to
  part-front a to p q = region-front w (8 * m) a to p q

-- ---- rows

pub rows_append : (es ds : List ℕ) → rows_in (es ++ ds) ≡ rows_in es ++ rows_in ds
unfolding rows_in
rows_append [] ds = refl
rows_append (e ∷ es) ds = ap (λ (xs : List ℕ). row_of e ∷ xs) (rows_append es ds)

pub no_rows : {i : ℕ} → Mem i (rows_in []) → ⊥
unfolding rows_in
no_rows n = elim n [ ]

pub rows-one : (e : ℕ) → rows_in (e ∷ []) ≡ row_of e ∷ []
unfolding rows_in
rows-one e = refl

pub rows-cons : (e : ℕ) (es : List ℕ) → rows_in (e ∷ es) ≡ row_of e ∷ rows_in es
unfolding rows_in
rows-cons e es = refl

pub kind-append : (k : ℕ) (es ds : List ℕ) → rows_of_kind k (es ++ ds) ≡ rows_of_kind k es ++ rows_of_kind k ds
unfolding rows_of_kind
kind-append k [] ds = refl
kind-append k (e ∷ es) ds =
    elim (cases (eqb (kind_of e) k)) [ inl t ↦ rw (t, kind-append k es ds) | inr t ↦ rw (t, kind-append k es ds) ]

pub kind-cons : (k e : ℕ) (es : List ℕ) → eqb (kind_of e) k ≡ true → rows_of_kind k (e ∷ es) ≡ row_of e ∷ rows_of_kind k es
unfolding rows_of_kind
kind-cons k e es t = rw t

pub kind-skip : (k e : ℕ) (es : List ℕ) → eqb (kind_of e) k ≡ false → rows_of_kind k (e ∷ es) ≡ rows_of_kind k es
unfolding rows_of_kind
kind-skip k e es t = rw t

pub kind-nil : (k : ℕ) → rows_of_kind k [] ≡ []
unfolding rows_of_kind
kind-nil k = refl

pub no_kind : {i : ℕ} (k : ℕ) → Mem i (rows_of_kind k []) → ⊥
unfolding rows_of_kind
no_kind k n = elim n [ ]

-- a row of one kind is a row
pub kind_row : {i : ℕ} (k : ℕ) (es : List ℕ) → Mem i (rows_of_kind k es) → Mem i (rows_in es)
unfolding rows_of_kind rows_in
kind_row k [] n = elim n [ ]
kind_row {i} k (e ∷ es) n =
    elim (cases (eqb (kind_of e) k)) [
      | inl t ↦ go i (rw t at n) (λ l. kind_row k es l)
      | inr t ↦ later (kind_row k es (rw t at n))
    ]
  where
    go : (i : ℕ) → Mem i (row_of e ∷ rows_of_kind k es) → (Mem i (rows_of_kind k es) → Mem i (rows_in es)) → Mem i (row_of e ∷ rows_in es)
    go i first f = first
    go i (later l) f = later (f l)

pub kind-rises : (a b k : ℕ) (es : List ℕ) → rises a b (rows_in es) ≡ true → rises a b (rows_of_kind k es) ≡ true
unfolding rows_of_kind rows_in
kind-rises a b k [] h = rises-nil a b
kind-rises a b k (e ∷ es) h =
    let t : Front a b (row_of e) (rows_in es) = rises-front a b (row_of e) (rows_in es) h in
    let ih : rises (suc (row_of e)) b (rows_of_kind k es) ≡ true = kind-rises (suc (row_of e)) b k es t.tail in
    elim (cases (eqb (kind_of e) k)) [
      | inl q ↦ rw q (rises-cons a b (row_of e) (rows_of_kind k es) t.low t.high ih)
      | inr q ↦ rw q (rises-weaken (suc (row_of e)) b a (rows_of_kind k es) (omega (arith, t.low)) ih)
    ]

-- the rows of a part are at or above its first, and so at or above what that is
pub part-above : {i : ℕ} (m : ℕ) (w : List ℕ) (a to bound : ℕ) → 8 * m + to ≤ length w → rises 1 m (rows_in (plan_part m w a to)) ≡ true →
    (a < to → bound ≤ row_of (cell w (8 * m) a)) → Mem i (rows_in (plan_part m w a to)) → bound ≤ i
part-above {i} m w a to bound l r f n =
    elim (lt-or-le a to) [
      | inl h ↦
          let e : rows_in (plan_part m w a to) ≡ row_of (cell w (8 * m) a) ∷ rows_in (plan_part m w (a + 1) to) =
          ap rows_in (part-front m w a to h l) ∙ rows-cons (cell w (8 * m) a) (plan_part m w (a + 1) to) in
          omega (arith, f h, rises-first 1 m (subst (λ (xs : List ℕ). Mem i xs) e n) (subst (λ (xs : List ℕ). rises 1 m xs ≡ true) e r))
      | inr h ↦
          let z : to - a ≡ 0 = omega arith in
          absurd (no_rows (subst (λ (s : ℕ). Mem i (rows_in (region w (8 * m + a) s))) z n))
    ]
