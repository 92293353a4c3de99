-- Columns with the windows that a table has for their ids: ids, number and rows stay; sums and order; columns of some ids and without them; tables that agree on
-- the columns' ids. Assumes nothing.
use mathlib.Core.Path.{◌≡◌, refl, sym, ap, ◌∙◌}
use mathlib.Core.Logic.{inl, inr}
use mathlib.Core.Bool.{Bool, true, ◌&&◌, false≢true}
use mathlib.Core.List.{List, [], ◌∷◌, ◌++◌}
use Prim.Native.Nat.{ℕ, suc, ◌+◌}
use lib.ListN.{length}
use borrow.Author.Tests.{eq-eqb, ne_eqb}
use Rattle.lists.specs.Lists.{Mem, first, later, all, at, among, sum_of}
use Rattle.lists.proofs.Tests.{cases, eq-or-ne, and_both}
use Rattle.symbolic.specs.Columns.{Column, within}
use Rattle.symbolic.specs.Change.{ids_of, without, column_of, columns_of, Bag}
use Rattle.windows.specs.Windowed.{windowed}

-- a column with the window that a table has for its id
abbrev pub windowed_one : (windows : List ℕ) → (n : ℕ) → Column → Column
windowed_one w n c = within (at w c.id) (at w (n + c.id)) c

module _ (w : List ℕ) (n : ℕ) where
  pub windowed-nil : windowed w n [] ≡ []
  unfolding windowed
  windowed-nil = refl

  pub windowed-append : (cs ds : List Column) → windowed w n (cs ++ ds) ≡ windowed w n cs ++ windowed w n ds
  unfolding windowed
  windowed-append [] ds = refl
  windowed-append (c ∷ cs) ds = ap (λ (es : List Column). windowed_one w n c ∷ es) (windowed-append cs ds)

  pub windowed-length : (cs : List Column) → length (windowed w n cs) ≡ length cs
  unfolding windowed
  windowed-length [] = refl
  windowed-length (c ∷ cs) = ap suc (windowed-length cs)

  pub windowed-ids : (cs : List Column) → ids_of (windowed w n cs) ≡ ids_of cs
  unfolding windowed ids_of
  windowed-ids [] = refl
  windowed-ids (c ∷ cs) = ap (λ (is : List ℕ). c.id ∷ is) (windowed-ids cs)

  pub windowed-sum : (f : Column → ℕ) (cs : List Column) → sum_of f (windowed w n cs) ≡ sum_of (λ c. f (windowed_one w n c)) cs
  unfolding windowed sum_of
  windowed-sum f [] = refl
  windowed-sum f (c ∷ cs) = ap (λ (k : ℕ). f (windowed_one w n c) + k) (windowed-sum f cs)

  -- the order of columns does not matter
  pub windowed-bag : (cs ds : List Column) → Bag cs ds → Bag (windowed w n cs) (windowed w n ds)
  windowed-bag cs ds b f = windowed-sum f cs ∙ b (λ c. f (windowed_one w n c)) ∙ sym (windowed-sum f ds)

  -- a test that does not read the window
  pub windowed-all : (p : Column → Bool) → ((c : Column) (a b : ℕ) → p (within a b c) ≡ p c) → (cs : List Column) → all p (windowed w n cs) ≡ all p cs
  unfolding windowed all
  windowed-all p h [] = refl
  windowed-all p h (c ∷ cs) =
      ap (λ (z : Bool). z && all p (windowed w n cs)) (h c (at w c.id) (at w (n + c.id))) ∙ ap (λ (z : Bool). p c && z) (windowed-all p h cs)

  -- ids that leave
  pub windowed-without : (is : List ℕ) (cs : List Column) → windowed w n (without is cs) ≡ without is (windowed w n cs)
  unfolding windowed without
  windowed-without is [] = refl
  windowed-without is (c ∷ cs) =
      elim (cases (among c.id is)) [
        | inl e ↦ rw e (windowed-without is cs)
        | inr e ↦ rw e (ap (λ (es : List Column). windowed_one w n c ∷ es) (windowed-without is cs))
      ]

  -- the column of an id that one of the columns has
  pub windowed-column : (i : ℕ) (cs : List Column) → among i (ids_of cs) ≡ true → column_of i (windowed w n cs) ≡ windowed_one w n (column_of i cs)
  unfolding windowed column_of ids_of among
  windowed-column i [] h = absurd (false≢true h)
  windowed-column i (c ∷ cs) h =
      elim (eq-or-ne c.id i) [
        | inl q ↦ rw (eq-eqb c.id i q) refl
        | inr q ↦ rw (ne_eqb c.id i q) (windowed-column i cs (rw (ne_eqb i c.id (λ e. q (sym e))) at h))
      ]

  pub windowed-columns : (is : List ℕ) (cs : List Column) → all (λ (i : ℕ). among i (ids_of cs)) is ≡ true → columns_of is (windowed w n cs) ≡ windowed w n (columns_of is cs)
  unfolding windowed columns_of all
  windowed-columns [] cs h = refl
  windowed-columns (i ∷ is) cs h =
      let t : (among i (ids_of cs) ≡ true) × (all (λ (k : ℕ). among k (ids_of cs)) is ≡ true) =
      and_both (among i (ids_of cs)) (all (λ (k : ℕ). among k (ids_of cs)) is) h in
      ap (λ (c : Column). c ∷ columns_of is (windowed w n cs)) (windowed-column i cs t.0) ∙
      ap (λ (es : List Column). windowed_one w n (column_of i cs) ∷ es) (windowed-columns is cs t.1)

-- tables that have the same minutes for the columns' ids
pub windowed-same : (w w' : List ℕ) (n : ℕ) (cs : List Column) →
    ((c : Column) → Mem c cs → (at w' c.id ≡ at w c.id) × (at w' (n + c.id) ≡ at w (n + c.id))) → windowed w' n cs ≡ windowed w n cs
unfolding windowed
windowed-same w w' n [] h = refl
windowed-same w w' n (c ∷ cs) h =
    let t : (at w' c.id ≡ at w c.id) × (at w' (n + c.id) ≡ at w (n + c.id)) = h c first in
    ap (λ (a : ℕ). within a (at w' (n + c.id)) c ∷ windowed w' n cs) t.0 ∙ ap (λ (b : ℕ). within (at w c.id) b c ∷ windowed w' n cs) t.1 ∙
    ap (λ (es : List Column). windowed_one w n c ∷ es) (windowed-same w w' n cs (λ d m. h d (later m)))
