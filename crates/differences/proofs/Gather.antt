-- Gathering rows in the buffer, one place after another: nothing yet, one row more (`gathering-push`), and all of them (`gathering-done`); what the
-- buffer's writing leaves of the plan; the rows of a list; one gathering after another.
-- Assumes nothing.
use mathlib.Core.Path.{◌≡◌, refl, ap, subst, ◌∙◌}
use mathlib.Core.Logic.{inl}
use mathlib.Core.Bool.{Bool, true}
use mathlib.Core.List.{List, [], ◌∷◌, ◌++◌}
use Prim.Native.Nat.{ℕ, ◌+◌, ◌-◌, ◌*◌, ◌≤◌, ◌<◌}
use native.Mathlib.Omega.{arith}
use native.Mathlib.Numerals.{add-one}
use lib.ListN.{length, get_or, take, set, length-append}
use lib.Seq.{take-suc, take_all}
use Rattle.lists.specs.Lists.{among, rises}
use Rattle.lists.proofs.Rising.{rises-length}
use Rattle.workspace.specs.Regions.{cell, region}
use Rattle.workspace.proofs.Regions.{only-refl, only-trans, only_store, only-cell, only-region, zero-part, store-push, store-leaves-zero}
use Rattle.differences.specs.Gather.{plan_part, CanGather, Gathered, Gathering}

-- nothing yet
pub gathering-start : {m : ℕ} {w : List ℕ} → CanGather m w → Gathering m w w 0 []
gathering-start {m} {w} g =
    record { only = only-refl; size = refl; rows = refl; rest = zero-part w (2 * m) m (2 * m + 0) (m - 0) g.empty (omega arith) (omega arith) }

module _ {m : ℕ} {w₀ w : List ℕ} {k : ℕ} {gs : List ℕ} (g : Gathering m w₀ w k gs) where
  -- one row more
  pub gathering-push : (v : ℕ) → 3 * m ≤ length w₀ → k < m → Gathering m w₀ (set w (2 * m + k) v) (k + 1) (gs ++ (v ∷ []))
  gathering-push v l h =
      record {
        only = only_store g.only k v h;
        size = omega (arith, length-append gs (v ∷ []), g.size);
        rows = store-push w (2 * m) k v (omega (arith, g.only.same_length)) ∙ ap (λ (xs : List ℕ). xs ++ (v ∷ [])) g.rows;
        rest = store-leaves-zero w (2 * m + k) v (2 * m + (k + 1)) (m - (k + 1)) (inl (omega arith))
            (zero-part w (2 * m + k) (m - k) (2 * m + (k + 1)) (m - (k + 1)) g.rest (omega arith) (omega arith));
      }

  -- all of them
  pub gathering-done : (p : ℕ → Bool) → rises 1 m gs ≡ true → ((i : ℕ) → among i gs ≡ p i) → Gathered m w₀ w k p
  gathering-done p r f =
      record {
        only = g.only;
        buffered = record {
          within = omega (arith, g.size, rises-length 1 m gs (omega arith) r);
          rising = rw g.rows r;
          rest = g.rest;
        };
        rows = λ i. ap (among i) g.rows ∙ f i;
      }

  -- the plan is as before
  pub gathering-cell : (a : ℕ) → cell w (8 * m) a ≡ cell w₀ (8 * m) a
  gathering-cell a = only-cell g.only (8 * m) (a + 1) (inl (omega arith)) a (omega arith)

  pub gathering-part : (a e : ℕ) → plan_part m w a e ≡ plan_part m w₀ a e
  gathering-part a e = only-region g.only (8 * m + a) (e - a) (inl (omega arith))

-- ---- the rows of a list

pub list-room : (m : ℕ) (xs : List ℕ) → rises 1 m xs ≡ true → length xs ≤ m
list-room m xs r = omega (arith, rises-length 1 m xs (omega arith) r)

pub list-push : {m : ℕ} {w₀ w : List ℕ} {k : ℕ} (xs : List ℕ) → 3 * m ≤ length w₀ → rises 1 m xs ≡ true → k < length xs → Gathering m w₀ w k (take k xs) →
    Gathering m w₀ (set w (2 * m + k) (get_or xs k 0)) (k + 1) (take (k + 1) xs)
list-push {m} {w₀} {w} {k} xs l r h g =
    let e : take k xs ++ (get_or xs k 0 ∷ []) ≡ take (k + 1) xs = rw (add-one k, take-suc xs k 0 h) refl in
    subst (λ (ys : List ℕ). Gathering m w₀ (set w (2 * m + k) (get_or xs k 0)) (k + 1) ys) e (gathering-push g (get_or xs k 0) l (omega (arith, list-room m xs r)))

pub list_done : {m : ℕ} {w₀ w : List ℕ} {k : ℕ} (xs : List ℕ) → rises 1 m xs ≡ true → length xs ≤ k → Gathering m w₀ w k (take k xs) → Gathered m w₀ w k (λ i. among i xs)
list_done {m} {w₀} {w} {k} xs r h g =
    let e : take k xs ≡ xs = take_all k xs h in gathering-done g (λ i. among i xs) (rw e r) (λ i. ap (among i) e)

-- ---- a gathering after another

pub gathering-trans : {m : ℕ} {w₀ w x : List ℕ} {k l : ℕ} {gs : List ℕ} (hs : List ℕ) → Gathering m w₀ w k gs → Gathering m w x l (region w (2 * m) k ++ hs) →
    Gathering m w₀ x l (gs ++ hs)
gathering-trans {m} {w₀} {w} {x} {k} {l} {gs} hs g h =
    let t : Gathering m w x l (gs ++ hs) = subst (λ (xs : List ℕ). Gathering m w x l (xs ++ hs)) g.rows h in
    record { only = only-trans g.only t.only; size = t.size; rows = t.rows; rest = t.rest }
