-- The labels of an accepted batch: what stands beside a reported column is the label that the change gives it (`label-beside`), and that is the largest position
-- whose path passes through it in every tree that meets the definition (`labels-largest`). Assumes nothing.
use mathlib.Core.Path.{◌≡◌, refl, sym, ap}
use mathlib.Core.Logic.{◌⊎◌, inl, inr, ◌≢◌}
use mathlib.Core.Bool.{true, false≢true}
use mathlib.Core.List.{List, [], ◌∷◌}
use Prim.Native.Nat.{ℕ, suc, ◌≤◌, ◌<◌}
use lib.ListN.{length}
use borrow.Author.Tests.{eq-eqb, ne_eqb}
use Rattle.lists.specs.Lists.{Mem, first, later}
use Rattle.lists.proofs.Tests.{eq-or-ne}
use Rattle.lists.proofs.Rising.{rises-in}
use Rattle.symbolic.specs.Columns.{Column, smallest, Register, live}
use Rattle.symbolic.specs.Factor.{factor_for, parent_of}
use Rattle.symbolic.specs.Definition.{OnPath}
use Rattle.symbolic.specs.Batch.{at_position, is_touched, label_of}
use Rattle.symbolic.proofs.Labels.{touched-label, label-path, path-label}
use Rattle.symbolic.proofs.Theorems.{defined}
use Rattle.calls.specs.Calls.{Change, adding, removing, setting, is_batch}
use Rattle.calls.specs.Changes.{effect, touched_by, labelled}
use Rattle.calls.proofs.Changes.{touched-rise}
use Rattle.history.specs.Statements.{value_for, IsFactorOf, OnPathOf, IsLabel}
use Rattle.history.proofs.Reports.{path-same, parents-agree, on-touched, reports-exactly}

-- ---- the list of labels

pub labelled-length : (f : ℕ → ℕ) (js : List ℕ) → length (labelled f js) ≡ length js
unfolding labelled
labelled-length f [] = refl
labelled-length f (j ∷ js) = ap suc (labelled-length f js)

pub label-beside : (f : ℕ → ℕ) (js : List ℕ) (j : ℕ) → Mem j js → value_for js (labelled f js) j ≡ f j
unfolding labelled value_for
label-beside f [] j n = elim n [ ]
label-beside f (i ∷ is) j n =
    elim (eq-or-ne i j) [
      | inl e ↦ rw (eq-eqb i j e) (ap f e)
      | inr e ↦ rw (ne_eqb i j e) (label-beside f is j (behind i j is e n))
    ]
  where
    behind : (i j : ℕ) (is : List ℕ) → i ≢ j → Mem j (i ∷ is) → Mem j is
    behind i j is e first = absurd (e refl)
    behind i j is e (later n) = n

-- ---- in every tree that meets the definition

module _ (r : Register) (M : ℕ → ℕ → ℕ) (P : ℕ → ℕ) (h : IsFactorOf r M P) (batch : List Column) (j : ℕ) where
  label-just : j ≤ r.m → is_touched (factor_for r) batch j ≡ true → IsLabel r.m P batch j (label_of (factor_for r) batch j)
  label-just b t =
      let l : ℕ = label_of (factor_for r) batch j in
      let p : 0 < l = touched-label (factor_for r) batch j t in
      let w : (l ≤ length batch) × (1 ≤ smallest (at_position batch l)) × (smallest (at_position batch l) ≤ r.m) × OnPath (parent_of (factor_for r)) (smallest (at_position batch l)) j =
      label-path r.m (live r) batch j b p in (
        (
          p,
          w.0,
          w.1,
          w.2,
          path-same r.m (parent_of (factor_for r)) P (λ k x y. sym (parents-agree r M P h k x y)) (λ k x y z. ((defined r.m (live r)).parent_in k x y z).1) w.1 w.2 w.3,
        ),
        λ i u. path-label r.m (live r) batch j i u.0 u.1 u.2 u.3
            (path-same r.m P (parent_of (factor_for r)) (parents-agree r M P h) (λ k x y z. (h.parent_in k x y z).1) u.2 u.3 u.4),
      )

  pub label-on : j ≤ r.m → OnPathOf r.m P batch j → IsLabel r.m P batch j (label_of (factor_for r) batch j)
  label-on b u = label-just b (on-touched r M P h batch j u)

-- the label that a batch gives a touched column
pub labels-largest : (r : Register) (c : Change) → is_batch c ≡ true → (M N : ℕ → ℕ → ℕ) (P Q : ℕ → ℕ) → IsFactorOf r M P → IsFactorOf (effect r c).register N Q →
    (j : ℕ) → Mem j (touched_by r c) →
    IsLabel r.m P (effect r c).leave j ((effect r c).label j) ⊎ IsLabel r.m Q (effect r c).enter j ((effect r c).label j)
labels-largest r c z M N P Q h k j n =
    let b : (1 ≤ j) × (j ≤ r.m) = rises-in 1 r.m n (touched-rise r c) in
    each c z k b.1 ((reports-exactly r c M N P Q h k j b.0 b.1).0 n)
  where
    nobody : (S : ℕ → ℕ) → OnPathOf r.m S [] j → (X : Type 0) → X
    nobody S u X = elim u.1 [ ]

    each : (c : Change) → is_batch c ≡ true → IsFactorOf (effect r c).register N Q → j ≤ r.m →
        OnPathOf r.m P (effect r c).leave j ⊎ OnPathOf r.m Q (effect r c).enter j →
        IsLabel r.m P (effect r c).leave j ((effect r c).label j) ⊎ IsLabel r.m Q (effect r c).enter j ((effect r c).label j)
    each (adding is ns rs ps qs) z k b (inl u) = nobody P u _
    each (adding is ns rs ps qs) z k b (inr u) =
        inr (label-on (effect r (adding is ns rs ps qs)).register N Q k (effect r (adding is ns rs ps qs)).enter j b u)
    each (removing is) z k b (inl u) = inl (label-on r M P h (effect r (removing is)).leave j b u)
    each (removing is) z k b (inr u) = nobody Q u _
    each (setting t) z k b u = absurd (false≢true z)
