-- The declarative halves of demand 3: what sound tables hold meets the definition of the factor (`held-factor`), and the columns that an accepted change reports
-- are just those on its paths in every tree that meets the definition (`reports-exactly`). Assumes nothing.
use mathlib.Core.Path.{◌≡◌, refl, sym, ap, ◌∙◌, subst}
use mathlib.Core.Logic.{◌⊎◌, inl, inr, ◌↔◌}
use mathlib.Core.Bool.{Bool, true, ◌&&◌, ◌||◌, not}
use mathlib.Core.List.{List, [], ◌∷◌}
use Prim.Native.Nat.{ℕ, suc, ◌+◌, ◌-◌, ◌≤◌, ◌<◌}
use native.Mathlib.Omega.{arith}
use lib.Dec.{eqb}
use lib.ListN.{get_or}
use borrow.Author.Tests.{eq-eqb, ne_eqb}
use Rattle.lists.specs.Lists.{Mem, one, among, values_at}
use Rattle.lists.proofs.Tests.{eq-or-ne, or-either, or_left, or_right}
use Rattle.lists.proofs.Member.{among-mem, mem-among}
use Rattle.lists.proofs.Count.{count-ext}
use Rattle.symbolic.specs.Columns.{Column, smallest, starting_with, Register, live}
use Rattle.symbolic.specs.Factor.{FactorColumn, factor_of, factor_for, column_at, multiplicity, parent_of, pattern_from, non_zero, pattern_of}
use Rattle.symbolic.specs.Definition.{IsFactor, child_with, OnPath, here, up}
use Rattle.symbolic.specs.Batch.{is_touched, is_exchanged, exchanged}
use Rattle.symbolic.proofs.Touched.{touched-by, touched-has}
use Rattle.symbolic.proofs.Exchange.{exchanged-is}
use Rattle.symbolic.proofs.Theorems.{defined, unique}
use Rattle.tables.specs.Stored.{Stored, records_of, holds_from}
use Rattle.tables.specs.Tables.{stored_in}
use Rattle.tables.proofs.Stored.{stored-column}
use Rattle.calls.specs.Calls.{Change}
use Rattle.calls.specs.Changes.{effect, touched_by}
use Rattle.calls.specs.Steps.{World}
use Rattle.calls.proofs.Changes.{rows_stay}
use Rattle.history.specs.Statements.{value_for, held_count, held_parent, IsFactorOf, OnPathOf}

-- ---- what the tables hold

-- the multiplicity beside a pattern's row is the row's
value-pattern : (a : ℕ) (ns : List ℕ) (i : ℕ) → a ≤ i → value_for (pattern_from a ns) (non_zero ns) i ≡ get_or ns (i - a) 0
unfolding value_for pattern_from non_zero
value-pattern a [] i h = refl
value-pattern a (n ∷ ns) i h =
    elim (eq-or-ne n 0) [
      | inl z ↦ rw (eq-eqb n 0 z) (elim (eq-or-ne a i) [
        | inl q ↦ let d : i - a ≡ 0 = omega arith in value-below (suc a) ns i (omega arith) ∙ sym (ap (λ (k : ℕ). get_or (n ∷ ns) k 0) d ∙ z)
        | inr q ↦ value-pattern (suc a) ns i (omega arith) ∙ behind a n ns i (omega arith)
      ])
      | inr z ↦ rw (ne_eqb n 0 z) (elim (eq-or-ne a i) [
        | inl q ↦ let d : i - a ≡ 0 = omega arith in rw (eq-eqb a i q) (sym (ap (λ (k : ℕ). get_or (n ∷ ns) k 0) d))
        | inr q ↦ rw (ne_eqb a i q) (value-pattern (suc a) ns i (omega arith) ∙ behind a n ns i (omega arith))
      ])
    ]
  where
    value-below : (a : ℕ) (ns : List ℕ) (i : ℕ) → i < a → value_for (pattern_from a ns) (non_zero ns) i ≡ 0
    value-below a [] i h = refl
    value-below a (n ∷ ns) i h =
        elim (eq-or-ne n 0) [
          | inl z ↦ rw (eq-eqb n 0 z) (value-below (suc a) ns i (omega arith))
          | inr z ↦ rw (ne_eqb n 0 z, ne_eqb a i (λ e. absurd (omega arith))) (value-below (suc a) ns i (omega arith))
        ]

    behind : (a n : ℕ) (ns : List ℕ) (i : ℕ) → suc a ≤ i → get_or ns (i - suc a) 0 ≡ get_or (n ∷ ns) (i - a) 0
    behind a n ns i h = let q : i - a ≡ suc (i - suc a) = omega arith in sym (ap (λ (k : ℕ). get_or (n ∷ ns) k 0) q)

-- multiplicities and parents that agree within 1 to m meet the definition alike
same-factor : (m : ℕ) (S M N : ℕ → ℕ → ℕ) (P Q : ℕ → ℕ) → ((i j : ℕ) → 1 ≤ i → i ≤ m → 1 ≤ j → j ≤ m → N i j ≡ M i j) → ((j : ℕ) → 1 ≤ j → j ≤ m → Q j ≡ P j) →
    IsFactor m S M P → IsFactor m S N Q
same-factor m S M N P Q e f h =
    record {
      below = λ i j a b d. e i j a (omega arith) (omega arith) d ∙ h.below i j a b d;
      counted = λ i j a b d. e i j (omega arith) d a (omega arith) ∙ h.counted i j a b d ∙ ap (λ (n : ℕ). n + S j i + one (eqb i j))
          (count-ext (child_with M P j i) (child_with N Q j i) m (λ c x y.
          sym (ap (λ (p : ℕ). eqb p j && not (eqb (N i c) 0)) (f c x y) ∙ ap (λ (n : ℕ). eqb (P c) j && not (eqb n 0)) (e i c (omega arith) d x y))));
      parent_in = λ j a b z.
          let q : Q j ≡ P j = f j a b in
          let t : (j < P j) × (P j ≤ m) × (0 < M (P j) j) = h.parent_in j a b (omega arith) in
          let r : N (Q j) j ≡ M (P j) j = e (Q j) j (omega arith) (omega arith) a b ∙ ap (λ (k : ℕ). M k j) q in
          (omega arith, omega arith, omega arith);
      parent-least = λ i j a b d z. e i j (omega arith) d a (omega arith) ∙ h.parent-least i j a b d (omega (arith, f j a (omega arith)));
      root = λ i j a b d z. e i j (omega arith) d a (omega arith) ∙ h.root i j a b d (sym (f j a (omega arith)) ∙ z);
    }

-- tables that hold the factor of a register meet its definition
pub held-factor : (r : Register) (v : World) → holds_from (stored_in v.state v.tables) (factor_for r) 1 r.m ≡ true →
    IsFactorOf r (held_count v) (held_parent v)
held-factor r v h =
    let s : Stored = stored_in v.state v.tables in
    same-factor r.m (λ j i. starting_with j i (live r)) (multiplicity (factor_for r)) (held_count v) (parent_of (factor_for r)) (held_parent v)
    (λ i j a b x y.
    let f : FactorColumn = column_at (factor_for r) j in
    ap (λ (rs : List ℕ). value_for rs (values_at s.counts (records_of s j)) i) (stored-column r.m (live r) s h j x y).rows ∙
    ap (λ (cs : List ℕ). value_for (pattern_of f) cs i) (stored-column r.m (live r) s h j x y).counts ∙ value-pattern 1 f.counts i a)
    (λ j x y. (stored-column r.m (live r) s h j x y).parent) (defined r.m (live r))

-- ---- paths

-- a path in one tree is a path in every tree with the same parents within 1 to m
pub path-same : (m : ℕ) (P Q : ℕ → ℕ) → ((j : ℕ) → 1 ≤ j → j ≤ m → P j ≡ Q j) → ((j : ℕ) → 1 ≤ j → j ≤ m → 0 < P j → P j ≤ m) → {s j : ℕ} → 1 ≤ s → s ≤ m →
    OnPath P s j → OnPath Q s j
path-same m P Q e f a b here = here
path-same m P Q e f {s} {j} a b (up z u) =
    let q : P s ≡ Q s = e s a b in
    up {j = s} (omega arith) (subst (λ (k : ℕ). OnPath Q k j) q (path-same m P Q e f z (f s a b z) u))

module _ (r : Register) (M : ℕ → ℕ → ℕ) (P : ℕ → ℕ) (h : IsFactorOf r M P) where
  pub parents-agree : (j : ℕ) → 1 ≤ j → j ≤ r.m → P j ≡ parent_of (factor_for r) j
  parents-agree j a b = (unique r.m (live r) M P h j j a b a b).1

  touched-on : (cs : List Column) (j : ℕ) → j ≤ r.m → is_touched (factor_for r) cs j ≡ true → OnPathOf r.m P cs j
  touched-on cs j b t =
      let u : (c : Column) × Mem c cs × (1 ≤ smallest c) × (smallest c ≤ r.m) × OnPath (parent_of (factor_for r)) (smallest c) j = touched-by r.m (live r) cs j b t in (
        u.0,
        u.1,
        u.2,
        u.3,
        path-same r.m (parent_of (factor_for r)) P (λ k x y. sym (parents-agree k x y)) (λ k x y z. ((defined r.m (live r)).parent_in k x y z).1) u.2 u.3 u.4,
      )

  pub on-touched : (cs : List Column) (j : ℕ) → OnPathOf r.m P cs j → is_touched (factor_for r) cs j ≡ true
  on-touched cs j u =
      touched-has r.m (live r) cs j u.1 u.2 u.3
      (path-same r.m P (parent_of (factor_for r)) parents-agree (λ k x y z. (h.parent_in k x y z).1) u.2 u.3 u.4)

-- what a change touches is what lies on its paths
pub reports-exactly : (r : Register) (c : Change) (M N : ℕ → ℕ → ℕ) (P Q : ℕ → ℕ) → IsFactorOf r M P → IsFactorOf (effect r c).register N Q →
    (j : ℕ) → 1 ≤ j → j ≤ r.m →
    Mem j (touched_by r c) ↔ (OnPathOf r.m P (effect r c).leave j ⊎ OnPathOf r.m Q (effect r c).enter j)
reports-exactly r c M N P Q h k j a b = (to, from)
  where
    m-same : (effect r c).register.m ≡ r.m
    m-same = rows_stay r c

    after_same : factor_for (effect r c).register ≡ factor_of r.m (live (effect r c).register)
    after_same = ap (λ (n : ℕ). factor_of n (live (effect r c).register)) m-same

    left : Bool
    left = is_touched (factor_for r) (effect r c).leave j

    right : Bool
    right = is_touched (factor_for (effect r c).register) (effect r c).enter j

    members : (among j (touched_by r c) ≡ true) ↔ ((1 ≤ j) × (j ≤ r.m) × ((left || right) ≡ true))
    members =
        subst (λ (fs : List FactorColumn). (among j (exchanged (factor_for r) fs (effect r c).leave (effect r c).enter) ≡ true) ↔
        ((1 ≤ j) × (j ≤ r.m) × (is_exchanged (factor_for r) fs (effect r c).leave (effect r c).enter j ≡ true)))
        (sym after_same) (exchanged-is r.m (live r) (live (effect r c).register) (effect r c).leave (effect r c).enter j)

    to : Mem j (touched_by r c) → OnPathOf r.m P (effect r c).leave j ⊎ OnPathOf r.m Q (effect r c).enter j
    to n =
        elim (or-either left right (members.0 (mem-among n)).2) [
          | inl t ↦ inl (touched-on r M P h (effect r c).leave j b t)
          | inr t ↦ inr (subst (λ (m : ℕ). OnPathOf m Q (effect r c).enter j) m-same
              (touched-on (effect r c).register N Q k (effect r c).enter j (subst (λ (m : ℕ). j ≤ m) (sym m-same) b) t))
        ]

    from : OnPathOf r.m P (effect r c).leave j ⊎ OnPathOf r.m Q (effect r c).enter j → Mem j (touched_by r c)
    from (inl u) = among-mem j (touched_by r c) (members.1 (a, b, or_left left right (on-touched r M P h (effect r c).leave j u)))
    from (inr u) =
        among-mem j (touched_by r c) (members.1 (
          a,
          b,
          or_right left right
              (on-touched (effect r c).register N Q k (effect r c).enter j (subst (λ (m : ℕ). OnPathOf m Q (effect r c).enter j) (sym m-same) u)),
        ))
