-- Laws of the plan from old to new multiplicities: one entry, whose kind says what it does; from a row on, and whole, it suits the old multiplicities
-- (`plan-suits`) and makes them the new ones (`plan-becomes`); entries of one kind counted.
-- Assumes nothing.
use mathlib.Core.Path.{◌≡◌, refl, sym, ap, subst, ◌∙◌}
use mathlib.Core.Logic.{inl, inr, ◌≢◌}
use mathlib.Core.List.{List, [], ◌∷◌, ◌++◌, append_assoc}
use Prim.Native.Nat.{ℕ, suc, ◌+◌, ◌-◌, ◌≤◌, ◌<◌}
use native.Mathlib.Omega.{arith}
use lib.Dec.{eqb}
use lib.ListN.{length, get_or, length-append}
use lib.Seq.{set_at, get_or_at}
use borrow.Author.Tests.{eq-eqb, ne_eqb}
use Rattle.lists.specs.Lists.{one, at, put}
use Rattle.lists.proofs.Tests.{cases, eq-or-ne, lt-or-le, zero-or-pos}
use Rattle.workspace.specs.Planned.{packed, row_of, multiplicity_of, kind_of, FitsEntry}
use Rattle.workspace.proofs.Planned.{packed-row, packed-multiplicity, packed-kind}
use Rattle.columns.specs.Plan.{KindIs, changed, new, gone, planned, Suits, of_kind}
use Rattle.emission.specs.Plans.{kind_for, plan_from}

-- ---- one entry

pub kind-small : (n n' : ℕ) → kind_for n n' < 4
kind-small n n' =
    elim (cases (eqb n 0)) [
      | inl e ↦ rw e (omega arith)
      | inr e ↦ elim (cases (eqb n' 0)) [ inl d ↦ rw (e, d) (omega arith) | inr d ↦ rw (e, d) (omega arith) ]
    ]

pub entry-fits : (i n n' : ℕ) → 1 ≤ i → i ≤ 4096 → n' < 65536 → FitsEntry i n' (kind_for n n')
entry-fits i n n' a b c = record { row_low = a; row-high = b; multiplicity-fits = omega arith; kind_fits = kind-small n n' }

kind-is : (n n' : ℕ) → n ≢ n' → KindIs n n' (kind_for n n')
kind-is n n' d =
    elim (zero-or-pos n) [
      | inl z ↦ new (rw (eq-eqb n 0 z) refl) z (omega arith)
      | inr p ↦
          elim (zero-or-pos n') [
            | inl z ↦ gone (rw (ne_eqb n 0 (λ e. omega arith), eq-eqb n' 0 z) refl) p z
            | inr q ↦ changed (rw (ne_eqb n 0 (λ e. omega arith), ne_eqb n' 0 (λ e. omega arith)) refl) p q
          ]
    ]

-- ---- the plan from a row on

-- of a list that ends as ns does, with rows below a unchanged
pub suits-from : (xs ns ns' : List ℕ) (a : ℕ) → length ns ≡ length ns' → length xs + length ns ≤ 4096 → ((k : ℕ) → get_or ns' k 0 < 65536) →
    ((k : ℕ) → k < length ns → suc (length xs + k) < a → get_or ns k 0 ≡ get_or ns' k 0) → Suits (xs ++ ns) a (plan_from (suc (length xs)) ns ns')
unfolding plan_from Suits
suits-from xs [] ns' a e l small same = Prim.tt
suits-from xs (n ∷ ns) [] a e l small same = absurd (omega arith)
suits-from xs (n ∷ ns) (n' ∷ ns') a e l small same =
    let t : ℕ = length xs in
    let longer : length (xs ++ (n ∷ [])) ≡ suc t = omega (arith, length-append xs (n ∷ [])) in
    let again : (b : ℕ) → ((k : ℕ) → k < length ns → suc (suc t + k) < b → get_or ns k 0 ≡ get_or ns' k 0) → Suits (xs ++ (n ∷ ns)) b (plan_from (suc (suc t)) ns ns') =
    (λ b f.
    subst (λ (ys : List ℕ). Suits ys b (plan_from (suc (suc t)) ns ns')) (append_assoc xs (n ∷ []) ns)
    (subst (λ (u : ℕ). Suits ((xs ++ (n ∷ [])) ++ ns) b (plan_from (suc u) ns ns')) longer
    (suits-from (xs ++ (n ∷ [])) ns ns' b (omega arith) (omega (arith, longer)) (λ k. small (suc k)) (λ k p q. f k p (omega (arith, longer)))))) in
    elim (eq-or-ne n n') [
      | inl q ↦ rw (eq-eqb n n' q) (again a (λ k p r. same (suc k) (omega arith) (omega arith)))
      | inr q ↦
          let fit : FitsEntry (suc t) n' (kind_for n n') = entry-fits (suc t) n n' (omega arith) (omega arith) (small 0) in
          let row : row_of (packed (suc t) n' (kind_for n n')) ≡ suc t = packed-row fit in
          let here : at (xs ++ (n ∷ ns)) (suc t) ≡ n = get_or_at xs n ns 0 (suc t - 1) (omega arith) in
          let low : a ≤ suc t = below a t n n' q (λ p. same 0 (omega arith) (omega arith)) in
          rw (ne_eqb n n' q) (
            omega (arith, row),
            omega (arith, row, length-append xs (n ∷ ns)),
            omega (arith, packed-multiplicity fit, small 0),
            rw (row, here, packed-multiplicity fit, packed-kind fit) (kind-is n n' q),
            subst (λ (u : ℕ). Suits (xs ++ (n ∷ ns)) (suc u) (plan_from (suc (suc t)) ns ns')) (sym row) (again (suc (suc t)) (λ k p r. absurd (omega arith))),
          )
    ]
  where
    below : (a t n n' : ℕ) → n ≢ n' → (suc t < a → n ≡ n') → a ≤ suc t
    below a t n n' q f = elim (lt-or-le (suc t) a) [ inl p ↦ absurd (q (f p)) | inr p ↦ p ]

pub becomes-from : (xs ns ns' : List ℕ) → length ns ≡ length ns' → length xs + length ns ≤ 4096 → ((k : ℕ) → get_or ns' k 0 < 65536) →
    planned (xs ++ ns) (plan_from (suc (length xs)) ns ns') ≡ xs ++ ns'
unfolding plan_from planned
becomes-from xs [] [] e l small = refl
becomes-from xs [] (n' ∷ ns') e l small = absurd (omega arith)
becomes-from xs (n ∷ ns) [] e l small = absurd (omega arith)
becomes-from xs (n ∷ ns) (n' ∷ ns') e l small =
    let t : ℕ = length xs in
    let longer : length (xs ++ (n' ∷ [])) ≡ suc t = omega (arith, length-append xs (n' ∷ [])) in
    let again : planned (xs ++ (n' ∷ ns)) (plan_from (suc (suc t)) ns ns') ≡ xs ++ (n' ∷ ns') =
    subst (λ (ys : List ℕ). planned ys (plan_from (suc (suc t)) ns ns') ≡ xs ++ (n' ∷ ns')) (append_assoc xs (n' ∷ []) ns)
    (subst (λ (u : ℕ). planned ((xs ++ (n' ∷ [])) ++ ns) (plan_from (suc u) ns ns') ≡ xs ++ (n' ∷ ns')) longer
    (becomes-from (xs ++ (n' ∷ [])) ns ns' (omega arith) (omega (arith, longer)) (λ k. small (suc k)) ∙ append_assoc xs (n' ∷ []) ns')) in
    elim (eq-or-ne n n') [
      | inl q ↦ rw (eq-eqb n n' q) (subst (λ (y : ℕ). planned (xs ++ (y ∷ ns)) (plan_from (suc (suc t)) ns ns') ≡ xs ++ (n' ∷ ns')) (sym q) again)
      | inr q ↦
          let fit : FitsEntry (suc t) n' (kind_for n n') = entry-fits (suc t) n n' (omega arith) (omega arith) (small 0) in
          let e : ℕ = packed (suc t) n' (kind_for n n') in
          let here : put (xs ++ (n ∷ ns)) (row_of e) (multiplicity_of e) ≡ xs ++ (n' ∷ ns) =
          ap (λ (r : ℕ). put (xs ++ (n ∷ ns)) r (multiplicity_of e)) (packed-row fit) ∙ ap (put (xs ++ (n ∷ ns)) (suc t)) (packed-multiplicity fit) ∙
          set_at xs n ns n' (suc t - 1) (omega arith) in
          rw (ne_eqb n n' q) (ap (λ (ys : List ℕ). planned ys (plan_from (suc (suc t)) ns ns')) here ∙ again)
    ]

-- ---- the whole plan

module _ (old new : List ℕ) (same : length old ≡ length new) (short : length old ≤ 4096) (small : (k : ℕ) → get_or new k 0 < 65536) where
  pub plan-suits : (j : ℕ) → ((k : ℕ) → suc k < j → (get_or old k 0 ≡ 0) × (get_or new k 0 ≡ 0)) → Suits old j (plan_from 1 old new)
  plan-suits j below = suits-from [] old new j same (omega arith) small (λ k p q. (below k (omega arith)).0 ∙ sym (below k (omega arith)).1)

  pub plan-becomes : planned old (plan_from 1 old new) ≡ new
  plan-becomes = becomes-from [] old new same (omega arith) small

-- ---- entries of one kind

pub kind-none : (k : ℕ) → of_kind k [] ≡ 0
unfolding of_kind
kind-none k = refl

pub kind-push : (k : ℕ) (es : List ℕ) (e : ℕ) → of_kind k (es ++ (e ∷ [])) ≡ of_kind k es + one (eqb (kind_of e) k)
unfolding of_kind
kind-push k [] e = omega arith
kind-push k (d ∷ es) e = omega (arith, kind-push k es e)
