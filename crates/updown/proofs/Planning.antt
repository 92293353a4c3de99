-- Laws of the plan that takes one column from old to new: the rows of a kind are those that it is for, all rows rise, and how many entries there are of a
-- kind, against the sizes before and after. Assumes nothing.
use mathlib.Core.Path.{◌≡◌, refl, sym, ap, ◌∙◌, subst}
use mathlib.Core.Logic.{inl, inr, ◌≢◌}
use mathlib.Core.Bool.{Bool, true, false, ◌&&◌, not}
use mathlib.Core.List.{List, [], ◌∷◌}
use Prim.Native.Nat.{ℕ, suc, ◌+◌, ◌-◌, ◌≤◌, ◌<◌}
use native.Mathlib.Omega.{arith}
use lib.Dec.{eqb}
use lib.ListN.{length, get_or}
use borrow.Author.Tests.{eqb-true, eqb-false, eq-eqb, ne_eqb, le-leb}
use Rattle.lists.specs.Lists.{among, rises}
use Rattle.lists.proofs.Tests.{cases, eq-or-ne, zero-or-pos, both-and, and-false}
use Rattle.lists.proofs.Rising.{rises-weaken}
use Rattle.symbolic.specs.Factor.{pattern_from}
use Rattle.workspace.specs.Planned.{packed, kind_of}
use Rattle.workspace.proofs.Planned.{packed-row, packed-kind}
use Rattle.columns.specs.Plan.{of_kind}
use Rattle.differences.specs.Gather.{rows_in, rows_of_kind}
use Rattle.emission.specs.Plans.{kind_for, plan_from}
use Rattle.emission.proofs.Plans.{entry-fits}

-- multiplicities that an entry can hold
abbrev pub Small : List ℕ → Type 0
Small ns = (k : ℕ) → get_or ns k 0 < 65536

-- ---- the rows of a kind

-- the entry for one row changes what and whether
abbrev pub is_kind : (kind old new : ℕ) → Bool
is_kind k o n = not (eqb o n) && eqb (kind_for o n) k

of-kind-low : (k i : ℕ) (old new : List ℕ) → 1 ≤ i → i + length old ≤ 4097 → Small new → (x : ℕ) → x < i → among x (rows_of_kind k (plan_from i old new)) ≡ false
unfolding among rows_of_kind plan_from
of-kind-low k i [] new a b h x l = refl
of-kind-low k i (n ∷ ns) [] a b h x l = refl
of-kind-low k i (n ∷ ns) (n' ∷ ns') a b h x l =
    let ih : among x (rows_of_kind k (plan_from (suc i) ns ns')) ≡ false = of-kind-low k (suc i) ns ns' (omega arith) (omega arith) (λ k. h (suc k)) x (omega arith) in
    elim (cases (eqb n n')) [
      | inl e ↦ rw e ih
      | inr e ↦ elim (cases (eqb (kind_of (packed i n' (kind_for n n'))) k)) [
        | inr g ↦ rw (e, g) ih
        | inl g ↦ rw (e, g, packed-row (entry-fits i n n' a (omega arith) (h 0)), ne_eqb x i (omega arith)) ih
      ]
    ]

pub of-kind : (k i : ℕ) (old new : List ℕ) → 1 ≤ i → i + length old ≤ 4097 → length old ≡ length new → Small new → (x : ℕ) → i ≤ x →
    among x (rows_of_kind k (plan_from i old new)) ≡ is_kind k (get_or old (x - i) 0) (get_or new (x - i) 0)
unfolding among rows_of_kind plan_from
of-kind k i [] [] a b e h x l = refl
of-kind k i [] (n' ∷ ns') a b e h x l = absurd (omega arith)
of-kind k i (n ∷ ns) [] a b e h x l = absurd (omega arith)
of-kind k i (n ∷ ns) (n' ∷ ns') a b e h x l =
    elim (eq-or-ne x i) [
      | inl q ↦
          let z : x - i ≡ 0 = omega arith in
          let no : among x (rows_of_kind k (plan_from (suc i) ns ns')) ≡ false =
          of-kind-low k (suc i) ns ns' (omega arith) (omega arith) (λ k. h (suc k)) x (omega arith) in
          subst (λ (t : ℕ). among x (rows_of_kind k (plan_from i (n ∷ ns) (n' ∷ ns'))) ≡ is_kind k (get_or (n ∷ ns) t 0) (get_or (n' ∷ ns') t 0)) (sym z)
          (elim (cases (eqb n n')) [
            | inl g ↦ rw (g) no
            | inr g ↦
                let u : kind_of (packed i n' (kind_for n n')) ≡ kind_for n n' = packed-kind (entry-fits i n n' a (omega arith) (h 0)) in
                elim (cases (eqb (kind_for n n') k)) [
                  | inl d ↦ rw (g, ap (λ (t : ℕ). eqb t k) u ∙ d, packed-row (entry-fits i n n' a (omega arith) (h 0)), eq-eqb x i q, d) refl
                  | inr d ↦ rw (g, ap (λ (t : ℕ). eqb t k) u ∙ d, d) no
                ]
          ])
      | inr q ↦
          let z : suc (x - suc i) ≡ x - i = omega arith in
          let ih : among x (rows_of_kind k (plan_from (suc i) ns ns')) ≡ is_kind k (get_or ns (x - suc i) 0) (get_or ns' (x - suc i) 0) =
          of-kind k (suc i) ns ns' (omega arith) (omega arith) (omega arith) (λ k. h (suc k)) x (omega arith) in
          let step : among x (rows_of_kind k (plan_from i (n ∷ ns) (n' ∷ ns'))) ≡ among x (rows_of_kind k (plan_from (suc i) ns ns')) =
          elim (cases (eqb n n')) [
            | inl g ↦ rw g refl
            | inr g ↦ elim (cases (eqb (kind_of (packed i n' (kind_for n n'))) k)) [
              | inr d ↦ rw (g, d) refl
              | inl d ↦ rw (g, d, packed-row (entry-fits i n n' a (omega arith) (h 0)), ne_eqb x i q) refl
            ]
          ] in
          step ∙ ih ∙ ap (λ (t : ℕ). is_kind k (get_or (n ∷ ns) t 0) (get_or (n' ∷ ns') t 0)) z
    ]

-- a new row was not there and is, a gone one was and is not
pub kind-new : (o n : ℕ) → is_kind 1 o n ≡ (eqb o 0 && not (eqb n 0))
kind-new o n =
    elim (zero-or-pos o) [
      | inl z ↦ elim (zero-or-pos n) [
        | inl y ↦ rw (z, y) refl
        | inr y ↦ rw (z, ne_eqb n 0 (omega arith), ne_eqb 0 n (omega arith)) refl
      ]
      | inr z ↦ rw (ne_eqb o 0 (omega arith)) (elim (cases (eqb n 0)) [ inl e ↦ rw e (and-false (not (eqb o n))) | inr e ↦ rw e (and-false (not (eqb o n))) ])
    ]

pub kind-gone : (o n : ℕ) → is_kind 2 o n ≡ (not (eqb o 0) && eqb n 0)
kind-gone o n =
    elim (zero-or-pos o) [
      | inl z ↦ rw (z) (and-false (not (eqb 0 n)))
      | inr z ↦ elim (zero-or-pos n) [
        | inl y ↦ rw (y, ne_eqb o 0 (omega arith)) refl
        | inr y ↦ rw (ne_eqb o 0 (omega arith), ne_eqb n 0 (omega arith)) (and-false (not (eqb o n)))
      ]
    ]

-- no row is new where all were there, none is gone where all stay
pub none-new : (o n : ℕ) → (0 < n → 0 < o) → is_kind 1 o n ≡ false
none-new o n h = kind-new o n ∙ elim (zero-or-pos n) [ inl z ↦ rw z (and-false (eqb o 0)) | inr z ↦ rw (ne_eqb o 0 (omega (arith, h z))) refl ]

pub none-gone : (o n : ℕ) → (0 < o → 0 < n) → is_kind 2 o n ≡ false
none-gone o n h = kind-gone o n ∙ elim (zero-or-pos o) [ inl z ↦ rw z refl | inr z ↦ rw (ne_eqb n 0 (omega (arith, h z))) (and-false (not (eqb o 0))) ]

-- ---- all rows rise

pub rows-rise : (i : ℕ) (old new : List ℕ) (b : ℕ) → 1 ≤ i → i + length old ≤ suc b → b ≤ 4096 → Small new → rises i b (rows_in (plan_from i old new)) ≡ true
unfolding rises rows_in plan_from
rows-rise i [] new b a l m h = refl
rows-rise i (n ∷ ns) [] b a l m h = refl
rows-rise i (n ∷ ns) (n' ∷ ns') b a l m h =
    let ih : rises (suc i) b (rows_in (plan_from (suc i) ns ns')) ≡ true = rows-rise (suc i) ns ns' b (omega arith) (omega arith) m (λ k. h (suc k)) in
    elim (cases (eqb n n')) [
      | inl e ↦ rw e (rises-weaken (suc i) b i (rows_in (plan_from (suc i) ns ns')) (omega arith) ih)
      | inr e ↦
          rw (e, packed-row (entry-fits i n n' a (omega arith) (h 0)))
          (both-and (both-and (le-leb i i (omega arith)) (le-leb i b (omega arith))) ih)
    ]

-- ---- how many

-- a kind that no row is of has no entry
pub none-of-kind : (k i : ℕ) (old new : List ℕ) → 1 ≤ i → i + length old ≤ 4097 → Small new → ((p : ℕ) → is_kind k (get_or old p 0) (get_or new p 0) ≡ false) → of_kind k (plan_from i old new) ≡ 0
unfolding of_kind plan_from
none-of-kind k i [] new a b h g = refl
none-of-kind k i (n ∷ ns) [] a b h g = refl
none-of-kind k i (n ∷ ns) (n' ∷ ns') a b h g =
    let ih : of_kind k (plan_from (suc i) ns ns') ≡ 0 = none-of-kind k (suc i) ns ns' (omega arith) (omega arith) (λ p. h (suc p)) (λ p. g (suc p)) in
    let here : is_kind k n n' ≡ false = g 0 in
    elim (cases (eqb n n')) [
      | inl e ↦ rw e ih
      | inr e ↦
          let d : eqb (kind_for n n') k ≡ false = rw e at here in
          rw (e, packed-kind (entry-fits i n n' a (omega arith) (h 0)), d) (omega arith)
    ]

-- an entry that is not new is of a row that was there
pub plan-length : (i : ℕ) (old new : List ℕ) → 1 ≤ i → i + length old ≤ 4097 → Small new →
    length (plan_from i old new) ≤ length (pattern_from i old) + of_kind 1 (plan_from i old new)
unfolding plan_from pattern_from of_kind
plan-length i [] new a b h = omega arith
plan-length i (n ∷ ns) [] a b h = omega arith
plan-length i (n ∷ ns) (n' ∷ ns') a b h =
    let ih : length (plan_from (suc i) ns ns') ≤ length (pattern_from (suc i) ns) + of_kind 1 (plan_from (suc i) ns ns') =
    plan-length (suc i) ns ns' (omega arith) (omega arith) (λ k. h (suc k)) in
    let u : kind_of (packed i n' (kind_for n n')) ≡ kind_for n n' = packed-kind (entry-fits i n n' a (omega arith) (h 0)) in
    elim (cases (eqb n n')) [
      | inl e ↦ elim (cases (eqb n 0)) [ inl z ↦ rw (e, z) ih | inr z ↦ rw (e, z) (omega arith) ]
      | inr e ↦ elim (cases (eqb n 0)) [
        | inl z ↦ rw (e, u, z) (omega arith)
        | inr z ↦ rw (e, u, z) (omega arith)
      ]
    ]

pub plan-sizes : (i : ℕ) (old new : List ℕ) → 1 ≤ i → i + length old ≤ 4097 → length old ≡ length new → Small new →
    length (pattern_from i new) + of_kind 2 (plan_from i old new) ≡ length (pattern_from i old) + of_kind 1 (plan_from i old new)
unfolding plan_from pattern_from of_kind
plan-sizes i [] [] a b e h = refl
plan-sizes i [] (n' ∷ ns') a b e h = absurd (omega arith)
plan-sizes i (n ∷ ns) [] a b e h = absurd (omega arith)
plan-sizes i (n ∷ ns) (n' ∷ ns') a b e h =
    let ih : length (pattern_from (suc i) ns') + of_kind 2 (plan_from (suc i) ns ns') ≡ length (pattern_from (suc i) ns) + of_kind 1 (plan_from (suc i) ns ns') =
    plan-sizes (suc i) ns ns' (omega arith) (omega arith) (omega arith) (λ k. h (suc k)) in
    let u : kind_of (packed i n' (kind_for n n')) ≡ kind_for n n' = packed-kind (entry-fits i n n' a (omega arith) (h 0)) in
    elim (cases (eqb n n')) [
      | inl g ↦
          let q : n ≡ n' = eqb-true n n' g in
          elim (cases (eqb n 0)) [
            | inl z ↦ rw (g, z, sym (ap (λ (t : ℕ). eqb t 0) q) ∙ z) ih
            | inr z ↦ rw (g, z, sym (ap (λ (t : ℕ). eqb t 0) q) ∙ z) (omega arith)
          ]
      | inr g ↦ elim (cases (eqb n 0)) [
        | inl z ↦
            let d : n ≢ n' = eqb-false n n' g in
            let y : eqb n' 0 ≡ false = ne_eqb n' 0 (λ r. d (eqb-true n 0 z ∙ sym r)) in
            rw (g, u, z, y) (omega arith)
        | inr z ↦ elim (cases (eqb n' 0)) [
          | inl y ↦ rw (g, u, z, y) (omega arith)
          | inr y ↦ rw (g, u, z, y) (omega arith)
        ]
      ]
    ]
