-- Lists of columns up to order (Bag: every sum is the same) and by ids: what reads columns up to order, ids, what leaves and
-- what stays in a removal (`bag-splits`). Assumes nothing.
use mathlib.Core.Path.{◌≡◌, refl, sym, ◌∙◌, subst}
use mathlib.Core.Logic.{inl, inr}
use mathlib.Core.Bool.{Bool, true, false, ◌&&◌, ◌||◌, not, true≢false}
use mathlib.Core.List.{List, [], ◌∷◌, ◌++◌}
use Prim.Native.Nat.{ℕ, ◌+◌, ◌≤◌}
use native.Mathlib.Omega.{arith}
use lib.Dec.{eqb}
use lib.ListN.{length}
use borrow.Author.Tests.{eqb-true, eq-eqb, ne_eqb, not-true}
use Rattle.lists.specs.Lists.{pick, one, Mem, first, later, all, among, no_repeats, same, times, sum_of}
use Rattle.lists.proofs.Tests.{cases, eq-or-ne, and_both, both-and}
use Rattle.lists.proofs.Member.{all-at, all-make, mem-among, same-eq, same_self}
use Rattle.lists.proofs.Sum.{sum-append, sum-find, sum-has, sum-length, sum-ext, sum-zero, sum-plus}
use Rattle.symbolic.specs.Columns.{Column, smallest, holds, starting_with}
use Rattle.symbolic.specs.Change.{ids_of, without, column_of, columns_of, Bag}
use Rattle.symbolic.proofs.Columns.{starts-sum}

-- ---- the same column, as a test

abbrev pub same_column : (c d : Column) → Bool
same_column c d = (eqb c.id d.id && same c.rows d.rows) && (eqb c.first d.first && eqb c.second d.second)

pub column-eq : (c d : Column) → same_column c d ≡ true → c ≡ d
column-eq c d h =
    let A : Bool = eqb c.id d.id in
    let B : Bool = same c.rows d.rows in
    let C : Bool = eqb c.first d.first in
    let D : Bool = eqb c.second d.second in
    let t : ((A && B) ≡ true) × ((C && D) ≡ true) = and_both (A && B) (C && D) h in
    let a : (A ≡ true) × (B ≡ true) = and_both A B t.0 in
    let b : (C ≡ true) × (D ≡ true) = and_both C D t.1 in
    let p : c.id ≡ d.id = eqb-true c.id d.id a.0 in
    let q : c.rows ≡ d.rows = same-eq c.rows d.rows a.1 in
    let x : c.first ≡ d.first = eqb-true c.first d.first b.0 in
    let y : c.second ≡ d.second = eqb-true c.second d.second b.1 in
    λ i. record { id = p i; rows = q i; first = x i; second = y i }

pub column-self : (c : Column) → same_column c c ≡ true
column-self c =
    both-and (both-and (eq-eqb c.id c.id refl) (same_self c.rows)) (both-and (eq-eqb c.first c.first refl) (eq-eqb c.second c.second refl))

-- ---- what reads columns up to order

pub bag-starts : (cs ds : List Column) → Bag cs ds → (j i : ℕ) → starting_with j i cs ≡ starting_with j i ds
bag-starts cs ds b j i = starts-sum j i cs ∙ b (λ c. one (eqb (smallest c) j && holds c i)) ∙ sym (starts-sum j i ds)

pub bag-length : (cs ds : List Column) → Bag cs ds → length cs ≡ length ds
bag-length cs ds b = sym (sum-length cs) ∙ b (λ c. 1) ∙ sum-length ds

pub bag-append : (cs ds es : List Column) → Bag cs ds → Bag (cs ++ es) (ds ++ es)
bag-append cs ds es b f = omega (arith, sum-append f cs es, sum-append f ds es, b f)

pub bag-mem : (cs ds : List Column) → Bag cs ds → {c : Column} → Mem c ds → Mem c cs
bag-mem cs ds b {c} m =
    let t : (d : Column) × Mem d cs × (same_column d c ≡ true) =
    sum-find (λ d. same_column d c) cs (omega (arith, b (λ d. one (same_column d c)), sum-has (λ d. same_column d c) m (column-self c))) in
    subst (λ (d : Column). Mem d cs) (column-eq t.0 c t.2) t.1

pub bag-all : (f : Column → Bool) (cs ds : List Column) → Bag cs ds → all f cs ≡ true → all f ds ≡ true
bag-all f cs ds b h = all-make f ds (λ c m. all-at f (bag-mem cs ds b m) h)

without-sum : (ids : List ℕ) (cs : List Column) (f : Column → ℕ) → sum_of f (without ids cs) ≡ sum_of (λ c. pick (among c.id ids) 0 (f c)) cs
unfolding sum_of without
without-sum ids [] f = refl
without-sum ids (c ∷ cs) f =
    elim (cases (among c.id ids)) [
      | inl e ↦ rw e (omega (arith, without-sum ids cs f))
      | inr e ↦ rw e (omega (arith, without-sum ids cs f))
    ]

pub bag-without : (ids : List ℕ) (cs ds : List Column) → Bag cs ds → Bag (without ids cs) (without ids ds)
bag-without ids cs ds b f = without-sum ids cs f ∙ b (λ c. pick (among c.id ids) 0 (f c)) ∙ sym (without-sum ids ds f)

pub without-le : (ids : List ℕ) (cs : List Column) (f : Column → ℕ) → sum_of f (without ids cs) ≤ sum_of f cs
unfolding sum_of without
without-le ids [] f = omega arith
without-le ids (c ∷ cs) f =
    elim (cases (among c.id ids)) [
      | inl e ↦ rw e (omega (arith, without-le ids cs f))
      | inr e ↦ rw e (omega (arith, without-le ids cs f))
    ]

-- ---- ids

abbrev pub has_id : (i : ℕ) → Column → Bool
has_id i c = eqb i c.id

pub ids-times : (i : ℕ) (cs : List Column) → times i (ids_of cs) ≡ sum_of (λ c. one (has_id i c)) cs
unfolding times ids_of sum_of
ids-times i [] = refl
ids-times i (c ∷ cs) = omega (arith, ids-times i cs)

pub bag-ids : (cs ds : List Column) → Bag cs ds → (i : ℕ) → times i (ids_of cs) ≡ times i (ids_of ds)
bag-ids cs ds b i = ids-times i cs ∙ b (λ c. one (has_id i c)) ∙ sym (ids-times i ds)

pub id-mem : {c : Column} {cs : List Column} → Mem c cs → Mem c.id (ids_of cs)
unfolding ids_of
id-mem first = first
id-mem (later m) = later (id-mem m)

-- ---- the columns of some ids

pub column-of : (cs : List Column) {c : Column} → no_repeats (ids_of cs) ≡ true → Mem c cs → column_of c.id cs ≡ c
unfolding no_repeats ids_of column_of
column-of [] {c = c} h x'' = elim x'' [ ]
column-of (d ∷ cs) {c} h first = rw (eq-eqb c.id c.id refl)
column-of (d ∷ cs) {c} h (later m) =
    let t : (not (among d.id (ids_of cs)) ≡ true) × (no_repeats (ids_of cs) ≡ true) =
    and_both (not (among d.id (ids_of cs))) (no_repeats (ids_of cs)) h in
    elim (eq-or-ne d.id c.id) [
      | inl q ↦ absurd (true≢false (sym (mem-among (rw q (id-mem m))) ∙ not-true (among d.id (ids_of cs)) t.0))
      | inr q ↦ rw (ne_eqb d.id c.id q) (column-of cs t.1 m)
    ]

-- the column of an id that one column has
id-sum : (i : ℕ) (cs : List Column) → no_repeats (ids_of cs) ≡ true → among i (ids_of cs) ≡ true → (f : Column → ℕ) →
    sum_of (λ c. pick (eqb c.id i) (f c) 0) cs ≡ f (column_of i cs)
unfolding no_repeats ids_of column_of among sum_of
id-sum i [] u h f = absurd (true≢false (sym h))
id-sum i (c ∷ cs) u h f =
    let t : (not (among c.id (ids_of cs)) ≡ true) × (no_repeats (ids_of cs) ≡ true) =
    and_both (not (among c.id (ids_of cs))) (no_repeats (ids_of cs)) u in
    elim (eq-or-ne c.id i) [
      | inl q ↦
          let none : among i (ids_of cs) ≡ false = subst (λ (x : ℕ). among x (ids_of cs) ≡ false) q (not-true (among c.id (ids_of cs)) t.0) in
          rw (eq-eqb c.id i q) (omega (arith, nothing i cs f none))
      | inr q ↦ rw (ne_eqb c.id i q) (omega (arith, id-sum i cs t.1 (rw (ne_eqb i c.id (λ e. q (sym e))) at h) f))
    ]
  where
    nothing : (i : ℕ) (cs : List Column) (f : Column → ℕ) → among i (ids_of cs) ≡ false → sum_of (λ c. pick (eqb c.id i) (f c) 0) cs ≡ 0
    nothing i [] f h = refl
    nothing i (c ∷ cs) f h =
        elim (eq-or-ne c.id i) [
          | inl q ↦ absurd (true≢false (sym (rw (eq-eqb i c.id (sym q))) ∙ h))
          | inr q ↦ rw (ne_eqb c.id i q) (omega (arith, nothing i cs f (rw (ne_eqb i c.id (λ e. q (sym e))) at h)))
        ]

columns-sum : (cs : List Column) → no_repeats (ids_of cs) ≡ true → (ids : List ℕ) → no_repeats ids ≡ true →
    all (λ (i : ℕ). among i (ids_of cs)) ids ≡ true → (f : Column → ℕ) →
    sum_of f (columns_of ids cs) ≡ sum_of (λ c. pick (among c.id ids) (f c) 0) cs
unfolding no_repeats columns_of all among sum_of
columns-sum cs u [] n l f = sym (sum-zero (λ c. pick (among c.id []) (f c) 0) cs (λ c m. refl))
columns-sum cs u (i ∷ is) n l f =
    let t : (not (among i is) ≡ true) × (no_repeats is ≡ true) = and_both (not (among i is)) (no_repeats is) n in
    let v : (among i (ids_of cs) ≡ true) × (all (λ (k : ℕ). among k (ids_of cs)) is ≡ true) =
    and_both (among i (ids_of cs)) (all (λ (k : ℕ). among k (ids_of cs)) is) l in
    omega (
      arith,
      id-sum i cs u v.0 f,
      columns-sum cs u is t.1 v.1 f,
      sum-plus (λ c. pick (eqb c.id i) (f c) 0) (λ c. pick (among c.id is) (f c) 0) cs,
      sum-ext (λ c. pick (eqb c.id i) (f c) 0 + pick (among c.id is) (f c) 0) (λ c. pick (eqb c.id i || among c.id is) (f c) 0) cs
          (λ c m. either c.id i is (f c) (not-true (among i is) t.0)),
    )
  where
    -- an id that stands at the front does not stand behind
    either : (x i : ℕ) (is : List ℕ) (n : ℕ) → among i is ≡ false → pick (eqb x i) n 0 + pick (among x is) n 0 ≡ pick (eqb x i || among x is) n 0
    either x i is n h =
        elim (eq-or-ne x i) [
          | inl q ↦ rw (eq-eqb x i q, subst (λ (y : ℕ). among y is ≡ false) (sym q) h) (omega arith)
          | inr q ↦ rw (ne_eqb x i q) (omega arith)
        ]

-- what stays and what leaves are, together, what there was
pub bag-splits : (cs : List Column) (ids : List ℕ) → no_repeats (ids_of cs) ≡ true → no_repeats ids ≡ true →
    all (λ (i : ℕ). among i (ids_of cs)) ids ≡ true → Bag cs (without ids cs ++ columns_of ids cs)
bag-splits cs ids u n l f =
    omega (
      arith,
      sum-append f (without ids cs) (columns_of ids cs),
      without-sum ids cs f,
      columns-sum cs u ids n l f,
      sum-plus (λ c. pick (among c.id ids) 0 (f c)) (λ c. pick (among c.id ids) (f c) 0) cs,
      sum-ext f (λ c. pick (among c.id ids) 0 (f c) + pick (among c.id ids) (f c) 0) cs (λ c m. halves (among c.id ids) (f c)),
    )
  where
    halves : (b : Bool) (n : ℕ) → n ≡ pick b 0 n + pick b n 0
    halves true n = omega arith
    halves false n = omega arith
