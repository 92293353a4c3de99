-- A batch that goes group by group. Two groups first: in the tree of all columns W, in the tree without W the group U touch just what both touch at once
-- (`touched-splits`). So groups that enter, or leave, one after another touch what the whole batch touches (`entering-splits`, `leaving-splits`), and all sizes fit
-- before them and after each group exactly if they do at the end (`fitting-along`). Assumes nothing.
use mathlib.Core.Path.{◌≡◌, refl, sym, ap, ◌∙◌, subst}
use mathlib.Core.Logic.{◌⊎◌, inl, inr, ◌↔◌}
use mathlib.Core.Bool.{Bool, true, ◌&&◌, ◌||◌}
use mathlib.Core.List.{List, [], ◌∷◌, ◌++◌, append_assoc, append-nil}
use Prim.Native.Nat.{ℕ, ◌≤◌}
use native.Mathlib.Omega.{arith}
use lib.Dec.{leb}
use borrow.Author.Tests.{leb-true, le-leb}
use Rattle.lists.specs.Lists.{Mem, any}
use Rattle.lists.proofs.Tests.{cases, both_ways, or-either, or_left, or_right, and_both, both-and, or_swap}
use Rattle.lists.proofs.Member.{mem-left, mem-right, mem-either, any-find, any-has}
use Rattle.lists.proofs.Sum.{sum-append}
use Rattle.symbolic.specs.Columns.{Column}
use Rattle.symbolic.specs.Factor.{FactorColumn, factor_of, parent_of, size_sum}
use Rattle.symbolic.specs.Definition.{OnPath, here, up}
use Rattle.symbolic.specs.Batch.{passes, is_touched}
use Rattle.symbolic.specs.Groups.{joined, enter_touches, leave_touches, fits_each}
use Rattle.symbolic.proofs.Laws.{path-joins}
use Rattle.symbolic.proofs.Two.{parent-on-path}
use Rattle.symbolic.proofs.Build.{laws}
use Rattle.symbolic.proofs.Columns.{starts_more}
use Rattle.symbolic.proofs.Touched.{touched-by, touched-has, touched-path}
use Rattle.symbolic.proofs.Locality.{untouched-same}
use Rattle.symbolic.proofs.Order.{factor-bag}
use Rattle.symbolic.proofs.Sizes.{sizes-grow-sum}

-- ---- two groups

module _ (m : ℕ) (A W : List Column) where
  -- a path without W is on the path with W
  pub path-grows : {s k : ℕ} → 1 ≤ s → s ≤ m → OnPath (parent_of (factor_of m A)) s k → OnPath (parent_of (factor_of m (A ++ W))) s k
  path-grows a b here = here
  path-grows a b (up {j = s} p u) =
      let v = (laws m A).parent_in s a b p in
      path-joins (parent-on-path (laws m A) (laws m (A ++ W)) (starts_more A W) s a b p) (path-grows (omega arith) v.1 u)

  -- a path with W comes by a column that W touches, or is one without W
  pub path-splits : {s k : ℕ} → 1 ≤ s → s ≤ m → OnPath (parent_of (factor_of m (A ++ W))) s k →
      (is_touched (factor_of m (A ++ W)) W k ≡ true) ⊎ OnPath (parent_of (factor_of m A)) s k
  path-splits a b here = inr here
  path-splits {k = k} a b (up {j = s} p u) =
      let v = (laws m (A ++ W)).parent_in s a b p in
      elim (cases (is_touched (factor_of m (A ++ W)) W s)) [
        | inl t ↦ inl (touched-path m (A ++ W) W a b (up p u) t)
        | inr f ↦
            let e : parent_of (factor_of m A) s ≡ parent_of (factor_of m (A ++ W)) s = (untouched-same m A W s a b f).1 in
            elim (path-splits (omega arith) v.1 u) [
              | inl t ↦ inl t
              | inr w ↦ inr (up {j = s} (omega (arith, e)) (subst (λ (x : ℕ). OnPath (parent_of (factor_of m A)) x k) (sym e) w))
            ]
      ]

-- of 1 to m, the columns that U and W together touch are those that W touches beside R and U, and those that U touches beside R
pub touched-splits : (m : ℕ) (R U W : List Column) (j : ℕ) → 1 ≤ j → j ≤ m →
    (is_touched (factor_of m ((R ++ U) ++ W)) (U ++ W) j ≡ true) ↔
    ((is_touched (factor_of m ((R ++ U) ++ W)) W j ≡ true) ⊎ (is_touched (factor_of m (R ++ U)) U j ≡ true))
touched-splits m R U W j a b = (forth, back)
  where
    forth : is_touched (factor_of m ((R ++ U) ++ W)) (U ++ W) j ≡ true →
        (is_touched (factor_of m ((R ++ U) ++ W)) W j ≡ true) ⊎ (is_touched (factor_of m (R ++ U)) U j ≡ true)
    forth h =
        let t = touched-by m ((R ++ U) ++ W) (U ++ W) j b h in
        elim (mem-either U t.1) [
          | inr n ↦ inl (touched-has m ((R ++ U) ++ W) W j n t.2 t.3 t.4)
          | inl n ↦ elim (path-splits m (R ++ U) W t.2 t.3 t.4) [
            | inl w ↦ inl w
            | inr u ↦ inr (touched-has m (R ++ U) U j n t.2 t.3 u)
          ]
        ]

    back : (is_touched (factor_of m ((R ++ U) ++ W)) W j ≡ true) ⊎ (is_touched (factor_of m (R ++ U)) U j ≡ true) →
        is_touched (factor_of m ((R ++ U) ++ W)) (U ++ W) j ≡ true
    back (inl h) =
        let t = touched-by m ((R ++ U) ++ W) W j b h in
        touched-has m ((R ++ U) ++ W) (U ++ W) j (mem-right U t.1) t.2 t.3 t.4
    back (inr h) =
        let t = touched-by m (R ++ U) U j b h in
        touched-has m ((R ++ U) ++ W) (U ++ W) j (mem-left W t.1) t.2 t.3 (path-grows m (R ++ U) W t.2 t.3 t.4)

-- the same, as tests
split-test : (m : ℕ) (R U W : List Column) (j : ℕ) → 1 ≤ j → j ≤ m →
    (is_touched (factor_of m ((R ++ U) ++ W)) W j || is_touched (factor_of m (R ++ U)) U j) ≡ is_touched (factor_of m ((R ++ U) ++ W)) (U ++ W) j
split-test m R U W j a b =
    let x : Bool = is_touched (factor_of m ((R ++ U) ++ W)) W j in
    let y : Bool = is_touched (factor_of m (R ++ U)) U j in
    let t = touched-splits m R U W j a b in
    both_ways (x || y) (is_touched (factor_of m ((R ++ U) ++ W)) (U ++ W) j) (λ h. t.1 (or-either x y h))
    (λ h. elim (t.0 h) [ inl p ↦ or_left x y p | inr q ↦ or_right x y q ])

-- ---- groups that enter

pub entering-splits : (m : ℕ) (R : List Column) (groups : List (List Column)) (j : ℕ) → 1 ≤ j → j ≤ m →
    enter_touches m R groups j ≡ is_touched (factor_of m (R ++ joined groups)) (joined groups) j
unfolding joined enter_touches any
entering-splits m R [] j a b = refl
entering-splits m R (W ∷ Ws) j a b =
    let J : List Column = joined Ws in
    ap (λ (z : Bool). is_touched (factor_of m (R ++ W)) W j || z) (entering-splits m (R ++ W) Ws j a b) ∙
    or_swap (is_touched (factor_of m (R ++ W)) W j) (is_touched (factor_of m ((R ++ W) ++ J)) J j) ∙ split-test m R W J j a b ∙
    ap (λ (cs : List Column). is_touched (factor_of m cs) (W ++ J) j) (append_assoc R W J)

-- ---- groups that leave

-- the order of two groups does not matter: for the factor, and for what they touch
swap-factor : (m : ℕ) (R U W : List Column) → factor_of m ((R ++ U) ++ W) ≡ factor_of m (R ++ (W ++ U))
swap-factor m R U W =
    factor-bag m ((R ++ U) ++ W) (R ++ (W ++ U))
    (λ f. omega (arith, sum-append f (R ++ U) W, sum-append f R U, sum-append f R (W ++ U), sum-append f W U))

swap-touched : (fs : List FactorColumn) (U W : List Column) (j : ℕ) → is_touched fs (U ++ W) j ≡ is_touched fs (W ++ U) j
swap-touched fs U W j = both_ways (is_touched fs (U ++ W) j) (is_touched fs (W ++ U) j) (turned U W) (turned W U)
  where
    turned : (xs ys : List Column) → is_touched fs (xs ++ ys) j ≡ true → is_touched fs (ys ++ xs) j ≡ true
    turned xs ys h =
        let t : (c : Column) × Mem c (xs ++ ys) × (passes fs j c ≡ true) = any-find (passes fs j) (xs ++ ys) h in
        let n : Mem t.0 (ys ++ xs) = elim (mem-either xs t.1) [ inl p ↦ mem-right ys p | inr p ↦ mem-left xs p ] in
        any-has (passes fs j) n t.2

pub leaving-splits : (m : ℕ) (R : List Column) (groups : List (List Column)) (j : ℕ) → 1 ≤ j → j ≤ m →
    leave_touches m R groups j ≡ is_touched (factor_of m (R ++ joined groups)) (joined groups) j
unfolding joined leave_touches any
leaving-splits m R [] j a b = refl
leaving-splits m R (W ∷ Ws) j a b =
    let J : List Column = joined Ws in
    let e : factor_of m ((R ++ J) ++ W) ≡ factor_of m (R ++ (W ++ J)) = swap-factor m R J W in
    ap (λ (z : Bool). is_touched (factor_of m (R ++ (W ++ J))) W j || z) (leaving-splits m R Ws j a b) ∙
    ap (λ (fs : List FactorColumn). is_touched fs W j || is_touched (factor_of m (R ++ J)) J j) (sym e) ∙ split-test m R J W j a b ∙
    ap (λ (fs : List FactorColumn). is_touched fs (J ++ W) j) e ∙ swap-touched (factor_of m (R ++ (W ++ J))) J W j

-- ---- sizes

-- a smaller sum fits where a larger one does
fits-first : (x y f : ℕ) → x ≤ y → (leb x f && leb y f) ≡ leb y f
fits-first x y f h =
    both_ways (leb x f && leb y f) (leb y f) (λ p. (and_both (leb x f) (leb y f) p).1)
    (λ p. let q : y ≤ f = leb-true y f p in both-and (le-leb x f (omega arith)) p)

pub fitting-along : (m f : ℕ) (R : List Column) (groups : List (List Column)) → fits_each m f R groups ≡ leb (size_sum (factor_of m (R ++ joined groups))) f
unfolding joined fits_each
fitting-along m f R [] = ap (λ (cs : List Column). leb (size_sum (factor_of m cs)) f) (sym (append-nil R))
fitting-along m f R (W ∷ Ws) =
    let J : List Column = joined Ws in
    ap (λ (z : Bool). leb (size_sum (factor_of m R)) f && z)
    (fitting-along m f (R ++ W) Ws ∙ ap (λ (cs : List Column). leb (size_sum (factor_of m cs)) f) (append_assoc R W J)) ∙
    fits-first (size_sum (factor_of m R)) (size_sum (factor_of m (R ++ (W ++ J)))) f (sizes-grow-sum m R (W ++ J))
