-- Limits and grades: what limits that keep the rule are (`limits-facts`), where each grade begins (`grade-begins`), and the grades by the old limits
-- (`old-grade`). Assumes nothing.
use mathlib.Core.Path.{◌≡◌, refl}
use mathlib.Core.Logic.{inl, inr, ◌↔◌}
use mathlib.Core.Bool.{true, ◌&&◌}
use Prim.Native.Nat.{ℕ, ◌≤◌, ◌<◌}
use native.Mathlib.Omega.{arith}
use lib.Dec.{ltb, leb, eqb}
use borrow.Author.Tests.{ltb-true, leb-true, lt-ltb, le-ltb, le-leb, lt-leb, eq-eqb, ne_eqb}
use Rattle.lists.specs.Lists.{pick}
use Rattle.lists.proofs.Tests.{and_both, eq-or-ne, lt-or-le}
use Rattle.symbolic.specs.Grades.{Limits, are_limits, old_limits, grade_of}

-- "The first must be at least 2 and each must exceed the one before"
pub limits-facts : (g : Limits) → are_limits g ≡ true → (2 ≤ g.grade2) × (g.grade2 < g.grade3) × (g.grade3 < g.grade4)
limits-facts g h =
    let p : ((leb 2 g.grade2 && ltb g.grade2 g.grade3) ≡ true) × (ltb g.grade3 g.grade4 ≡ true) =
    and_both (leb 2 g.grade2 && ltb g.grade2 g.grade3) (ltb g.grade3 g.grade4) h in
    let q : (leb 2 g.grade2 ≡ true) × (ltb g.grade2 g.grade3 ≡ true) = and_both (leb 2 g.grade2) (ltb g.grade2 g.grade3) p.0 in
    (leb-true 2 g.grade2 q.0, ltb-true g.grade2 g.grade3 q.1, ltb-true g.grade3 g.grade4 p.1)

pub grade-begins : (g : Limits) (n : ℕ) → are_limits g ≡ true →
    ((1 ≤ grade_of g n) ↔ (1 ≤ n)) × ((2 ≤ grade_of g n) ↔ (g.grade2 ≤ n)) × ((3 ≤ grade_of g n) ↔ (g.grade3 ≤ n)) × ((4 ≤ grade_of g n) ↔ (g.grade4 ≤ n)) ×
    (grade_of g n ≤ 4)
grade-begins g n h =
    let a : ℕ = g.grade2 in
    let b : ℕ = g.grade3 in
    let c : ℕ = g.grade4 in
    let f : (2 ≤ a) × (a < b) × (b < c) = limits-facts g h in
    elim (eq-or-ne n 0) [
      | inl z ↦ rw (eq-eqb n 0 z) ((λ q. omega arith, λ q. omega arith), (λ q. omega arith, λ q. omega arith), (λ q. omega arith, λ q. omega arith), (λ q. omega arith, λ q. omega arith), omega arith)
      | inr z ↦ rw (ne_eqb n 0 z) (elim (lt-or-le n a) [
        | inl x ↦ rw (lt-leb a n x, lt-leb b n (omega arith), lt-leb c n (omega arith)) ((λ q. omega arith, λ q. omega arith), (λ q. omega arith, λ q. omega arith), (λ q. omega arith, λ q. omega arith), (λ q. omega arith, λ q. omega arith), omega arith)
        | inr x ↦ rw (le-leb a n x) (elim (lt-or-le n b) [
          | inl y ↦ rw (lt-leb b n y, lt-leb c n (omega arith)) ((λ q. omega arith, λ q. omega arith), (λ q. omega arith, λ q. omega arith), (λ q. omega arith, λ q. omega arith), (λ q. omega arith, λ q. omega arith), omega arith)
          | inr y ↦ rw (le-leb b n y) (elim (lt-or-le n c) [
            | inl w ↦ rw (lt-leb c n w) ((λ q. omega arith, λ q. omega arith), (λ q. omega arith, λ q. omega arith), (λ q. omega arith, λ q. omega arith), (λ q. omega arith, λ q. omega arith), omega arith)
            | inr w ↦ rw (le-leb c n w) ((λ q. omega arith, λ q. omega arith), (λ q. omega arith, λ q. omega arith), (λ q. omega arith, λ q. omega arith), (λ q. omega arith, λ q. omega arith), omega arith)
          ])
        ])
      ])
    ]

pub old-grade : (n : ℕ) → grade_of old_limits n ≡ pick (eqb n 0) 0 (pick (ltb n 256) 1 (pick (ltb n 4096) 2 (pick (ltb n 65536) 3 4)))
old-grade n =
    let a : ℕ = old_limits.grade2 in
    let b : ℕ = old_limits.grade3 in
    let c : ℕ = old_limits.grade4 in
    elim (eq-or-ne n 0) [
      | inl z ↦ rw (eq-eqb n 0 z) refl
      | inr z ↦ rw (ne_eqb n 0 z) (elim (lt-or-le n 256) [
        | inl x ↦ rw (lt-ltb n 256 x, lt-leb a n (omega arith), lt-leb b n (omega arith), lt-leb c n (omega arith)) refl
        | inr x ↦ rw (le-ltb n 256 x, le-leb a n (omega arith)) (elim (lt-or-le n 4096) [
          | inl y ↦ rw (lt-ltb n 4096 y, lt-leb b n (omega arith), lt-leb c n (omega arith)) refl
          | inr y ↦ rw (le-ltb n 4096 y, le-leb b n (omega arith)) (elim (lt-or-le n 65536) [
            | inl w ↦ rw (lt-ltb n 65536 w, lt-leb c n (omega arith)) refl
            | inr w ↦ rw (le-ltb n 65536 w, le-leb c n (omega arith)) refl
          ])
        ])
      ])
    ]
