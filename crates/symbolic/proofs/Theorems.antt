-- A term of every statement of specs/Statements.antt, in its order. The mathematics stands in the other files, over the definition's sentences alone
-- (Laws, Walks, Two, Steps) or over the computed factor (Build, Columns, Patterns, Paths, Passing, Common, Touched, Meeting, NextRow, Locality, Labels, Bags, Order, Sizes, Groups); Grades is about numbers alone. Assumes nothing.
use mathlib.Core.Path.{◌≡◌, refl, sym, ap, ◌∙◌, subst}
use mathlib.Core.Logic.{◌⊎◌, inl, inr, ◌≢◌}
use mathlib.Core.Bool.{true, not}
use mathlib.Core.List.{List, ◌++◌}
use Prim.Native.Nat.{ℕ, ◌+◌, ◌≤◌, ◌<◌}
use native.Mathlib.Omega.{arith}
use lib.Dec.{eqb}
use borrow.Author.Tests.{eqb-true, eq-eqb}
use Rattle.lists.specs.Lists.{Mem, all, up_from}
use Rattle.lists.proofs.Tests.{zero-or-pos}
use Rattle.lists.proofs.Member.{all-at}
use Rattle.lists.proofs.Count.{count-ext}
use Rattle.lists.proofs.Sum.{sum-ext}
use Rattle.lists.proofs.Rising.{from_up}
use Rattle.symbolic.specs.Columns.{Column, smallest, holds, fits_rows}
use Rattle.symbolic.specs.Factor.{factor_of, multiplicity, parent_of, in_pattern, is_child}
use Rattle.symbolic.specs.Batch.{passes, at_position, label_of}
use Rattle.symbolic.specs.Statements.{Defined, Unique, DiagonalStands, ParentAbove, ParentHolds, Equation31, Growth, Locality, UpdateSteps, DowndateSteps, OrderFree, RemovalSplits, MultiplicityBound, ChainRule, PatternClosed, PatternLeast, PathIs, TouchedIs, TouchedRises, LabelIs, LabelsFollow, SizesAre, SizesGrow, SizesLocal, AdditionEntries, RemovalEntries, GradeFrom, OldGrades, MeetingIs, MeetingRises, MeetingEnds, CommonIs, NextIs, NextIsDiagonal, NextIsParent, WalkIsColumn, EnterSplits, LeaveSplits, FitsAlong, RowlessFactor, RowlessTouch}
use Rattle.symbolic.proofs.Laws.{diagonal-in, start-in, pattern-cases, row-above, parent-contains, pattern-fill}
use Rattle.symbolic.proofs.Walks.{walk_of, edge_in, walk-in, pattern-within}
use Rattle.symbolic.proofs.Two.{Agree, factor-agrees}
use Rattle.symbolic.proofs.Build.{laws}
use Rattle.symbolic.proofs.Columns.{starts-find, starts-has, smallest-least, share-start, edges, chain-is-walk}
use Rattle.symbolic.proofs.Patterns.{in-pattern, pattern-in}
use Rattle.symbolic.proofs.Paths.{path-members}
use Rattle.symbolic.proofs.Touched.{touched-members, touched-rise, touched-rows}
use Rattle.symbolic.proofs.Locality.{multiplicity-stays, untouched-column, update-steps-at, downdate-steps-at}
use Rattle.symbolic.proofs.Labels.{label-passes, label-largest, touched-label, label-follows}
use Rattle.symbolic.proofs.Bags.{bag-splits}
use Rattle.symbolic.proofs.Order.{factor-bag, factor-rows, count-bound}
use Rattle.symbolic.proofs.Sizes.{size_is, size-sum-of, sizes-grow-sum, sizes-local-sum, entries-after, entries-before}
use Rattle.symbolic.proofs.Groups.{entering-splits, leaving-splits, fitting-along}
use Rattle.symbolic.proofs.Grades.{grade-begins, old-grade}
use Rattle.symbolic.proofs.Meeting.{meeting-defined, meeting-rise, meeting-last}
use Rattle.symbolic.proofs.Common.{common-least}
use Rattle.symbolic.proofs.NextRow.{next-defined, next-diagonal, next-parent, walk-column}

-- ---- the definition

pub defined : Defined
defined = laws

pub unique : Unique
unique m cs M P L i j a b d e =
    let g : Agree m M (multiplicity (factor_of m cs)) P (parent_of (factor_of m cs)) j = factor-agrees L (laws m cs) (λ k l x y z. refl) j d e in
    (g.0 i a b, g.1)

-- ---- 1. diagonal and parents

pub diagonal-stands : DiagonalStands
diagonal-stands m cs j a b = in-pattern (factor_of m cs) j j (diagonal-in (laws m cs) j a b)

pub parent_above : ParentAbove
parent_above m cs j a b =
    elim (zero-or-pos (parent_of (factor_of m cs) j)) [
      | inl z ↦ inl z
      | inr p ↦ inr (((laws m cs).parent_in j a b p).0, ((laws m cs).parent_in j a b p).1)
    ]

pub parent-holds : ParentHolds
parent-holds m cs i j a b d h =
    in-pattern (factor_of m cs) i (parent_of (factor_of m cs) j) (parent-contains (laws m cs) i j a b d (pattern-in (factor_of m cs) i j h)).2

-- ---- 2. equation 3.1

module _ (m : ℕ) (cs : List Column) (fits : all (fits_rows m) cs ≡ true) (i j : ℕ) (a : 1 ≤ i) (b : i ≤ m) (d : 1 ≤ j) (e : j ≤ m) where
  abbrev Parts : Type 0
  Parts =
      (i ≡ j) ⊎
      (((c : ℕ) × (1 ≤ c) × (c ≤ m) × (is_child (factor_of m cs) c j ≡ true) × (i ≢ c) × (in_pattern (factor_of m cs) i c ≡ true)) ⊎
      ((c : Column) × Mem c cs × (smallest c ≡ j) × (holds c i ≡ true)))

  pattern-parted : in_pattern (factor_of m cs) i j ≡ true → Parts
  pattern-parted h =
      let p : 0 < multiplicity (factor_of m cs) i j = pattern-in (factor_of m cs) i j h in
      let q : j ≤ i = row-above (laws m cs) i j a e p in
      elim (pattern-cases (laws m cs) i j d q b p) [
        | inl x ↦ inl x
        | inr (inl z) ↦
            inr (inl (z.0, z.1, omega arith, eq-eqb (parent_of (factor_of m cs) z.0) j z.3, omega arith, in-pattern (factor_of m cs) i z.0 z.4))
        | inr (inr s) ↦ inr (inr (starts-find j i cs s))
      ]

  parts_in : Parts → 0 < multiplicity (factor_of m cs) i j
  parts_in (inl x) = subst (λ (y : ℕ). 0 < multiplicity (factor_of m cs) y j) (sym x) (diagonal-in (laws m cs) j d e)
  parts_in (inr (inl z)) =
      let c : ℕ = z.0 in
      let p : parent_of (factor_of m cs) c ≡ j = eqb-true (parent_of (factor_of m cs) c) j z.3 in
      let h : 0 < multiplicity (factor_of m cs) i c = pattern-in (factor_of m cs) i c z.5 in
      let q : c ≤ i = row-above (laws m cs) i c a z.2 h in
      subst (λ (y : ℕ). 0 < multiplicity (factor_of m cs) i y) p (parent-contains (laws m cs) i c z.1 (omega arith) b h).2
  parts_in (inr (inr t)) =
      let u : (1 ≤ smallest t.0) × (smallest t.0 ≤ i) × (i ≤ m) = smallest-least m t.0 i (all-at (fits_rows m) t.1 fits) t.3 in
      start-in (laws m cs) j i d (omega arith) b (starts-has j i t.1 t.2 t.3)

pub equation-31 : Equation31
equation-31 m cs fits i j a b d e = (pattern-parted m cs fits i j a b d e, λ p. in-pattern (factor_of m cs) i j (parts_in m cs fits i j a b d e p))

-- ---- 3. growth and locality

pub growth : Growth
growth m R W i j a b d e h = in-pattern (factor_of m (R ++ W)) i j (multiplicity-stays m R W i j a b d e (pattern-in (factor_of m R) i j h))

pub locality : Locality
locality = untouched-column

-- ---- 4. steps

pub update-steps : UpdateSteps
update-steps = update-steps-at

pub downdate-steps : DowndateSteps
downdate-steps = downdate-steps-at

-- ---- 5. order and bound

pub order-free : OrderFree
order-free = factor-bag

pub removal-splits : RemovalSplits
removal-splits = bag-splits

pub multiplicity-bound : MultiplicityBound
multiplicity-bound = count-bound

-- ---- 6. chains of rows

pub chain-rule : ChainRule
chain-rule m cs fits i j a b d = (
  λ h. (chain-is-walk m cs fits i j).1 (walk_of (laws m cs) (edges m cs fits) i j a b d (pattern-in (factor_of m cs) i j h)),
  λ l. in-pattern (factor_of m cs) i j (walk-in (laws m cs) (edges m cs fits) j j i a (omega arith) b d ((chain-is-walk m cs fits i j).0 l)),
)

pub pattern-closed : PatternClosed
pattern-closed m cs fits = record {
  diagonal = λ j a b. in-pattern (factor_of m cs) j j (diagonal-in (laws m cs) j a b);
  shared = λ i j a b d h. in-pattern (factor_of m cs) i j (edge_in (laws m cs) (edges m cs fits) j i b h);
  fill = λ i k j a b d e g h. in-pattern (factor_of m cs) i k
      (pattern-fill (laws m cs) j i k a (omega arith) (omega arith) e (pattern-in (factor_of m cs) k j h) (pattern-in (factor_of m cs) i j g));
}

pub pattern-least : PatternLeast
pattern-least m cs C K i j a b d h =
    pattern-within (laws m cs) C K.diagonal (λ k l x y z s. K.shared k l x y z (share-start cs l k x s)) K.fill i j a b d
    (pattern-in (factor_of m cs) i j h)

-- ---- 7. touched columns and labels

pub path-is : PathIs
path-is = path-members

pub touched-is : TouchedIs
touched-is = touched-members

pub touched-rises : TouchedRises
touched-rises = touched-rise

pub label_is : LabelIs
label_is m cs batch j h =
    let p : 0 < label_of (factor_of m cs) batch j = touched-label (factor_of m cs) batch j h in
    let t : (label_of (factor_of m cs) batch j ≤ _) × (passes (factor_of m cs) j (at_position batch (label_of (factor_of m cs) batch j)) ≡ true) =
    label-passes (factor_of m cs) batch j p in
    (p, t.0, t.1, label-largest (factor_of m cs) batch j)

pub labels-follow : LabelsFollow
labels-follow m cs batch a b x l y h k e = label-follows m cs batch a b x l y (touched-label (factor_of m cs) batch a h) e

-- ---- 8. sizes

pub sizes-are : SizesAre
sizes-are m cs M P h =
    size-sum-of m cs ∙ sum-ext _ _ (up_from 1 m) (λ j n.
    let t : (1 ≤ j) × (j < 1 + m) = from_up 1 m n in
    let b : j ≤ m = omega arith in
    size_is m cs j t.0 b ∙ count-ext _ _ m (λ i x y. ap (λ (k : ℕ). not (eqb k 0)) (sym (unique m cs M P h i j x y t.0 b).0)))

pub sizes-grow : SizesGrow
sizes-grow = sizes-grow-sum

pub sizes-local : SizesLocal
sizes-local = sizes-local-sum

pub addition-entries : AdditionEntries
addition-entries = entries-after

pub removal-entries : RemovalEntries
removal-entries = entries-before

-- ---- 9. grades

pub grade-from : GradeFrom
grade-from = grade-begins

pub old-grades : OldGrades
old-grades = old-grade

-- ---- 10. the columns that meet a row, and the common row

pub meeting-is : MeetingIs
meeting-is = meeting-defined

pub meeting-rises : MeetingRises
meeting-rises = meeting-rise

pub meeting-ends : MeetingEnds
meeting-ends = meeting-last

pub common-is : CommonIs
common-is = common-least

-- ---- 11. the next row of a column

pub next-is : NextIs
next-is = next-defined

pub next-is-diagonal : NextIsDiagonal
next-is-diagonal m cs i j a b h = next-diagonal m cs j a b i h

pub next-is-parent : NextIsParent
next-is-parent m cs j a b = next-parent m cs j a (omega arith)

pub walk-is-column : WalkIsColumn
walk-is-column = walk-column

-- ---- 12. a batch that goes group by group

pub enter-splits : EnterSplits
enter-splits = entering-splits

pub leave-splits : LeaveSplits
leave-splits = leaving-splits

pub fits_along : FitsAlong
fits_along = fitting-along

-- ---- 13. columns with no row

pub rowless-factor : RowlessFactor
rowless-factor = factor-rows

pub rowless-touch : RowlessTouch
rowless-touch = touched-rows
