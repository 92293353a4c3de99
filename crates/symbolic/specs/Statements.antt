-- The theorems of the factor, each a type with the sentence that it renders; proofs/Theorems.antt has a term of each. That rows lie within 1 to m and
-- rise (fits_rows) is a premise only where a statement needs it. Assumes nothing.
use Rattle.std.specs.Prelude.{◌≡◌, ◌⊎◌, ◌≢◌, ◌↔◌, true, false, not, List, [], ◌∷◌, ◌++◌, ℕ, suc, ◌+◌, ◌≤◌, ◌<◌, ltb, leb, eqb, length}
use Rattle.lists.specs.Lists.{pick, is_in, Mem, all, among, no_repeats, count, sum_of, rises, up_from}
use Rattle.symbolic.specs.Columns.{Column, smallest, holds, with_rows, fits_rows, starting_with}
use Rattle.symbolic.specs.Factor.{FactorColumn, factor_of, column_at, multiplicity, parent_of, in_pattern, is_child, pattern_of, multiplicities_of, path_of, size_sum}
use Rattle.symbolic.specs.Definition.{IsFactor, OnPath}
use Rattle.symbolic.specs.Batch.{at_position, passes, is_touched, touched, label_of, size_sum_of, entries_of}
use Rattle.symbolic.specs.Groups.{joined, enter_touches, leave_touches, fits_each}
use Rattle.symbolic.specs.Meeting.{meeting, common_of, IsCommon}
use Rattle.symbolic.specs.NextRow.{ColumnEntry, next_row, IsNext, column_entries, IsWalk}
use Rattle.symbolic.specs.Grades.{Limits, are_limits, old_limits, grade_of}
use Rattle.symbolic.specs.Chains.{ChainTo, Closed}
use Rattle.symbolic.specs.Change.{ids_of, without, columns_of, Bag}
use Rattle.symbolic.specs.Steps.{StepsAt}

-- ---- the definition: what is computed is what document 01 says, and nothing else is

-- the multiplicities and parents that are computed are as the definition says
abbrev pub Defined : Type 0
Defined = (m : ℕ) (cs : List Column) → IsFactor m (λ j i. starting_with j i cs) (multiplicity (factor_of m cs)) (parent_of (factor_of m cs))

-- all multiplicities and parents that are as the definition says are those that are computed
abbrev pub Unique : Type 0
Unique =
    (m : ℕ) (cs : List Column) (M : ℕ → ℕ → ℕ) (P : ℕ → ℕ) → IsFactor m (λ j i. starting_with j i cs) M P →
    (i j : ℕ) → 1 ≤ i → i ≤ m → 1 ≤ j → j ≤ m → (M i j ≡ multiplicity (factor_of m cs) i j) × (P j ≡ parent_of (factor_of m cs) j)

-- ---- 1. diagonal and parents

-- row j is in L_j
abbrev pub DiagonalStands : Type 0
DiagonalStands = (m : ℕ) (cs : List Column) (j : ℕ) → 1 ≤ j → j ≤ m → in_pattern (factor_of m cs) j j ≡ true

-- a parent is 0, or lies above j and within m
abbrev pub ParentAbove : Type 0
ParentAbove =
    (m : ℕ) (cs : List Column) (j : ℕ) → 1 ≤ j → j ≤ m →
    (parent_of (factor_of m cs) j ≡ 0) ⊎ ((j < parent_of (factor_of m cs) j) × (parent_of (factor_of m cs) j ≤ m))

-- a row above j in L_j is in L of j's parent
abbrev pub ParentHolds : Type 0
ParentHolds =
    (m : ℕ) (cs : List Column) (i j : ℕ) → 1 ≤ j → j < i → i ≤ m → in_pattern (factor_of m cs) i j ≡ true →
    in_pattern (factor_of m cs) i (parent_of (factor_of m cs) j) ≡ true

-- ---- 2. equation 3.1: "L_j .. is the union of {j}, of L_c without c for every child c of j, and of every live column whose smallest row is j"

-- row i is in L_j exactly if it is j, is another row than c in L_c of a child c, or is in a column whose smallest row is j
abbrev pub Equation31 : Type 0
Equation31 =
    (m : ℕ) (cs : List Column) → all (fits_rows m) cs ≡ true → (i j : ℕ) → 1 ≤ i → i ≤ m → 1 ≤ j → j ≤ m →
    (in_pattern (factor_of m cs) i j ≡ true) ↔
    ((i ≡ j) ⊎
    (((c : ℕ) × (1 ≤ c) × (c ≤ m) × (is_child (factor_of m cs) c j ≡ true) × (i ≢ c) × (in_pattern (factor_of m cs) i c ≡ true)) ⊎
    ((c : Column) × Mem c cs × (smallest c ≡ j) × (holds c i ≡ true))))

-- ---- 3. growth and locality, of a batch W beside the columns R: adding goes from R to R ++ W, removing from R ++ W to R

-- a row that is in L_j for the columns R is in it for R ++ W
abbrev pub Growth : Type 0
Growth =
    (m : ℕ) (R W : List Column) (i j : ℕ) → 1 ≤ i → i ≤ m → 1 ≤ j → j ≤ m → in_pattern (factor_of m R) i j ≡ true →
    in_pattern (factor_of m (R ++ W)) i j ≡ true

-- a column off the paths of W in the tree of R ++ W is the same with and without W
abbrev pub Locality : Type 0
Locality =
    (m : ℕ) (R W : List Column) (j : ℕ) → 1 ≤ j → j ≤ m → is_touched (factor_of m (R ++ W)) W j ≡ false →
    column_at (factor_of m R) j ≡ column_at (factor_of m (R ++ W)) j

-- ---- 4. the steps of Algorithm 3 (update) and Algorithm 4 (downdate) at a column, over touched children

-- Algorithm 3: the steps at column j lead from the multiplicities for R to those for R ++ W
abbrev pub UpdateSteps : Type 0
UpdateSteps =
    (m : ℕ) (R W : List Column) (i j : ℕ) → 1 ≤ j → j ≤ i → i ≤ m →
    StepsAt m (λ j i. starting_with j i R) (multiplicity (factor_of m R)) (parent_of (factor_of m R))
    (λ j i. starting_with j i (R ++ W)) (multiplicity (factor_of m (R ++ W))) (parent_of (factor_of m (R ++ W))) (is_touched (factor_of m (R ++ W)) W) i j

-- Algorithm 4: the steps at column j lead from the multiplicities for R ++ W to those for R
abbrev pub DowndateSteps : Type 0
DowndateSteps =
    (m : ℕ) (R W : List Column) (i j : ℕ) → 1 ≤ j → j ≤ i → i ≤ m →
    StepsAt m (λ j i. starting_with j i (R ++ W)) (multiplicity (factor_of m (R ++ W))) (parent_of (factor_of m (R ++ W)))
    (λ j i. starting_with j i R) (multiplicity (factor_of m R)) (parent_of (factor_of m R)) (is_touched (factor_of m (R ++ W)) W) i j

-- ---- 5. order and bound

-- the factor does not depend on the order of the columns
abbrev pub OrderFree : Type 0
OrderFree = (m : ℕ) (cs ds : List Column) → Bag cs ds → factor_of m cs ≡ factor_of m ds

-- a removal leaves the columns that, with the batch, are those there were
abbrev pub RemovalSplits : Type 0
RemovalSplits =
    (cs : List Column) (ids : List ℕ) → no_repeats (ids_of cs) ≡ true → no_repeats ids ≡ true → all (λ (i : ℕ). among i (ids_of cs)) ids ≡ true →
    Bag cs (without ids cs ++ columns_of ids cs)

-- with n columns a multiplicity in column j is at most n + j, so with m rows at most n + m
abbrev pub MultiplicityBound : Type 0
MultiplicityBound = (m : ℕ) (cs : List Column) (i j : ℕ) → 1 ≤ i → i ≤ m → 1 ≤ j → j ≤ m → multiplicity (factor_of m cs) i j ≤ length cs + j

-- ---- 6. row i in column j exactly if a chain of rows leads there (demand 3); the pattern is closed, and the least that is

-- a row i above j is in L_j exactly if a chain of rows leads from j to i
abbrev pub ChainRule : Type 0
ChainRule =
    (m : ℕ) (cs : List Column) → all (fits_rows m) cs ≡ true → (i j : ℕ) → 1 ≤ j → j < i → i ≤ m →
    (in_pattern (factor_of m cs) i j ≡ true) ↔ ChainTo m cs i j

-- the pattern of the factor is closed
abbrev pub PatternClosed : Type 0
PatternClosed = (m : ℕ) (cs : List Column) → all (fits_rows m) cs ≡ true → Closed m cs (λ i j. in_pattern (factor_of m cs) i j ≡ true)

-- every closed pattern holds the factor's
abbrev pub PatternLeast : Type 1
PatternLeast =
    (m : ℕ) (cs : List Column) (C : ℕ → ℕ → Type 0) → Closed m cs C → (i j : ℕ) → 1 ≤ j → j ≤ i → i ≤ m → in_pattern (factor_of m cs) i j ≡ true → C i j

-- ---- 7. touched columns and labels

-- the path as a list holds what the parents lead to
abbrev pub PathIs : Type 0
PathIs =
    (m : ℕ) (cs : List Column) (j k : ℕ) → 1 ≤ j → j ≤ m →
    (among k (path_of (factor_of m cs) j) ≡ true) ↔ OnPath (parent_of (factor_of m cs)) j k

-- the list of touched columns holds just the columns of 1 to m that are touched
abbrev pub TouchedIs : Type 0
TouchedIs =
    (m : ℕ) (cs batch : List Column) (j : ℕ) →
    (among j (touched (factor_of m cs) batch) ≡ true) ↔ ((1 ≤ j) × (j ≤ m) × (is_touched (factor_of m cs) batch j ≡ true))

-- the list of touched columns rises, so it has each once
abbrev pub TouchedRises : Type 0
TouchedRises = (m : ℕ) (cs batch : List Column) → rises 1 m (touched (factor_of m cs) batch) ≡ true

-- a label is a position whose path passes through, and the largest
abbrev pub LabelIs : Type 0
LabelIs =
    (m : ℕ) (cs batch : List Column) (j : ℕ) → is_touched (factor_of m cs) batch j ≡ true →
    (1 ≤ label_of (factor_of m cs) batch j) × (label_of (factor_of m cs) batch j ≤ length batch) ×
    (passes (factor_of m cs) j (at_position batch (label_of (factor_of m cs) batch j)) ≡ true) ×
    ((k : ℕ) → 1 ≤ k → k ≤ length batch → passes (factor_of m cs) j (at_position batch k) ≡ true → k ≤ label_of (factor_of m cs) batch j)

-- "the columns of one label follow one another up the tree": two of one label lie on one path, and the parent of the lower has that label too
abbrev pub LabelsFollow : Type 0
LabelsFollow =
    (m : ℕ) (cs batch : List Column) (a b : ℕ) → 1 ≤ a → a < b → b ≤ m → is_touched (factor_of m cs) batch a ≡ true →
    is_touched (factor_of m cs) batch b ≡ true → label_of (factor_of m cs) batch a ≡ label_of (factor_of m cs) batch b →
    OnPath (parent_of (factor_of m cs)) a b × (label_of (factor_of m cs) batch (parent_of (factor_of m cs) a) ≡ label_of (factor_of m cs) batch a)

-- ---- 8. sizes

-- "the sum of all pattern sizes", which 16 compares with F, without computing: over the columns j of 1 to m, the number of rows i of 1 to m whose multiplicity is not
-- 0, by all multiplicities M that are as the definition says
abbrev pub SizesAre : Type 0
SizesAre =
    (m : ℕ) (cs : List Column) (M : ℕ → ℕ → ℕ) (P : ℕ → ℕ) → IsFactor m (λ j i. starting_with j i cs) M P →
    size_sum (factor_of m cs) ≡ sum_of (λ j. count (λ i. not (eqb (M i j) 0)) m) (up_from 1 m)

-- more columns never make the sum of all pattern sizes smaller
abbrev pub SizesGrow : Type 0
SizesGrow = (m : ℕ) (R W : List Column) → size_sum (factor_of m R) ≤ size_sum (factor_of m (R ++ W))

-- the sum of sizes changes by the touched columns alone
abbrev pub SizesLocal : Type 0
SizesLocal =
    (m : ℕ) (R W : List Column) →
    size_sum (factor_of m (R ++ W)) + size_sum_of (factor_of m R) (touched (factor_of m (R ++ W)) W) ≡
    size_sum (factor_of m R) + size_sum_of (factor_of m (R ++ W)) (touched (factor_of m (R ++ W)) W)

-- the entries of an addition: "the sum of the sizes of the touched columns' patterns after the call". Here and below of any columns; of calls: `CountsJust` in
-- history/specs/Statements.antt
abbrev pub AdditionEntries : Type 0
AdditionEntries = (m : ℕ) (R W : List Column) (js : List ℕ) → entries_of (factor_of m R) (factor_of m (R ++ W)) js ≡ size_sum_of (factor_of m (R ++ W)) js

-- document 02: "For a removal the entries become the sum of the touched columns' sizes before the call"
abbrev pub RemovalEntries : Type 0
RemovalEntries = (m : ℕ) (R W : List Column) (js : List ℕ) → entries_of (factor_of m (R ++ W)) (factor_of m R) js ≡ size_sum_of (factor_of m (R ++ W)) js

-- ---- 9. grades

-- "the first entries of grades 2, 3 and 4": by limits that keep the rule a grade is at least 2, 3 or 4 exactly from the first, second or third limit on
abbrev pub GradeFrom : Type 0
GradeFrom =
    (g : Limits) (n : ℕ) → are_limits g ≡ true →
    ((1 ≤ grade_of g n) ↔ (1 ≤ n)) × ((2 ≤ grade_of g n) ↔ (g.grade2 ≤ n)) × ((3 ≤ grade_of g n) ↔ (g.grade3 ≤ n)) × ((4 ≤ grade_of g n) ↔ (g.grade4 ≤ n)) ×
    (grade_of g n ≤ 4)

-- by the old limits, "Grade 1 is for 1 to 255 entries, 2 for 256 to 4,095, 3 for 4,096 to 65,535, 4 for more"; 0 for no entry
abbrev pub OldGrades : Type 0
OldGrades = (n : ℕ) → grade_of old_limits n ≡ pick (eqb n 0) 0 (pick (ltb n 256) 1 (pick (ltb n 4096) 2 (pick (ltb n 65536) 3 4)))

-- ---- 10. the columns that meet a row, and the common row; which they are is said of all multiplicities M and parents P that are as the definition says

-- a column is listed exactly if the row stands in it
abbrev pub MeetingIs : Type 0
MeetingIs =
    (m : ℕ) (cs : List Column) (M : ℕ → ℕ → ℕ) (P : ℕ → ℕ) → IsFactor m (λ j i. starting_with j i cs) M P → (i j : ℕ) → 1 ≤ i → i ≤ m →
    (among j (meeting (factor_of m cs) i) ≡ true) ↔ ((1 ≤ j) × (j ≤ m) × (0 < M i j))

-- "ascending": the list rises, up to row i
abbrev pub MeetingRises : Type 0
MeetingRises = (m : ℕ) (cs : List Column) (i : ℕ) → 1 ≤ i → i ≤ m → rises 1 i (meeting (factor_of m cs) i) ≡ true

-- row i's own column is the last, so the list is never empty
abbrev pub MeetingEnds : Type 0
MeetingEnds = (m : ℕ) (cs : List Column) (i : ℕ) → 1 ≤ i → i ≤ m → (js : List ℕ) × (meeting (factor_of m cs) i ≡ js ++ (i ∷ []))

-- the common row of some rows lies on all their paths and no smaller one does; 0 exactly if none does
abbrev pub CommonIs : Type 0
CommonIs =
    (m : ℕ) (cs : List Column) (M : ℕ → ℕ → ℕ) (P : ℕ → ℕ) → IsFactor m (λ j i. starting_with j i cs) M P →
    (is : List ℕ) → 1 ≤ length is → all (is_in 1 m) is ≡ true → IsCommon P is (common_of (factor_of m cs) is)

-- ---- 11. the next row of a column, here of any columns; of calls: history/specs/NextRow.antt

-- what is computed is the first row at or above i, or that there is none, by all multiplicities M that are as the definition says
abbrev pub NextIs : Type 0
NextIs =
    (m : ℕ) (cs : List Column) (M : ℕ → ℕ → ℕ) (P : ℕ → ℕ) → IsFactor m (λ j i. starting_with j i cs) M P → (i j : ℕ) → 1 ≤ i → 1 ≤ j → j ≤ m →
    IsNext m M i j (next_row (factor_of m cs) i j)

-- for i up to j it is the diagonal
abbrev pub NextIsDiagonal : Type 0
NextIsDiagonal = (m : ℕ) (cs : List Column) (i j : ℕ) → 1 ≤ j → j ≤ m → i ≤ j → (next_row (factor_of m cs) i j).row ≡ j

-- "for j below m, asking for j + 1 gives j's parent"
abbrev pub NextIsParent : Type 0
NextIsParent = (m : ℕ) (cs : List Column) (j : ℕ) → 1 ≤ j → j < m → (next_row (factor_of m cs) (suc j) j).row ≡ parent_of (factor_of m cs) j

-- "asking from 1, then from one above each row given, until row m or 0, gives column j's entries": a walk is given these and nothing else, and there is one
abbrev pub WalkIsColumn : Type 0
WalkIsColumn =
    (m : ℕ) (cs : List Column) (j : ℕ) → 1 ≤ j → j ≤ m → (xs : List ColumnEntry) → IsWalk m (λ i. next_row (factor_of m cs) i j) 1 xs ↔
    (xs ≡ column_entries (pattern_of (column_at (factor_of m cs) j)) (multiplicities_of (column_at (factor_of m cs) j)))

-- ---- 12. a batch that goes group by group

-- groups that enter one after another touch what the whole batch touches in the tree after it
abbrev pub EnterSplits : Type 0
EnterSplits =
    (m : ℕ) (R : List Column) (groups : List (List Column)) (j : ℕ) → 1 ≤ j → j ≤ m →
    enter_touches m R groups j ≡ is_touched (factor_of m (R ++ joined groups)) (joined groups) j

-- groups that leave one after another touch what the whole batch touches in the tree before it
abbrev pub LeaveSplits : Type 0
LeaveSplits =
    (m : ℕ) (R : List Column) (groups : List (List Column)) (j : ℕ) → 1 ≤ j → j ≤ m →
    leave_touches m R groups j ≡ is_touched (factor_of m (R ++ joined groups)) (joined groups) j

-- all sizes fit before groups enter and after each of them exactly if they do at the end: 16 at some group exactly if 16 for the whole batch
abbrev pub FitsAlong : Type 0
FitsAlong =
    (m f : ℕ) (R : List Column) (groups : List (List Column)) →
    fits_each m f R groups ≡ leb (size_sum (factor_of m (R ++ joined groups))) f

-- ---- 13. columns with no row, wherever they stand among the others

-- a column with no row starts nowhere: the factor is that of the others
abbrev pub RowlessFactor : Type 0
RowlessFactor = (m : ℕ) (cs : List Column) → factor_of m cs ≡ factor_of m (with_rows cs)

-- a column with no row touches nothing, in any tree: a batch touches what the others in it touch
abbrev pub RowlessTouch : Type 0
RowlessTouch = (fs : List FactorColumn) (batch : List Column) (j : ℕ) → is_touched fs batch j ≡ is_touched fs (with_rows batch) j
