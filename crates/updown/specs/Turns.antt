-- The walk of a batch W beside the columns R, in the tree of R ++ W, and the turn of column j in it: which queue a done column waits in, the plans of done
-- columns. Adding goes from R to R ++ W, removing back. Assumes nothing: these are definitions.
use Rattle.std.specs.Prelude.{◌≡◌, Bool, ◌&&◌, not, List, [], ◌∷◌, ◌++◌, ℕ, suc, ◌+◌, ◌-◌, ltb, leb, eqb}
use Rattle.lists.specs.Lists.{pick}
use Rattle.symbolic.specs.Columns.{Column}
use Rattle.symbolic.specs.Factor.{FactorColumn, factor_of, column_at, parent_of}
use Rattle.symbolic.specs.Batch.{is_touched, touched_from, label_of}
use Rattle.differences.specs.Gather.{plan_part}
use Rattle.emission.specs.Plans.{plan_from}
use Rattle.updown.specs.Plans.{ColumnPlan, first_of}

-- ---- the two factors

-- the factor with the batch
abbrev pub larger : (m : ℕ) (R W : List Column) → List FactorColumn
larger m R W = factor_of m (R ++ W)

-- the factor without the batch
abbrev pub smaller : (m : ℕ) (R : List Column) → List FactorColumn
smaller m R = factor_of m R

-- the factor before the call: without the batch when adding, with it when removing
abbrev pub before : (adding : Bool) (m : ℕ) (R W : List Column) → List FactorColumn
before z m R W = pick z (smaller m R) (larger m R W)

-- the factor after the call: with the batch when adding, without it when removing
abbrev pub after : (adding : Bool) (m : ℕ) (R W : List Column) → List FactorColumn
after z m R W = pick z (larger m R W) (smaller m R)

-- the parent with the batch: the walk goes up this tree
abbrev pub tree_parent : (m : ℕ) (R W : List Column) (c : ℕ) → ℕ
tree_parent m R W c = parent_of (larger m R W) c

-- the parent without the batch
abbrev pub other_parent : (m : ℕ) (R : List Column) (c : ℕ) → ℕ
other_parent m R c = parent_of (smaller m R) c

-- the label of a column, in the tree with the batch
abbrev pub label_at : (m : ℕ) (R W : List Column) (c : ℕ) → ℕ
label_at m R W c = label_of (larger m R W) W c

-- ---- done columns

-- the touched columns below j
abbrev pub done : (m : ℕ) (R W : List Column) (j : ℕ) → List ℕ
done m R W j = touched_from (larger m R W) W 1 (j - 1)

-- a column is touched and below j
abbrev pub is_done : (m : ℕ) (R W : List Column) (j c : ℕ) → Bool
is_done m R W j c = is_touched (larger m R W) W c && ltb c j

-- where a done column waits before the turn of j: for its tree parent, then for its other parent if that is another one
abbrev pub standing : (m : ℕ) (R W : List Column) (j c : ℕ) → ℕ
standing m R W j c =
    pick (is_done m R W j c)
    (pick (leb j (tree_parent m R W c)) (tree_parent m R W c)
    (pick (not (eqb (tree_parent m R W c) 0) && not (eqb (other_parent m R c) (tree_parent m R W c)) && leb j (other_parent m R c)) (m + other_parent m R c) 0))
    0

-- the plan of a done column
pub record DoneColumn (m : ℕ) (L L' : List FactorColumn) (label : ℕ → ℕ) (work : List ℕ) (j start end next : ℕ) : Type 0 where
  pub plan : ColumnPlan m L L' label work j start end next
  pub entries : plan_part m work start end ≡ plan_from 1 (column_at L j).counts (column_at L' j).counts

-- the plans of done columns, one after another; the next column after the last one is given
unfoldable pub PlansTo : (m : ℕ) (L L' : List FactorColumn) (label : ℕ → ℕ) (work : List ℕ) (columns : List ℕ) (start next used : ℕ) → Type 0
PlansTo m L L' label w [] start next used = start ≡ used
PlansTo m L L' label w (j ∷ js) start next used =
    (end : ℕ) × (DoneColumn m L L' label w j start end (first_of (js ++ (next ∷ []))) × PlansTo m L L' label w js end next used)

-- ---- the turn of j

-- where each column waits in the turn of j: the handled ones as after it, the others as before it
abbrev pub waiting : (m : ℕ) (R W : List Column) (j : ℕ) (handled : ℕ → Bool) (c : ℕ) → ℕ
waiting m R W j H c = pick (H c) (standing m R W (suc j) c) (standing m R W j c)
