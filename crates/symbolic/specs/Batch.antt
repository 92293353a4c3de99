-- A batch's touched columns and labels in a given tree: "in the tree after the call when adding, before it when removing". An exchange,
-- in which columns leave and others enter, touches what the leaving ones touch in the tree before and the entering ones in the tree after. The entries of a change,
-- from the factors before and after it. Assumes nothing: these are definitions.
use Rattle.std.specs.Prelude.{Bool, ◌||◌, List, [], ◌∷◌, ℕ, zero, suc, ◌-◌, max, eqb, length, get_or}
use Rattle.lists.specs.Lists.{pick, any, among, sum_of}
use Rattle.symbolic.specs.Columns.{Column, column_with, smallest}
use Rattle.symbolic.specs.Factor.{FactorColumn, column_at, path_of, size_of}

-- "A batch has positions 1 to r": the column at one
abbrev pub at_position : (batch : List Column) → (position : ℕ) → Column
at_position cs k = get_or cs (k - 1) (column_with 0 [])

-- j is on the path of the smallest row of c
abbrev pub passes : List FactorColumn → (j : ℕ) → Column → Bool
passes fs j c = among j (path_of fs (smallest c))

-- "Its touched columns are those on the path of the smallest row of at least one column in it"
abbrev pub is_touched : List FactorColumn → (batch : List Column) → (j : ℕ) → Bool
is_touched fs cs j = any (passes fs j) cs

-- the touched columns among so many columns from j on, rising
unfoldable pub touched_from : List FactorColumn → (batch : List Column) → (j : ℕ) → ℕ → List ℕ
touched_from fs cs j zero = []
touched_from fs cs j (suc n) = pick (is_touched fs cs j) (j ∷ touched_from fs cs (suc j) n) (touched_from fs cs (suc j) n)

-- "the touched columns ascending"
abbrev pub touched : List FactorColumn → (batch : List Column) → List ℕ
touched fs cs = touched_from fs cs 1 (length fs)

-- j is touched by a column that leaves, in the tree before, or by one that enters, in the tree after
abbrev pub is_exchanged : (before after : List FactorColumn) → (leave enter : List Column) → (j : ℕ) → Bool
is_exchanged fs gs xs ys j = is_touched fs xs j || is_touched gs ys j

-- those of so many numbers from j on that pass a test, rising
unfoldable pub passing : (ℕ → Bool) → (j : ℕ) → ℕ → List ℕ
passing f j zero = []
passing f j (suc n) = pick (f j) (j ∷ passing f (suc j) n) (passing f (suc j) n)

-- the columns that an exchange touches, ascending
abbrev pub exchanged : (before after : List FactorColumn) → (leave enter : List Column) → List ℕ
exchanged fs gs xs ys = passing (is_exchanged fs gs xs ys) 1 (length gs)

-- the largest position whose path passes through j, of columns with positions from a given one on; 0 where none does
unfoldable pub label_from : List FactorColumn → (j position : ℕ) → List Column → ℕ
label_from fs j i [] = 0
label_from fs j i (c ∷ cs) = pick (eqb (label_from fs j (suc i) cs) 0) (pick (passes fs j c) i 0) (label_from fs j (suc i) cs)

-- "The label of a touched column is the largest position whose path passes through it"; 0 for the other columns
abbrev pub label_of : List FactorColumn → (batch : List Column) → (j : ℕ) → ℕ
label_of fs cs j = label_from fs j 1 cs

-- "a label for each"
unfoldable pub labels_of : List FactorColumn → (batch : List Column) → (columns : List ℕ) → List ℕ
labels_of fs cs [] = []
labels_of fs cs (j ∷ js) = label_of fs cs j ∷ labels_of fs cs js

-- the sum of the sizes of some columns' patterns
abbrev pub size_sum_of : List FactorColumn → (columns : List ℕ) → ℕ
size_sum_of fs js = sum_of (λ j. size_of (column_at fs j)) js

-- the entries of a change, over the columns that it touches: each counts by the larger of its sizes before and after the call. For an addition that is document
-- 01's "sum of the sizes of the touched columns' patterns after the call" (`AdditionEntries`), for a removal document 02's "sum of the touched columns' sizes
-- before the call" (`RemovalEntries`)
abbrev pub entries_of : (before after : List FactorColumn) → (columns : List ℕ) → ℕ
entries_of fs gs js = sum_of (λ j. max (size_of (column_at fs j)) (size_of (column_at gs j))) js
