-- The factor, computed column by column: multiplicities, patterns, parents, children, paths, sizes. It takes m and the columns that count.
-- Definition.antt says the same without computing; Statements.antt says that the two are one. Assumes nothing: these are definitions.
use Rattle.std.specs.Prelude.{Bool, ◌&&◌, not, List, [], ◌∷◌, ◌++◌, ℕ, zero, suc, ◌+◌, ◌-◌, ltb, eqb, length, get_or}
use Rattle.lists.specs.Lists.{pick, one}
use Rattle.symbolic.specs.Columns.{Column, starting_with, Register, live}

-- ---- multiplicities and parents

-- a factor column: the multiplicities of rows 1 to m, and its parent (0 for a root)
pub record FactorColumn : Type 0 where
  pub counts : List ℕ
  pub parent : ℕ

-- the multiplicity of a row in a factor column; 0 for a row above m
abbrev pub count_in : FactorColumn → (row : ℕ) → ℕ
count_in f i = get_or f.counts (i - 1) 0

-- "the number of children c of j with i in L_c", among the columns before j
unfoldable pub children_with : (j row : ℕ) → List FactorColumn → ℕ
children_with j i [] = 0
children_with j i (f ∷ fs) = one (eqb f.parent j && not (eqb (count_in f i) 0)) + children_with j i fs

-- "The multiplicity of i in L_j is 0 for i smaller than j; otherwise .. plus 1 if i = j"
abbrev pub count_for : List Column → (before : List FactorColumn) → (j row : ℕ) → ℕ
count_for cs fs j i = pick (ltb i j) 0 (children_with j i fs + starting_with j i cs + one (eqb i j))

-- the multiplicities in column j of so many rows from one on
unfoldable pub counts_from : List Column → (before : List FactorColumn) → (j row : ℕ) → ℕ → List ℕ
counts_from cs fs j i zero = []
counts_from cs fs j i (suc n) = count_for cs fs j i ∷ counts_from cs fs j (suc i) n

-- "The parent of j is the smallest row in L_j above j, or 0 if there is none"
unfoldable pub first_above : (j row : ℕ) → List ℕ → ℕ
first_above j i [] = 0
first_above j i (n ∷ ns) = pick (ltb j i && not (eqb n 0)) i (first_above j (suc i) ns)

-- factor column j with its multiplicities, and the parent that they give
abbrev pub column_by : (j : ℕ) → (counts : List ℕ) → FactorColumn
column_by j ns = record { counts = ns; parent = first_above j 1 ns }

-- the columns before j, then so many columns from j on, each counted by those before it
unfoldable pub build_from : (m : ℕ) → List Column → (before : List FactorColumn) → (j : ℕ) → ℕ → List FactorColumn
build_from m cs fs j zero = fs
build_from m cs fs j (suc n) = build_from m cs (fs ++ (column_by j (counts_from cs fs j 1 m) ∷ [])) (suc j) n

-- THE FACTOR: columns 1 to m
abbrev pub factor_of : (m : ℕ) → List Column → List FactorColumn
factor_of m cs = build_from m cs [] 1 m

-- of a register: by the columns that count
abbrev pub factor_for : Register → List FactorColumn
factor_for r = factor_of r.m (live r)

-- what is read past column m: no row, and parent 0
abbrev pub no_column : FactorColumn
no_column = record { counts = []; parent = 0 }

-- column j, from 1 on (0 would read column 1)
abbrev pub column_at : List FactorColumn → (j : ℕ) → FactorColumn
column_at fs j = get_or fs (j - 1) no_column

-- the multiplicity of a row in L_j
abbrev pub multiplicity : List FactorColumn → (row j : ℕ) → ℕ
multiplicity fs i j = count_in (column_at fs j) i

-- the parent of j, 0 if j is a root
abbrev pub parent_of : List FactorColumn → (j : ℕ) → ℕ
parent_of fs j = (column_at fs j).parent

-- "Row i is in L_j exactly if this number is not 0"
abbrev pub in_pattern : List FactorColumn → (row j : ℕ) → Bool
in_pattern fs i j = not (eqb (multiplicity fs i j) 0)

-- "The children of j are the rows whose parent is j"
abbrev pub is_child : List FactorColumn → (c j : ℕ) → Bool
is_child fs c j = eqb (parent_of fs c) j

-- ---- patterns as rising lists: the rows of a column, and their multiplicities in the same order

-- the rows with a multiplicity other than 0, the first multiplicity being that of a given row
unfoldable pub pattern_from : (row : ℕ) → (counts : List ℕ) → List ℕ
pattern_from i [] = []
pattern_from i (n ∷ ns) = pick (eqb n 0) (pattern_from (suc i) ns) (i ∷ pattern_from (suc i) ns)

-- the multiplicities other than 0, in their order
unfoldable pub non_zero : (counts : List ℕ) → List ℕ
non_zero [] = []
non_zero (n ∷ ns) = pick (eqb n 0) (non_zero ns) (n ∷ non_zero ns)

-- "L_j, the pattern of factor column j": its rows, rising
abbrev pub pattern_of : FactorColumn → List ℕ
pattern_of f = pattern_from 1 f.counts

-- the multiplicities of the pattern's rows, in the same order
abbrev pub multiplicities_of : FactorColumn → List ℕ
multiplicities_of f = non_zero f.counts

-- ---- paths

-- the path of j, at most so many columns of it; as many as there are in all are enough
unfoldable pub path_from : ℕ → List FactorColumn → (j : ℕ) → List ℕ
path_from zero fs j = []
path_from (suc n) fs j = pick (eqb j 0) [] (j ∷ path_from n fs (parent_of fs j))

-- "The path of j is j, its parent, and so on up to its root"
abbrev pub path_of : List FactorColumn → (j : ℕ) → List ℕ
path_of fs j = path_from (length fs) fs j

-- ---- sizes

-- the size of a column's pattern
abbrev pub size_of : FactorColumn → ℕ
size_of f = length (pattern_of f)

-- "the sum of all pattern sizes"
unfoldable pub size_sum : List FactorColumn → ℕ
size_sum [] = 0
size_sum (f ∷ fs) = size_of f + size_sum fs
