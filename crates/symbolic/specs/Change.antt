-- What a register becomes: columns enter, ids leave. Two lists of columns that are the same but for their order. Assumes nothing.
use Rattle.std.specs.Prelude.{◌≡◌, List, [], ◌∷◌, ◌++◌, ℕ, eqb}
use Rattle.lists.specs.Lists.{pick, among, sum_of}
use Rattle.symbolic.specs.Columns.{Column, column_with, Register}

-- the ids of some columns, in the columns' order
unfoldable pub ids_of : List Column → List ℕ
ids_of [] = []
ids_of (c ∷ cs) = c.id ∷ ids_of cs

-- "every id in the batch leaves"
unfoldable pub without : (ids : List ℕ) → List Column → List Column
without ids [] = []
without ids (c ∷ cs) = pick (among c.id ids) (without ids cs) (c ∷ without ids cs)

-- the column of an id; with no row where there is none
unfoldable pub column_of : (id : ℕ) → List Column → Column
column_of i [] = column_with i []
column_of i (c ∷ cs) = pick (eqb c.id i) c (column_of i cs)

-- the columns of some ids, in the ids' order
unfoldable pub columns_of : (ids : List ℕ) → List Column → List Column
columns_of [] cs = []
columns_of (i ∷ is) cs = column_of i cs ∷ columns_of is cs

-- the register after an accepted addition: the batch's columns enter
abbrev pub added : Register → (batch : List Column) → Register
added r cs = record { m = r.m; clock = r.clock; columns = r.columns ++ cs }

-- the register after an accepted removal: the columns of the ids leave
abbrev pub removed : Register → (ids : List ℕ) → Register
removed r is = record { m = r.m; clock = r.clock; columns = without is r.columns }

-- the register after an accepted clock change: the clock stands at the minute
abbrev pub clocked : Register → (minute : ℕ) → Register
clocked r t = record { m = r.m; clock = t; columns = r.columns }

-- the same columns in any order
abbrev pub Bag : List Column → List Column → Type 0
Bag cs ds = (f : Column → ℕ) → sum_of f cs ≡ sum_of f ds
