-- A batch that goes group by group: what its groups touch, one after another, as they enter or leave, and whether all sizes fit all the way. Assumes nothing:
-- these are definitions.
use Rattle.std.specs.Prelude.{Bool, false, ◌&&◌, ◌||◌, List, [], ◌∷◌, ◌++◌, ℕ, leb}
use Rattle.symbolic.specs.Columns.{Column}
use Rattle.symbolic.specs.Factor.{factor_of, size_sum}
use Rattle.symbolic.specs.Batch.{is_touched}

-- all columns of some groups, one group after another
unfoldable pub joined : (groups : List (List Column)) → List Column
joined [] = []
joined (W ∷ Ws) = W ++ joined Ws

-- groups enter one after another beside the columns R: one of them touches j in the tree just after it has entered
unfoldable pub enter_touches : (m : ℕ) → (R : List Column) → (groups : List (List Column)) → (j : ℕ) → Bool
enter_touches m R [] j = false
enter_touches m R (W ∷ Ws) j = is_touched (factor_of m (R ++ W)) W j || enter_touches m (R ++ W) Ws j

-- groups that are there beside the columns R leave, from the first on: one of them touches j in the tree just before it leaves, that of R and all that have not left
unfoldable pub leave_touches : (m : ℕ) → (R : List Column) → (groups : List (List Column)) → (j : ℕ) → Bool
leave_touches m R [] j = false
leave_touches m R (W ∷ Ws) j = is_touched (factor_of m (R ++ (W ++ joined Ws))) W j || leave_touches m R Ws j

-- groups enter one after another beside the columns R: the sum of all sizes is at most f before the first of them and after each
unfoldable pub fits_each : (m f : ℕ) → (R : List Column) → (groups : List (List Column)) → Bool
fits_each m f R [] = leb (size_sum (factor_of m R)) f
fits_each m f R (W ∷ Ws) = leb (size_sum (factor_of m R)) f && fits_each m f (R ++ W) Ws
