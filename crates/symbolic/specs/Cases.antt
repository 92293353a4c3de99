-- Document 01's instances as far as the factor alone decides them, and some of document 02's limits; the table of starred instances is history/specs/Instances.antt. Computed here: the
-- state listed there, the same columns as one batch, a removal, equal columns, an exchange, sizes, grades and their limits, a path. proofs/Instances.antt has a term. Assumes nothing.
use Rattle.std.specs.Prelude.{◌≡◌, true, false, List, [], ◌∷◌, ℕ}
use Rattle.symbolic.specs.Columns.{Column, column_with}
use Rattle.symbolic.specs.Factor.{FactorColumn, factor_of, column_at, pattern_of, multiplicities_of, path_of, size_sum}
use Rattle.symbolic.specs.Batch.{touched, labels_of, entries_of}
use Rattle.symbolic.specs.Grades.{limits_of, are_limits, old_limits, limits_for, grade_of}
use Rattle.symbolic.specs.Change.{without, columns_of}

-- the columns of the listed state: {1,3}, {1,4}, {2,3} under ids 1, 2, 3
abbrev pub listed_columns : List Column
listed_columns = column_with 1 (1 ∷ 3 ∷ []) ∷ column_with 2 (1 ∷ 4 ∷ []) ∷ column_with 3 (2 ∷ 3 ∷ []) ∷ []

-- {1,3} under ids 4 and 7
abbrev pub two_alike : List Column
two_alike = column_with 4 (1 ∷ 3 ∷ []) ∷ column_with 7 (1 ∷ 3 ∷ []) ∷ []

-- a factor column with a given parent and given multiplicities of rows 1 to m
abbrev pub column : (parent : ℕ) → (counts : List ℕ) → FactorColumn
column p ns = record { counts = ns; parent = p }

-- document 01's instances that the factor alone decides, and limits of the grades
pub record Cases : Type 0 where
  -- 1. "Fresh, m = 1: L_1 is 1:1, parent 0"
  pub fresh : factor_of 1 [] ≡ column 0 (1 ∷ []) ∷ []
  -- 2. "The state listed above, row by row"
  pub state :
      factor_of 5 listed_columns ≡
      column 3 (3 ∷ 0 ∷ 1 ∷ 1 ∷ 0 ∷ []) ∷ column 3 (0 ∷ 2 ∷ 1 ∷ 0 ∷ 0 ∷ []) ∷ column 4 (0 ∷ 0 ∷ 3 ∷ 1 ∷ 0 ∷ []) ∷ column 0 (0 ∷ 0 ∷ 0 ∷ 2 ∷ 0 ∷ []) ∷
      column 0 (0 ∷ 0 ∷ 0 ∷ 0 ∷ 1 ∷ []) ∷ []
  pub first_rows : pattern_of (column_at (factor_of 5 listed_columns) 1) ≡ 1 ∷ 3 ∷ 4 ∷ []
  pub first-counts : multiplicities_of (column_at (factor_of 5 listed_columns) 1) ≡ 3 ∷ 1 ∷ 1 ∷ []
  -- 3. "The three columns as one batch: touched 1 2 3 4, labels 2 3 3 3, entries 8"
  pub batch-touched : touched (factor_of 5 listed_columns) listed_columns ≡ 1 ∷ 2 ∷ 3 ∷ 4 ∷ []
  pub batch-labels : labels_of (factor_of 5 listed_columns) listed_columns (1 ∷ 2 ∷ 3 ∷ 4 ∷ []) ≡ 2 ∷ 3 ∷ 3 ∷ 3 ∷ []
  pub batch-entries : entries_of (factor_of 5 []) (factor_of 5 listed_columns) (1 ∷ 2 ∷ 3 ∷ 4 ∷ []) ≡ 8
  -- 4. "Then remove 2: touched 1 3 4", entries 6 by document 02; "L_1 is 1:2 3:1, L_3 is 3:3 with parent 0, L_4 is 4:1"
  pub removal-touched : touched (factor_of 5 listed_columns) (columns_of (2 ∷ []) listed_columns) ≡ 1 ∷ 3 ∷ 4 ∷ []
  pub removal-entries : entries_of (factor_of 5 listed_columns) (factor_of 5 (without (2 ∷ []) listed_columns)) (1 ∷ 3 ∷ 4 ∷ []) ≡ 6
  pub removal-state :
      factor_of 5 (without (2 ∷ []) listed_columns) ≡
      column 3 (2 ∷ 0 ∷ 1 ∷ 0 ∷ 0 ∷ []) ∷ column 3 (0 ∷ 2 ∷ 1 ∷ 0 ∷ 0 ∷ []) ∷ column 0 (0 ∷ 0 ∷ 3 ∷ 0 ∷ 0 ∷ []) ∷ column 0 (0 ∷ 0 ∷ 0 ∷ 1 ∷ 0 ∷ []) ∷
      column 0 (0 ∷ 0 ∷ 0 ∷ 0 ∷ 1 ∷ []) ∷ []
  -- 5. "{1,3} twice under two ids, one removed: L_1 is 1:2 3:1, L_3 is 3:2"
  pub twice :
      factor_of 3 (without (7 ∷ []) two_alike) ≡
      column 3 (2 ∷ 0 ∷ 1 ∷ []) ∷ column 0 (0 ∷ 1 ∷ 0 ∷ []) ∷ column 0 (0 ∷ 0 ∷ 2 ∷ []) ∷ []
  -- a second {1,3} touches 1 and 3: column 3 counts too, though nothing changes in it
  pub again-touched : touched (factor_of 3 two_alike) (column_with 7 (1 ∷ 3 ∷ []) ∷ []) ≡ 1 ∷ 3 ∷ []
  pub again-entries : entries_of (factor_of 3 (without (7 ∷ []) two_alike)) (factor_of 3 two_alike) (1 ∷ 3 ∷ []) ≡ 3
  -- {1,4} leaves the listed state and {2,5} enters: column 1 has 3 rows before, column 2 has 3 after, and each counts by the larger
  pub exchange-entries :
      entries_of (factor_of 5 listed_columns) (factor_of 5 (column_with 4 (2 ∷ 5 ∷ []) ∷ without (2 ∷ []) listed_columns)) (1 ∷ 2 ∷ 3 ∷ 4 ∷ 5 ∷ []) ≡ 10
  -- 6. "{5} alone: L_5 is 5:2"
  pub alone : column_at (factor_of 5 (column_with 1 (5 ∷ []) ∷ [])) 5 ≡ column 0 (0 ∷ 0 ∷ 0 ∷ 0 ∷ 2 ∷ [])
  -- 7. "Case 3 with F = 9 is accepted, with F = 8 refused by 16": it needs 9 records
  pub batch-size : size_sum (factor_of 5 listed_columns) ≡ 9
  -- 8. "255 entries give grade 1, 256 give 2"
  pub grade-one : grade_of old_limits 255 ≡ 1
  pub grade-two : grade_of old_limits 256 ≡ 2
  -- document 02: with limits 2, 3 and 9 no entry gives grade 0, 1 entry gives grade 1, 2 give 2, 3 give 3 and so do 8, 9 give 4
  pub limits-0 : grade_of (limits_of 2 3 9) 0 ≡ 0
  pub limits-1 : grade_of (limits_of 2 3 9) 1 ≡ 1
  pub limits-2 : grade_of (limits_of 2 3 9) 2 ≡ 2
  pub limits-3 : grade_of (limits_of 2 3 9) 3 ≡ 3
  pub limits-8 : grade_of (limits_of 2 3 9) 8 ≡ 3
  pub limits-9 : grade_of (limits_of 2 3 9) 9 ≡ 4
  -- "Three zeros mean the old ones"; two do not, and limits that are handed over stay
  pub limits-none : limits_for (limits_of 0 0 0) ≡ limits_of 256 4096 65536
  pub limits-zeros : limits_for (limits_of 0 0 7) ≡ limits_of 0 0 7
  pub limits-given : limits_for (limits_of 2 3 9) ≡ limits_of 2 3 9
  -- "The first must be at least 2 and each must exceed the one before"
  pub limits-least : are_limits (limits_of 2 3 4) ≡ true
  pub limits-first : are_limits (limits_of 1 2 3) ≡ false
  pub limits-equal : are_limits (limits_of 2 2 3) ≡ false
  pub limits-last : are_limits (limits_of 2 3 3) ≡ false
  pub limits-zero : are_limits (limits_of 0 0 0) ≡ false
  -- 9. "Path of 1 in case 2: 1 3 4"
  pub path : path_of (factor_of 5 listed_columns) 1 ≡ 1 ∷ 3 ∷ 4 ∷ []
