-- What a question answers, from the register alone: its refusal but for the room in its list, the list, the row and the value.
-- Assumes nothing: these are definitions.
use Rattle.std.specs.Prelude.{List, [], ℕ, length}
use Rattle.lists.specs.Lists.{pairs_of}
use Rattle.symbolic.specs.Columns.{Register}
use Rattle.symbolic.specs.Factor.{factor_for, column_at, parent_of, pattern_of, multiplicities_of, path_of, size_of}
use Rattle.symbolic.specs.Meeting.{meeting, common_of}
use Rattle.symbolic.specs.NextRow.{next_row}
use Rattle.calls.specs.Refusals.{Refusal, or_else, row_refusal, named_refusal}
use Rattle.calls.specs.Calls.{Question, ask_next_row, ask_parent, ask_path, ask_column, ask_meets, ask_common}

-- "Path of j", a row to a place
abbrev pub path_list : Register → (j : ℕ) → List ℕ
path_list r j = path_of (factor_for r) j

-- "Column j, row then multiplicity"
abbrev pub column_list : Register → (j : ℕ) → List ℕ
column_list r j = pairs_of (pattern_of (column_at (factor_for r) j)) (multiplicities_of (column_at (factor_for r) j))

-- "all factor columns whose pattern holds" row i, a column to a place
abbrev pub meets_list : Register → (i : ℕ) → List ℕ
meets_list r i = meeting (factor_for r) i

-- what a question answers: 7, 17 or none; the list that it writes, [] for a question that has none; the row whose multiplicity its value is, 0 for every
-- other question; its value
pub record Response : Type 0 where
  pub refusal : Refusal
  pub list : List ℕ
  pub row : ℕ
  pub value : ℕ

-- EACH QUESTION: "the first row at or above i in column j and its multiplicity", a parent, a path or a column with "their number of entries"; the columns that
-- meet a row "with the number of places filled", the common row of some rows
abbrev pub response : Register → Question → Response
response r (ask_next_row i j) =
    record {
      refusal = or_else (row_refusal r.m i) (row_refusal r.m j);
      list = [];
      row = (next_row (factor_for r) i j).row;
      value = (next_row (factor_for r) i j).count;
    }
response r (ask_parent j) = record { refusal = row_refusal r.m j; list = []; row = 0; value = parent_of (factor_for r) j }
response r (ask_path j) = record { refusal = row_refusal r.m j; list = path_list r j; row = 0; value = length (path_list r j) }
response r (ask_column j) = record { refusal = row_refusal r.m j; list = column_list r j; row = 0; value = size_of (column_at (factor_for r) j) }
response r (ask_meets i) = record { refusal = row_refusal r.m i; list = meets_list r i; row = 0; value = length (meets_list r i) }
response r (ask_common is) = record { refusal = named_refusal r.m is; list = []; row = 0; value = common_of (factor_for r) is }
