-- What a change does, from the register alone: whether it is refused, which columns that count leave, enter and stay, the labels, the ids whose booked columns it
-- may alter, and the register after it. All that it reports follows: the touched columns, their labels and the entries; Steps.antt reads the grade
-- from the entries and the factor's limits.
-- Every change is an exchange: of the live columns some leave and others enter; an addition lets none leave, a removal lets none enter, the clock may do both.
-- Assumes nothing: these are definitions.
use Rattle.std.specs.Prelude.{List, [], ◌∷◌, ◌++◌, ℕ}
use Rattle.symbolic.specs.Columns.{Column, with_rows, only_at, at_both, counted_by, Register, live_of, live}
use Rattle.symbolic.specs.Factor.{factor_for}
use Rattle.symbolic.specs.Batch.{exchanged, label_of, entries_of}
use Rattle.symbolic.specs.Change.{columns_of, added, removed, clocked, Bag}
use Rattle.tables.specs.Tables.{Sizes}
use Rattle.calls.specs.Refusals.{Refusal, lines_of, add_refusal, remove_refusal, clock_refusal}
use Rattle.calls.specs.Calls.{Change, adding, removing, setting, Entry, opening, changing, checking, asking}

-- a change of a register
pub record Effect : Type 0 where
  -- 7 to 16 and 21, by the sizes
  pub refusal : Sizes → Refusal
  -- the columns that count and leave, enter, stay
  pub leave : List Column
  pub enter : List Column
  pub stay : List Column
  -- the label of a touched column
  pub label : ℕ → ℕ
  -- the ids whose booked columns it may alter
  pub ids : List ℕ
  -- the register after it
  pub register : Register

-- EACH CHANGE: "each id enters with as many of the rows not yet used as its count says"; "every id in the batch leaves"; "Setting the clock .. takes out columns
-- that fall outside, then lets in those that begin to count". Labels are read "in the tree after the call when adding, before it when removing"; of a clock change
-- they are 0
abbrev pub effect : Register → Change → Effect
effect r (adding is ns rs ps qs) =
    record {
      refusal = λ l. add_refusal l r is ns rs ps qs;
      leave = [];
      enter = live_of (added r (lines_of is ns rs ps qs)) (lines_of is ns rs ps qs);
      stay = live r;
      label = label_of (factor_for (added r (lines_of is ns rs ps qs))) (live_of (added r (lines_of is ns rs ps qs)) (lines_of is ns rs ps qs));
      ids = is;
      register = added r (lines_of is ns rs ps qs);
    }
effect r (removing is) =
    record {
      refusal = λ l. remove_refusal l r is;
      leave = live_of r (columns_of is r.columns);
      enter = [];
      stay = live (removed r is);
      label = label_of (factor_for r) (live_of r (columns_of is r.columns));
      ids = is;
      register = removed r is;
    }
effect r (setting t) =
    record {
      refusal = λ l. clock_refusal l r t;
      leave = counted_by (only_at r.clock t) r.columns;
      enter = counted_by (only_at t r.clock) r.columns;
      stay = counted_by (at_both r.clock t) r.columns;
      label = λ j. 0;
      ids = [];
      register = clocked r t;
    }

-- an exchange: the live columns before it are those that stay and those that leave, after it those that stay and those that enter, but for their order and for
-- columns with no row, which neither factor nor paths see
pub record IsExchange (r : Register) (x : Effect) : Type 0 where
  pub before : Bag (with_rows (live r)) (with_rows (x.stay ++ x.leave))
  pub after : Bag (with_rows (live x.register)) (with_rows (x.stay ++ x.enter))

-- ---- what it reports

-- "the touched columns ascending"
abbrev pub touched_by : Register → Change → List ℕ
touched_by r c = exchanged (factor_for r) (factor_for (effect r c).register) (effect r c).leave (effect r c).enter

-- a label for each of some columns, in their order
unfoldable pub labelled : (label : ℕ → ℕ) → (columns : List ℕ) → List ℕ
labelled f [] = []
labelled f (j ∷ js) = f j ∷ labelled f js

-- "a label for each"
abbrev pub labels_by : Register → Change → List ℕ
labels_by r c = labelled (effect r c).label (touched_by r c)

-- "the entries": the sum over the touched columns of the larger of a column's sizes before and after the call: those after an addition, those before a removal
abbrev pub entries_by : Register → Change → ℕ
entries_by r c = entries_of (factor_for r) (factor_for (effect r c).register) (touched_by r c)

-- ---- the plain register

-- the register after an accepted call: "Accepted opening: the new m, no column", at minute 0; "a check or a question: nothing changes"
abbrev pub register_after : Register → Entry → Register
register_after r (opening l g) = record { m = l.m; clock = 0; columns = [] }
register_after r (changing c) = (effect r c).register
register_after r checking = r
register_after r (asking q p) = r
