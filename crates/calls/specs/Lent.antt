-- What a contract says of the lists lent beside the tables, at the call and after it (`..In`, `..Out`), and of a batch's arguments. tables/specs/Lent.antt has the tables.
-- Assumes nothing: these are definitions.
use Rattle.tables.specs.Lent.{LentList, LentTable}
use Rattle.calls.specs.Calls.{Lent, work_only, report_lists, work_and_list, Change, adding, removing}

-- the work table alone
abbrev pub work_in : (work : LentTable) → Lent
work_in w = work_only w.entry.now

abbrev pub work_out : (work : LentTable) → Lent
work_out w = work_only w.exit.now

-- a change's lists
abbrev pub report_in : (work touched labels : LentTable) → Lent
report_in w a b = report_lists w.entry.now a.entry.now b.entry.now

abbrev pub report_out : (work touched labels : LentTable) → Lent
report_out w a b = report_lists w.exit.now a.exit.now b.exit.now

-- the lists of a question that writes a list
abbrev pub list_in : (work list : LentTable) → Lent
list_in w xs = work_and_list w.entry.now xs.entry.now

abbrev pub list_out : (work list : LentTable) → Lent
list_out w xs = work_and_list w.exit.now xs.exit.now

-- an addition of what is lent
abbrev pub adding_of : (ids row_counts rows firsts seconds : LentList) → Change
adding_of is ns rs ps qs = adding is.entry.now ns.entry.now rs.entry.now ps.entry.now qs.entry.now

-- a removal of what is lent
abbrev pub removing_of : (ids : LentList) → Change
removing_of is = removing is.entry.now
