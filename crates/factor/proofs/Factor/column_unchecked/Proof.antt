-- `column_unchecked` meets its contract: within their sizes usable tables can be asked, and are those of the register that the book holds. Assumes nothing.
use mathlib.Core.Path.{sym}
use borrow.Author.Rules.{rules}
use Rattle.tables.specs.Tables.{Tables, State, register_of, tables_of}
use Rattle.factor.specs.Entries.{state_of}
use Rattle.admission.proofs.Cutting.{Cut, cut}
use Rattle.factor.proofs.Using.{usable-ask, usable-columns}
use Rattle.factor.proofs.Factor.column_unchecked.Statement.{statement}
use Rattle.factor.proofs.Factor.column_unchecked.Tie as tie

abbrev state_at : tie.Start → State
state_at s = state_of s.args.self

abbrev tables_at : tie.Start → Tables
tables_at s = tables_of s.args.heads.now s.args.parents.now s.args.rows.now s.args.counts.now s.args.next.now s.args.book_heads.now s.args.book_rows.now s.args.book_next.now s.args.windows.now

lengths : (c : tie.After-struct_known-2-1) → Cut (state_at c.before.before.before.before.before.before.before.before.before.before.before.before) (tables_at c.before.before.before.before.before.before.before.before.before.before.before.before)
lengths c = cut (state_at c.before.before.before.before.before.before.before.before.before.before.before.before) (tables_at c.before.before.before.before.before.before.before.before.before.before.before.before) c.requires.long

cast-m : tie.Need-overflow_cast-m
cast-m c = search rules

cast_f : tie.Need-overflow_cast-f
cast_f c = search rules

slice-aggregate-column : tie.Need-slice_bounds-column-end
slice-aggregate-column c = sym (lengths c).heads

slice-aggregate-column-2 : tie.Need-slice_bounds-column-end-2
slice-aggregate-column-2 c = sym (lengths c).rows

slice-aggregate-column-3 : tie.Need-slice_bounds-column-end-3
slice-aggregate-column-3 c = sym (lengths c).counts

slice-aggregate-column-4 : tie.Need-slice_bounds-column-end-4
slice-aggregate-column-4 c = sym (lengths c).next

column-requires : tie.Need-column-requires
column-requires c κs = usable-ask c.requires

same_length : tie.Need-shape_of-list
same_length c = search rules

returns : tie.Need-returns
returns c =
    let u = usable-columns c.requires in
    (c.column.ensures.0 (register_of (state_at c.before.before.before.before.before.before.before.before.before.before.before.before.before.before.before.before) (tables_at c.before.before.before.before.before.before.before.before.before.before.before.before.before.before.before.before)) u, c.column.ensures.1 (register_of (state_at c.before.before.before.before.before.before.before.before.before.before.before.before.before.before.before.before) (tables_at c.before.before.before.before.before.before.before.before.before.before.before.before.before.before.before.before)) u)

pub column_unchecked_spec : {M : Type 1} → statement M
column_unchecked_spec =
    tie.close
    (tie.spec
    cast-m
    cast_f
    slice-aggregate-column
    slice-aggregate-column-2
    slice-aggregate-column-3
    slice-aggregate-column-4
    column-requires
    same_length
    returns)
