-- `next_row_unchecked` meets its contract: within their sizes usable tables can be asked, and are those of the register that the book holds. Assumes nothing.
use mathlib.Core.Path.{sym}
use borrow.Author.Rules.{rules}
use Rattle.tables.specs.Tables.{Tables, State, register_of, tables_of}
use Rattle.factor.specs.Entries.{state_of}
use Rattle.admission.proofs.Cutting.{Cut, cut}
use Rattle.factor.proofs.Using.{usable-ask, usable-columns}
use Rattle.factor.proofs.Factor.next_row_unchecked.Statement.{statement}
use Rattle.factor.proofs.Factor.next_row_unchecked.Tie as tie

abbrev state_at : tie.Start → State
state_at s = state_of s.args.self

abbrev tables_at : tie.Start → Tables
tables_at s = tables_of s.args.heads.now s.args.parents.now s.args.rows.now s.args.counts.now s.args.next.now s.args.book_heads.now s.args.book_rows.now s.args.book_next.now s.args.windows.now

lengths : (c : tie.After-struct_known-2-1) → Cut (state_of c.args.self) (tables_of c.args.heads.now c.args.parents.now c.args.rows.now c.args.counts.now c.args.next.now c.args.book_heads.now c.args.book_rows.now c.args.book_next.now c.args.windows.now)
lengths c = cut _ _ c.requires.long

cast-m : tie.Need-overflow_cast-m
cast-m c = search rules

cast_f : tie.Need-overflow_cast-f
cast_f c = search rules

slice-aggregate-next-row : tie.Need-slice_bounds-next_row-end
slice-aggregate-next-row c = sym (lengths c).heads

slice-aggregate-next-row-2 : tie.Need-slice_bounds-next_row-end-2
slice-aggregate-next-row-2 c = sym (lengths c).rows

slice-aggregate-next-row-3 : tie.Need-slice_bounds-next_row-end-3
slice-aggregate-next-row-3 c = sym (lengths c).counts

slice-aggregate-next-row-4 : tie.Need-slice_bounds-next_row-end-4
slice-aggregate-next-row-4 c = sym (lengths c).next

next-row-requires : tie.Need-next_row-requires
next-row-requires c κs = usable-ask c.requires

returns : tie.Need-returns
returns c =
    c.next_row.ensures (register_of (state_at c.before.before.before.before.before.before.before.before.before.before.before.before) (tables_at c.before.before.before.before.before.before.before.before.before.before.before.before)) (usable-columns c.requires)

pub next_row_unchecked_spec : {M : Type 1} → statement M
next_row_unchecked_spec =
    tie.close
    (tie.spec
    cast-m
    cast_f
    slice-aggregate-next-row
    slice-aggregate-next-row-2
    slice-aggregate-next-row-3
    slice-aggregate-next-row-4
    next-row-requires
    returns)
