-- `meets_unchecked` meets its contract: within their sizes usable tables can be asked and followed, and are those of the register that the book holds. Assumes nothing.
use mathlib.Core.Path.{sym}
use borrow.Author.Rules.{rules}
use Rattle.tables.specs.Tables.{Tables, State, register_of, tables_of}
use Rattle.factor.specs.Entries.{state_of}
use Rattle.admission.proofs.Cutting.{Cut, cut}
use Rattle.factor.proofs.Using.{usable-tree, usable-meet}
use Rattle.factor.proofs.Factor.meets_unchecked.Statement.{statement}
use Rattle.factor.proofs.Factor.meets_unchecked.Tie as tie

abbrev state_at : tie.Start → State
state_at s = state_of s.args.self

abbrev tables_at : tie.Start → Tables
tables_at s = tables_of s.args.heads.now s.args.parents.now s.args.rows.now s.args.counts.now s.args.next.now s.args.book_heads.now s.args.book_rows.now s.args.book_next.now s.args.windows.now

lengths : (c : tie.After-struct_known-2-1) → Cut (state_at c.before.before.before.before.before.before.before.before.before.before.before.before.before) (tables_at c.before.before.before.before.before.before.before.before.before.before.before.before.before)
lengths c = cut (state_at c.before.before.before.before.before.before.before.before.before.before.before.before.before) (tables_at c.before.before.before.before.before.before.before.before.before.before.before.before.before) c.requires.usable.long

cast-m : tie.Need-overflow_cast-m
cast-m c = search rules

cast_f : tie.Need-overflow_cast-f
cast_f c = search rules

slice-aggregate-meets : tie.Need-slice_bounds-meets-end
slice-aggregate-meets c = sym (lengths c).heads

slice-aggregate-meets-2 : tie.Need-slice_bounds-meets-end-2
slice-aggregate-meets-2 c = sym (lengths c).parents

slice-aggregate-meets-3 : tie.Need-slice_bounds-meets-end-3
slice-aggregate-meets-3 c = sym (lengths c).rows

slice-aggregate-meets-4 : tie.Need-slice_bounds-meets-end-4
slice-aggregate-meets-4 c = sym (lengths c).counts

slice-aggregate-meets-5 : tie.Need-slice_bounds-meets-end-5
slice-aggregate-meets-5 c = sym (lengths c).next

meets-requires : tie.Need-meets-requires
meets-requires c κs =
    let p = c.requires in
    usable-meet p.usable p.room p.zero

same_length : tie.Need-shape_of-work
same_length c = search rules

same-length-2 : tie.Need-shape_of-list
same-length-2 c = search rules

returns : tie.Need-returns
returns c =
    let u = usable-tree c.requires.usable in
    (c.meets.ensures.0 (register_of (state_at c.before.before.before.before.before.before.before.before.before.before.before.before.before.before.before.before.before.before.before.before) (tables_at c.before.before.before.before.before.before.before.before.before.before.before.before.before.before.before.before.before.before.before.before)) u, (c.meets.ensures.1.0 (register_of (state_at c.before.before.before.before.before.before.before.before.before.before.before.before.before.before.before.before.before.before.before.before) (tables_at c.before.before.before.before.before.before.before.before.before.before.before.before.before.before.before.before.before.before.before.before)) u, c.meets.ensures.1.1))

pub meets_unchecked_spec : {M : Type 1} → statement M
meets_unchecked_spec =
    tie.close
    (tie.spec
    cast-m
    cast_f
    slice-aggregate-meets
    slice-aggregate-meets-2
    slice-aggregate-meets-3
    slice-aggregate-meets-4
    slice-aggregate-meets-5
    meets-requires
    same_length
    same-length-2
    returns)
