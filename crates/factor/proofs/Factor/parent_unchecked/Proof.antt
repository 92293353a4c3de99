-- `parent_unchecked` meets its contract: within their sizes usable tables can be followed, and are those of the register that the book holds. Assumes nothing.
use mathlib.Core.Path.{sym}
use borrow.Author.Rules.{rules}
use Rattle.tables.specs.Tables.{Tables, State, register_of, tables_of}
use Rattle.factor.specs.Entries.{state_of}
use Rattle.admission.proofs.Cutting.{Cut, cut}
use Rattle.factor.proofs.Using.{usable-follow, usable-parents}
use Rattle.factor.proofs.Factor.parent_unchecked.Statement.{statement}
use Rattle.factor.proofs.Factor.parent_unchecked.Tie as tie

abbrev state_at : tie.Start → State
state_at s = state_of s.args.self

abbrev tables_at : tie.Start → Tables
tables_at s = tables_of s.args.heads.now s.args.parents.now s.args.rows.now s.args.counts.now s.args.next.now s.args.book_heads.now s.args.book_rows.now s.args.book_next.now s.args.windows.now

lengths : (c : tie.After-struct_known-1) → Cut (state_of c.args.self) (tables_of c.args.heads.now c.args.parents.now c.args.rows.now c.args.counts.now c.args.next.now c.args.book_heads.now c.args.book_rows.now c.args.book_next.now c.args.windows.now)
lengths c = cut _ _ c.requires.long

cast-m : tie.Need-overflow_cast-m
cast-m c = search rules

slice-aggregate-parent : tie.Need-slice_bounds-parent-end
slice-aggregate-parent c = sym (lengths c).parents

parent-requires : tie.Need-parent-requires
parent-requires c κs = usable-follow c.requires

returns : tie.Need-returns
returns c =
    c.parent.ensures (register_of (state_at c.before.before.before.before.before.before.before.before.before.before.before) (tables_at c.before.before.before.before.before.before.before.before.before.before.before)) (usable-parents c.requires)

pub parent_unchecked_spec : {M : Type 1} → statement M
parent_unchecked_spec =
    tie.close
    (tie.spec
    cast-m
    slice-aggregate-parent
    parent-requires
    returns)
