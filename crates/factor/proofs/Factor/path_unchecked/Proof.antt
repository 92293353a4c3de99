-- `path_unchecked` meets its contract: within their sizes usable tables can be followed, and are those of the register that the book holds. Assumes nothing.
use mathlib.Core.Path.{sym}
use borrow.Author.Rules.{rules}
use Rattle.tables.specs.Tables.{Tables, State, register_of, tables_of}
use Rattle.factor.specs.Entries.{state_of}
use Rattle.admission.proofs.Cutting.{Cut, cut}
use Rattle.factor.proofs.Using.{usable-follow, usable-parents}
use Rattle.factor.proofs.Factor.path_unchecked.Statement.{statement}
use Rattle.factor.proofs.Factor.path_unchecked.Tie as tie

abbrev state_at : tie.Start → State
state_at s = state_of s.args.self

abbrev tables_at : tie.Start → Tables
tables_at s = tables_of s.args.heads.now s.args.parents.now s.args.rows.now s.args.counts.now s.args.next.now s.args.book_heads.now s.args.book_rows.now s.args.book_next.now s.args.windows.now

lengths : (c : tie.After-struct_known-1) → Cut (state_at c.before.before.before.before.before.before.before.before.before.before.before) (tables_at c.before.before.before.before.before.before.before.before.before.before.before)
lengths c = cut (state_at c.before.before.before.before.before.before.before.before.before.before.before) (tables_at c.before.before.before.before.before.before.before.before.before.before.before) c.requires.long

cast-m : tie.Need-overflow_cast-m
cast-m c = search rules

slice-aggregate-path : tie.Need-slice_bounds-path-end
slice-aggregate-path c = sym (lengths c).parents

path-requires : tie.Need-path-requires
path-requires c κs = usable-follow c.requires

same_length : tie.Need-shape_of-list
same_length c = search rules

returns : tie.Need-returns
returns c =
    let u = usable-parents c.requires in
    (c.path.ensures.0 (register_of (state_at c.before.before.before.before.before.before.before.before.before.before.before.before.before.before.before) (tables_at c.before.before.before.before.before.before.before.before.before.before.before.before.before.before.before)) u, c.path.ensures.1 (register_of (state_at c.before.before.before.before.before.before.before.before.before.before.before.before.before.before.before) (tables_at c.before.before.before.before.before.before.before.before.before.before.before.before.before.before.before)) u)

pub path_unchecked_spec : {M : Type 1} → statement M
path_unchecked_spec =
    tie.close
    (tie.spec
    cast-m
    slice-aggregate-path
    path-requires
    same_length
    returns)
