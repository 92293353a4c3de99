-- `write_columns` meets its contract: what is written within the sizes, and the places beyond. Assumes nothing.
use mathlib.Core.Path.{sym}
use borrow.Author.Rules.{rules}
use lib.Seq.{length-take-le}
use Rattle.opening.proofs.Writing.{columns-open, columns-written}
use Rattle.opening.proofs.write_columns.Statement.{statement}
use Rattle.opening.proofs.write_columns.Tie as tie

abbrev entry : tie.After-open → tie.Start
entry c = c.before.before.before.before.before.before.before.before.before.before.before

slice-relend-prefix-open : tie.Need-slice_bounds-open-end
slice-relend-prefix-open c = c.before.before.before.before.before.requires.heads-long

slice-aggregate-open : tie.Need-slice_bounds-open-end-2
slice-aggregate-open c = sym (length-take-le _ _ c.before.before.before.before.before.before.requires.heads-long)

slice-relend-prefix-open-2 : tie.Need-slice_bounds-open-end-3
slice-relend-prefix-open-2 c = c.before.before.before.before.before.before.requires.parents-long

slice-aggregate-open-2 : tie.Need-slice_bounds-open-end-4
slice-aggregate-open-2 c = sym (length-take-le _ _ c.before.before.before.before.before.before.before.requires.parents-long)

slice-relend-prefix-open-3 : tie.Need-slice_bounds-open-end-5
slice-relend-prefix-open-3 c = c.before.before.before.before.before.before.before.requires.rows_long

slice-aggregate-open-3 : tie.Need-slice_bounds-open-end-6
slice-aggregate-open-3 c = sym (length-take-le _ _ c.before.before.before.before.before.before.before.before.requires.rows_long)

slice-relend-prefix-open-4 : tie.Need-slice_bounds-open-end-7
slice-relend-prefix-open-4 c = c.before.before.before.before.before.before.before.before.requires.counts-long

slice-aggregate-open-4 : tie.Need-slice_bounds-open-end-8
slice-aggregate-open-4 c = sym (length-take-le _ _ c.before.before.before.before.before.before.before.before.before.requires.counts-long)

slice-relend-prefix-open-5 : tie.Need-slice_bounds-open-end-9
slice-relend-prefix-open-5 c = c.before.before.before.before.before.before.before.before.before.requires.next-long

slice-aggregate-open-5 : tie.Need-slice_bounds-open-end-10
slice-aggregate-open-5 c = sym (length-take-le _ _ c.before.before.before.before.before.before.before.before.before.before.requires.next-long)

open-requires : tie.Need-open-requires
open-requires c κs = columns-open c.before.before.before.before.before.before.before.before.before.before.requires

same_length : tie.Need-shape_of-heads
same_length c = search rules

same-length-2 : tie.Need-shape_of-parents
same-length-2 c = search rules

same-length-3 : tie.Need-shape_of-rows
same-length-3 c = search rules

same-length-4 : tie.Need-shape_of-counts
same-length-4 c = search rules

same-length-5 : tie.Need-shape_of-next
same-length-5 c = search rules

returns : tie.Need-returns
returns c = let d : tie.After-open = c.before.before.before.before.before.before.before.before.before.before in columns-written (entry d).requires d.«open».ensures

pub write_columns_spec : {M : Type 1} → statement M
write_columns_spec =
    tie.close
    (tie.spec
    slice-relend-prefix-open
    slice-aggregate-open
    slice-relend-prefix-open-2
    slice-aggregate-open-2
    slice-relend-prefix-open-3
    slice-aggregate-open-3
    slice-relend-prefix-open-4
    slice-aggregate-open-4
    slice-relend-prefix-open-5
    slice-aggregate-open-5
    open-requires
    same_length
    same-length-2
    same-length-3
    same-length-4
    same-length-5
    returns)
