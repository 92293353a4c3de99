-- `write_book` meets its contract: what is written within the sizes, and the places beyond. Assumes nothing.
use mathlib.Core.Path.{sym}
use borrow.Author.Rules.{rules}
use native.Mathlib.Omega.{arith}
use lib.Seq.{length-take-le}
use Rattle.opening.proofs.Writing.{book-opens, book-written}
use Rattle.opening.proofs.write_book.Statement.{statement}
use Rattle.opening.proofs.write_book.Tie as tie

slice-relend-prefix-open : tie.Need-slice_bounds-open-end
slice-relend-prefix-open c = omega (arith, c.requires.heads-long)

slice-aggregate-open : tie.Need-slice_bounds-open-end-2
slice-aggregate-open c = sym (length-take-le _ _ (omega (arith, c.requires.heads-long)))

slice-relend-prefix-open-2 : tie.Need-slice_bounds-open-end-3
slice-relend-prefix-open-2 c = c.requires.rows_long

slice-aggregate-open-2 : tie.Need-slice_bounds-open-end-4
slice-aggregate-open-2 c = sym (length-take-le _ _ c.requires.rows_long)

slice-relend-prefix-open-3 : tie.Need-slice_bounds-open-end-5
slice-relend-prefix-open-3 c = c.requires.next-long

slice-aggregate-open-3 : tie.Need-slice_bounds-open-end-6
slice-aggregate-open-3 c = sym (length-take-le _ _ c.requires.next-long)

open-requires : tie.Need-open-requires
open-requires c κs = book-opens c.requires

same_length : tie.Need-shape_of-book_heads
same_length c = search rules

same-length-2 : tie.Need-shape_of-book_rows
same-length-2 c = search rules

same-length-3 : tie.Need-shape_of-book_next
same-length-3 c = search rules

returns : tie.Need-returns
returns c = book-written c.requires c.«open».ensures

pub write_book_spec : {M : Type 1} → statement M
write_book_spec =
    tie.close
    (tie.spec
    slice-relend-prefix-open
    slice-aggregate-open
    slice-relend-prefix-open-2
    slice-aggregate-open-2
    slice-relend-prefix-open-3
    slice-aggregate-open-3
    open-requires
    same_length
    same-length-2
    same-length-3
    returns)
