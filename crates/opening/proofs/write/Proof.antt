-- `write` meets its contract: the tables of L, those of the book, and the windows and the work table cleared. Assumes nothing.
use native.Mathlib.Omega.{arith}
use borrow.Author.Rules.{rules}
use Rattle.tables.specs.Tables.{sizes_of}
use Rattle.admission.proofs.Cutting.{in-range}
use Rattle.opening.proofs.Writing.{hold-columns, hold-book, hold-windows, all-written}
use Rattle.opening.proofs.write.Statement.{statement}
use Rattle.opening.proofs.write.Tie as tie

-- ---- the places, named
write-columns-requires : tie.Need-write_columns-free-requires
write-columns-requires c κs = hold-columns c.requires

write-book-requires : tie.Need-write_book-book_free-requires
write-book-requires c κs = hold-book c.requires

mul-clear : tie.Need-overflow_mul-n
mul-clear c = omega (arith, (in-range (sizes_of c.args.m c.args.n c.args.f c.args.c) c.requires.sizes).n-high)

clear-requires : tie.Need-clear-requires
clear-requires c κs = omega (arith, hold-windows c.requires)

work-need-requires : tie.Need-work_need-requires
work-need-requires c κs = search rules

clear-requires-2 : tie.Need-clear-requires-2
clear-requires-2 c κs = omega (arith, c.work_need.ensures, c.requires.room)

same_length : tie.Need-shape_of-heads
same_length c = c.write_columns-free.auto.heads

same-length-2 : tie.Need-shape_of-parents
same-length-2 c = c.write_columns-free.auto.parents

same-length-3 : tie.Need-shape_of-rows
same-length-3 c = c.write_columns-free.auto.rows

same-length-4 : tie.Need-shape_of-counts
same-length-4 c = c.write_columns-free.auto.counts

same-length-5 : tie.Need-shape_of-next
same-length-5 c = c.write_columns-free.auto.next

same-length-6 : tie.Need-shape_of-book_heads
same-length-6 c = c.write_book-book_free.auto.book_heads

same-length-7 : tie.Need-shape_of-book_rows
same-length-7 c = c.write_book-book_free.auto.book_rows

same-length-8 : tie.Need-shape_of-book_next
same-length-8 c = c.write_book-book_free.auto.book_next

same-length-9 : tie.Need-shape_of-windows
same-length-9 c = c.clear.auto.work

same-length-10 : tie.Need-shape_of-work
same-length-10 c = c.clear-2.auto.work

returns : tie.Need-returns
returns c =
    all-written c.requires c.write_columns-free.ensures c.write_book-book_free.ensures c.clear.ensures c.clear-2.ensures c.work_need.ensures

pub write_spec : {M : Type 1} → statement M
write_spec =
    tie.close
    (tie.spec
    write-columns-requires
    write-book-requires
    mul-clear
    clear-requires
    work-need-requires
    clear-requires-2
    same_length
    same-length-2
    same-length-3
    same-length-4
    same-length-5
    same-length-6
    same-length-7
    same-length-8
    same-length-9
    same-length-10
    returns)
