-- `show`: the lines of columns 1 to j are written (`Lines`). Assumes nothing.
use Rattle.std.proofs.Common.{◌≡◌, length}
use Rattle.tables.specs.Tables.{register_of, tables_of}
use Rattle.factor.specs.Entries.{state_of}
use Rattle.listing_show.proofs.Showing.{Lines}
use Rattle.listing_show.proofs.show.Given as goal

abbrev pub invariant-loop-j : goal.invariant-loop-j
invariant-loop-j l =
    Lines (register_of (state_of l.factor) (tables_of l.heads l.parents l.rows l.counts l.next l.book_heads l.book_rows l.book_next l.windows)) l.fn.out l.out l.end l.j × (length l.list ≡ length l.fn.list)
