-- `serve`: the next line may follow (`Keeping`), and it is found behind lines that are answered (`Found`). The measure falls with each byte taken. Assumes nothing.
use Rattle.std.proofs.Common.{◌+◌}
use Rattle.std.specs.Option.{is_some}
use Rattle.lists.specs.Lists.{one}
use Rattle.tables.specs.Tables.{tables_of}
use Rattle.listing_memory.specs.Memory.{memory_of}
use Rattle.listing_input.specs.Input.{ahead}
use Rattle.listing_loop.proofs.Running.{Keeping, Found}
use Rattle.listing_loop.proofs.serve.Given as goal

abbrev pub invariant-loop-input : goal.invariant-loop-input
invariant-loop-input l =
    record {
      kept :
          Keeping (memory_of l.current (tables_of l.heads l.parents l.rows l.counts l.next l.book_heads l.book_rows l.book_next l.windows) l.work l.touched l.labels) l.fn.list l.fn.out l.list l.out l.line l.piece;
      found :
          Found (memory_of l.fn.factor (tables_of l.fn.heads l.fn.parents l.fn.rows l.fn.counts l.fn.next l.fn.book_heads l.fn.book_rows l.fn.book_next l.fn.windows) l.fn.work l.fn.touched l.fn.labels)
          l.piece l.line l.out l.input
          (memory_of l.current (tables_of l.heads l.parents l.rows l.counts l.next l.book_heads l.book_rows l.book_next l.windows) l.work l.touched l.labels);
    }

abbrev pub decreases-loop-input : goal.decreases-loop-input
decreases-loop-input l = ahead l.input.streams l.input.place l.input.count + one (is_some l.input.line)
