-- What an opening writes: "At opening column j has record j, and the free chains rise. Table places beyond the sizes keep their content."
-- The record of sizes, limits and free heads, and all nine tables; `over` keeps what stands beyond. proofs/Opening.antt shows that they are sound.
-- Assumes nothing: these are definitions.
use Rattle.std.specs.Prelude.{◌++◌, ◌-◌, ◌*◌, replicate}
use Rattle.lists.specs.Lists.{over, up_from}
use Rattle.symbolic.specs.Grades.{Limits}
use Rattle.pool.specs.Opening.{opened_nexts, free_head}
use Rattle.tables.specs.Tables.{Tables, Sizes, State}

-- the record of an accepted opening: its sizes and limits, and the heads of the two free chains; "An opened factor stands at minute 0"
abbrev pub opened_state : Sizes → Limits → State
opened_state l g = record { sizes = l; limits = g; free = free_head l.m l.f; book_free = free_head 0 l.c; clock = 0 }

-- the tables after an accepted opening: column j has record j and parent 0, no id is booked or has minutes, all other records are free
abbrev pub opened_tables : Sizes → Tables → Tables
opened_tables l t =
    record {
      heads = over (up_from 1 l.m) t.heads;
      parents = over (replicate l.m 0) t.parents;
      rows = over (up_from 1 l.m ++ replicate (l.f - l.m) 0) t.rows;
      counts = over (replicate l.m 1 ++ replicate (l.f - l.m) 0) t.counts;
      next = over (opened_nexts l.m l.f) t.next;
      book_heads = over (replicate l.n 0) t.book_heads;
      book_rows = over (replicate l.c 0) t.book_rows;
      book_next = over (opened_nexts 0 l.c) t.book_next;
      windows = over (replicate (2 * l.n) 0) t.windows;
    }
