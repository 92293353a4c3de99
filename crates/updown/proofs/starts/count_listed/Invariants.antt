-- `updown::starts::count_listed`, its loop: `Reading` and `Counting`, for all batches that the lists have.
use Rattle.std.proofs.Common.{true, List}
use Rattle.symbolic.specs.Columns.{Column}
use Rattle.updown.specs.Entries.{Listed}
use Rattle.updown.specs.Starts.{CanStart}
use Rattle.updown.proofs.Listing.{Reading, Counting}
use Rattle.updown.proofs.starts.count_listed.Given as goal

abbrev pub invariant-loop-k : goal.invariant-loop-k
invariant-loop-k l =
    (R W : List Column) → Listed l.starts l.row_counts l.row_list W → CanStart l.m R W true l.initial.work l.j.0 →
    Reading l.starts l.row_counts l.row_list W l.k l.at × Counting l.m R W true l.initial.work l.work l.n l.j.0 l.k
