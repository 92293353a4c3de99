-- `updown::starts::mark_starts`, its loop: `StartsTo`, for all batches that start so.
use Rattle.std.proofs.Common.{List}
use Rattle.symbolic.specs.Columns.{Column}
use Rattle.updown.specs.Starts.{StartsTo, CanMark}
use Rattle.updown.proofs.starts.mark_starts.Given as goal

abbrev pub invariant-loop-k : goal.invariant-loop-k
invariant-loop-k l = (W : List Column) → CanMark l.starts l.m l.flags l.initial.work W → StartsTo l.m l.flags W l.initial.work l.work l.k
