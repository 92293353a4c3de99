-- `updown::filling::listed_starts`, its loop: `Summing` and `Filling`.
use Rattle.lists.proofs.Over.{Filling}
use Rattle.updown.specs.Entries.{listed_starts}
use Rattle.updown.proofs.Filled.{Summing}
use Rattle.updown.proofs.filling.listed_starts.Given as goal

abbrev pub invariant-loop-k : goal.invariant-loop-k
invariant-loop-k l = Summing l.row_counts l.row_list l.k l.at × Filling (listed_starts l.row_counts l.row_list) l.initial.starts l.starts l.k
