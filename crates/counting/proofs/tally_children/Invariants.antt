-- Some children are done, and their rows counted; the measure is the length of the chain that is left.
use Rattle.std.proofs.Common.{length}
use Rattle.workspace.specs.Layout.{child_next}
use Rattle.workspace.specs.Regions.{region}
use Rattle.pool.specs.Chains.{chain}
use Rattle.counting.proofs.Children.{Children}
use Rattle.counting.proofs.tally_children.Given as goal

abbrev pub invariant-loop-c : goal.invariant-loop-c
invariant-loop-c l = Children l.fn.work l.m l.f l.column l.work l.size l.c

abbrev pub decreases-loop-c : goal.decreases-loop-c
decreases-loop-c l = length (chain (region l.fn.work (child_next l.m) l.m) l.c)
