-- Room for what a question adds, two numbers of 32 bits. Assumes nothing.
use Rattle.std.proofs.Common.{◌*◌, ◌≤◌}
use Rattle.bench_driver.proofs.asking.next_each.Given as goal

abbrev pub invariant-loop-done : goal.invariant-loop-done
invariant-loop-done l = l.sum ≤ l.done * 8589934590
