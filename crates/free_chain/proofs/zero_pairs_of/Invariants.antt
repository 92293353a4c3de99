-- So many of the records have row and multiplicity 0, and those of the records that are left.
use Rattle.std.proofs.Common.{◌≡◌, ◌+◌}
use Rattle.std.specs.Iterator.Adapters.{zip_first, zip_second}
use Rattle.std.specs.Slice.Iter.{iter_rest}
use Rattle.pool.specs.Free.{zero_pairs}
use Rattle.free_chain.proofs.zero_pairs_of.Given as goal

abbrev pub invariant-loop-row : goal.invariant-loop-row
invariant-loop-row l = l.pairs + zero_pairs (iter_rest (zip_first l.row-iterator)) (iter_rest (zip_second l.row-iterator)) ≡ zero_pairs l.rows l.counts
