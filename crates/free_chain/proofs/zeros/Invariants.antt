-- n of the rows are 0, and those of the blocks that are left.
use Rattle.std.proofs.Common.{◌≡◌, ◌+◌}
use Rattle.std.specs.Slice.Iter.{chunks_rest, chunks_size}
use Rattle.lists.specs.Lists.{times}
use Rattle.free_chain.proofs.zeros.Given as goal

abbrev pub invariant-loop-block : goal.invariant-loop-block
invariant-loop-block l = (chunks_size l.block-iterator ≡ 4096) × (l.n + times 0 (chunks_rest l.block-iterator) ≡ times 0 l.rows)
