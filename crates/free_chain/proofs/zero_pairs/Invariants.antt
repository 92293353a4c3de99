-- n of the records have row and multiplicity 0, and those of the blocks that are left.
use Rattle.std.proofs.Common.{◌≡◌, ◌+◌, length}
use Rattle.std.specs.Iterator.Adapters.{zip_first, zip_second}
use Rattle.std.specs.Slice.Iter.{chunks_rest, chunks_size}
use Rattle.pool.specs.Free.{zero_pairs}
use Rattle.free_chain.proofs.zero_pairs.Given as goal

abbrev pub invariant-loop-block : goal.invariant-loop-block
invariant-loop-block l =
    (chunks_size (zip_first l.block-iterator) ≡ 4096)
    × (chunks_size (zip_second l.block-iterator) ≡ 4096)
    × (length (chunks_rest (zip_second l.block-iterator)) ≡ length (chunks_rest (zip_first l.block-iterator)))
    × (l.n + zero_pairs (chunks_rest (zip_first l.block-iterator)) (chunks_rest (zip_second l.block-iterator)) ≡ zero_pairs l.rows l.counts)
