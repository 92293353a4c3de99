-- n of the rows before this one are 0.
use Rattle.free_chain.proofs.Counted.{ZerosTo}
use Rattle.free_chain.proofs.zeros_of.Given as goal

abbrev pub invariant-loop-row : goal.invariant-loop-row
invariant-loop-row l = ZerosTo l.rows l.row-index l.n
