-- `next_line`: the bytes taken, those left and those to come are the line's (`Taking`). The measure is the number of reads left. Assumes nothing.
use Rattle.streams.specs.Passing.{reads_left}
use Rattle.listing_input.proofs.Taking.{Taking}
use Rattle.listing_input.proofs.next_line.Given as goal

abbrev pub invariant-loop-after : goal.invariant-loop-after
invariant-loop-after l =
    Taking l.initial.piece l.out l.initial.passed l.initial.place l.initial.count l.initial.waiting l.piece l.line l.passed l.place l.count l.waiting l.filled

abbrev pub decreases-loop-after : goal.decreases-loop-after
decreases-loop-after l = reads_left l.passed
