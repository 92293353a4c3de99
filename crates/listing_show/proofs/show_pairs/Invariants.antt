-- `show_pairs`: the pairs of the entries passed are written (`Pairing`). Assumes nothing.
use Rattle.listing_show.proofs.Showing.{Pairing}
use Rattle.listing_show.proofs.show_pairs.Given as goal

abbrev pub invariant-loop-i : goal.invariant-loop-i
invariant-loop-i l = Pairing l.fn.out l.list l.at l.count l.out l.end l.i
